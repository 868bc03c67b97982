pub mod PassLaws
pub mod StepLaws
pub mod GateLaws
