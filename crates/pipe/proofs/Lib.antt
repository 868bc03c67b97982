pub mod LevelLaws
pub mod LineLaws
pub mod StepLaws
pub mod OrderLaws
pub mod ExampleLaws
pub mod PipeLaws
