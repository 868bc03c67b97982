pub mod JointLaws
pub mod RunLaws
pub mod PhaseLaws
pub mod ExampleLaws
pub mod MachineLaws
