pub mod WaitLaws
pub mod EdgeSteps
pub mod InnerSteps
pub mod JudgedLaws
pub mod EdgeExactLaws
pub mod InnerExactLaws
