pub mod LowestLaws
pub mod LateLaws
pub mod ExampleLaws
pub mod RuleLaws
pub mod KeepLaws
pub mod PlanLaws
pub mod DueLaws
pub mod FoundLaws
