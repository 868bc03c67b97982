pub mod StartLaws
pub mod RegulatedLaws
pub mod OrderLaws
pub mod PlanLaws
