pub mod NetLaws
pub mod NetBytes
pub mod RoadLaws
pub mod FlowLaws
pub mod LeadLaws
