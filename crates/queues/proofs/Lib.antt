pub mod ChainLaws
pub mod HoldLaws
pub mod TakeLaws
pub mod PutLaws
pub mod EmptyLaws
pub mod QueueLaws
