pub mod OwedLaws
pub mod QueueLaws
pub mod TickLaws
pub mod TakeLaws
pub mod PassLaws
pub mod OrderLaws
pub mod ExampleLaws
pub mod PortLaws
