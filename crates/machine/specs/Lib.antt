pub mod Phases
pub mod Joint
pub mod Runs
pub mod Examples
pub mod Laws
