pub mod Ports
pub mod Held
pub mod Comes
pub mod Runs
pub mod Examples
pub mod Laws
