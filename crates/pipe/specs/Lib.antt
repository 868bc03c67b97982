pub mod Pipe
pub mod Examples
pub mod Laws
