pub mod Promises
pub mod Loads
pub mod Examples
pub mod Models
pub mod Demands
pub mod Laws
