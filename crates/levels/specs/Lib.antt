pub mod Levels
pub mod Models
pub mod Regular
pub mod Examples
pub mod Laws
