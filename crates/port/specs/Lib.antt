pub mod Port
pub mod Examples
pub mod Laws
