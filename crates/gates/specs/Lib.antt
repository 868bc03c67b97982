pub mod Gates
pub mod Opens
pub mod Laws
