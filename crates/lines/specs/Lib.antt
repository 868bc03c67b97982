pub mod Lines
pub mod Means
pub mod Laws
pub mod Ticks
