pub mod Clock
pub mod Egress
pub mod Plays
pub mod Histories
pub mod Examples
pub mod Laws
