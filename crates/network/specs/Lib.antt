pub mod Clock
pub mod Network
pub mod Admitted
pub mod Held
pub mod Line
pub mod Examples
pub mod Laws
