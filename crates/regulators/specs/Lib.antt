pub mod Judged
pub mod Ticked
pub mod Laws
