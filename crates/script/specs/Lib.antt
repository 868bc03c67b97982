pub mod Lines
pub mod Session
pub mod SessionLaws
pub mod Models
