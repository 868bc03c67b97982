pub mod Kinds
pub mod Formats
pub mod Records
pub mod Programs
