pub mod Taking
pub mod Digits
pub mod Sequence
pub mod Written
pub mod Steady
pub mod Row
pub mod Several
pub mod Formats
