pub mod Reading
pub mod Numbers
pub mod Row
pub mod Answers
pub mod Format
pub mod Kinds
pub mod Texts
