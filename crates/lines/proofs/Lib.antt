pub mod Rounds
pub mod Meanings
pub mod LineLaws
pub mod TickLaws
