pub mod TickLaws
pub mod RowLaws
pub mod LevelLaws
