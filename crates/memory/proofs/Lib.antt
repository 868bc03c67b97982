pub mod NeedLaws
pub mod GrowthLaws
pub mod FitLaws
pub mod AddLaws
