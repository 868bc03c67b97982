pub mod Needs
pub mod Plans
pub mod Growth
pub mod Fit
