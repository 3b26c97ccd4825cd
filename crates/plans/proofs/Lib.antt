pub mod Staging
pub mod Plans
pub mod Levels
