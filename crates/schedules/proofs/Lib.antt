pub mod Counts
pub mod Filling
pub mod Proportions
