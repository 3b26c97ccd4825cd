pub mod Counts
pub mod Schedules
