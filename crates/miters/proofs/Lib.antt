pub mod LeastForms
pub mod LoweredDiagrams
pub mod Schedules
pub mod Scalars
pub mod Roots
pub mod Verdicts
pub mod Runs
pub mod Starred
