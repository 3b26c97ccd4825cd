pub mod Landings
pub mod Verdicts
pub mod Starts
pub mod Entries
pub mod Held
