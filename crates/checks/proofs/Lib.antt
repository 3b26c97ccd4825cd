pub mod Checks
pub mod Rules
