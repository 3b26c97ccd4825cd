pub mod Checks
pub mod Table
