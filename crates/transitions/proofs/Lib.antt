pub mod Codes
pub mod Turns
pub mod Children
