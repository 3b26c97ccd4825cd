pub mod Gate
pub mod Code
pub mod Rule
pub mod Mask
