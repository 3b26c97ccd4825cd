pub mod Sizes
pub mod Slots
pub mod Tables
