pub mod Inverse
pub mod Claims
pub mod Writing
