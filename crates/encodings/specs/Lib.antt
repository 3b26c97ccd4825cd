pub mod Encoding
pub mod Writing
