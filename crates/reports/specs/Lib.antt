pub mod Line
pub mod Writing
