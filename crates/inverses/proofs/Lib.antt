pub mod Undoing
pub mod Undone
pub mod Writing
pub mod Answers
pub mod Twice
