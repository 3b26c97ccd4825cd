pub mod Progress
pub mod Work
pub mod Turn
