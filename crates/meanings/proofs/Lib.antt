pub mod Actions
pub mod Stages
pub mod Cofactors
pub mod Sound
pub mod Meanings
pub mod Sides
pub mod Walks
pub mod Starts
