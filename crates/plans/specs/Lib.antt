pub mod Prepare
pub mod Layout
