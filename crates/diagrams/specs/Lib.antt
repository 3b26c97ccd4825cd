pub mod Diagram
pub mod Reference
