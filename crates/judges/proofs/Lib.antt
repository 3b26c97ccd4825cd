pub mod Passing
pub mod Reports
pub mod Demands
