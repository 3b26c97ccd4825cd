pub mod Naming
pub mod Rules
pub mod Swaps
pub mod LocalRules
pub mod Inverses
pub mod Masks
