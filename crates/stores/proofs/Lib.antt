pub mod Columns
pub mod Filling
pub mod EmptyTables
pub mod Zeros
pub mod Stores
