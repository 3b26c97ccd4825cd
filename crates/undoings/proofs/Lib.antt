pub mod Products
pub mod Undoing
