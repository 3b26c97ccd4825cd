pub mod Decimals
pub mod Examples
pub mod Puts
pub mod Signs
