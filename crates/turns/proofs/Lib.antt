pub mod Progress
pub mod Works
pub mod Putting
pub mod Ends
pub mod Settling
pub mod Turning
