pub mod Refusals
pub mod Reading
pub mod Codes
pub mod Answers
pub mod Within
pub mod Remaining
