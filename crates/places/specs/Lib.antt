pub mod Search
pub mod Ready
