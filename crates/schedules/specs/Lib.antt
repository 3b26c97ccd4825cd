pub mod Limited
pub mod Schedule
