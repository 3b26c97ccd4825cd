pub mod Plan
pub mod State
pub mod Next
pub mod Source
pub mod Valid
