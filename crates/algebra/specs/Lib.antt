pub mod Entry
pub mod Width
pub mod Matrix
pub mod Numbers
pub mod Division
pub mod Lowering
