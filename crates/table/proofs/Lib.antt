pub mod Ops
pub mod Whole
pub mod Unique
pub mod Small
pub mod Any
