pub mod ByKind
pub mod Kept
pub mod Seen
pub mod Local
pub mod Range
pub mod Unique
