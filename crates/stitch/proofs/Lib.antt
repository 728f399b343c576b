pub mod Facts
pub mod Unique
