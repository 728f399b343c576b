pub mod Within
pub mod Enough
