pub mod Address
pub mod Read
pub mod Write
