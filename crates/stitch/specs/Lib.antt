pub mod Printed
pub mod Lent
pub mod Read
