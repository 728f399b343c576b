pub mod Made
pub mod Law
pub mod Fold
pub mod Adder
pub mod Choice
pub mod Given
