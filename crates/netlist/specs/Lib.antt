pub mod Sheet
pub mod Record
pub mod Kind
pub mod Bit
pub mod Net
pub mod Check
pub mod Eval
pub mod Right
