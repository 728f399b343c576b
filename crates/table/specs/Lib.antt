pub mod Kind
pub mod Op
pub mod Node
pub mod Sheet
pub mod Size
pub mod Ceiling
