pub mod Source
pub mod Laid
pub mod Own
pub mod Place
pub mod Recipe
pub mod Meaning
pub mod Asked
