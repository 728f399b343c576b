pub mod Constraint
pub mod Rows
pub mod Check
pub mod Pair
pub mod Known
pub mod Zero
pub mod Divide
