pub mod Loop
pub mod Search
