pub mod Lower
pub mod Visit
pub mod Promise
