pub mod Laws
pub mod ByKind
