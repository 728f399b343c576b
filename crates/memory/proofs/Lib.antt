pub mod AddressLaws
pub mod ReadLaws
pub mod WriteLaws
pub mod Paths
