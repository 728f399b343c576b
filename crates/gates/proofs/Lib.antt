pub mod Laws
pub mod FoldLaws
pub mod TrueLaws
pub mod AdderLaws
pub mod ChoiceLaws
pub mod GivenLaws
pub mod FormedLaws
pub mod Paths
