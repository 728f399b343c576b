pub mod RecordLaws
pub mod BitLaws
pub mod Paths
pub mod EvalLaws
pub mod Unique
