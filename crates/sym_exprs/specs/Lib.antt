pub mod Evaluating
pub mod Targeting
