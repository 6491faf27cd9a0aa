pub mod Bound
pub mod Correct
