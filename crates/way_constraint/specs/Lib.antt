pub mod Constraints
pub mod Known
pub mod Words
