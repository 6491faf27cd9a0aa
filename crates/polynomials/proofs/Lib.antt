pub mod Sameness
pub mod Carrying
pub mod Terms
pub mod Summing
pub mod Reducing
