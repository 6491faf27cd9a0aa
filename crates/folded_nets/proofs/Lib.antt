pub mod Telling
pub mod Copies
