pub mod Leaving
pub mod Ways
pub mod Testing
pub mod Drawing
pub mod Calling
