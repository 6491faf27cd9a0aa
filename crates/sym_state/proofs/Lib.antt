pub mod Nets
pub mod Turning
pub mod Innermost
pub mod Sites
pub mod Stored
pub mod Composed
pub mod Telling
