pub mod Calling
pub mod Control
pub mod Doing
pub mod Looping
pub mod Switching
pub mod Targets
pub mod Whole
