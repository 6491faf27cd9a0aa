pub mod Giving
pub mod Declaring
pub mod Calling
pub mod Testing
pub mod Redrawing
