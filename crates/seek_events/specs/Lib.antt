pub mod Passed
pub mod Events
pub mod Laws
