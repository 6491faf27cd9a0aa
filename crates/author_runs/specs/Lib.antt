pub mod Giving
pub mod Returning
