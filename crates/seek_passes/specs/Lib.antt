pub mod Event
pub mod Placed
pub mod Charges
pub mod Passing
pub mod Telling
