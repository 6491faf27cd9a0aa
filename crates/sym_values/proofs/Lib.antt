pub mod Judging
pub mod Reckoning
pub mod Storing
pub mod Ending
