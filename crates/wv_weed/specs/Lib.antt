pub mod Weeded
pub mod Numbers
pub mod Known
pub mod Rounds
pub mod Ending
