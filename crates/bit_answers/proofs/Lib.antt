pub mod Found
pub mod Numbers
mod Drawn
pub mod Spent
