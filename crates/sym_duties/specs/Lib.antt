pub mod Promise
pub mod Answers
