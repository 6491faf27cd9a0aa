pub mod Quiet
pub mod Names
pub mod Fine
pub mod Expressions
mod Statements
mod Programs
