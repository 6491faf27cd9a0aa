pub mod Tokens
pub mod PropertyText
pub mod Readings
pub mod Task
pub mod Examples
