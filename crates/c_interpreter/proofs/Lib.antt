pub mod Executing
pub mod Expressing
pub mod Indexing
pub mod Switching
pub mod Looping
pub mod Running
