pub mod Sizes
pub mod Evaluating
pub mod Indexing
pub mod Switching
pub mod Executing
pub mod Looping
pub mod Calling
pub mod Ending
