pub mod Loops
pub mod Calling
pub mod Uses
pub mod Marks
pub mod Levels
pub mod Depth
