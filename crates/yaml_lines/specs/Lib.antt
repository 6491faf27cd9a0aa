pub mod Line
pub mod Chunks
pub mod Marks
pub mod Lines
