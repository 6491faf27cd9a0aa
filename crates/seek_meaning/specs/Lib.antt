pub mod Bounded
pub mod Progress
pub mod Seeking
pub mod Sought
pub mod Steps
