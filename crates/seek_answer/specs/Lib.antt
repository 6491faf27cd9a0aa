pub mod Reaching
pub mod Answering
