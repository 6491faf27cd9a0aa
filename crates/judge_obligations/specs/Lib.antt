pub mod Verdicts
pub mod Deciding
pub mod Answering
pub mod Logged
pub mod Telling
