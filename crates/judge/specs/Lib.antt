pub mod Judging
pub mod Watching
