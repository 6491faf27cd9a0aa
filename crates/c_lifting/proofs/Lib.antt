pub mod Restoring
pub mod Lifts
pub mod Relating
pub mod AllRuns
