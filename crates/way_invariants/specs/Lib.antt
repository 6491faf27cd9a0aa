pub mod Invariants
pub mod Steps
