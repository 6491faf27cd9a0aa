pub mod Machines
pub mod Acting
pub mod Stepping
pub mod Runs
pub mod inside
