pub mod Walking
pub mod Hooks
