pub mod Picking
pub mod Inductive
