pub mod Scale
pub mod Cost
pub mod Obliged
