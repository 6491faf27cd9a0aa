pub mod Obliged
pub mod Valued
