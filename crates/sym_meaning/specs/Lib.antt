pub mod Mode
pub mod Judged
pub mod Obliging
