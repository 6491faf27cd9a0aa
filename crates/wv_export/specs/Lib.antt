pub mod Dimacs
pub mod Lrat
pub mod Exported
pub mod Examples
