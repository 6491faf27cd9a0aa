pub mod Valuing
pub mod Storing
