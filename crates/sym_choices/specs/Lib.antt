pub mod Cases
pub mod Choosing
