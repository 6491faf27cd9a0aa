pub mod Interpreting
pub mod Drawing
pub mod Ways
pub mod Fronts
pub mod Choosing
