pub mod Typed
pub mod Segments
