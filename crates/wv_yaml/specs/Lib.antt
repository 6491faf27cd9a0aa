pub mod Flow
pub mod Inline
pub mod Block
pub mod Spelled
pub mod Document
pub mod Repeats
pub mod Reading
pub mod Canon
