pub mod Bounds
pub mod Reading
pub mod Numerals
pub mod Standing
mod Loops
pub mod Grammar
mod Bodies
mod Texts
pub mod ProgramTokens
pub mod ProgramSources
