pub mod Plain
pub mod Quoted
pub mod BlockScalar
pub mod Tokens
pub mod Gives
