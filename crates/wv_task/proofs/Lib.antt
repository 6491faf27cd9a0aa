pub mod FirstToken
pub mod Identifiers
