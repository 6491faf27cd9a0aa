pub mod Standing
pub mod Places
pub mod Following
pub mod Drawn
pub mod Telling
