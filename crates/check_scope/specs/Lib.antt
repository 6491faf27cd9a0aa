pub mod Kinds
pub mod InScope
pub mod Lines
pub mod Bodies
pub mod Sources
pub mod Pasts
