pub mod Truth
pub mod Code
