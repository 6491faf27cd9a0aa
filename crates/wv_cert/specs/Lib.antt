pub mod Text
pub mod Reading
pub mod Accepted
pub mod Certified
pub mod Examples
