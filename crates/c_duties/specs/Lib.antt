pub mod Ordered
pub mod Failing
