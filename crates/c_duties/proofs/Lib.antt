pub mod Walked
pub mod Order
pub mod Stable
mod InOrder
pub mod Differ
pub mod Safe
pub mod Traversed
pub mod Failing
pub mod Numbers
