pub mod ConstantTests
pub mod Followed
pub mod Shown
pub mod Confirmed
