pub mod Marking
pub mod Decoding
mod Crossing
mod Placed
pub mod Spelling
pub mod Kept
pub mod Found
pub mod Picked
pub mod Stored
pub mod Costs
