pub mod Arms
pub mod Enough
mod Light
pub mod Paid
pub mod Rounds
pub mod Sums
pub mod Tolling
