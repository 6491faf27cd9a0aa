mod Kept
mod Arms
mod Compared
mod Constraints
mod Named
mod Several
mod Told
mod Failing
pub mod Paying
