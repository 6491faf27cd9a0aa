pub mod Points
pub mod View
pub mod Passing
pub mod Matching
pub mod Given
pub mod Verdicts
pub mod inside
