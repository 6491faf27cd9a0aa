pub mod Clauses
pub mod Weights
pub mod Pairs
pub mod Kept
