pub mod Decimals
pub mod NumberTokens
pub mod ConstantTokens
pub mod ConstantTypes
pub mod ConstantValues
pub mod ConstantRanges
pub mod ConstantTests
mod TypedCalls
mod InputEnds
mod GivenDraws
mod Positions
mod Shown
mod SegmentLaws
mod Authored
