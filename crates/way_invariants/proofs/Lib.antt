mod NextLaws
mod WholeLaws
mod PlacedLaws
mod AnswerLaws
mod TokenConstants
mod SpelledConstants
pub mod TypedTests
mod TestLaws
