pub mod Shown
pub mod ExpressionExamples
pub mod StatementExamples
pub mod ItemExamples
pub mod PlaceExamples
pub mod OddExamples
