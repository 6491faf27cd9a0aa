pub mod OneLaws
pub mod InOrderLaws
pub mod LeastLaws
mod BindingLaws
mod LoopLaws
mod TestLaws
mod PlaceLaws
pub mod NamedLaws
mod ReturnLaws
pub mod PointAnswers
mod AnswerLaws
pub mod ExpressionLaws
