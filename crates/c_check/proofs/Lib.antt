mod FirstLaws
mod OrderLaws
mod AnswerLaws
mod MainLaws
mod ProgramLaws
