use Rattle.c_check.proofs.AnswerLaws.{same_answers}
use Rattle.c_check.proofs.laws.one_answer.Goals as goal

pub returns : goal.returns
returns c = λ m property items. same_answers m items property
