use Rattle.way_invariants.proofs.AnswerLaws.{answers_agree}
use Rattle.way_invariants.proofs.laws.one_answer.Goals as goal

pub returns : goal.returns
returns c = answers_agree
