use Rattle.circuits.proofs.ChosenLaws.{answer_opposite}
use Rattle.circuits.proofs.chosen.+test_in.Goals as goal

pub returns-in-Some-false : goal.returns-in-Some-false
returns-in-Some-false t c = λ here h. answer_opposite c.not.result c.not.ensures c.in-Some-false.field-0-test (c.in-Some-false.ensures here h)
