use Rattle.std.proofs.Common.{◌∙◌, None, ap, sym}
use Rattle.c_meaning.specs.Duties.{duty, number_among}
use Rattle.c_meaning.specs.declared.run.DutyKind.TheVariants.{Property}
use Rattle.sym_invariants.specs.Obliged.{program_of, invariants_of}
use Rattle.sym_invariants.proofs.Numbering.{rises}
use Rattle.sym_invariants.proofs.numbers.around.Goals as goal

pub number_of-requires-clause-rise : goal.number_of-requires-clause-rise
number_of-requires-clause-rise c = rises c.args.obliged.now c.requires (c.duties_are_in_order.ensures (program_of c.args.obliged.now) (invariants_of c.args.obliged.now))

pub returns-clause-duty : goal.returns-clause-duty
returns-clause-duty c = ap (number_among (duty c.args.e.now.spot Property None)) (sym c.requires.duties) ∙ c.number_of.ensures
