use Rattle.std.proofs.Common.{refl}
use Rattle.sym_walk.proofs.Hooking.{obliged_walk, obliged_duty, seeks_duty}
use Rattle.sym_walk.proofs.violations.around.Goals as goal

pub around-requires : goal.around-requires
around-requires c = obliged_walk c.args.walk.now c.in-Obliges.mode c.in-Obliges.is c.requires

pub returns-in-Obliges-clause-duty : goal.returns-in-Obliges-clause-duty
returns-in-Obliges-clause-duty c = obliged_duty c.args.walk.now c.in-Obliges.mode c.in-Obliges.is c.around.result c.around.ensures.duty

pub returns-in-Seeks-clause-duty : goal.returns-in-Seeks-clause-duty
returns-in-Seeks-clause-duty c = seeks_duty c.args.walk.now c.in-Seeks.mode c.in-Seeks.is _ refl
