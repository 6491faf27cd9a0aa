use Rattle.sym_walk.specs.Walking.{program_of}
use Rattle.sym_walk.proofs.Hooking.{obliged_counts, seeks_counts}
use Rattle.sym_walk.proofs.violations.counts.Goals as goal

pub returns-in-Obliges : goal.returns-in-Obliges
returns-in-Obliges c = obliged_counts c.args.walk.now c.in-Obliges.mode c.in-Obliges.is c.args.at c.args.call c.args.sym.now c.yes.result c.yes.ensures

pub returns-else-len-mode : goal.returns-else-len-mode
returns-else-len-mode c =
    seeks_counts c.args.walk.now c.in-Seeks.mode c.in-Seeks.is c.args.at c.args.call c.args.sym.now c.counts.result (c.counts.ensures (program_of c.args.walk.now))
