use Rattle.std.proofs.Common.{subst, sym, Some}
use Rattle.sym_values.specs.Valuing.{CountsWhere}
use Rattle.sym_walk.specs.Walking.{program_of, mode_of}
use Rattle.sym_walk.proofs.violations.reach.Goals as goal

pub reach-requires-clause-counts_in : goal.reach-requires-clause-counts_in
reach-requires-clause-counts_in c = c.in_ok-counted.ensures.inside

pub returns : goal.returns
returns c site e =
    let w = c.args.walk.now in
    c.in_ok-reach.ensures (mode_of w) site c.requires.duty (subst (λ z. CountsWhere (program_of w) (mode_of w) c.args.at (Some z) c.args.sym.now c.in_ok-counted.counted) (sym e) c.in_ok-counted.ensures)
