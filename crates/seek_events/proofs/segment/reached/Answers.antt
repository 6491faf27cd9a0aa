use Rattle.std.proofs.Common.{sym, ◌∙◌}
use Rattle.circuits.proofs.Nets.{grown_not}
use Rattle.seek_events.proofs.Bits.{none_shared, shared}
use Rattle.seek_events.proofs.segment.reached.Goals as goal

pub returns-then-shares-clause-value : goal.returns-then-shares-clause-value
returns-then-shares-clause-value c =
    shared _ _ _ c.args.stays c.args.came c.args.assumes c.args.also (sym c.both-shares.ensures ∙ c.if-shares.true) c.in_ok-shared.ensures.value

pub returns-clause-value : goal.returns-clause-value
returns-clause-value c = none_shared _ c.args.stays c.args.came c.args.assumes c.args.also (sym c.both-shares.ensures ∙ c.if-shares.false) c.requires.stays_in

pub returns-clause-grown : goal.returns-clause-grown
returns-clause-grown c = grown_not 1 _
