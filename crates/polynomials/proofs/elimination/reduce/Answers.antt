use Rattle.polynomials.proofs.Reducing.{reduced_start, reduced_then, first_follow, follow_then}
use Rattle.polynomials.proofs.elimination.reduce.Goals as goal

pub loop-round-init : goal.loop-round-init
loop-round-init c =
    let cut = first_follow c.args.width 48 c.args.facts.items _ c.truncate.ensures.items in
    rw c.in_ok-rest.ensures (reduced_then cut (reduced_start _ _ _) c.in_ok-system.ensures.question)

pub loop-round-preserved : goal.loop-round-preserved
loop-round-preserved c =
    let cut = first_follow c.args.width 48 c.args.facts.items _ c.truncate.ensures.items in
    reduced_then (follow_then _ _ _ _ cut c.in_ok-system.ensures.facts) c.loop-round.invariant c.in_ok-rest-2.ensures
