use Rattle.std.proofs.Common.{length, arith, ◌∙◌, subst, Option, ℕ}
use Rattle.sat_newness.specs.Clauses.{clauses_of}
use Rattle.sat_core.specs.Trail.{Settled}
use Rattle.sat_core.specs.Found.{IsPropagated}
use Rattle.sat_core.proofs.Learns.{decided_state}
use Rattle.sat_core.proofs.plain.search.Goals as goal

pub loop-conflict-preserved : goal.loop-conflict-preserved
loop-conflict-preserved c =
    let F = clauses_of c.args.given.now c.args.chains.now in
    let p = c.in_ok-conflict.ensures in
    let values = c.propagate.new.trail.values.items in
    let t = c.propagate.new.trail.entries.items in
    let a = c.in_ok-assign-in-Some-pick_branch.ensures in
    let settled : Settled F t (length t) = subst (λ (o : Option ℕ). IsPropagated F t o) c.in_default.is p.found in
    record {
      state = decided_state F values c.assign.new.self.values.items t c.assign.new.self.entries.items c.in-Some-pick_branch.variable p.state settled c.in-Some-pick_branch.ensures a.entries a.told c.assign.ensures.size;
      sized = c.assign.ensures.size ∙ p.size ∙ c.loop-conflict.invariant.sized;
      fewer = omega (arith, a.fewer, p.fewer, c.loop-conflict.invariant.fewer);
    }
