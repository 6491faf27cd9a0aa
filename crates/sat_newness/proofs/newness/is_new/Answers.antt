use Rattle.std.proofs.Common.{◌≡◌, ℕ, ◌+◌, length, subst, refl, arith}
use Rattle.sat_newness.specs.Clauses.{clauses_of}
use Rattle.sat_newness.specs.Pairs.{AreSettledTo}
use Rattle.sat_newness.proofs.Settled.{new_next}
use Rattle.sat_newness.proofs.newness.is_new.Goals as goal

pub returns-in-Some : goal.returns-in-Some
returns-in-Some c =
    let table = c.args.table.now in
    let clauses = c.args.clauses.now in
    let chains = c.args.chains.now in
    let many : length c.are_settled.new.pairs ≡ length clauses + length chains = omega arith in
    record {
      held = c.are_settled.ensures.held;
      next = λ e a.
          let settled : AreSettledTo table (clauses_of clauses chains) (length clauses + length chains) = subst (λ (k : ℕ). AreSettledTo table (clauses_of clauses chains) k) many (c.are_settled.ensures.settled e) in
          new_next table clauses chains c.args.gives.now c.in-Some.field-0 (c.if-not-is_table.ensures refl) c.in-Some.ensures settled a;
    }
