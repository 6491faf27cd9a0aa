use Rattle.std.proofs.Common.{◌≡◌, ℕ, length, subst, ◌∙◌, refl, ap}
use Rattle.std.proofs.lemmas.List.{length-replicate}
use Rattle.sat_newness.specs.declared.pairs.Pair.{Pair}
use Rattle.sat_newness.specs.Clauses.{clauses_of}
use Rattle.sat_newness.specs.Weights.{AreSettled}
use Rattle.sat_newness.specs.Pairs.{AreSettledTo}
use Rattle.sat_newness.proofs.Settled.{given_settled}
use Rattle.sat_newness.proofs.Closed.{undecided}
use Rattle.sat_newness.proofs.undecided.is_undecided.Goals as goal

pub returns : goal.returns
returns c = λ e j le.
    let table = c.args.table.now in
    let clauses = c.args.cnf.now.clauses in
    let chains = c.new-none.result in
    let none : Pair = record { one = 0; other = 0 } in
    let many : length c.are_settled.new.pairs ≡ length clauses = c.are_settled.auto.pairs ∙ ap length (c.deref_mut.ensures.value ∙ c.in_ok-pairs.ensures) ∙ length-replicate c.len.result none ∙ c.len.ensures in
    let settled : AreSettled table clauses = given_settled table clauses chains (subst (λ (n : ℕ). AreSettledTo table (clauses_of clauses chains) n) many (c.are_settled.ensures.settled e)) in
    undecided clauses table c.args.cnf.now.variables c.args.k (c.if-not-is_table.ensures refl) settled (c.if-not-have_values.ensures refl) (c.if-not-has_open.ensures refl) j le
