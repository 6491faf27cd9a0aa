use Rattle.std.proofs.Common.{sym, ap, ◌∙◌}
use Rattle.c_core.specs.View.{program_view}
use Rattle.c_meaning.specs.Placing.{placed}
use Rattle.way_bind.specs.Binding.{BindsThere, place_named, seen}
use Rattle.way_bind.proofs.ExpressionLaws.{placed_there}
use Rattle.way_bind.proofs.NamedLaws.{named_is_one}
use Rattle.way_invariants.specs.Invariants.{place_of, placed_at}
use Rattle.way_invariants.proofs.NextLaws.{scoped}
use Rattle.way_invariants.proofs.PlacedLaws.{unplaced}
use Rattle.way_invariants.proofs.invariant.bind_invariant.Goals as goal

pub returns-in-None : goal.returns-in-None
returns-in-None c =
    unplaced (place_named (program_view c.args.lookup.now.index) (place_of c.args.invariant.now.kind) c.args.invariant.now.location) (BindsThere (program_view c.args.lookup.now.index) (place_of c.args.invariant.now.kind) c.args.invariant.now.value (placed_at c.args.invariant.now.kind))
    (sym (ap (λ k. place_named (program_view c.args.lookup.now.index) k c.args.invariant.now.location) c.place_of.ensures) ∙ sym c.place_named.ensures ∙ c.in-None.is)

pub invariant_at-requires : goal.invariant_at-requires
invariant_at-requires c =
    scoped (program_view c.args.lookup.now.index) c.args.invariant.now.kind c.in-Some.spot
    (named_is_one (program_view c.args.lookup.now.index) (place_of c.args.invariant.now.kind) c.args.invariant.now.location c.in-Some.spot
    (sym (ap (λ k. place_named (program_view c.args.lookup.now.index) k c.args.invariant.now.location) c.place_of.ensures) ∙ sym c.place_named.ensures ∙ c.in-Some.is))

pub returns-in-Some : goal.returns-in-Some
returns-in-Some c =
    placed_there (program_view c.args.lookup.now.index) (place_of c.args.invariant.now.kind) c.as_str.result.now c.args.invariant.now.value (placed_at c.args.invariant.now.kind) (place_named (program_view c.args.lookup.now.index) (place_of c.args.invariant.now.kind) c.args.invariant.now.location) c.in-Some.spot (seen placed c.invariant_at.result)
    (sym (ap (λ k. place_named (program_view c.args.lookup.now.index) k c.args.invariant.now.location) c.place_of.ensures) ∙ sym c.place_named.ensures ∙ c.in-Some.is) c.as_str.ensures c.invariant_at.ensures
