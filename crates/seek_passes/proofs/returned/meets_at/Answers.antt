use Rattle.std.proofs.Common.{ℕ, ℤ, Bool, subst, sym, ap, arith}
use Rattle.c_core.specs.View.{program_view}
use Rattle.circuits.specs.Net.{holds}
use Rattle.circuits.specs.Numbers.{typed}
use Rattle.sym_state.proofs.Nets.{in_added, longer_by}
use Rattle.sym_values.specs.Valuing.{Decided}
use Rattle.way_match.specs.Passing as passing
use Rattle.way_match.specs.View.{test_view, test_view_if}
use Rattle.seek_passes.specs.Charges.{test_cost_if}
use Rattle.seek_passes.specs.Event.{given_if}
use Rattle.seek_passes.specs.Passing.{IsTest}
use Rattle.seek_passes.proofs.Constraints.{given_decided, none_decided}
use Rattle.seek_passes.proofs.returned.meets_at.Goals as goal

pub meets-requires-clause-comparison : goal.meets-requires-clause-comparison
meets-requires-clause-comparison c = subst (λ t. IsTest (test_view_if t)) c.in-Some.is c.requires.comparison

pub meets-requires-clause-room : goal.meets-requires-clause-room
meets-requires-clause-room c = omega (arith, c.requires.room, ap (λ t. test_cost_if (program_view c.args.program.now) c.args.close (test_view_if t)) c.in-Some.is)

pub and-requires-clause-a_in : goal.and-requires-clause-a_in
and-requires-clause-a_in c = in_added c.in_ok-met-in-Some.ensures.turned.added c.args.gave c.requires.gave_in

pub and-requires-clause-b_in : goal.and-requires-clause-b_in
and-requires-clause-b_in c = c.in_ok-met-in-Some.ensures.means.inside

pub and-requires-clause-room : goal.and-requires-clause-room
and-requires-clause-room c =
    omega (arith, c.requires.room, ap (λ t. test_cost_if (program_view c.args.program.now) c.args.close (test_view_if t)) c.in-Some.is, (longer_by c.in_ok-met-in-Some.ensures.turned.added).1)

pub returns-in_ok-both-in-Some : goal.returns-in_ok-both-in-Some
returns-in_ok-both-in-Some c =
    let p = program_view c.args.program.now in
    let s = c.args.sym.now in
    let z : (ℕ → Bool) → ℤ = λ v. typed p.model c.args.ty v s.net c.args.bits.now.bits in
    subst (λ t. Decided p (test_cost_if p c.args.close (test_view_if t)) s (record c.meets.new.sym { net = c.and.new.self }) c.in_ok-both-in-Some.both (λ v. passing.meets_at p c.args.close (test_view_if t) (given_if (holds v s.net c.args.gave) (z v)))) (sym c.in-Some.is)
    (given_decided p c.args.gave c.args.close (test_view c.in-Some.test) z c.requires.gave_in c.in_ok-met-in-Some.ensures c.in_ok-both-in-Some.ensures.grown c.in_ok-both-in-Some.ensures.value)

pub returns-in-None : goal.returns-in-None
returns-in-None c =
    let p = program_view c.args.program.now in
    let s = c.args.sym.now in
    let z : (ℕ → Bool) → ℤ = λ v. typed p.model c.args.ty v s.net c.args.bits.now.bits in
    subst (λ t. Decided p (test_cost_if p c.args.close (test_view_if t)) s s c.yes.result (λ v. passing.meets_at p c.args.close (test_view_if t) (given_if (holds v s.net c.args.gave) (z v)))) (sym c.in-None.is)
    (none_decided p s c.yes.result c.args.close (λ v. given_if (holds v s.net c.args.gave) (z v)) c.requires.fits c.yes.ensures)
