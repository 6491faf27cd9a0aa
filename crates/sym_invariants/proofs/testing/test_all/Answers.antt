use Rattle.std.proofs.Common.{rules, false, ◌≡◌, ◌≤◌, [], ◌∷◌, length, refl, ap, subst, arith}
use Rattle.std.proofs.lemmas.List.{length-map, take_all}
use Rattle.c_meaning.specs.Duties.{Duties}
use Rattle.sym_state.proofs.Nets.{longer_by}
use Rattle.c_meaning.specs.Placing.{placed, placed_view}
use Rattle.sym_invariants.specs.Obliged.{program_of, invariants_of, Tests}
use Rattle.sym_invariants.proofs.Elsewhere.{nothing_tested}
use Rattle.sym_invariants.proofs.Placing.{few_invariants, invariant_at, more_tested, none_tested, weight_within}
use Rattle.sym_invariants.proofs.testing.test_all.Goals as goal

pub returns-then-not-has_invariants : goal.returns-then-not-has_invariants
returns-then-not-has_invariants c =
    let w = c.args.obliged.now in
    let none : c.has_invariants.result ≡ false = search rules in
    nothing_tested (program_of w) (invariants_of w) c.args.at_loop c.args.spot (Duties (program_of w) (invariants_of w)) c.args.kind c.args.sym.now _ c.requires.fits (c.has_invariants.ensures none)

pub loop-x-init : goal.loop-x-init
loop-x-init c =
    let p = program_of c.args.obliged.now in
    let I = invariants_of c.args.obliged.now in
    (refl, none_tested p I (Duties p I) c.args.at_loop c.args.spot c.args.kind c.args.sym.now c.requires.fits)

pub test_one-requires-clause-good : goal.test_one-requires-clause-good
test_one-requires-clause-good c =
    invariant_at (program_of c.args.obliged.now) c.args.obliged.now.mode.invariants.now c.loop-x.x-index c.x-item.result c.loop-x-test.true c.x-item.is c.requires.obliged.invariants

pub test_one-requires-clause-room : goal.test_one-requires-clause-room
test_one-requires-clause-room c =
    omega (arith, c.requires.room, (longer_by c.loop-x.invariant.1.added).1, weight_within (program_of c.args.obliged.now) c.args.at_loop c.args.spot c.args.obliged.now.mode.invariants.now c.loop-x.x-index c.x-item.result c.loop-x-test.true c.x-item.is)

pub overflow_add-number : goal.overflow_add-number
overflow_add-number c =
    let w = c.args.obliged.now in
    let few : length w.mode.invariants.now ≤ length w.mode.duties.now = omega (arith, few_invariants (program_of w) (invariants_of w), ap length c.requires.obliged.duties, length-map w.mode.invariants.now placed) in
    omega (arith, few, c.requires.obliged.numbered, c.loop-x.invariant.0, c.loop-x-test.true)

pub loop-x-preserved : goal.loop-x-preserved
loop-x-preserved c =
    let w = c.args.obliged.now in
    let p = program_of w in
    let I = invariants_of w in
    let one = subst (λ n. Tests w n (placed_view (c.x-item.result ∷ [])) c.args.at_loop c.args.spot c.args.kind c.loop-x.sym c.test_one.new.sym) c.loop-x.invariant.0 c.in_ok-test_one.ensures in (
      omega (arith, c.loop-x.invariant.0),
      more_tested p I (Duties p I) c.args.at_loop c.args.spot c.args.kind w.mode.invariants.now c.loop-x.x-index c.x-item.result c.args.sym.now c.loop-x.sym c.test_one.new.sym c.loop-x-test.true c.x-item.is c.loop-x.invariant.1 one,
    )

pub returns : goal.returns
returns c =
    let w = c.args.obliged.now in
    subst (λ z. Tests w 0 (placed_view z) c.args.at_loop c.args.spot c.args.kind c.args.sym.now c.loop-x.sym) (take_all c.loop-x.x-index w.mode.invariants.now (omega (arith, c.loop-x-test.false))) c.loop-x.invariant.1
