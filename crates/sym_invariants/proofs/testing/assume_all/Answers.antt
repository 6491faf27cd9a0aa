use Rattle.std.proofs.Common.{◌≡◌, rules, false, true, arith, subst}
use Rattle.std.proofs.lemmas.List.{take_all}
use Rattle.c_meaning.specs.Duties.{Duties}
use Rattle.sym_flow.proofs.Draws.{nothing_follows}
use Rattle.sym_state.proofs.Nets.{longer_by}
use Rattle.c_meaning.specs.Placing.{placed_view}
use Rattle.sym_invariants.specs.Obliged.{program_of, invariants_of, Assumes}
use Rattle.sym_invariants.proofs.Elsewhere.{nothing_assumed}
use Rattle.sym_invariants.proofs.Placing.{invariant_at, more_assumed, weight_within}
use Rattle.sym_invariants.proofs.testing.assume_all.Goals as goal

pub returns-then-not-has_invariants : goal.returns-then-not-has_invariants
returns-then-not-has_invariants c =
    let w = c.args.obliged.now in
    let none : c.has_invariants.result ≡ false = search rules in
    nothing_assumed (program_of w) (invariants_of w) c.args.spot (Duties (program_of w) (invariants_of w)) c.args.sym.now _ c.requires.fits (c.has_invariants.ensures none)

pub loop-x-init : goal.loop-x-init
loop-x-init c =
    let p = program_of c.args.obliged.now in
    nothing_follows p (Duties p (invariants_of c.args.obliged.now)) c.args.sym.now c.requires.fits

pub assume_one-requires-clause-good : goal.assume_one-requires-clause-good
assume_one-requires-clause-good c =
    invariant_at (program_of c.args.obliged.now) c.args.obliged.now.mode.invariants.now c.loop-x.x-index c.x-item.result c.loop-x-test.true c.x-item.is c.requires.obliged.invariants

pub assume_one-requires-clause-room : goal.assume_one-requires-clause-room
assume_one-requires-clause-room c =
    omega (arith, c.requires.room, (longer_by c.loop-x.invariant.added).1, weight_within (program_of c.args.obliged.now) true c.args.spot c.args.obliged.now.mode.invariants.now c.loop-x.x-index c.x-item.result c.loop-x-test.true c.x-item.is)

pub loop-x-preserved : goal.loop-x-preserved
loop-x-preserved c =
    let w = c.args.obliged.now in
    let p = program_of w in
    let I = invariants_of w in
    more_assumed p I (Duties p I) c.args.spot w.mode.invariants.now c.loop-x.x-index c.x-item.result c.args.sym.now c.loop-x.sym c.assume_one.new.sym c.loop-x-test.true c.x-item.is c.loop-x.invariant c.in_ok-assume_one.ensures

pub returns : goal.returns
returns c =
    let w = c.args.obliged.now in
    subst (λ z. Assumes w (placed_view z) c.args.spot c.args.sym.now c.loop-x.sym) (take_all c.loop-x.x-index w.mode.invariants.now (omega (arith, c.loop-x-test.false))) c.loop-x.invariant
