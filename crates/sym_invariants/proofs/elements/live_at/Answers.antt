use Rattle.std.proofs.Common.{◌*◌, ◌<◌, length, arith, refl, is_some, subst}
use Rattle.c_core.specs.View.{program_view}
use Rattle.sym_values.specs.Valuing.{Decided}
use Rattle.sym_invariants.specs.Valued.{held_in}
use Rattle.sym_invariants.proofs.Found.{live_none, place_in, live_room, live_next}
use Rattle.sym_invariants.proofs.elements.live_at.Goals as goal

pub loop-i-init : goal.loop-i-init
loop-i-init c = live_none (program_view c.args.program.now) c.args.object c.args.places.now c.requires.fits c.yes.ensures c.not-live.ensures

pub loop-i-preserved : goal.loop-i-preserved
loop-i-preserved c = live_next (program_view c.args.program.now) c.args.object c.args.places.now _ c.loop-i.invariant c.requires.inside (omega arith) refl c.is_live-held.ensures c.in_ok-live.ensures

pub returns : goal.returns
returns c =
    subst (λ k. Decided (program_view c.args.program.now) (3 * k) c.args.sym.now c.loop-i.sym c.loop-i.live (λ v. is_some (held_in (program_view c.args.program.now) c.args.object c.args.sym.now c.args.places.now k v))) (omega arith) c.loop-i.invariant

pub pick-requires-clause-go_in : goal.pick-requires-clause-go_in
pick-requires-clause-go_in c = place_in (program_view c.args.program.now) c.args.object c.args.places.now _ c.loop-i.invariant c.requires.inside (omega arith)

pub pick-requires-clause-room : goal.pick-requires-clause-room
pick-requires-clause-room c = live_room (program_view c.args.program.now) c.args.object c.args.places.now c.loop-i.invariant (omega arith) c.requires.room
