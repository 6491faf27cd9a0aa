use mir.Val.{SFits}
use mir.Syntax.{w128}
use Rattle.std.proofs.Common.{rules, sym, subst, arith}
use Rattle.std.proofs.lemmas.Int.{to_z-of_z}
use Rattle.c_core.specs.View.{program_view}
use Rattle.circuits.specs.Net.{IsIn}
use Rattle.circuits.specs.Numbers.{AreTyped}
use Rattle.sym_state.proofs.Nets.{are_typed_added, in_added, state_grown}
use Rattle.seek_passes.proofs.Compared.{compared_type, compared_means, room_left, room_out, room_truth}
use Rattle.seek_passes.proofs.returned.compared.Goals as goal

pub apply_bits-requires-clause-b_in : goal.apply_bits-requires-clause-b_in
apply_bits-requires-clause-b_in c = are_typed_added c.in_ok-left.ensures.turned.added c.in_ok-right.ensures.bits_in

pub apply_bits-requires-clause-room : goal.apply_bits-requires-clause-room
apply_bits-requires-clause-room c =
    omega (arith, room_left (program_view c.args.program.now) c.args.op c.args.common c.args.ty c.requires.comparison c.requires.promoted c.in_ok-left.ensures.turned c.requires.room)

pub test-requires-clause-room : goal.test-requires-clause-room
test-requires-clause-room c =
    omega (arith, room_out (program_view c.args.program.now) c.args.op c.args.common c.args.ty c.requires.comparison c.requires.promoted c.in_ok-left.ensures.turned c.requires.room c.in_ok-out.ensures.grown)

pub and-requires-clause-a_in : goal.and-requires-clause-a_in
and-requires-clause-a_in c = c.in_ok-truth.ensures.means.inside

pub and-requires-clause-b_in : goal.and-requires-clause-b_in
and-requires-clause-b_in c = subst (IsIn c.test.new.sym.net) (sym c.not.ensures) (in_added c.in_ok-truth.ensures.turned.added c.in_ok-out.out.undefined c.in_ok-out.ensures.value.undefined_in)

pub and-requires-clause-room : goal.and-requires-clause-room
and-requires-clause-room c =
    let p = program_view c.args.program.now in
    omega (
      arith,
      room_truth p c.args.op c.args.common c.args.ty c.requires.comparison c.requires.promoted
          (room_out p c.args.op c.args.common c.args.ty c.requires.comparison c.requires.promoted c.in_ok-left.ensures.turned c.requires.room c.in_ok-out.ensures.grown) c.in_ok-truth.ensures.turned,
    )

pub test-requires-clause-fits : goal.test-requires-clause-fits
test-requires-clause-fits c = state_grown (program_view c.args.program.now) c.in_ok-out.ensures.grown c.in_ok-left.ensures.turned.fits

pub test-requires-clause-x_in : goal.test-requires-clause-x_in
test-requires-clause-x_in c =
    subst (λ q. AreTyped c.args.program.now.model q c.apply_bits.new.net c.in_ok-out.out.value.bits) (compared_type c.args.op c.args.common c.requires.comparison) c.in_ok-out.ensures.value.value

pub returns : goal.returns
returns c =
    let fits : SFits w128 c.args.constant = search rules in
    let right = rw (to_z-of_z w128 c.args.constant fits) at c.in_ok-right.ensures in
    compared_means (program_view c.args.program.now) c.args.op c.args.common c.args.ty c.requires.comparison c.requires.promoted c.args.bits.now.bits _ right c.in_ok-left.ensures c.in_ok-out.ensures.grown c.in_ok-out.ensures.value c.in_ok-truth.ensures c.not.ensures
    c.in_ok-met.ensures.grown c.in_ok-met.ensures.value
