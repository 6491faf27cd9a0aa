use Rattle.std.proofs.Common.{◌<◌, length, arith, ap, refl, subst}
use Rattle.c_core.specs.View.{program_view}
use Rattle.sym_elements.proofs.Stored.{Writes, writes_begin, writes_next, writes_all}
use Rattle.sym_elements.proofs.writing.write_element.Goals as goal

pub loop-i-init : goal.loop-i-init
loop-i-init c = writes_begin (program_view c.args.program.now) c.args.object c.as_slice-bits.result.now c.args.value.now.bits c.requires.fits

pub loop-i-preserved : goal.loop-i-preserved
loop-i-preserved c =
    let within : c.loop-i.i < length c.as_slice-bits.result.now = omega arith in
    writes_next (program_view c.args.program.now) c.args.object c.as_slice-bits.result.now c.args.value.now.bits _ c.loop-i.invariant (rw c.as_slice-bits.ensures c.requires.places_of.inside) c.requires.value_in within refl c.in_ok-write_place.ensures

pub returns : goal.returns
returns c =
    writes_all (program_view c.args.program.now) c.args.object c.args.places.now c.args.value.now.bits c.requires.places_of
    (subst (λ z. Writes (program_view c.args.program.now) c.args.object z c.args.value.now.bits c.args.sym.now c.loop-i.sym c.loop-i.i) c.as_slice-bits.ensures c.loop-i.invariant)
    (omega (arith, ap length c.as_slice-bits.ensures))
