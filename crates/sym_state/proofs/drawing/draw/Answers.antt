use Rattle.std.proofs.Common.{refl}
use Rattle.c_core.specs.View.{program_view}
use Rattle.c_core.specs.Types.{width_of}
use Rattle.sym_state.proofs.Sites.{is_drawn}
use Rattle.sym_state.proofs.drawing.draw.Goals as goal

pub returns : goal.returns
returns c =
    let p = program_view c.args.program.now in
    let s = c.args.sym.now in
    let w = width_of p.model c.args.ty in
    is_drawn p c.args.from c.args.spot c.args.ty s c.input_bits.new.net c.in_ok-bits.bits.bits
    (record { spot = c.args.spot; ty = c.args.ty; from = c.args.from; bits = c.in_ok-own.own; live = s.live }) c.push.new.self c.requires.fits c.in_ok-bits.ensures.fed c.in_ok-bits.ensures.all
    c.in_ok-bits.ensures.value c.in_ok-own.ensures refl refl refl refl c.in_ok-push.ensures.items
