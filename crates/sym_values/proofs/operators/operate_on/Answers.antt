use Rattle.std.proofs.Common.{◌≡◌, ◌∙◌, ap}
use Rattle.c_core.specs.View.{program_view}
use Rattle.c_core.specs.Operators.{type_for, right_type_for}
use Rattle.sym_values.proofs.Judging.{fits_after, in_after, operate_gives}
use Rattle.sym_values.proofs.operators.operate_on.Goals as goal

pub end_runs-requires-clause-fits : goal.end_runs-requires-clause-fits
end_runs-requires-clause-fits c =
    fits_after (program_view c.args.program.now) c.args.sym.now c.convert_bits.new.net c.convert_bits-2.new.net c.apply_bits.new.net c.requires.fits c.in_ok-u.ensures.grown c.in_ok-w.ensures.grown c.in_ok-out.ensures.grown

pub end_runs-requires-clause-counts_in : goal.end_runs-requires-clause-counts_in
end_runs-requires-clause-counts_in c =
    in_after c.args.counts c.args.sym.now.net c.convert_bits.new.net c.convert_bits-2.new.net c.apply_bits.new.net c.requires.counts_in c.in_ok-u.ensures.grown c.in_ok-w.ensures.grown c.in_ok-out.ensures.grown

pub returns : goal.returns
returns c W d m =
    let p = program_view c.args.program.now in
    let ty = type_for p.model c.args.op c.args.a c.args.b in
    let e : c.type_for-ty.result ≡ ty = c.type_for-ty.ensures.value in
    let f : c.right_type_for-right.result ≡ right_type_for c.args.op ty c.args.b = c.right_type_for-right.ensures.value ∙ ap (λ z. right_type_for c.args.op z c.args.b) e in
    operate_gives p c.args.at c.args.spot c.args.op c.args.a c.args.b c.args.sym.now c.end_runs.new.sym c.args.x.now.bits c.args.y.now.bits c.in_ok-u.u.bits c.in_ok-w.w.bits c.in_ok-out.out c.args.counts
    c.convert_bits.new.net c.convert_bits-2.new.net c.apply_bits.new.net c.type_for-ty.result c.right_type_for-right.result W e f d m c.requires.fits c.requires.y_in
    c.in_ok-u.ensures.grown c.in_ok-u.ensures.value c.in_ok-w.ensures.grown c.in_ok-w.ensures.value c.in_ok-out.ensures.grown c.in_ok-out.ensures.value c.in_ok-end_runs.ensures
