use Rattle.c_core.specs.View.{program_view}
use Rattle.sym_values.proofs.Judging.{fits_after}
use Rattle.sym_invariants.proofs.Deciding.{logic_sees}
use Rattle.sym_invariants.proofs.seen.decided.Goals as goal

pub returns : goal.returns
returns c f g x y =
    logic_sees (program_view c.args.program.now) c.args.a c.args.b c.args.sym.now c.test.new.sym c.test-2.new.sym c.truth.new.sym c.and.new.self c.and-2.new.self c.and-3.new.self c.args.x.now.bits.bits c.args.y.now.bits.bits c.in_ok-bits.bits.bits
    c.args.x.now.defined c.args.y.now.defined c.in_ok-first.first c.in_ok-second.second c.kept_if-go.result c.kept_if-hit.result c.not.result c.in_ok-missing.missing c.not-2.result c.in_ok-defined.defined c.in_ok-all.all c.kept_if.result c.args.both f g x y
    c.in_ok-first.ensures c.in_ok-second.ensures c.kept_if-go.ensures c.kept_if-hit.ensures c.not.ensures c.in_ok-missing.ensures.grown c.in_ok-missing.ensures.value c.not-2.ensures c.in_ok-defined.ensures.grown c.in_ok-defined.ensures.value
    c.in_ok-all.ensures.grown c.in_ok-all.ensures.value c.kept_if.ensures c.in_ok-bits.ensures

pub truth-requires-clause-fits : goal.truth-requires-clause-fits
truth-requires-clause-fits c =
    fits_after (program_view c.args.program.now) c.test-2.new.sym c.and.new.self c.and-2.new.self c.and-3.new.self c.in_ok-second.ensures.turned.fits c.in_ok-missing.ensures.grown c.in_ok-defined.ensures.grown c.in_ok-all.ensures.grown
