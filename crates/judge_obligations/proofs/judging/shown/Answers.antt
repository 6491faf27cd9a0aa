use Rattle.std.proofs.Common.{◌≡◌, ◌∙◌, get_or, true, ap}
use Rattle.std.proofs.lemmas.Option.{slice_get-get_or}
use Rattle.c_core.specs.View.{program_view}
use Rattle.c_meaning.specs.Placing.{placed_view}
use Rattle.circuits.specs.declared.net.Bit.{Bit}
use Rattle.sym_state.specs.Standing.{draws_at}
use Rattle.bit_answers.specs.Deciding.{inputs_of}
use Rattle.judge_obligations.proofs.Verdicted.{wide, other_shown}
use Rattle.judge_obligations.proofs.judging.shown.Goals as goal

pub draws_under-requires : goal.draws_under-requires
draws_under-requires c = record {
  wide = wide (program_view c.args.program.now) (placed_view c.args.invariants.now) c.args.obligations.now c.requires.promised c.as_slice-sites.result.now c.as_slice-sites.ensures;
}

pub returns-clause-other : goal.returns-clause-other
returns-clause-other c N =
    let p = program_view c.args.program.now in
    let o = c.args.obligations.now in
    let none : Bit = record { node = 0; negated = true } in
    let b = get_or o.failing c.args.at none in
    let at = slice_get-get_or o.failing c.args.at none c.requires.within in
    let v = inputs_of c.args.values.now in
    let drawn : c.in_ok-draws.draws ≡ draws_at p v o.net o.sites = c.in_ok-draws.ensures ∙ ap (λ ds. draws_at p v o.net ds) c.as_slice-sites.ensures in
    other_shown p (placed_view c.args.invariants.now) o c.requires.promised N c.args.at b v c.in_ok-draws.draws c.failed.result c.requires.before c.requires.within at (c.requires.on b at) drawn c.failed.ensures
