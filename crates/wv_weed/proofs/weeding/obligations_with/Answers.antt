use Rattle.std.proofs.Common.{rules, sym, subst, ◌≡◌, Err}
use Rattle.std.specs.List.{All}
use Rattle.c_core.specs.View.{program_view}
use Rattle.c_meaning.specs.Placing.{IsInvariant, placed_view}
use Rattle.sym_duties.specs.Answers.{names_of}
use Rattle.wv_weed.specs.Rounds.{AnswersWith}
use Rattle.wv_weed.proofs.Ended.{faulted, could}
use Rattle.wv_weed.proofs.weeding.obligations_with.Goals as goal

pub obligations-requires : goal.obligations-requires
obligations-requires c =
    let p = program_view c.args.program.now in
    subst (All (IsInvariant p)) (sym c.in_ok-copies.ensures)
    (c.parts_stay_invariants.ensures p (placed_view c.args.invariants.now) c.args.left.now c.requires.invariants)

pub returns-in_err-all : goal.returns-in_err-all
returns-in_err-all c =
    let p = program_view c.args.program.now in
    let I = placed_view c.args.invariants.now in
    let names = names_of c.args.program.now.functions in
    let e : c.from_residual-in_err-all.result ≡ Err c.in_err-all.field-0.0 = search rules in
    subst (AnswersWith p names I c.args.left.now) (sym e)
    (faulted p names I (placed_view c.in_ok-copies.copies) c.args.left.now c.in_err-all.field-0.0 c.in_ok-copies.ensures
    c.in_err-all.ensures)

pub returns : goal.returns
returns c =
    could (program_view c.args.program.now) (placed_view c.args.invariants.now) (placed_view c.in_ok-copies.copies)
    c.args.left.now c.in_ok-all.all c.in_ok-copies.ensures c.in_ok-all.ensures
