use Rattle.std.proofs.Common.{◌+◌, refl}
use Rattle.std.proofs.lemmas.List.{drop_all}
use Rattle.c_core.specs.View.{program_view, expr_view, exprs_view}
use Rattle.flow_code.specs.Statements.{initials_code, initial_code}
use Rattle.flow_code.proofs.Gluing.{next_item, walk_on, walk_done}
use Rattle.flow_code.proofs.declarations.initials.Goals as goal

pub loop-e-preserved : goal.loop-e-preserved
loop-e-preserved c =
    let p = program_view c.args.program.now in
    let es = c.args.values.now in
    let i = c.loop-e.e-index in
    let x = c.e-item.result in
    let n = c.loop-e.index in
    rw c.in_ok-index.ensures
    (walk_on es i x c.loop-e.ops c.initial.new.ops _ (λ j xs. initials_code p j c.args.at c.args.object n (exprs_view xs)) (λ j xs. initials_code p j c.args.at c.args.object (n + 1) (exprs_view xs))
    (λ j. initial_code p j c.args.at c.args.object n (expr_view x)) (next_item es i x c.loop-e-test.true c.e-item.is) (λ j. refl) c.loop-e.invariant c.in_ok-initial.ensures)

pub returns : goal.returns
returns c =
    walk_done c.args.values.now c.loop-e.e-index c.loop-e.ops _ (λ j xs. initials_code (program_view c.args.program.now) j c.args.at c.args.object c.loop-e.index (exprs_view xs)) (drop_all c.loop-e.e-index c.args.values.now c.loop-e-test.false) refl c.loop-e.invariant
