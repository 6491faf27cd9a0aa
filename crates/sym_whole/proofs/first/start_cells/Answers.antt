use Rattle.std.proofs.Common.{◌≡◌, ◌+◌, ◌∷◌, [], rules, subst}
use mir.Val.{SFits}
use mir.Syntax.{w128}
use Rattle.std.proofs.lemmas.Int.{to_z-of_z}
use Rattle.c_core.specs.View.{program_view}
use Rattle.c_meaning.specs.Cells.{cells_from}
use Rattle.sym_state.specs.Places.{key}
use Rattle.sym_flow.specs.Ways.{Became}
use Rattle.sym_whole.specs.Starting.{with_more}
use Rattle.sym_whole.proofs.Starts.{none_more, more_then, value_fits, value_next}
use Rattle.sym_whole.proofs.first.start_cells.Goals as goal

pub loop-index-init : goal.loop-index-init
loop-index-init c = none_more (program_view c.args.program.now) c.args.sym.now c.requires.fits

pub start_cell-requires-clause-fits : goal.start_cell-requires-clause-fits
start_cell-requires-clause-fits c = c.loop-index.invariant.fits

pub start_cell-requires-clause-fit : goal.start_cell-requires-clause-fit
start_cell-requires-clause-fit c =
    let z : SFits w128 c.value_at-value.result = search rules in
    let p = program_view c.args.program.now in
    rw (to_z-of_z w128 c.value_at-value.result z, c.value_at-value.ensures) (value_fits p c.args.object c.args.count 0 c.loop-index.index c.args.values.now c.requires.fit c.loop-index-test.true)

pub loop-index-preserved : goal.loop-index-preserved
loop-index-preserved c =
    let z : SFits w128 c.value_at-value.result = search rules in
    let p = program_view c.args.program.now in
    more_then p (cells_from c.args.object 0 c.loop-index.index c.args.values.now) (record { key = key c.args.object c.loop-index.index; value = c.value_at-value.result } ∷ []) (cells_from c.args.object 0 (c.loop-index.index + 1) c.args.values.now)
    (value_next p c.args.object c.loop-index.index c.args.values.now c.value_at-value.result c.value_at-value.ensures) c.loop-index.invariant (rw (to_z-of_z w128 c.value_at-value.result z) at c.in_ok-start_cell.ensures)

pub returns : goal.returns
returns c =
    let end : c.loop-index.index ≡ c.args.count = search rules in
    subst (λ n. Became (program_view c.args.program.now) 0 c.args.sym.now c.loop-index.sym (λ v. with_more (cells_from c.args.object 0 n c.args.values.now))) end c.loop-index.invariant
