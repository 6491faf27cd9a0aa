use Rattle.std.proofs.Common.{rules, ◌++◌, ◌∙◌, ap, sym}
use mir.Val.{SFits}
use mir.Syntax.{w128}
use Rattle.std.proofs.lemmas.Int.{to_z-of_z}
use Rattle.run_state.proofs.Taking.{appended, next_cell}
use Rattle.flow_code.specs.declared.code.First.{First}
use Rattle.flow_code.specs.Programs.{cells_of}
use Rattle.flow_code.proofs.Listing.{cells_pushed}
use Rattle.flow_code.proofs.statics.add_started.Goals as goal

pub loop-index-preserved : goal.loop-index-preserved
loop-index-preserved c =
    let first : First = record { object = c.args.object; index = c.loop-index.index; value = c.value_at-value.result } in
    let z : SFits w128 c.value_at-value.result = search rules in
    let pushed = simp to_z-of_z at c.in_ok-push.ensures.ok in
    appended _ _ _ c.args.object c.loop-index.index c.args.values.now c.loop-index.invariant
    (ap cells_of pushed ∙ cells_pushed c.loop-index.cells first
    ∙ ap (λ ds. cells_of c.loop-index.cells ++ ds) (sym (next_cell c.args.object c.loop-index.index c.args.values.now c.value_at-value.result c.value_at-value.ensures)))
