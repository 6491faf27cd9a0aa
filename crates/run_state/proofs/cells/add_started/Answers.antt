use Rattle.std.proofs.Common.{rules, ◌<◌, ◌++◌, ◌∙◌, length, ap, sym, arith}
use mir.Val.{SFits}
use mir.Syntax.{w128}
use Rattle.std.proofs.lemmas.Int.{to_z-of_z}
use Rattle.run_state.proofs.Taking.{appended, next_cell, length_more}
use Rattle.run_state.proofs.cells.add_started.Goals as goal

pub loop-index-preserved : goal.loop-index-preserved
loop-index-preserved c =
    let z : SFits w128 c.value_at.result = search rules in
    let h = simp to_z-of_z at c.in_ok-add.ensures.ok in
    record {
      cells = appended _ _ _ c.args.object c.loop-index.index c.args.values.now c.loop-index.invariant.cells
          (h ∙ ap (λ ds. c.loop-index.memory.cells ++ ds) (sym (next_cell c.args.object c.loop-index.index c.args.values.now c.value_at.result c.value_at.ensures)));
      kept = omega (arith, c.loop-index.invariant.kept, c.add.ensures.kept);
    }

pub returns-in_err-add-clause-within : goal.returns-in_err-add-clause-within
returns-in_err-add-clause-within c = λ h.
    let n = length_more c.args.memory.now.cells c.loop-index.memory.cells c.args.object c.loop-index.index c.args.values.now c.loop-index.invariant.cells in
    let room : length c.loop-index.memory.cells < c.loop-index.memory.room = omega (arith, h, n, c.loop-index.invariant.kept, c.loop-index-test.true) in
    let no = c.in_err-add.ensures.within room in
    absurd (cc)
