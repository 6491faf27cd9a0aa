use Rattle.std.proofs.Common.{rules, ◌≡◌, ◌∙◌, refl, get_or, pos, FitsSigned, w32, sym, arith}
use Rattle.clauses.proofs.Loops.{blank_next, is_zero, All-whole}
use Rattle.clauses.proofs.table.are_blank.Goals as goal
use Rattle.clauses.proofs.table.are_blank.Goals.{in-Some+else-number-ne0, in_default}

pub loop-variable-preserved : goal.loop-variable-preserved
loop-variable-preserved c =
    let number = get_or c.args.variables.now c.loop-variable.variable-index 0 in
    let here : get_or c.args.cells.now number (pos 0) ≡ pos 0 =
    elim c.match-get.branch [
      | in-Some+else-number-ne0 w ↦
          let f : FitsSigned w32 w.in-Some.number.now = search rules in
          let e = w.in-Some.ensures.lookup in
          sym (e.4 (omega arith) (pos 0)) ∙ is_zero _ f w.if-number-ne0.false
      | in_default w ↦ let e = w.in_default.ensures.lookup in sym (e.4 (omega arith) (pos 0))
    ]
    in blank_next _ _ _ c.loop-variable-test.true here c.loop-variable.invariant

pub returns : goal.returns
returns c = (λ _. All-whole (λ n. get_or c.args.cells.now n (pos 0) ≡ pos 0) _ _ c.loop-variable-test.false c.loop-variable.invariant, λ _. refl)
