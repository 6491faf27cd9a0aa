use Rattle.std.proofs.Common.{◌∙◌, sym, length}
use Rattle.std.proofs.lemmas.Bool.{eqb-true}
use Rattle.yaml_lines.proofs.Places.{some_left}
use Rattle.wv_yaml.proofs.WriteSteps.{longer}
use Rattle.wv_yaml.proofs.writing.is_same.Goals as goal

pub returns-then-is_empty-2 : goal.returns-then-is_empty-2
returns-then-is_empty-2 c =
    sym (longer c.loop-left.left.now c.loop-left.right.now (some_left (length c.loop-left.left.now) (sym c.is_empty.ensures ∙ c.if-is_empty.false))
    (eqb-true (length c.loop-left.right.now) 0 (sym c.is_empty-in-loop-left.ensures ∙ c.if-is_empty-2.true))) ∙ c.loop-left.invariant
