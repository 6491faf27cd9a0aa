use Rattle.std.proofs.Common.{◌++◌, ◌∷◌, [], ap₂, ◌∙◌}
use Rattle.flow_code.specs.declared.code.Action.TheVariants.{Convert}
use Rattle.flow_code.specs.declared.code.Operand.TheVariants.{Top}
use Rattle.flow_code.specs.Preparing.{op}
use Rattle.flow_code.proofs.choices.convert_top.Goals as goal

pub returns-in_ok-give-in-None : goal.returns-in_ok-give-in-None
returns-in_ok-give-in-None c = rw c.in-None.is c.in_ok-give-in-None.ensures

pub returns-in_ok-emit-in-Some : goal.returns-in_ok-emit-in-Some
returns-in_ok-emit-in-Some c =
    rw c.in-Some.is (c.in_ok-emit-in-Some.ensures ∙ ap₂ (λ t x. c.args.ops.now ++ op 0 (Convert t Top x) ∷ []) c.native-ty.ensures c.only-into.ensures)
