use Rattle.std.proofs.Common.{◌++◌, ◌∷◌, [], ap₂, ◌∙◌}
use Rattle.flow_code.specs.declared.code.Action.TheVariants.{Select}
use Rattle.flow_code.specs.Preparing.{op}
use Rattle.flow_code.proofs.switches.select.Goals as goal

pub returns : goal.returns
returns c =
    c.in_ok-emit.ensures ∙ ap₂ (λ t n. c.args.ops.now ++ op 0 (Select c.args.at t n) ∷ []) c.in_ok-cases.ensures c.in_ok-other.ensures
