use Rattle.std.proofs.Common.{◌++◌, ◌∷◌, [], ap, ap₂, sym, ◌∙◌}
use Rattle.run_state.proofs.Starting.{function_at, no_function_at}
use Rattle.flow_code.specs.declared.code.Action.TheVariants.{Call}
use Rattle.flow_code.specs.Preparing.{op}
use Rattle.flow_code.specs.Expressions.{call_of}
use Rattle.flow_code.proofs.calls.call_function.Goals as goal

pub returns-in_ok-emit-in-Some : goal.returns-in_ok-emit-in-Some
returns-in_ok-emit-in-Some c =
    let f = c.args.function in
    let found = function_at c.args.program.now.functions f c.in-Some.found.now (sym c.in-Some.ensures.item) in
    c.in_ok-emit-in-Some.ensures
    ∙ ap₂ (λ k n. c.args.ops.now ++ op k (Call f n c.args.site) ∷ []) (c.in_ok-steps-in-Some.ensures ∙ c.len.ensures) c.in_ok-arguments-in-Some.ensures
    ∙ ap (λ g. c.args.ops.now ++ call_of f c.args.count c.args.site g ∷ []) (sym found)

pub returns-in_ok-emit-in-None : goal.returns-in_ok-emit-in-None
returns-in_ok-emit-in-None c =
    let none = no_function_at c.args.program.now.functions c.args.function (sym c.in-None.ensures.item) in
    c.in_ok-emit-in-None.ensures ∙ ap (λ g. c.args.ops.now ++ call_of c.args.function c.args.count c.args.site g ∷ []) (sym none)
