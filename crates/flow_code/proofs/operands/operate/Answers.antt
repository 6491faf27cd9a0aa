use Rattle.std.proofs.Common.{◌++◌, ◌∷◌, [], ap, ap₂, ◌∙◌}
use Rattle.c_core.specs.Operators.{right_type_for}
use Rattle.flow_code.specs.declared.code.Action.TheVariants.{Operate}
use Rattle.flow_code.specs.Preparing.{op}
use Rattle.flow_code.specs.Words.{word_of}
use Rattle.flow_code.proofs.operands.operate.Goals as goal

pub returns : goal.returns
returns c =
    let m = c.args.program.now.model in
    let ty = c.type_for-ty.ensures.value in
    let count = c.right_type_for-count_type.ensures ∙ ap (λ t. right_type_for c.args.op t c.args.b) ty in
    c.in_ok-emit.ensures
    ∙ ap₂ (λ w u. c.args.ops.now ++ op c.args.pair.steps (Operate c.args.op w u c.args.pair.left c.args.pair.right c.args.from c.args.into) ∷ [])
    (c.word_of-word.ensures ∙ ap (word_of m) ty) (c.word_of-count.ensures ∙ ap (word_of m) count)
