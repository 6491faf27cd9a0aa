use Rattle.std.proofs.Common.{ap, ◌∙◌}
use Rattle.std.specs.Option.{option_map}
use Rattle.c_core.specs.TreeView.{function_view}
use Rattle.sym_weight.specs.Table.{params_of}
use Rattle.sym_weight.proofs.Viewed.{functions_found}
use Rattle.sym_weight.proofs.expressions.params_of.Goals as goal

pub returns-in-Some : goal.returns-in-Some
returns-in-Some c =
    c.as_slice.ensures ∙ ap (λ o. params_of (option_map function_view o)) c.in-Some.ensures.item
    ∙ ap params_of (functions_found c.args.program.now.functions c.args.function)

pub returns-in-None : goal.returns-in-None
returns-in-None c =
    ap (λ o. params_of (option_map function_view o)) c.in-None.ensures.item
    ∙ ap params_of (functions_found c.args.program.now.functions c.args.function)
