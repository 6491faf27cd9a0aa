use Rattle.std.proofs.Common.{◌++◌, ◌∷◌, [], length, ap, ◌∙◌}
use Rattle.c_core.specs.View.{program_view, expr_view}
use Rattle.c_meaning.specs.Meaning.{Used}
use Rattle.flow_code.specs.declared.code.Action.TheVariants.{Return}
use Rattle.flow_code.specs.declared.code.Then.TheVariants.{Push}
use Rattle.flow_code.specs.Preparing.{op, all_closed}
use Rattle.flow_code.specs.Expressions.{code}
use Rattle.flow_code.specs.Statements.{full_of}
use Rattle.flow_code.proofs.Gluing.{behind_it}
use Rattle.flow_code.proofs.statements.give_back.Goals as goal

pub returns : goal.returns
returns c =
    let p = program_view c.args.program.now in
    let old = c.args.ops.now in
    let e = expr_view c.args.e.now in
    let value = c.in_ok-expression.ensures ∙ ap (λ a. old ++ code p a (length old) 0 Used e Push) c.full_of-around.ensures in
    let closed = behind_it old (code p (full_of c.args.at e) (length old) 0 Used e Push) c.expression.new.ops c.close_all.new.ops (all_closed c.args.inside.depth.scopes) value c.in_ok-close_all.ensures in
    behind_it old (code p (full_of c.args.at e) (length old) 0 Used e Push ++ all_closed c.args.inside.depth.scopes) c.close_all.new.ops c.emit.new.ops (op 0 (Return c.args.inside.result) ∷ []) closed c.in_ok-emit.ensures
