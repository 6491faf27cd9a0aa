use Rattle.std.proofs.Common.{◌++◌, ap, ◌∙◌}
use Rattle.c_core.specs.TreeView.{stmt_view}
use Rattle.c_calls.specs.Uses.{uses_of_statement}
use Rattle.c_calls.proofs.UsesLaws.{no_body, body_of}
use Rattle.c_calls.proofs.search.function_uses.Goals as goal
use Rattle.c_calls.proofs.search.function_uses.Goals.{in-None, in-Some+in_ok-push_statement-in-Some}

pub returns : goal.returns
returns c =
    elim c.match-get.branch [
      | in-None w ↦ ap (λ uses. uses.items) w.uses-is ∙ c.new-uses.ensures.items ∙ no_body c.args.program.now.functions c.args.function w.in-None.ensures.item
      | in-Some+in_ok-push_statement-in-Some w ↦
          ap (λ uses. uses.items) w.uses-is ∙ w.in_ok-push_statement-in-Some.ensures ∙ ap (λ us. us ++ uses_of_statement (stmt_view w.in-Some.function.now.body)) c.new-uses.ensures.items
          ∙ body_of c.args.program.now.functions c.args.function w.in-Some.function.now w.in-Some.ensures.item
    ]
