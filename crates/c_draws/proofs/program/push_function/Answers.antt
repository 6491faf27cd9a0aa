use Rattle.std.proofs.Common.{◌++◌, ap, sym, ◌∙◌}
use Rattle.std.proofs.lemmas.List.{append-nil}
use Rattle.c_core.specs.View.{program_view}
use Rattle.c_draws.proofs.Drawn.{no_body, body_of}
use Rattle.c_draws.proofs.program.push_function.Goals as goal

pub returns-in-None : goal.returns-in-None
returns-in-None c =
    let p = program_view c.args.program.now in
    let before = c.args.list.now.items in
    sym (append-nil before) ∙ ap (λ l. before ++ l) (no_body p c.args.program.now.functions c.args.function c.in-None.ensures.item)

pub returns-in_ok-push_statement-in-Some : goal.returns-in_ok-push_statement-in-Some
returns-in_ok-push_statement-in-Some c =
    let p = program_view c.args.program.now in
    c.in_ok-push_statement-in-Some.ensures ∙ ap (λ l. c.args.list.now.items ++ l) (body_of p c.args.program.now.functions c.args.function c.in-Some.found.now c.in-Some.ensures.item)
