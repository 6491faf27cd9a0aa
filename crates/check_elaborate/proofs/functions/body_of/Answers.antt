use Rattle.std.proofs.Common.{◌≡◌, ◌++◌, [], Bool, List, map, Option, ap, ◌∙◌}
use Rattle.check_sequencing.specs.declared.kept.Kept.{Kept}
use Rattle.c_parser.specs.SourceView.{stmt_view}
use Rattle.c_parser.specs.Tree.{stms}
use Rattle.check_rules.specs.declared.fault.Refusal.{Refusal}
use Rattle.check_rules.specs.Checked.{typed_block}
use Rattle.check_rules.specs.Kept.{kept_of_parts}
use Rattle.check_rules.specs.Noting.{noted_parts}
use Rattle.check_rules.specs.Parts.{Part, parts_of_block, in_body}
use Rattle.check_rules.specs.Scopes.{Scope, after_block, statements_of}
use Rattle.check_elaborate.specs.Items.{kept_views}
use Rattle.check_elaborate.specs.Walks.{Found, scope_at, items_in, bodies_in}
use Rattle.check_elaborate.proofs.functions.body_of.Goals as goal

pub returns-clause-typed : goal.returns-clause-typed
returns-clause-typed c =
    let m = c.args.context.now.model in
    let bodies = bodies_in c.args.context.now in
    c.in_ok-statements.ensures.typed
    ∙ ap (typed_block m bodies (scope_at c.set_kept-outside.new.self)) c.statements_in.ensures
    ∙ ap (λ (y : Scope). typed_block m bodies y (statements_of (stmt_view c.args.body.now))) c.set_kept-outside.ensures.scope

pub returns-clause-scope : goal.returns-clause-scope
returns-clause-scope c =
    let m = c.args.context.now.model in
    let bodies = bodies_in c.args.context.now in
    c.set_kept-kept.ensures.scope ∙ c.in_ok-statements.ensures.scope
    ∙ ap (after_block m bodies (scope_at c.set_kept-outside.new.self)) c.statements_in.ensures
    ∙ ap (λ (y : Scope). after_block m bodies y (statements_of (stmt_view c.args.body.now))) c.set_kept-outside.ensures.scope

pub returns-clause-noted : goal.returns-clause-noted
returns-clause-noted c =
    let m = c.args.context.now.model in
    let items = items_in c.args.context.now in
    let bodies = bodies_in c.args.context.now in
    let b = statements_of (stmt_view c.args.body.now) in
    let t = scope_at c.set_kept-outside.new.self in
    let old = c.set_kept-outside.new.self.best in
    c.set_kept-kept.ensures.best
    ∙ ap (λ (y : Found). y.best) c.in_ok-statements.ensures.noted
    ∙ ap (λ y. noted_parts m items old (parts_of_block m bodies c.args.gives in_body t y)) c.statements_in.ensures
    ∙ ap (λ (y : Scope). noted_parts m items old (parts_of_block m bodies c.args.gives in_body y b)) c.set_kept-outside.ensures.scope
    ∙ ap (λ (y : Option Refusal). noted_parts m items y (parts_of_block m bodies c.args.gives in_body (scope_at c.args.walk.now) b)) c.set_kept-outside.ensures.best

pub returns-clause-kept : goal.returns-clause-kept
returns-clause-kept c =
    let m = c.args.context.now.model in
    let bodies = bodies_in c.args.context.now in
    let b = statements_of (stmt_view c.args.body.now) in
    let t = scope_at c.set_kept-outside.new.self in
    ap kept_views c.set_kept-kept.ensures.given
    ∙ ap (λ (y : Found). y.kept) c.in_ok-statements.ensures.noted
    ∙ ap (λ (y : List Kept). kept_views y ++ kept_of_parts m bodies (parts_of_block m bodies c.args.gives in_body t (stms (map stmt_view c.statements_in.result.now))))
    (c.set_kept-outside.ensures.kept ∙ c.new-empty.ensures)
    ∙ ap (λ y. kept_of_parts m bodies (parts_of_block m bodies c.args.gives in_body t y)) c.statements_in.ensures
    ∙ ap (λ (y : Scope). kept_of_parts m bodies (parts_of_block m bodies c.args.gives in_body y b)) c.set_kept-outside.ensures.scope

pub returns-clause-outside : goal.returns-clause-outside
returns-clause-outside c = c.set_kept-kept.ensures.kept ∙ c.set_kept-outside.ensures.given
