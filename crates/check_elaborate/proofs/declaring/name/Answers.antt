use Rattle.std.proofs.Common.{◌≡◌, ◌++◌, ◌∷◌, [], false, append_assoc, ap, ◌∙◌}
use Rattle.c_parser.specs.SourceView.{declared_view}
use Rattle.c_parser.specs.Tree.{exps}
use Rattle.check_rules.specs.Parts.{Declaring, parts_of, parts_of_init}
use Rattle.check_rules.specs.Scopes.{Scope, seen, after_name}
use Rattle.check_elaborate.specs.Walks.{scope_at, items_in, bodies_in, found_at, with_parts, declarator}
use Rattle.check_elaborate.proofs.FoundLaws.{found_then}
use Rattle.check_elaborate.proofs.declaring.name.Goals as goal

pub returns-clause-noted : goal.returns-clause-noted
returns-clause-noted c =
    let m = c.args.context.now.model in
    let items = items_in c.args.context.now in
    let s = scope_at c.args.walk.now in
    let d = declared_view c.args.d.now in
    let behind = after_name m (bodies_in c.args.context.now) false s d in
    found_then m items (found_at c.args.walk.now) (found_at c.declare.new.walk) _
    (declarator false s d) (λ (x : Scope). parts_of_init false x d.init) behind (scope_at c.declare.new.walk)
    c.in_ok-declared.ensures.noted c.in_ok-declared.ensures.scope c.in_ok-init.ensures.noted
    ∙ ap (with_parts m items (found_at c.args.walk.now)) (append_assoc (parts_of (seen s) (exps d.sizes)) (Declaring false s d ∷ []) (parts_of_init false behind d.init))
