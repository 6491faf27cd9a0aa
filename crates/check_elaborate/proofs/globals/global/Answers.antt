use Rattle.std.proofs.Common.{◌≡◌, ◌++◌, ◌∷◌, [], ℕ, List, length, true, append_assoc, ap, ◌∙◌}
use Rattle.c_parser.specs.SourceView.{declared_view}
use Rattle.c_parser.specs.Tree.{exps}
use Rattle.check_rules.specs.declared.sizes.Sizes.{Sizes}
use Rattle.check_rules.specs.Checked.{filled_for, start_of_init}
use Rattle.check_rules.specs.Parts.{Declaring, parts_of, parts_of_init}
use Rattle.check_rules.specs.Scopes.{Scope, seen, after_name}
use Rattle.check_elaborate.specs.Walks.{scope_at, items_in, bodies_in, found_at, with_parts, declarator}
use Rattle.check_elaborate.proofs.FoundLaws.{found_then}
use Rattle.check_elaborate.proofs.globals.global.Goals as goal

pub returns-clause-starts : goal.returns-clause-starts
returns-clause-starts c =
    let m = c.args.context.now.model in
    let bodies = bodies_in c.args.context.now in
    let d = declared_view c.args.d.now in
    c.in_ok-initializer.ensures.starts
    ∙ ap (λ (n : ℕ). c.args.starts.now ++ start_of_init m bodies (seen (scope_at c.declare.new.walk)) n d.ty c.in_ok-declared.declared.filled d.init) c.in_ok-declared.ensures.number
    ∙ ap (λ (z : Sizes). c.args.starts.now ++ start_of_init m bodies (seen (scope_at c.declare.new.walk)) (length c.args.walk.now.objects) d.ty z d.init) c.in_ok-declared.ensures.filled
    ∙ ap (λ (x : Scope). c.args.starts.now ++ start_of_init m bodies (seen x) (length c.args.walk.now.objects) d.ty (filled_for m bodies (scope_at c.args.walk.now) d) d.init) c.in_ok-declared.ensures.scope

pub returns-clause-noted : goal.returns-clause-noted
returns-clause-noted c =
    let m = c.args.context.now.model in
    let items = items_in c.args.context.now in
    let s = scope_at c.args.walk.now in
    let d = declared_view c.args.d.now in
    let behind = after_name m (bodies_in c.args.context.now) true s d in
    found_then m items (found_at c.args.walk.now) (found_at c.declare.new.walk) _
    (declarator true s d) (λ (x : Scope). parts_of_init true x d.init) behind (scope_at c.declare.new.walk)
    c.in_ok-declared.ensures.noted c.in_ok-declared.ensures.scope c.in_ok-initializer.ensures.noted
    ∙ ap (with_parts m items (found_at c.args.walk.now)) (append_assoc (parts_of (seen s) (exps d.sizes)) (Declaring true s d ∷ []) (parts_of_init true behind d.init))
