use Rattle.std.proofs.Common.{rules, Err, ◌≡◌, ◌++◌, ◌∷◌, [], ℕ, Bool, List, length, map, Option, refl, ap, sym, ◌∙◌}
use Rattle.c_core.specs.Tree as typ
use Rattle.c_core.specs.declared.number.IntType.{IntType}
use Rattle.c_parser.specs.Tree as raw
use Rattle.c_parser.specs.SourceView.{param_view, stmt_view}
use Rattle.check_rules.specs.declared.fault.Refusal.{Refusal}
use Rattle.check_rules.specs.Checked.{typed_block, numbers_from}
use Rattle.check_rules.specs.Kept.{kept_of_parts}
use Rattle.check_rules.specs.Noting.{noted_part, noted_parts}
use Rattle.check_rules.specs.Parts.{Part, Naming, parts_of_block, parts_of_item, parts_of_labels, parts_of_parameters, labels_of, in_body}
use Rattle.check_rules.specs.Scopes.{Scope, seen, opened, closed, with_entry, after_block, after_parameters, inside, statements_of, entry_of_function}
use Rattle.check_elaborate.specs.Items.{kept_views}
use Rattle.check_elaborate.specs.Walks.{Found, scope_at, items_in, bodies_in}
use Rattle.check_elaborate.proofs.FailingLaws.{fails}
use Rattle.check_elaborate.proofs.NotedLaws.{noted_then, noted_within}
use Rattle.check_elaborate.proofs.ParameterLaws.{kept_by_parameters}
use Rattle.check_elaborate.proofs.ScopeLaws.{kept_by_block, closes, stands_outside}
use Rattle.check_elaborate.proofs.functions.function.Goals as goal

abbrev made : Option IntType → List ℕ → typ.Stm → typ.Function
made result ns body = record { result = result; params = ns; body = body }

same_function : (result : Option IntType) (ns ks : List ℕ) (a b : typ.Stm) → ns ≡ ks → a ≡ b
    → made result ns a ≡ made result ks b
same_function result ns ks a b e f = ap (λ (x : List ℕ). made result x a) e ∙ ap (made result ks) f

pub close-requires : goal.close-requires
close-requires c =
    let m = c.args.context.now.model in
    let bodies = bodies_in c.args.context.now in
    let s = scope_at c.args.walk.now in
    let xs = map param_view c.args.xs.now in
    let b = statements_of (stmt_view c.args.body.now) in
    let within = inside s c.args.name.now c.args.gives xs in
    let declared = with_entry s (entry_of_function c.args.name.now c.args.gives xs) in
    let u1 : scope_at c.open-outside.new.self ≡ within = c.open-outside.ensures.scope ∙ ap opened c.in_ok-declare.ensures.scope in
    let u2 : scope_at c.parameters.new.walk ≡ after_parameters within xs = c.in_ok-params.ensures.scope ∙ ap (λ (y : Scope). after_parameters y xs) u1 in
    let u3 : scope_at c.body_of.new.walk ≡ after_block m bodies (after_parameters within xs) b =
    c.in_ok-inner.ensures.scope ∙ ap (λ (y : Scope). after_block m bodies y b) u2 in
    stands_outside declared (after_block m bodies (after_parameters within xs) b) (scope_at c.body_of.new.walk) c.open-outside.result
    (c.open-outside.ensures.outside ∙ ap (λ (y : Scope). length y.outer) c.in_ok-declare.ensures.scope) u3
    (kept_by_block m bodies (after_parameters within xs) b ∙ kept_by_parameters within xs)

pub returns-clause-typed : goal.returns-clause-typed
returns-clause-typed c =
    let m = c.args.context.now.model in
    let bodies = bodies_in c.args.context.now in
    let s = scope_at c.args.walk.now in
    let p = c.args.body.now.spot in
    let xs = map param_view c.args.xs.now in
    let b = statements_of (stmt_view c.args.body.now) in
    let within = inside s c.args.name.now c.args.gives xs in
    let u1 : scope_at c.open-outside.new.self ≡ within = c.open-outside.ensures.scope ∙ ap opened c.in_ok-declare.ensures.scope in
    let u2 : scope_at c.parameters.new.walk ≡ after_parameters within xs = c.in_ok-params.ensures.scope ∙ ap (λ (y : Scope). after_parameters y xs) u1 in
    same_function c.args.gives _ _ _ _
    (c.in_ok-params.ensures.numbers ∙ ap (λ (y : Scope). numbers_from m bodies (length y.objects) xs) u1)
    (ap (typ.Stmt p) (c.block_of.ensures ∙ ap typ.Block (c.in_ok-inner.ensures.typed ∙ ap (λ (y : Scope). typed_block m bodies y b) u2)))

pub returns-clause-scope : goal.returns-clause-scope
returns-clause-scope c =
    let m = c.args.context.now.model in
    let bodies = bodies_in c.args.context.now in
    let s = scope_at c.args.walk.now in
    let xs = map param_view c.args.xs.now in
    let b = statements_of (stmt_view c.args.body.now) in
    let within = inside s c.args.name.now c.args.gives xs in
    let declared = with_entry s (entry_of_function c.args.name.now c.args.gives xs) in
    let u1 : scope_at c.open-outside.new.self ≡ within = c.open-outside.ensures.scope ∙ ap opened c.in_ok-declare.ensures.scope in
    let u2 : scope_at c.parameters.new.walk ≡ after_parameters within xs = c.in_ok-params.ensures.scope ∙ ap (λ (y : Scope). after_parameters y xs) u1 in
    let u3 : scope_at c.body_of.new.walk ≡ after_block m bodies (after_parameters within xs) b =
    c.in_ok-inner.ensures.scope ∙ ap (λ (y : Scope). after_block m bodies y b) u2 in
    c.in_ok-note_labels.ensures.scope
    ∙ closes declared (after_block m bodies (after_parameters within xs) b) (scope_at c.body_of.new.walk) (scope_at c.close.new.self) c.open-outside.result
    (c.open-outside.ensures.outside ∙ ap (λ (y : Scope). length y.outer) c.in_ok-declare.ensures.scope) u3
    (kept_by_block m bodies (after_parameters within xs) b ∙ kept_by_parameters within xs) c.close.ensures.scope

pub returns-clause-noted : goal.returns-clause-noted
returns-clause-noted c =
    let m = c.args.context.now.model in
    let items = items_in c.args.context.now in
    let bodies = bodies_in c.args.context.now in
    let s = scope_at c.args.walk.now in
    let xs = map param_view c.args.xs.now in
    let body = stmt_view c.args.body.now in
    let within = inside s c.args.name.now c.args.gives xs in
    let n1 = scope_at c.open-outside.new.self in
    let n2 = scope_at c.parameters.new.walk in
    let u1 : n1 ≡ within = c.open-outside.ensures.scope ∙ ap opened c.in_ok-declare.ensures.scope in
    let pp : Scope → List Part = λ y. parts_of_parameters y xs in
    let pb : Scope → List Part = λ y. parts_of_block m bodies c.args.gives in_body y (statements_of body) in
    let pl = parts_of_labels [] (labels_of body) in
    let all : Scope → List Part = λ y. pp y ++ pb (after_parameters y xs) ++ pl in
    let opened_best = c.open-outside.new.self.best in
    let last = c.note_labels.new.walk.best in
    let two = noted_then m items opened_best c.parameters.new.walk.best c.body_of.new.walk.best (pp n1) pb (after_parameters n1 xs) n2
    c.in_ok-params.ensures.noted c.in_ok-params.ensures.scope c.in_ok-inner.ensures.noted in
    noted_within m items c.declare.new.walk.best opened_best last last all within n1 (ap (λ (y : Found). y.best) c.open-outside.ensures.found) u1
    (noted_then m items opened_best c.body_of.new.walk.best last (pp n1 ++ pb (after_parameters n1 xs)) (λ (y : Scope). pl) n2 n2 two refl
    (c.in_ok-note_labels.ensures.noted ∙ ap (λ (y : Found). noted_parts m items y.best pl) c.close.ensures.found))
    refl
    ∙ ap (λ (b : Option Refusal). noted_parts m items b (all within)) c.in_ok-declare.ensures.noted

-- ---- no room

pub returns-in_err-declare-clause-noted : goal.returns-in_err-declare-clause-noted
returns-in_err-declare-clause-noted c =
    let f = raw.Function c.args.spot c.args.name.now c.args.gives (map param_view c.args.xs.now) (stmt_view c.args.body.now) in
    let e : c.from_residual.result ≡ Err c.in_err-declare.field-0.0 = search rules in
    fails (c.declare.new.walk.best ≡ noted_parts c.args.context.now.model (items_in c.args.context.now) c.args.walk.now.best (parts_of_item c.args.context.now.model (bodies_in c.args.context.now) (scope_at c.args.walk.now) f))
    c.from_residual.result _ e

pub returns-in_err-params-clause-noted : goal.returns-in_err-params-clause-noted
returns-in_err-params-clause-noted c =
    let f = raw.Function c.args.spot c.args.name.now c.args.gives (map param_view c.args.xs.now) (stmt_view c.args.body.now) in
    let e : c.from_residual-in_err-params.result ≡ Err c.in_err-params.field-0.0 = search rules in
    fails (c.parameters.new.walk.best ≡ noted_parts c.args.context.now.model (items_in c.args.context.now) c.args.walk.now.best (parts_of_item c.args.context.now.model (bodies_in c.args.context.now) (scope_at c.args.walk.now) f))
    c.from_residual-in_err-params.result _ e

pub returns-in_err-inner-clause-noted : goal.returns-in_err-inner-clause-noted
returns-in_err-inner-clause-noted c =
    let f = raw.Function c.args.spot c.args.name.now c.args.gives (map param_view c.args.xs.now) (stmt_view c.args.body.now) in
    let e : c.from_residual-in_err-inner.result ≡ Err c.in_err-inner.field-0.0 = search rules in
    fails (c.body_of.new.walk.best ≡ noted_parts c.args.context.now.model (items_in c.args.context.now) c.args.walk.now.best (parts_of_item c.args.context.now.model (bodies_in c.args.context.now) (scope_at c.args.walk.now) f))
    c.from_residual-in_err-inner.result _ e

-- ---- what is kept

pub returns-clause-kept : goal.returns-clause-kept
returns-clause-kept c =
    let m = c.args.context.now.model in
    let bodies = bodies_in c.args.context.now in
    let s = scope_at c.args.walk.now in
    let xs = map param_view c.args.xs.now in
    let b = statements_of (stmt_view c.args.body.now) in
    let within = inside s c.args.name.now c.args.gives xs in
    let u1 : scope_at c.open-outside.new.self ≡ within = c.open-outside.ensures.scope ∙ ap opened c.in_ok-declare.ensures.scope in
    let u2 : scope_at c.parameters.new.walk ≡ after_parameters within xs = c.in_ok-params.ensures.scope ∙ ap (λ (y : Scope). after_parameters y xs) u1 in
    c.in_ok-inner.ensures.kept ∙ ap (λ (y : Scope). kept_of_parts m bodies (parts_of_block m bodies c.args.gives in_body y b)) u2

pub returns-clause-outside : goal.returns-clause-outside
returns-clause-outside c =
    ap kept_views c.in_ok-note_labels.ensures.kept ∙ ap (λ (y : Found). y.kept) c.close.ensures.found ∙ ap kept_views c.in_ok-inner.ensures.outside
    ∙ c.in_ok-params.ensures.kept ∙ ap (λ (y : Found). y.kept) c.open-outside.ensures.found ∙ ap kept_views c.in_ok-declare.ensures.kept
