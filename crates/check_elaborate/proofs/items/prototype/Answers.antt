use Rattle.std.proofs.Common.{◌≡◌, ℕ, List, false, Option, ap, ◌∙◌}
use Rattle.c_core.specs.declared.number.IntType.{IntType}
use Rattle.check_rules.specs.Names.{entry, Function}
use Rattle.check_rules.specs.Noting.{noted_part}
use Rattle.check_rules.specs.Parts.{Naming}
use Rattle.check_rules.specs.Scopes.{with_entry, stated_by}
use Rattle.check_scope.specs.Kinds.{types_stated}
use Rattle.check_elaborate.specs.Walks.{scope_at, items_in}
use Rattle.check_elaborate.proofs.items.prototype.Goals as goal

pub returns-clause-scope : goal.returns-clause-scope
returns-clause-scope c =
    let s = scope_at c.args.walk.now in
    let e : types_stated c.stated_by-stated.result ≡ stated_by c.args.name.now c.args.types.now =
    c.stated_by-stated.ensures ∙ ap (λ (x : List ℕ). stated_by x c.args.types.now) c.as_str.ensures in
    c.in_ok-declare.ensures.scope ∙ ap (λ (x : Option (List IntType)). with_entry s (entry c.args.name.now (Function c.args.gives x false))) e

pub returns-clause-noted : goal.returns-clause-noted
returns-clause-noted c =
    let s = scope_at c.args.walk.now in
    let e : types_stated c.stated_by-stated.result ≡ stated_by c.args.name.now c.args.types.now =
    c.stated_by-stated.ensures ∙ ap (λ (x : List ℕ). stated_by x c.args.types.now) c.as_str.ensures in
    c.in_ok-declare.ensures.noted
    ∙ ap (λ (x : Option (List IntType)). noted_part c.args.context.now.model (items_in c.args.context.now) c.args.walk.now.best (Naming s (entry c.args.name.now (Function c.args.gives x false)) c.args.spot)) e
