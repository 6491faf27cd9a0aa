use Rattle.std.proofs.Common.{rules, ◌≡◌, true, false, is_none, is_some, map, refl, ap, sym, ◌∙◌}
use Rattle.c_parser.specs.SourceView.{item_view}
use Rattle.check_rules.specs.Names.{built_in}
use Rattle.check_scope.specs.Bodies.{body_in, first_body, has_name}
use Rattle.check_scope.proofs.BodyLaws.{bodiless, none_is}
use Rattle.check_scope.proofs.functions.Functions.is_bodiless.Goals as goal

pub returns-then-is_none : goal.returns-then-is_none
returns-then-is_none c = λ m.
    let x = c.args.name.now in
    let shut : false ≡ has_name c.args.self.now.closed x = search rules in
    let none : true ≡ is_none (built_in x) = sym c.if-is_none.true ∙ none_is c.built_in.result c.is_none.result c.is_none.ensures ∙ ap is_none c.built_in.ensures in
    let held : c.contains_key-then-is_none.result ≡ is_some (body_in c.args.self.now.bodies x) = search rules in
    bodiless m (map item_view c.args.self.now.items.now) x false true c.contains_key-then-is_none.result
    (shut ∙ c.args.self.now.shut x) none (held ∙ ap is_some (c.args.self.now.found x))

pub returns-else-is_none : goal.returns-else-is_none
returns-else-is_none c = λ m.
    let x = c.args.name.now in
    let items = map item_view c.args.self.now.items.now in
    let shut : false ≡ has_name c.args.self.now.closed x = search rules in
    let none : false ≡ is_none (built_in x) = sym c.if-is_none.false ∙ none_is c.built_in.result c.is_none.result c.is_none.ensures ∙ ap is_none c.built_in.ensures in
    c.if-is_none.false ∙ bodiless m items x false false (is_some (first_body 0 items x)) (shut ∙ c.args.self.now.shut x) none refl
