use Rattle.std.proofs.Common.{rules, ◌≡◌, Some, None, map, sym, ap, ◌∙◌}
use Rattle.std.specs.Option.{option_map}
use Rattle.c_parser.specs.SourceView.{item_view}
use Rattle.check_scope.specs.Bodies.{body_in}
use Rattle.check_scope.proofs.BodyLaws.{defined_is}
use Rattle.check_scope.proofs.functions.Functions.count_defined.Goals as goal

pub returns-in-Some : goal.returns-in-Some
returns-in-Some c =
    let x = c.args.name.now in
    let got : body_in c.args.self.now.bodies x ≡ Some c.in-Some.body.now = search rules in
    sym (defined_is 0 (map item_view c.args.self.now.items.now) x ∙ ap (option_map (λ b. b.parameters)) (sym (c.args.self.now.found x) ∙ got))

pub returns-in-None : goal.returns-in-None
returns-in-None c =
    let x = c.args.name.now in
    let got : body_in c.args.self.now.bodies x ≡ None = search rules in
    sym (defined_is 0 (map item_view c.args.self.now.items.now) x ∙ ap (option_map (λ b. b.parameters)) (sym (c.args.self.now.found x) ∙ got))
