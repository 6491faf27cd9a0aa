use Rattle.std.proofs.Common.{rules, ◌≡◌, Some, None, map, sym, ◌∙◌}
use Rattle.c_parser.specs.SourceView.{item_view}
use Rattle.check_scope.specs.Bodies.{body_in}
use Rattle.check_scope.proofs.BodyLaws.{number_found, number_absent}
use Rattle.check_scope.proofs.functions.Functions.number.Goals as goal

pub returns-in-Some : goal.returns-in-Some
returns-in-Some c =
    let x = c.args.name.now in
    let got : body_in c.args.self.now.bodies x ≡ Some c.in-Some.body.now = search rules in
    number_found (map item_view c.args.self.now.items.now) x c.in-Some.body.now (sym (c.args.self.now.found x) ∙ got)

pub returns-in-None : goal.returns-in-None
returns-in-None c =
    let x = c.args.name.now in
    let got : body_in c.args.self.now.bodies x ≡ None = search rules in
    c.args.self.now.counted ∙ number_absent (map item_view c.args.self.now.items.now) x (sym (c.args.self.now.found x) ∙ got)
