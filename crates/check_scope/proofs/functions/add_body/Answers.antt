use Rattle.std.proofs.Common.{rules, ◌≡◌, is_some, false, ap, sym, ◌∙◌}
use Rattle.std.proofs.lemmas.Map.Text.{btree_map_updates_str}
use Rattle.std.proofs.lemmas.Slice.Eq.{bytes_eq-Decides}
use Rattle.check_scope.specs.Bodies.{body_in}
use Rattle.check_scope.proofs.BodyLaws.{body_put, none_where}
use Rattle.check_scope.proofs.functions.add_body.Goals as goal

pub returns-in_ok-insert : goal.returns-in_ok-insert
returns-in_ok-insert c = λ w.
    let absent : is_some (body_in c.args.bodies.now c.args.name.now) ≡ false = search rules in
    btree_map_updates_str c.args.name.now c.args.bodies.now c.insert.new.self _ c.in_ok-insert.ensures.updates w
    ∙ body_put c.args.name.now w c.args.body (body_in c.args.bodies.now w)
    (λ e. ap (body_in c.args.bodies.now) (sym ((bytes_eq-Decides c.args.name.now w).0 e)) ∙ none_where (body_in c.args.bodies.now c.args.name.now) absent)
