use Rattle.std.proofs.Common.{rules, ◌≡◌, ◌∙◌, Some, None, codes, option_map, refl, sym, ap}
use Rattle.wv_schema.specs.Paths.{map_of}
use Rattle.wv_schema.specs.Values.{constraint_in}
use Rattle.wv_schema.proofs.Chains.{inside_if_stops, inside_none, inside_if_later, inside_if_met}
use Rattle.wv_schema.proofs.location.optional_expression.Goals as goal

pub returns-in_err-optional_map : goal.returns-in_err-optional_map
returns-in_err-optional_map c = search (rules, inside_if_stops)

pub returns-in_err-expression-in-Some : goal.returns-in_err-expression-in-Some
returns-in_err-expression-in-Some c = search (rules, inside_if_later)

pub returns-in-None : goal.returns-in-None
returns-in-None c =
    let e : map_of (codes "constraint") c.args.pairs.now ≡ None = search rules in
    (inside_none _ _ _ _ c.in_ok-optional_map.ensures.0 e, ap (option_map constraint_in) (sym e))

pub returns-in_ok-expression-in-Some : goal.returns-in_ok-expression-in-Some
returns-in_ok-expression-in-Some c = search (rules, inside_if_met)
