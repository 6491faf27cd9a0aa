use Rattle.std.proofs.Common.{rules, codes}
use Rattle.wv_schema.specs.Table.{expression_fields}
use Rattle.wv_schema.specs.Values.{constraint_in}
use Rattle.wv_schema.proofs.Chains.{inside_stops, given_inside}
use Rattle.wv_schema.proofs.location.needed_expression.Goals as goal

pub returns-in_err-inside : goal.returns-in_err-inside
returns-in_err-inside c = search (rules, inside_stops)

pub returns : goal.returns
returns c =
    given_inside c.expression_of.result constraint_in c.args.at.now (codes "constraint") _ c.args.pairs.now _ (λ qs. expression_fields)
    c.in_ok-place.ensures c.in_ok-inside.ensures.field.0 c.in_ok-inside.ensures.there (rw (← c.as_str.ensures.value) c.expression_of.ensures)
