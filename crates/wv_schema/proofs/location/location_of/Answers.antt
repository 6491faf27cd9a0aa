use Rattle.std.proofs.Common.{rules, codes}
use Rattle.wv_schema.specs.Table.{location_fields}
use Rattle.wv_schema.specs.Values.{location_in}
use Rattle.wv_schema.proofs.Chains.{inside_stops, given_inside}
use Rattle.wv_schema.proofs.location.location_of.Goals as goal

pub returns-in_err-inside : goal.returns-in_err-inside
returns-in_err-inside c = search (rules, inside_stops)

pub returns : goal.returns
returns c =
    given_inside c.location_fields_of.result location_in c.args.at.now (codes "location") _ c.args.pairs.now _ (λ qs. location_fields)
    c.in_ok-place.ensures c.in_ok-inside.ensures.field.0 c.in_ok-inside.ensures.there (rw (← c.as_str.ensures.value) c.location_fields_of.ensures)
