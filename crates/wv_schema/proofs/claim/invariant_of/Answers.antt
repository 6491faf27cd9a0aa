use Rattle.std.proofs.Common.{rules, codes}
use Rattle.wv_schema.specs.Table.{invariant_fields}
use Rattle.wv_schema.specs.Judging.{first_fault}
use Rattle.wv_schema.specs.Values.{invariant_in}
use Rattle.wv_schema.proofs.Chains.{inside_stops, given_inside}
use Rattle.wv_schema.proofs.claim.invariant_of.Goals as goal

pub returns-in_err-inside : goal.returns-in_err-inside
unfolding first_fault invariant_in
returns-in_err-inside c = search (rules, inside_stops)

pub returns : goal.returns
returns c =
    given_inside c.invariant_fields_of.result invariant_in c.args.at.now (codes "invariant") _ c.args.pairs.now _ (λ qs. invariant_fields)
    c.in_ok-place.ensures c.in_ok-inside.ensures.field.0 c.in_ok-inside.ensures.there (rw (← c.as_str.ensures.value) c.invariant_fields_of.ensures)
