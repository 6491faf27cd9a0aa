use Rattle.std.proofs.Common.{rules, ◌≡◌, ℕ, List, ◌∷◌, ◌++◌, ap, ◌∙◌, codes}
use Rattle.std.specs.Option.{option_or}
use Rattle.wv_yaml.specs.declared.tree.Pair.{Pair}
use Rattle.wv_schema.specs.Table.{AText, OneOf, invariant_types, needs, in_map, location_fields, expression_fields, invariant_fields}
use Rattle.wv_schema.specs.Judging.{row_fault, first_fault}
use Rattle.wv_schema.specs.Values.{constraint_in, invariant_in}
use Rattle.wv_schema.proofs.Chains.{stops, later, both}
use Rattle.wv_schema.proofs.FieldChains.{invariant_chain}
use Rattle.wv_schema.proofs.claim.invariant_fields_of.Goals as goal

pub returns-in_err-word : goal.returns-in_err-word
returns-in_err-word c = rw (invariant_chain c.args.at.now c.args.pairs.now) (search (rules, later, stops))

pub returns-in_err-location : goal.returns-in_err-location
returns-in_err-location c = rw (invariant_chain c.args.at.now c.args.pairs.now) (search (rules, later, stops))

pub returns-in_err-expression : goal.returns-in_err-expression
returns-in_err-expression c = rw (invariant_chain c.args.at.now c.args.pairs.now) (search (rules, later, stops))

pub returns : goal.returns
unfolding constraint_in invariant_in
returns c = rw (invariant_chain c.args.at.now c.args.pairs.now) (search (rules, both))
