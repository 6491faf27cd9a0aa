use Rattle.std.proofs.Common.{rules}
use Rattle.wv_schema.specs.Judging.{first_fault}
use Rattle.wv_schema.specs.Table.{producer_fields}
use Rattle.wv_schema.specs.Parts.{producer_in}
use Rattle.wv_schema.proofs.Chains.{stops, later, both}
use Rattle.wv_schema.proofs.metadata.producer_fields_of.Goals as goal

pub returns-in_err-name : goal.returns-in_err-name
unfolding first_fault producer_fields
returns-in_err-name c = search (rules, later, stops)

pub returns-in_err-version : goal.returns-in_err-version
unfolding first_fault producer_fields
returns-in_err-version c = search (rules, later, stops)

pub returns : goal.returns
unfolding first_fault producer_fields producer_in
returns c = search (rules, both)
