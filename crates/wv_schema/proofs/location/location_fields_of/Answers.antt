use Rattle.std.proofs.Common.{rules}
use Rattle.wv_schema.specs.Judging.{first_fault}
use Rattle.wv_schema.specs.Table.{location_fields}
use Rattle.wv_schema.specs.Values.{location_in}
use Rattle.wv_schema.proofs.Chains.{stops, later, both}
use Rattle.wv_schema.proofs.location.location_fields_of.Goals as goal

pub returns-in_err-file_name : goal.returns-in_err-file_name
unfolding first_fault location_fields
returns-in_err-file_name c = search (rules, later, stops)

pub returns-in_err-line : goal.returns-in_err-line
unfolding first_fault location_fields
returns-in_err-line c = search (rules, later, stops)

pub returns-in_err-column : goal.returns-in_err-column
unfolding first_fault location_fields
returns-in_err-column c = search (rules, later, stops)

pub returns-in_err-function : goal.returns-in_err-function
unfolding first_fault location_fields
returns-in_err-function c = search (rules, later, stops)

pub returns : goal.returns
unfolding first_fault location_fields location_in
returns c = search (rules, both)
