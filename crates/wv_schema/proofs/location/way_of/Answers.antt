use Rattle.std.proofs.Common.{rules}
use Rattle.wv_schema.specs.Judging.{first_fault}
use Rattle.wv_schema.specs.Table.{way_fields}
use Rattle.wv_schema.specs.Values.{way_in}
use Rattle.wv_schema.proofs.Chains.{stops, later, both}
use Rattle.wv_schema.proofs.location.way_of.Goals as goal

pub returns-in_err-value : goal.returns-in_err-value
unfolding first_fault way_fields
returns-in_err-value c = search (rules, later, stops)

pub returns : goal.returns
unfolding first_fault way_fields way_in
returns c = search (rules, both)
