use Rattle.std.proofs.Common.{rules}
use Rattle.wv_schema.specs.Judging.{first_fault}
use Rattle.wv_schema.specs.Table.{expression_fields}
use Rattle.wv_schema.specs.Values.{constraint_in}
use Rattle.wv_schema.proofs.Chains.{stops, later, both}
use Rattle.wv_schema.proofs.location.expression_of.Goals as goal

pub returns-in_err-value : goal.returns-in_err-value
unfolding first_fault expression_fields
returns-in_err-value c = search (rules, later, stops)

pub returns-in_err-format : goal.returns-in_err-format
unfolding first_fault expression_fields
returns-in_err-format c = search (rules, later, stops)

pub returns : goal.returns
unfolding first_fault expression_fields constraint_in
returns c = search (rules, both)
