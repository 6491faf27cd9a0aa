use Rattle.std.proofs.Common.{rules, ◌≡◌, ℕ, List, ◌∷◌, ◌++◌, ap, ◌∙◌, codes}
use Rattle.std.specs.Option.{option_or}
use Rattle.wv_yaml.specs.declared.tree.Pair.{Pair}
use Rattle.wv_schema.specs.Table.{AText, AnyText, TwoZero, needs, in_map, producer_fields, task_fields, metadata_fields}
use Rattle.wv_schema.specs.Judging.{row_fault, first_fault}
use Rattle.wv_schema.specs.Parts.{producer_in, task_in}
use Rattle.wv_schema.specs.Values.{metadata_in}
use Rattle.wv_schema.proofs.Chains.{stops, later, both}
use Rattle.wv_schema.proofs.FieldChains.{metadata_chain}
use Rattle.wv_schema.proofs.metadata.metadata_fields_of.Goals as goal

pub returns-in_err-format_version : goal.returns-in_err-format_version
returns-in_err-format_version c = rw (metadata_chain c.args.at.now c.args.pairs.now) (search (rules, later, stops))

pub returns-in_err-uuid : goal.returns-in_err-uuid
returns-in_err-uuid c = rw (metadata_chain c.args.at.now c.args.pairs.now) (search (rules, later, stops))

pub returns-in_err-creation_time : goal.returns-in_err-creation_time
returns-in_err-creation_time c = rw (metadata_chain c.args.at.now c.args.pairs.now) (search (rules, later, stops))

pub returns-in_err-producer : goal.returns-in_err-producer
returns-in_err-producer c = rw (metadata_chain c.args.at.now c.args.pairs.now) (search (rules, later, stops))

pub returns-in_err-task : goal.returns-in_err-task
returns-in_err-task c = rw (metadata_chain c.args.at.now c.args.pairs.now) (search (rules, later, stops))

pub returns : goal.returns
unfolding producer_in task_in metadata_in
returns c = rw (metadata_chain c.args.at.now c.args.pairs.now) (search (rules, both))
