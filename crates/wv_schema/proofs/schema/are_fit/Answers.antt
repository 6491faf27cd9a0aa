use Rattle.wv_schema.proofs.Entries.{empty_is_unfit, mixed_is_unfit, fit_unless_two}
use Rattle.wv_schema.proofs.schema.are_fit.Goals as goal

pub returns-then-is_empty : goal.returns-then-is_empty
returns-then-is_empty c = empty_is_unfit c.args.entries.now c.if-is_empty.ensures

pub returns-then-are_of_both_types : goal.returns-then-are_of_both_types
returns-then-are_of_both_types c = mixed_is_unfit c.args.entries.now c.if-is_empty.ensures c.if-are_of_both_types.ensures

pub returns : goal.returns
returns c = fit_unless_two c.args.entries.now _ c.if-is_empty.ensures c.if-are_of_both_types.ensures c.has_two.ensures
