use Rattle.std.proofs.Common.{◌≡◌, drop, length}
use Rattle.c_calls.specs.Marks.{all_added}
use Rattle.c_calls.proofs.found.add_called.Given as goal

-- with what is left it becomes what the whole gives
abbrev pub invariant-loop-used : goal.invariant-loop-used
invariant-loop-used l = record {
  order : all_added (length l.found.marks.items) l.found.order.items (drop l.used-index l.uses) ≡ all_added (length l.initial.found.marks.items) l.initial.found.order.items l.uses;
  count : length l.found.marks.items ≡ length l.initial.found.marks.items;
}
