use Rattle.std.proofs.Common.{◌≡◌, drop}
use Rattle.std.specs.List.{list_all}
use Rattle.sym_weight.specs.Reached.{is_wanted}
use Rattle.sym_weight.proofs.reached.are_wanted.Given as goal

-- what is left decides
abbrev pub invariant-loop-function : goal.invariant-loop-function
invariant-loop-function l = (list_all (is_wanted l.marks) (drop l.function-index l.calls) ≡ list_all (is_wanted l.marks) l.calls)
