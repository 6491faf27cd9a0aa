use Rattle.std.proofs.Common.{◌≡◌, drop}
use Rattle.c_check.proofs.MainLaws.{number_behind}
use Rattle.c_check.proofs.main_function.number_of_main.Given as goal

abbrev pub invariant-loop-function : goal.invariant-loop-function
invariant-loop-function l = (number_behind l.number (drop l.function-index l.functions) ≡ number_behind 0 l.functions)
