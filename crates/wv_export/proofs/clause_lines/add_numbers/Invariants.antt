use Rattle.std.proofs.Common.{◌≡◌, ◌++◌, drop, string_bytes}
use Rattle.std.specs.List.{flat_map}
use Rattle.wv_export.specs.Dimacs.{number_text}
use Rattle.wv_export.proofs.clause_lines.add_numbers.Given as goal

abbrev pub invariant-loop-number : goal.invariant-loop-number
invariant-loop-number l = string_bytes l.out ++ flat_map number_text (drop l.number-index l.number-items) ≡ string_bytes l.fn.out ++ flat_map number_text l.number-items
