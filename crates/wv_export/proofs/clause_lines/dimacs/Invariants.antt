use Rattle.std.proofs.Common.{◌≡◌, ◌++◌, drop, string_bytes}
use Rattle.std.specs.List.{flat_map}
use Rattle.wv_export.specs.Dimacs.{clause_line, dimacs_text}
use Rattle.wv_export.proofs.clause_lines.dimacs.Given as goal

abbrev pub invariant-loop-clause : goal.invariant-loop-clause
invariant-loop-clause l = string_bytes l.out ++ flat_map clause_line (drop l.clause-index l.clause-items) ≡ dimacs_text l.cnf.variables l.cnf.clauses
