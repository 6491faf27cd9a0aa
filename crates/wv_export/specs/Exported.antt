-- What other checkers read for one obligation.
use Rattle.std.specs.Prelude.{◌≡◌, ℕ, List, ℤ, length}
use Rattle.circuits.specs.declared.net.Bit.{Bit}
use Rattle.circuits.specs.declared.net.NetNode.{NetNode}
use Rattle.clauses.specs.Tseitin.{ClausesOf}
use Rattle.clauses.specs.declared.log.Refutation.{Refutation}
use Rattle.wv_export.specs.Dimacs.{dimacs_text}
use Rattle.wv_export.specs.Lrat.{lrat_text}
use Rattle.wv_export.specs.declared.exporting.Exported.{Exported}

-- the clauses of a failing bit, and a log over them, as texts
pub record IsExport (net : List NetNode) (b : Bit) (log : Refutation) (e : Exported) : Type 0 where
  pub variables : ℕ
  pub clauses : List (List ℤ)
  pub are : ClausesOf net b variables clauses
  pub dimacs : e.dimacs.items ≡ dimacs_text variables clauses
  pub lrat : e.lrat.items ≡ lrat_text (length clauses) log.chains
