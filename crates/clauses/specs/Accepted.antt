-- Logs for the failing bits of a net.
use Rattle.std.specs.Prelude.{◌≡◌, ℕ, ◌<◌, List, ℤ, length, slice_get, Some}
use Rattle.circuits.specs.declared.net.Bit.{Bit}
use Rattle.circuits.specs.declared.net.NetNode.{NetNode}
use Rattle.clauses.specs.Log.{Refutes}
use Rattle.clauses.specs.Tseitin.{ClausesOf}
use Rattle.clauses.specs.declared.log.Refutation.{Refutation}

-- the log refutes the clauses of the bit
pub record RefutesBit (net : List NetNode) (b : Bit) (log : Refutation) : Type 0 where
  pub variables : ℕ
  pub clauses : List (List ℤ)
  pub are : ClausesOf net b variables clauses
  pub refuted : Refutes clauses log.chains

-- each of the first n logs refutes the clauses of its bit
abbrev pub AreRefuted : List NetNode → List Bit → List Refutation → ℕ → Type 0
AreRefuted net failing logs n = (i : ℕ) (b : Bit) (log : Refutation) → i < n → slice_get failing i ≡ Some b → slice_get logs i ≡ Some log → RefutesBit net b log

-- as many logs as failing bits, and each refutes the clauses of its bit
pub record Accepted (net : List NetNode) (failing : List Bit) (logs : List Refutation) : Type 0 where
  pub many : length logs ≡ length failing
  pub each : AreRefuted net failing logs (length failing)
