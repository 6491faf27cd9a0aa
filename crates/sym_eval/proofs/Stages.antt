-- Where a walk stands between its parts: what the next part asks of the state, whatever was done before.
use Rattle.std.proofs.Common.{◌≡◌, ℕ, ◌+◌, ◌≤◌, Bool, ◌∙◌, arith, length, List, Option}
use Rattle.c_core.specs.Tree.{Program}
use Rattle.c_core.specs.declared.number.IntType.{IntType}
use Rattle.c_meaning.specs.declared.run.Duty.{Duty}
use Rattle.c_meaning.specs.Acts.{Flow}
use Rattle.c_meaning.specs.Objects.{type_or_int}
use Rattle.sym_state.specs.declared.state.Sym.{Sym}
use Rattle.sym_state.specs.Standing.{Stand, IsState, Turned}
use Rattle.sym_state.specs.Following.{Deed, Follows}
use Rattle.sym_state.proofs.Nets.{longer_by}
use Rattle.sym_flow.specs.Leaving.{Runs}

-- its net has at most so many nodes, in a function of this result
pub record Stage (p : Program) (gives : Option IntType) (most : ℕ) (s : Sym) : Type 0 where
  pub fits : IsState p s
  pub result : s.result ≡ type_or_int gives
  pub few : length s.net ≤ most

module _ (p : Program) (gives : Option IntType) where
  pub stage : (s : Sym) → IsState p s → s.result ≡ type_or_int gives → Stage p gives (length s.net) s
  stage s h e = record { fits = h; result = e; few = omega arith }

  pub stage_follows : {A : Type 0} {i j k : ℕ} {a b : Sym} {ds : List Duty} {S : (ℕ → Bool) → A → Type 0} {m : Deed A} → Stage p gives k a → Follows ds p i j a b S m → Stage p gives (k + (i + j)) b
  stage_follows x y = record { fits = y.fits; result = y.result ∙ x.result; few = omega (arith, x.few, (longer_by y.added).1) }

  pub stage_runs : {i j k : ℕ} {a b : Sym} {ds : List Duty} {m : Deed Flow} → Stage p gives k a → Runs ds p gives i j a b m → Stage p gives (k + (i + j)) b
  stage_runs x y = record { fits = y.fits; result = y.result ∙ x.result; few = omega (arith, x.few, (longer_by y.added).1) }

  pub stage_turned : {i j k : ℕ} {a b : Sym} {f : (ℕ → Bool) → Stand → Stand} → Stage p gives k a → Turned p i j a b f → Stage p gives (k + (i + j)) b
  stage_turned x y = record { fits = y.fits; result = y.result ∙ x.result; few = omega (arith, x.few, (longer_by y.added).1) }
