-- A value that is stored, or isn't, and goes on.
use Rattle.std.proofs.Common.{◌≡◌, ℤ, List, Option, Some, None, Result, refl, subst}
use Rattle.c_core.specs.Types.{fit}
use Rattle.c_core.specs.declared.number.DataModel.TheVariants.{Lp64}
use Rattle.c_meaning.specs.declared.run.End.{End}
use Rattle.c_meaning.specs.declared.run.Event.{Event}
use Rattle.c_meaning.specs.Acts.{Res}
use Rattle.c_meaning.specs.Cells.{Cell, put}
use Rattle.c_meaning.specs.Run.{State, with_cells}
use Rattle.flow_code.specs.declared.code.Code.{Code}
use Rattle.flow_code.specs.declared.code.Store.{Store}
use Rattle.flow_code.specs.declared.code.Then.{Then}
use Rattle.flow_laws.specs.Machines.{Control}
use Rattle.flow_laws.specs.Acting.{stored, passed_on, kept_value, stack_at, key_at}
use Rattle.flow_machine.specs.Views.{Acts}
use Rattle.run_state.specs.declared.machine.Halt.{Halt}

module _ (c : Code) (S : Type 0) (after : Event → List Cell → S → S) (left v w : ℤ) (then : Then) (k l : Control) (s u : State S) where
  -- it goes on as it is
  pub not_stored : (o : Option Store) → o ≡ None → w ≡ v → l ≡ k → u ≡ s → passed_on c S after w then l u ≡ stored c S after o left v then k s
  not_stored o e f g h = rw (e, f, g, h) refl

  -- it is stored
  pub is_stored : (o : Option Store) (y : Store) → o ≡ Some y → w ≡ kept_value y left (fit Lp64 y.ty v) → l ≡ record k { stack = stack_at y.place k.stack }
      → u ≡ with_cells (put (key_at y.place k.stack) (fit Lp64 y.ty v) s.cells) s → passed_on c S after w then l u ≡ stored c S after o left v then k s
  is_stored o y e f g h = rw (e, f, g, h) refl

-- a part that does what another does
pub acts_alike : {S : Type 0} (q : Result (Unit {0}) Halt) (k : Control) (s : State S) (r p : Res End (State S) Control) → r ≡ p → Acts q k s r → Acts q k s p
acts_alike q k s r p e g = subst (λ x. Acts q k s x) e g
