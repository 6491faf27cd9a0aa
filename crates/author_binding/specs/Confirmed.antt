-- What the binding of a witness of `author` gives.
use Rattle.std.specs.Prelude.{ℕ, ℤ, List, Result, Ok, Err}
use Rattle.c_core.specs.Tree.{Program}
use Rattle.way_bind.specs.declared.fault.BindFault.{BindFault}
use Rattle.way_bind.specs.declared.fault.BindFault.TheVariants.{NoPlace, Expression, Scope, OutOfMemory}
use Rattle.way_match.specs.View.{segments_view}
use Rattle.way_match.specs.declared.point.Bound.{Bound}
use Rattle.author_binding.specs.Shown.{ShowsRun}

-- the witness is bound to segments that show the run of these values, unless memory ran out: no refusal applies
abbrev pub IsConfirmation : Program → List ℤ → ℕ → Result Bound BindFault → Type 0
IsConfirmation p vs N (Ok bound) = ShowsRun p vs N (segments_view bound)
IsConfirmation p vs N (Err (NoPlace n)) = ⊥
IsConfirmation p vs N (Err (Expression n)) = ⊥
IsConfirmation p vs N (Err (Scope n)) = ⊥
IsConfirmation p vs N (Err OutOfMemory) = Unit {0}
