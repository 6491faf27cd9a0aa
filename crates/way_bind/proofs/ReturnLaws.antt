-- A return by its constraint.
use Rattle.std.proofs.Common.{◌≡◌, sym, subst, Bool, ℕ, List, Option, Some, Result}
use Rattle.c_core.specs.Tree.{Program}
use Rattle.c_core.specs.View.{program_view}
use Rattle.c_core.specs.declared.number.Spot.{Spot}
use Rattle.c_core.specs.declared.program.Program as stored
use Rattle.wv_schema.specs.declared.witness.Constraint.{Constraint}
use Rattle.way_match.specs.Points.{Point, ReturnTest}
use Rattle.way_bind.specs.declared.fault.Unbound.{Unbound}
use Rattle.way_bind.specs.Binding.{BindsReturn, BindsTest, BindsTested, is_valued}

pub constrained : (p : Program) (v : Option Constraint) (w : Constraint) (text : List ℕ) (close : Spot) (r : Result Point Unbound) → v ≡ Some w → text ≡ w.value → BindsTested p text close r → BindsReturn p v close r
constrained p v w text close r e same h = subst (λ o. BindsReturn p o close r) (sym e) (subst (λ x. BindsTested p x close r) same h)

-- at the program of an index
pub tested_there : (q p : stored.Program) (valued : Bool) (text : List ℕ) (close : Spot) (r : Result ReturnTest Unbound) → q ≡ p → valued ≡ is_valued (program_view p) close
    → BindsTest (program_view q) valued text r → BindsTest (program_view p) (is_valued (program_view p) close) text r
tested_there q p valued text close r same value h =
    subst (λ b. BindsTest (program_view p) b text r) value (subst (λ (x : stored.Program). BindsTest (program_view x) valued text r) same h)
