-- One invariant at its place.
use Rattle.std.proofs.Common.{◌≡◌, refl, sym, subst, Bool, ℕ, List, Option, None, Result, Ok, Err}
use Rattle.c_core.specs.Tree.{Exp, Program}
use Rattle.c_core.specs.View.{expr_view}
use Rattle.c_core.specs.declared.tree.Expr.{Expr}
use Rattle.c_core.specs.declared.number.Spot.{Spot}
use Rattle.c_core.specs.declared.place.PlaceKind.{PlaceKind}
use Rattle.c_meaning.specs.Duties.{Placed}
use Rattle.wv_schema.specs.declared.witness.InvariantKind.{InvariantKind}
use Rattle.way_names.specs.Visible.{names_at}
use Rattle.way_bind.specs.declared.fault.Unbound.{Unbound}
use Rattle.way_bind.specs.declared.fault.Unbound.TheVariants.{NoPlace}
use Rattle.way_bind.specs.Binding.{BindsExpression, BindsThere, WherePlaced}
use Rattle.way_bind.proofs.ExpressionLaws.{there}
use Rattle.way_invariants.specs.Invariants.{is_at_loop, place_of, placed_at}

pub placed_here : (p : Program) (kind : InvariantKind) (text : List ℕ) (spot : Spot) (tree : Expr) (at_loop : Bool) → at_loop ≡ is_at_loop kind → BindsExpression p (names_at p (place_of kind) spot) text (Ok (expr_view tree)) → BindsThere p (place_of kind) text (placed_at kind) spot (Ok (record { at_loop = at_loop; spot = spot; test = expr_view tree }))
placed_here p kind text spot tree at_loop same h =
    subst (λ b. BindsThere p (place_of kind) text (placed_at kind) spot (Ok (record { at_loop = b; spot = spot; test = expr_view tree }))) (sym same)
    (there p (place_of kind) text (placed_at kind) spot tree h)

-- what is read at a place is read at a place of the invariant's kind
pub read_there : (p : Program) (kind : PlaceKind) (of : InvariantKind) (text : List ℕ) (spot : Spot) (answer : Result Exp Unbound) → kind ≡ place_of of → BindsExpression p (names_at p kind spot) text answer → BindsExpression p (names_at p (place_of of) spot) text answer
read_there p kind of text spot answer same h = subst (λ (k : PlaceKind). BindsExpression p (names_at p k spot) text answer) same h

pub unplaced : (place : Option Spot) (binds : Spot → Result Placed Unbound → Type 0) → place ≡ None → WherePlaced place binds (Err NoPlace)
unplaced place binds none = subst (λ o. WherePlaced o binds (Err NoPlace)) (sym none) refl
