-- The cell of an element from its indexes.
use Rattle.std.proofs.Common.{◌≡◌, ℕ, ◌+◌, ◌<◌, ◌≤◌, negsuc, List, [], ◌∷◌, ◌++◌, length, get_or, refl, sym, ap, ap₂, subst, arith}
use Rattle.c_core.specs.Tree.{NoExp, MoreExp, Program}
use Rattle.c_core.specs.View.{expr_view, exprs_view}
use Rattle.c_core.specs.declared.number.Spot.{Spot}
use Rattle.c_core.specs.declared.tree.Expr.{Expr}
use Rattle.c_meaning.specs.Meaning.{Used}
use Rattle.run_state.specs.declared.machine.Around.{Around}
use Rattle.flow_code.specs.declared.code.Operand.TheVariants.{Number}
use Rattle.flow_code.specs.declared.code.Then.TheVariants.{Push, Drop}
use Rattle.flow_code.specs.declared.code.Op.{Op}
use Rattle.flow_code.specs.Expressions.{code, element_code, args_code, both_ready, in_row, left_by}
use Rattle.flow_code.specs.Making.{IsReady}
use Rattle.flow_code.specs.Preparing.{prepared}
use Rattle.flow_code.specs.Sizes.{operand_of, size_of_all, size_of_element}

-- lists by their lengths
as_one : (es : List Expr) (a : Expr) → 1 ≤ length es → length es < 2 → a ≡ get_or es 0 a → exprs_view es ≡ MoreExp (expr_view a) NoExp
as_one [] a h l p = absurd (omega arith)
as_one (x ∷ []) a h l p = ap (λ z. MoreExp (expr_view z) NoExp) (sym p)
as_one (x ∷ (y ∷ es)) a h l p = absurd (omega arith)

pub as_two : (es : List Expr) (a b : Expr) → 2 ≤ length es → length es < 3 → a ≡ get_or es 0 a → b ≡ get_or es 1 b → exprs_view es ≡ MoreExp (expr_view a) (MoreExp (expr_view b) NoExp)
as_two [] a b h l p q = absurd (omega arith)
as_two (x ∷ []) a b h l p q = absurd (omega arith)
as_two (x ∷ (y ∷ [])) a b h l p q = ap₂ (λ z w. MoreExp (expr_view z) (MoreExp (expr_view w) NoExp)) (sym p) (sym q)
as_two (x ∷ (y ∷ (z ∷ es))) a b h l p q = absurd (omega arith)

-- more indexes than two are all evaluated
pub size_of_many : (es : List Expr) → 3 ≤ length es → size_of_element (exprs_view es) ≡ size_of_all (exprs_view es) + 1
size_of_many [] h = absurd (omega arith)
size_of_many (x ∷ []) h = absurd (omega arith)
size_of_many (x ∷ (y ∷ [])) h = absurd (omega arith)
size_of_many (x ∷ (y ∷ (z ∷ es))) h = refl

module _ (p : Program) (at : Around) (i k : ℕ) (spot : Spot) (o : ℕ) where
  pub one_ready : (es : List Expr) (a : Expr) → 1 ≤ length es → length es < 2 → a ≡ get_or es 0 a
      → element_code p at i k spot o (exprs_view es) ≡ prepared (operand_of (expr_view a)) k (code p at i k Used (expr_view a) Push)
  one_ready es a h l q = ap (element_code p at i k spot o) (as_one es a h l q)

  pub two_ready : (es : List Expr) (a b : Expr) → 2 ≤ length es → length es < 3 → a ≡ get_or es 0 a → b ≡ get_or es 1 b
      → element_code p at i k spot o (exprs_view es) ≡ in_row p o spot (both_ready p at i k (expr_view a) (expr_view b))
  two_ready es a b h l q r = ap (element_code p at i k spot o) (as_two es a b h l q r)

  many_is : (es : List Expr) → 3 ≤ length es → element_code p at i k spot o (exprs_view es) ≡ record { ops = args_code p at i k Drop (exprs_view es); operand = Number (negsuc 0); steps = left_by (exprs_view es) k }
  many_is [] h = absurd (omega arith)
  many_is (x ∷ []) h = absurd (omega arith)
  many_is (x ∷ (y ∷ [])) h = absurd (omega arith)
  many_is (x ∷ (y ∷ (z ∷ es))) h = refl

  -- more indexes than two
  pub many_ready : (es : List Expr) (old new : List Op) (n : ℕ) → 3 ≤ length es → new ≡ old ++ args_code p at i k Drop (exprs_view es) → n ≡ left_by (exprs_view es) k
      → IsReady (record { operand = Number (negsuc 0); steps = n }) old new (element_code p at i k spot o (exprs_view es))
  many_ready es old new n h c d =
      subst (IsReady (record { operand = Number (negsuc 0); steps = n }) old new) (sym (many_is es h)) (record { ops = c; operand = refl; steps = d })
