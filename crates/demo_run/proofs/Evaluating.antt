-- What the expressions of a demo evaluate to, where the innermost cell is the one that they read.
use Rattle.std.proofs.Common.{◌≡◌, ◌<◌, ◌≤◌, ◌+◌, ◌^◌, ℕ, suc, ℤ, pos, false, List, [], ◌∷◌, ◌++◌, None, refl, ap, arith, lt-ltb, le-ltb}
use Rattle.c_core.specs.Types.{fit}
use Rattle.c_core.specs.Operators.{apply_of, is_shift}
use Rattle.c_core.specs.Tree.{Exp, Assign, Stms, Program}
use Rattle.c_core.specs.declared.number.BinOp.{BinOp}
use Rattle.c_core.specs.declared.number.BinOp.TheVariants as binary
use Rattle.c_core.specs.declared.number.DataModel.TheVariants.{Ilp32}
use Rattle.c_core.specs.declared.number.Done.TheVariants.{Value}
use Rattle.c_core.specs.declared.number.IntType.TheVariants.{Int}
use Rattle.c_core.specs.declared.number.Spot.{Spot}
use Rattle.c_core.specs.declared.tree.Object.{Object}
use Rattle.c_core.proofs.Fits.{fit_kept}
use Rattle.c_meaning.specs.Acts.{Go}
use Rattle.c_meaning.specs.Cells.{Cell, put}
use Rattle.c_meaning.specs.Eval.{eval}
use Rattle.c_meaning.specs.Meaning.{Meaning, Where, Used, Unused, Calls}
use Rattle.c_meaning.specs.Run.{State, with_cells}
use Rattle.demo_run.specs.Typed.{int_exp, variable, operation, main_alone}
use Rattle.demo_run.proofs.LastCell.{key, cell, read_last}
use Rattle.demo_run.proofs.States.{Sights, meaning, state}

-- a value of `int` stays as it is
pub kept : (v : ℕ) → v < 2 ^ 31 → fit Ilp32 Int (pos v) ≡ pos v
kept v small = fit_kept Ilp32 Int (pos v) (lt-ltb v (2 ^ 31) small)

pub below : (x b : ℕ) → x < b → apply_of Ilp32 binary.Lt Int (pos x) (pos b) ≡ Value (pos 1)
below x b h = rw (lt-ltb x b h) refl

pub not_below : (x b : ℕ) → b ≤ x → apply_of Ilp32 binary.Lt Int (pos x) (pos b) ≡ Value (pos 0)
not_below x b h = rw (le-ltb x b h) refl

pub not_unequal : (b : ℕ) → apply_of Ilp32 binary.Ne Int (pos b) (pos b) ≡ Value (pos 0)
not_unequal b = let same : b ≤ b = omega arith in rw (le-ltb b b same) refl

pub equal : (n : ℕ) → apply_of Ilp32 binary.Eq Int (pos n) (pos n) ≡ Value (pos 1)
equal n = let same : n ≤ n = omega arith in rw (le-ltb n n same) refl

-- no sum that a loop makes overflows
pub one_more : (x : ℕ) → x + 1 < 2 ^ 31 → apply_of Ilp32 binary.Add Int (pos x) (pos 1) ≡ Value (pos (x + 1))
one_more x small = rw (lt-ltb (x + 1) (2 ^ 31) small) (ap Value (kept (x + 1) small))

module _ (objects : List Object) (body : Stms) where
  abbrev P : Program
  P = main_alone objects body

  abbrev M : Meaning
  M = meaning P

  module _ (call : Calls M) (base : State Sights) where
    -- `x op v` in three steps
    pub operated : (at : Where) (op : BinOp) (o x v n : ℕ) (q r : Spot) (d : ℤ) (cs : List Cell) (xs : Sights) → is_shift op ≡ false → x < 2 ^ 31 → v < 2 ^ 31 →
        apply_of Ilp32 op Int (pos x) (pos v) ≡ Value d →
        eval P M call at Used (operation op o v q r) (state base (suc (suc (suc n))) (cs ++ cell o (pos x) ∷ []) xs)
        ≡ Go d (state base n (cs ++ cell o (pos x) ∷ []) xs)
    operated at op o x v n q r d cs xs plain small few is = rw (read_last o (pos x) cs, plain, kept x small, kept v few, is) refl

    -- `x = e`, two steps around those of e
    pub assigned : (at : Where) (o : ℕ) (e : Exp) (n : ℕ) (q r : Spot) (v : ℤ) (cs : List Cell) (xs : Sights) (t : State Sights) →
        eval P M call at Used e (state base n cs xs) ≡ Go v t →
        eval P M call at Unused (int_exp q (Assign None (variable o r) e)) (state base (suc (suc n)) cs xs)
        ≡ Go (fit Ilp32 Int v) (with_cells (put (key o) (fit Ilp32 Int v) t.cells) t)
    assigned at o e n q r v cs xs t h = rw h refl
