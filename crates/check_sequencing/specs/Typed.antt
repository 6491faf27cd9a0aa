-- What typed expressions do, and which of them have operands without an order (C11 6.5p2).
use Rattle.std.specs.Prelude.{◌≡◌, ◌⊎◌, ℕ, nat_lt, Bool, true, false, cond, List, [], ◌∷◌, ◌++◌, Option, Some, None, is_some, slice_get}
use Rattle.std.specs.List.{list_any}
use Rattle.c_core.specs.Tree.{Exp, Expr, Node, Const, Var, Index, Unary, Cast, Step, Binary, Logic, Choose, Comma, Assign, Call, Exps, NoExp, MoreExp}
use Rattle.c_core.specs.Parts.{spot_of}
use Rattle.c_core.specs.declared.number.Spot.{Spot}
use Rattle.c_core.specs.declared.tree.Callee.{Callee}
use Rattle.c_core.specs.declared.tree.Callee.TheVariants as callee
use Rattle.c_core.specs.declared.tree.Object.{Object}
use Rattle.check_sequencing.specs.declared.effect.Effect.{Effect}
use Rattle.check_sequencing.specs.declared.effect.Effect.TheVariants as does
use Rattle.check_sequencing.specs.Effects.{AreUnsequenced, Changes, SomePair, Touches, changes}

-- what is tested: the operands of an expression, or the initializer of an object
pub data Test : Type 0 where
  Operands : Exp → Test
  Initial : ℕ → Exp → Test

abbrev pub place : Test → Spot
place (Operands e) = spot_of e
place (Initial o e) = spot_of e

abbrev pub to_object : Bool → ℕ → Effect
to_object true o = does.Changes o
to_object false o = does.Reads o

module _ (objects : List Object) (count : ℕ) where
  -- what is stored to isn't read; a number of no object is nothing
  abbrev pub on_object : Bool → ℕ → List Effect
  on_object stored o = cond (is_some (slice_get objects o)) (to_object stored o ∷ []) []

  -- a function with a body
  abbrev pub on_call : Callee → List Effect
  on_call (callee.Defined k) = cond (nat_lt k count) (does.Calls k ∷ []) []
  on_call _ = []

  -- what an expression does by itself; is it stored to?
  abbrev pub own : Bool → Node → List Effect
  own stored (Var o) = on_object stored o
  own stored (Index o is) = on_object stored o
  own stored (Call callee es close) = on_call callee
  own stored _ = []

  -- with all in it
  abbrev mutual
    pub effects : Bool → Exp → List Effect
    effects stored (Expr p ty n) = own stored n ++ inner n

    pub inner : Node → List Effect
    inner (Const v) = []
    inner (Var o) = []
    inner (Index o is) = effects_all is
    inner (Unary op a) = effects false a
    inner (Cast a) = effects false a
    inner (Step op a) = effects true a
    inner (Binary op a b) = effects false a ++ effects false b
    inner (Logic both a b) = effects false a ++ effects false b
    inner (Choose mark e a b) = effects false e ++ effects false a ++ effects false b
    inner (Comma a b) = effects false a ++ effects false b
    inner (Assign op a b) = effects true a ++ effects false b
    inner (Call callee es close) = effects_all es

    pub effects_all : Exps → List Effect
    effects_all NoExp = []
    effects_all (MoreExp e es) = effects false e ++ effects_all es

  abbrev pub below : Exp → List Effect
  below (Expr p ty n) = inner n

  abbrev pub arguments : Exps → List (List Effect)
  arguments NoExp = []
  arguments (MoreExp e es) = effects false e ∷ arguments es

  -- what is done at the left of an assignment before the store: all in it, and a call that stands there itself
  abbrev pub left_side : Exp → List Effect
  left_side (Expr p ty (Call callee es close)) = effects true (Expr p ty (Call callee es close))
  left_side e = below e

  -- the operands that C does not order
  abbrev pub operands : Node → List (List Effect)
  operands (Binary op a b) = effects false a ∷ effects false b ∷ []
  operands (Assign op a b) = left_side a ∷ effects false b ∷ []
  operands (Index o is) = arguments is
  operands (Call callee es close) = arguments es
  operands _ = []

  -- the object that is stored to
  abbrev pub target_in : Node → Option ℕ
  target_in (Var o) = cond (is_some (slice_get objects o)) (Some o) None
  target_in (Index o is) = cond (is_some (slice_get objects o)) (Some o) None
  target_in _ = None

  abbrev pub target : Exp → Option ℕ
  target (Expr p ty n) = target_in n

  module _ (bodies : List (List Effect)) where
    -- the object of a target is changed in its own indexes
    abbrev pub ChangedInIndex : Option ℕ → Exp → Type 0
    ChangedInIndex None a = ⊥
    ChangedInIndex (Some o) a = Changes bodies objects o (below a)

    -- an operand of an assignment changes the object assigned, other than through calls
    abbrev pub ChangedBeside : Option ℕ → Exp → Exp → Type 0
    ChangedBeside None a b = ⊥
    ChangedBeside (Some o) a b = (list_any (changes o) (below a ++ effects false b) ≡ true)

    abbrev pub IsStoredTwice : Node → Type 0
    IsStoredTwice (Step op a) = ChangedInIndex (target a) a
    IsStoredTwice (Assign op a b) = ChangedInIndex (target a) a ⊎ ChangedBeside (target a) a b
    IsStoredTwice n = ⊥

    abbrev pub IsUnorderedIn : Node → Type 0
    IsUnorderedIn n = SomePair bodies objects (operands n) ⊎ IsStoredTwice n

    abbrev pub IsUnordered : Exp → Type 0
    IsUnordered (Expr p ty n) = IsUnorderedIn n

    -- an object is read or changed in its own initializer
    abbrev pub InitializesItself : ℕ → Exp → Type 0
    InitializesItself o e = Touches bodies objects o (effects false e)

    abbrev pub IsFound : Test → Type 0
    IsFound (Operands e) = IsUnordered e
    IsFound (Initial o e) = InitializesItself o e

    -- the places of those of these tests that find something
    pub data Listed : List Test → List Spot → Type 0 where
      Nothing : Listed [] []
      Passed : {t : Test} {ts : List Test} {spots : List Spot} → (IsFound t → ⊥) → Listed ts spots → Listed (t ∷ ts) spots
      Told : {t : Test} {ts : List Test} {spots : List Spot} → IsFound t → Listed ts spots → Listed (t ∷ ts) (place t ∷ spots)

-- the tests of an expression and of all in it, in their order
abbrev mutual
  pub tested : Exp → List Test
  tested (Expr p ty n) = tested_in n ++ Operands (Expr p ty n) ∷ []

  pub tested_in : Node → List Test
  tested_in (Const v) = []
  tested_in (Var o) = []
  tested_in (Index o is) = tested_all is
  tested_in (Unary op a) = tested a
  tested_in (Cast a) = tested a
  tested_in (Step op a) = tested a
  tested_in (Binary op a b) = tested a ++ tested b
  tested_in (Logic both a b) = tested a ++ tested b
  tested_in (Choose mark e a b) = tested e ++ tested a ++ tested b
  tested_in (Comma a b) = tested a ++ tested b
  tested_in (Assign op a b) = tested a ++ tested b
  tested_in (Call callee es close) = tested_all es

  pub tested_all : Exps → List Test
  tested_all NoExp = []
  tested_all (MoreExp e es) = tested e ++ tested_all es
