-- Two answers about one waypoint are one, unless memory was wanted.
use Rattle.std.proofs.Common.{◌≡◌, ◌⊎◌, refl, sym, ap, ◌∙◌, ℕ, Bool, true, false, List, [], Option, Some, None, Result, Ok, Err, inl, inr}
use Rattle.c_core.specs.Tree.{Exp, Program}
use Rattle.c_core.specs.declared.number.BinOp.{BinOp}
use Rattle.c_core.specs.declared.place.PlaceKind.TheVariants as place
use Rattle.way_names.specs.Visible.{names_at}
use Rattle.c_core.specs.declared.number.Spot.{Spot}
use Rattle.c_parser.specs.Tree as raw
use Rattle.way_constraint.specs.Constraints.{IsTyped, IsMistyped, entries, in_scope}
use Rattle.wv_schema.specs.declared.witness.WayKind.{WayKind}
use Rattle.wv_schema.specs.declared.witness.WayKind.TheVariants.{Assumption, Target, FunctionEnter, FunctionReturn, Branching}
use Rattle.wv_schema.specs.declared.witness.Location.{Location}
use Rattle.wv_schema.specs.declared.witness.Constraint.{Constraint}
use Rattle.wv_schema.specs.declared.witness.Waypoint.{Waypoint}
use Rattle.way_match.specs.Points as point
use Rattle.way_match.specs.Points.{Point, ReturnTest}
use Rattle.way_bind.specs.declared.fault.Unbound.{Unbound}
use Rattle.way_bind.specs.declared.fault.Unbound.TheVariants.{NoPlace, Expression, Scope, OutOfMemory}
use Rattle.way_bind.proofs.OneLaws.{One, one_made, one_placed}
use Rattle.way_bind.specs.Binding.{BindsExpression, BindsTest, BindsReturn, BindsAssumption, BindsKind, BindsPoint, is_valued, place_named, text_of, BindsEntry, BindsBranching}

-- ---- typed, mistyped and out of scope exclude one another

module _ (p : Program) (names : List ℕ) where
  one_tree : (e u : raw.Exp) (t w : Exp) → u ≡ e → IsTyped p.model (entries p.objects names) e t → IsTyped p.model (entries p.objects names) u w → t ≡ w
  one_tree e u t w same a b = cc

  not_mistyped : (e u : raw.Exp) (t : Exp) → u ≡ e → IsTyped p.model (entries p.objects names) e t → IsMistyped p.model (entries p.objects names) u → ⊥
  not_mistyped e u t same a b = cc

  typed_in_scope : (e u : raw.Exp) (t : Exp) → u ≡ e → IsTyped p.model (entries p.objects names) e t → in_scope (entries p.objects names) u ≡ false → ⊥
  typed_in_scope e u t same a b = cc

  mistyped_in_scope : (e u : raw.Exp) → u ≡ e → IsMistyped p.model (entries p.objects names) e → in_scope (entries p.objects names) u ≡ false → ⊥
  mistyped_in_scope e u same a b = cc

-- ---- expressions

pub one_expression : (p : Program) (names text : List ℕ) (r q : Result Exp Unbound) → BindsExpression p names text r → BindsExpression p names text q → One r q
one_expression p names text (Err NoPlace) q h k = elim h [ ]
one_expression p names text (Err OutOfMemory) q h k = inr (inl refl)
one_expression p names text (Ok t) (Err NoPlace) h k = elim k [ ]
one_expression p names text (Ok t) (Err OutOfMemory) h k = inr (inr refl)
one_expression p names text (Ok t) (Ok w) h k = inl (ap Ok (one_tree p names h.0 k.0 t w (h.1.only k.0 k.1.spelled) h.2 k.2))
one_expression p names text (Ok t) (Err Expression) h (inl none) = absurd (none h.0 h.1.spelled)
one_expression p names text (Ok t) (Err Expression) h (inr k) = absurd (not_mistyped p names h.0 k.0 t (h.1.only k.0 k.1.spelled) h.2 k.2)
one_expression p names text (Ok t) (Err Scope) h k = absurd (typed_in_scope p names h.0 k.0 t (h.1.only k.0 k.1.spelled) h.2 k.2)
one_expression p names text (Err Expression) (Err NoPlace) h k = elim k [ ]
one_expression p names text (Err Expression) (Err OutOfMemory) h k = inr (inr refl)
one_expression p names text (Err Expression) (Err Expression) h k = inl refl
one_expression p names text (Err Expression) (Ok w) (inl none) k = absurd (none k.0 k.1.spelled)
one_expression p names text (Err Expression) (Ok w) (inr h) k = absurd (not_mistyped p names k.0 h.0 w (k.1.only h.0 h.1.spelled) k.2 h.2)
one_expression p names text (Err Expression) (Err Scope) (inl none) k = absurd (none k.0 k.1.spelled)
one_expression p names text (Err Expression) (Err Scope) (inr h) k = absurd (mistyped_in_scope p names h.0 k.0 (h.1.only k.0 k.1.spelled) h.2 k.2)
one_expression p names text (Err Scope) (Err NoPlace) h k = elim k [ ]
one_expression p names text (Err Scope) (Err OutOfMemory) h k = inr (inr refl)
one_expression p names text (Err Scope) (Err Scope) h k = inl refl
one_expression p names text (Err Scope) (Ok w) h k = absurd (typed_in_scope p names k.0 h.0 w (k.1.only h.0 h.1.spelled) k.2 h.2)
one_expression p names text (Err Scope) (Err Expression) h (inl none) = absurd (none h.0 h.1.spelled)
one_expression p names text (Err Scope) (Err Expression) h (inr k) = absurd (mistyped_in_scope p names k.0 h.0 (k.1.only h.0 h.1.spelled) k.2 h.2)

-- ---- constraints on results

abbrev make : BinOp → Exp → ReturnTest
make o c = record { op = o; constant = c }

same_test : (t w : ReturnTest) → w.op ≡ t.op → t.constant ≡ w.constant → t ≡ w
same_test t w ops constants = ap (λ (o : BinOp). make o t.constant) (sym ops) ∙ ap (λ (c : Exp). make w.op c) constants

-- a void call, or a name, refuses what a typed or mistyped constant would not
refused : (p : Program) (valued : Bool) (e u : raw.Exp) → u ≡ e → valued ≡ true → in_scope (entries p.objects []) e ≡ true → (valued ≡ false) ⊎ (in_scope (entries p.objects []) u ≡ false) → ⊥
refused p valued e u same value scope (inl void) = cc
refused p valued e u same value scope (inr out) = cc

scope_of_typed : (p : Program) (e : raw.Exp) (t : Exp) → IsTyped p.model (entries p.objects []) e t → in_scope (entries p.objects []) e ≡ true
scope_of_typed p e t h = h.scope

scope_of_mistyped : (p : Program) (e : raw.Exp) → IsMistyped p.model (entries p.objects []) e → in_scope (entries p.objects []) e ≡ true
scope_of_mistyped p e h = h.scope

one_test : (p : Program) (valued : Bool) (text : List ℕ) (r q : Result ReturnTest Unbound) → BindsTest p valued text r → BindsTest p valued text q → One r q
one_test p valued text (Err NoPlace) q h k = elim h [ ]
one_test p valued text (Err OutOfMemory) q h k = inr (inl refl)
one_test p valued text (Ok t) (Err NoPlace) h k = elim k [ ]
one_test p valued text (Ok t) (Err OutOfMemory) h k = inr (inr refl)
one_test p valued text (Ok t) (Ok w) h k =
    let same = h.1.only w.op k.0 k.1.spelled in
    inl (ap Ok (same_test t w same.0 (one_tree p [] h.0 k.0 t.constant w.constant same.1 h.3 k.3)))
one_test p valued text (Ok t) (Err Expression) h (inl none) = absurd (none t.op h.0 h.1.spelled)
one_test p valued text (Ok t) (Err Expression) h (inr k) = absurd (not_mistyped p [] h.0 k.1 t.constant (h.1.only k.0 k.1 k.2.spelled).1 h.3 k.4)
one_test p valued text (Ok t) (Err Scope) h k = absurd (refused p valued h.0 k.1 (h.1.only k.0 k.1 k.2.spelled).1 h.2 (scope_of_typed p h.0 t.constant h.3) k.3)
one_test p valued text (Err Expression) (Err NoPlace) h k = elim k [ ]
one_test p valued text (Err Expression) (Err OutOfMemory) h k = inr (inr refl)
one_test p valued text (Err Expression) (Err Expression) h k = inl refl
one_test p valued text (Err Expression) (Ok w) (inl none) k = absurd (none w.op k.0 k.1.spelled)
one_test p valued text (Err Expression) (Ok w) (inr h) k = absurd (not_mistyped p [] k.0 h.1 w.constant (k.1.only h.0 h.1 h.2.spelled).1 k.3 h.4)
one_test p valued text (Err Expression) (Err Scope) (inl none) k = absurd (none k.0 k.1 k.2.spelled)
one_test p valued text (Err Expression) (Err Scope) (inr h) k = absurd (refused p valued h.1 k.1 (h.2.only k.0 k.1 k.2.spelled).1 h.3 (scope_of_mistyped p h.1 h.4) k.3)
one_test p valued text (Err Scope) (Err NoPlace) h k = elim k [ ]
one_test p valued text (Err Scope) (Err OutOfMemory) h k = inr (inr refl)
one_test p valued text (Err Scope) (Err Scope) h k = inl refl
one_test p valued text (Err Scope) (Ok w) h k = absurd (refused p valued k.0 h.1 (k.1.only h.0 h.1 h.2.spelled).1 k.2 (scope_of_typed p k.0 w.constant k.3) h.3)
one_test p valued text (Err Scope) (Err Expression) h (inl none) = absurd (none h.0 h.1 h.2.spelled)
one_test p valued text (Err Scope) (Err Expression) h (inr k) = absurd (refused p valued k.1 h.1 (k.2.only h.0 h.1 h.2.spelled).1 k.3 (scope_of_mistyped p k.1 k.4) h.3)

-- ---- waypoints

one_return : (p : Program) (v : Option Constraint) (close : Spot) (r q : Result Point Unbound) → BindsReturn p v close r → BindsReturn p v close q → One r q
one_return p None close r q h k = inl (h ∙ sym k)
one_return p (Some v) close r q h k = one_made (BindsTest p (is_valued p close) v.value) (λ t. point.Return close (Some t)) (one_test p (is_valued p close) v.value) r q h k

one_kind : (p : Program) (kind : WayKind) (at : Location) (v : Option Constraint) (r q : Result Point Unbound) → BindsKind p kind at v r → BindsKind p kind at v q → One r q
one_kind p Assumption at v r q h k =
    one_placed (place_named p place.Statement at) (BindsAssumption p (text_of v))
    (λ spot. one_made (BindsExpression p (names_at p place.Statement spot) (text_of v)) (point.Assume spot) (one_expression p (names_at p place.Statement spot) (text_of v))) r q h k
one_kind p Target at v r q h k = inl (h ∙ sym k)
one_kind p FunctionEnter at v r q h k = one_placed (place_named p place.CallEnd at) BindsEntry (λ close r q h k. inl (h ∙ sym k)) r q h k
one_kind p FunctionReturn at v r q h k = one_placed (place_named p place.CallEnd at) (BindsReturn p v) (λ close. one_return p v close) r q h k
one_kind p Branching at v r q h k = one_placed (place_named p place.Branch at) (BindsBranching p (text_of v)) (λ spot r q h k. inl (h ∙ sym k)) r q h k

-- one point, or one first failing test
pub one_point : (p : Program) (v : Waypoint) (r q : Result Point Unbound) → BindsPoint p v r → BindsPoint p v q → One r q
one_point p v r q h k = one_kind p v.kind v.location v.constraint r q h k
