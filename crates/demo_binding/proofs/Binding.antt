-- The waypoints of a demo's violation witness are bound to these points, and to no others.
use Rattle.std.proofs.Common.{◌≡◌, ◌<◌, ◌^◌, ◌⊎◌, inl, inr, ◌∙◌, ℕ, not, nat_eq, Bool, true, false, ◌||◌, cond, pos, List, [], ◌∷◌, ◌++◌, length, Some, is_none, Result, Ok, Err, refl, sym, ap, subst}
use Rattle.c_core.specs.Tree as t
use Rattle.c_core.specs.declared.number.BinOp.{BinOp}
use Rattle.c_core.specs.declared.number.BinOp.TheVariants as op
use Rattle.c_core.specs.declared.number.DataModel.TheVariants.{Ilp32}
use Rattle.c_core.specs.declared.place.PlaceKind.TheVariants as place
use Rattle.c_parser.specs.Tree as raw
use Rattle.check_rules.specs.Constants.{valued}
use Rattle.check_rules.specs.Typed.{typed}
use Rattle.demo_checks.proofs.Expressions.{constant_is_int}
use Rattle.demo_checks.proofs.Quiet.{never}
use Rattle.demo_laws.specs.Lines.{spot}
use Rattle.demo_run.specs.Segments.{demo_segments}
use Rattle.demo_run.specs.Typed.{constant, faulty_typed}
use Rattle.way_bind.specs.Binding.{AreBound, Binds, BindsPoint, BindsReturn, BindsTest, IsBoundTo, WherePlaced, is_valued, target_at}
use Rattle.way_bind.specs.InOrder.{Each, IsLeast}
use Rattle.way_bind.specs.declared.fault.BindFault.{BindFault}
use Rattle.way_bind.specs.declared.fault.BindFault.TheVariants as fault
use Rattle.way_bind.specs.declared.fault.Unbound.{Unbound}
use Rattle.way_bind.specs.declared.fault.Unbound.TheVariants.{NoPlace, Expression, Scope, OutOfMemory}
use Rattle.way_constraint.specs.Constraints.{in_scope, is_refused}
use Rattle.way_match.specs.Points.{At, BoundSegment, Point, Return, ReturnTest, Target}
use Rattle.way_match.specs.View.{segments_view}
use Rattle.way_match.specs.declared.point.Bound.{Bound}
use Rattle.wv_author.specs.Witnesses.{drawn, reached, result_text, violation}
use Rattle.wv_schema.specs.declared.witness.Waypoint.{Waypoint}
use Rattle.demo_binding.specs.Bound.{AreSegments}
use Rattle.demo_binding.proofs.Places.{input_named, input_valued, target_suits}
use Rattle.demo_binding.proofs.ResultTexts.{number_exp, result_test}

-- `\result` is equal to a constant
abbrev test_of : BinOp → t.Exp → ReturnTest
test_of o e = record { op = o; constant = e }

no_more : {A : Type 0} (x : A) (before behind : List A) → [] ≡ before ++ x ∷ behind → ⊥
no_more x [] behind e = cc
no_more x (c ∷ before) behind e = cc

-- waypoints of which there are two
among_two : {A : Type 0} (a b x : A) (before behind : List A) → a ∷ b ∷ [] ≡ before ++ x ∷ behind → (x ≡ a) ⊎ (x ≡ b)
among_two a b x [] behind e = inl (cc)
among_two a b x (c ∷ []) behind e = inr (cc)
among_two a b x (c ∷ d ∷ before) behind e = absurd (no_more x before behind (cc))

module _ (n : ℕ) (bs : List ℕ) (small : n < 2 ^ 31) (many : length bs ≡ 40) where
  abbrev p : t.Program
  p = faulty_typed n bs

  abbrev number : raw.Exp
  number = number_exp n (spot 1 12)

  number_typed : typed Ilp32 [] [] number ≡ constant n (spot 1 12)
  number_typed = ap (λ o. t.Expr (spot 1 12) (Some (valued o)) (t.Const (pos n))) (constant_is_int n (not (nat_eq n 0)) small)

  number_stands : is_refused Ilp32 [] number ≡ false
  number_stands = ap (λ o. (is_none o || false) || false) (constant_is_int n (not (nat_eq n 0)) small)

  -- ---- the test of the input's value

  test_is : (valued : Bool) (test : ReturnTest) → BindsTest p valued (result_text n) (Ok test) → test ≡ test_of op.Eq (constant n (spot 1 12))
  test_is valued test h =
      let same = (h.1).only op.Eq number (result_test n small) in
      let tree : test.constant ≡ constant n (spot 1 12) = (h.3).made ∙ ap (typed Ilp32 [] []) (sym same.1) ∙ number_typed in
      ap (λ o. test_of o test.constant) (sym same.0) ∙ ap (test_of op.Eq) tree

  test_stands : (valued : Bool) (lack : Unbound) → valued ≡ true → (lack ≡ OutOfMemory → ⊥) → BindsTest p valued (result_text n) (Err lack) → ⊥
  test_stands valued NoPlace told other h = h
  test_stands valued Expression told other (inl none) = none op.Eq number (result_test n small)
  test_stands valued Expression told other (inr h) =
      let same = (h.2).only op.Eq number (result_test n small) in
      never (is_refused Ilp32 [] number) number_stands (ap (is_refused Ilp32 []) same.1 ∙ (h.4).typing)
  test_stands valued Scope told other h = elim (h.3) [
    | inl e ↦ never valued e told
    | inr e ↦ never (in_scope [] number) (ap (in_scope []) ((h.2).only op.Eq number (result_test n small)).1 ∙ e) refl
  ]
  test_stands valued OutOfMemory told other h = other refl

  -- ---- waypoints

  abbrev first : Waypoint
  first = (drawn n).follow

  abbrev second : Waypoint
  second = reached.follow

  -- where the first one's place is
  first_placed : (answer : Result Point Unbound) → BindsPoint p first answer → BindsReturn p first.constraint (spot 284 33) answer
  first_placed answer h = subst (λ o. WherePlaced o (BindsReturn p first.constraint) answer) (input_named n bs many) h

  first_is : (x : Point) → BindsPoint p first (Ok x) → x ≡ Return (spot 284 33) (Some (test_of op.Eq (constant n (spot 1 12))))
  first_is x h =
      let made = first_placed (Ok x) h in
      made.2 ∙ ap (λ test. Return (spot 284 33) (Some test)) (test_is (is_valued p (spot 284 33)) made.0 made.1)

  first_stands : (lack : Unbound) → (lack ≡ OutOfMemory → ⊥) → BindsPoint p first (Err lack) → ⊥
  first_stands lack other h = test_stands (is_valued p (spot 284 33)) lack (input_valued n bs many) other (first_placed (Err lack) h)

  target_is : target_at p second.location ≡ Ok (Target (At (spot 286 5)))
  target_is = ap (λ b. cond b (Ok (Target (At (spot 286 5)))) (Err NoPlace)) (target_suits n bs many)

  second_is : (x : Point) → BindsPoint p second (Ok x) → x ≡ Target (At (spot 286 5))
  second_is x h = let e : Ok x ≡ Ok (Target (At (spot 286 5))) = h ∙ target_is in cc

  second_stands : (lack : Unbound) → BindsPoint p second (Err lack) → ⊥
  second_stands lack h = let e : Err lack ≡ Ok (Target (At (spot 286 5))) = h ∙ target_is in cc

  -- ---- segments

  no_points : (xs : List Point) → AreBound p [] xs → xs ≡ []
  no_points [] h = refl
  no_points (x ∷ xs) h = absurd h

  abbrev alone : Point → BoundSegment
  alone x = record { avoids = []; follow = x }

  segment_is : (s : BoundSegment) (x : Point) → AreBound p [] s.avoids → s.follow ≡ x → s ≡ alone x
  segment_is s x h e = ap (λ xs. record { avoids = xs; follow = s.follow }) (no_points s.avoids h) ∙ ap alone e

  segments_are : (ss : List BoundSegment) → Each (IsBoundTo p) (drawn n ∷ reached ∷ []) ss → ss ≡ demo_segments n (spot 1 12)
  segments_are [] h = absurd h
  segments_are (a ∷ []) h = absurd h.1
  segments_are (a ∷ b ∷ []) h =
      let one = segment_is a (Return (spot 284 33) (Some (test_of op.Eq (constant n (spot 1 12))))) h.0.0 (first_is a.follow h.0.1) in
      let two = segment_is b (Target (At (spot 286 5))) h.1.0.0 (second_is b.follow h.1.0.1) in
      ap (λ s. s ∷ b ∷ []) one ∙ ap (λ s. alone (Return (spot 284 33) (Some (test_of op.Eq (constant n (spot 1 12))))) ∷ s ∷ []) two
  segments_are (a ∷ b ∷ c ∷ ss) h = absurd h.1.1

  no_least : (k : ℕ) (lack : Unbound) → (lack ≡ OutOfMemory → ⊥) → IsLeast (BindsPoint p) 1 (first ∷ second ∷ []) k lack → ⊥
  no_least k lack other h = elim (among_two first second h.at h.before h.behind h.in_order) [
    | inl e ↦ first_stands lack other (subst (λ v. BindsPoint p v (Err lack)) e h.fails)
    | inr e ↦ second_stands lack (subst (λ v. BindsPoint p v (Err lack)) e h.fails)
  ]

  pub are_bound : (text : List ℕ) (answer : Result Bound BindFault) → Binds p (violation n text) answer → AreSegments (demo_segments n (spot 1 12)) answer
  are_bound text (Ok bound) h = segments_are (segments_view bound) h
  are_bound text (Err (fault.NoPlace k)) h = no_least k NoPlace (λ e. cc) h
  are_bound text (Err (fault.Expression k)) h = no_least k Expression (λ e. cc) h
  are_bound text (Err (fault.Scope k)) h = no_least k Scope (λ e. cc) h
  are_bound text (Err fault.OutOfMemory) h = tt

pub violation_bound : (n : ℕ) (bs text : List ℕ) (answer : Result Bound BindFault) → n < 2 ^ 31 → length bs ≡ 40 → Binds (faulty_typed n bs) (violation n text) answer → AreSegments (demo_segments n (spot 1 12)) answer
violation_bound n bs text answer small many h = are_bound n bs small many text answer h
