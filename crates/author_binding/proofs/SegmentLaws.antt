-- The segments that `author` writes are bound, each to its place.
use Rattle.std.proofs.Common.{◌≡◌, ℕ, Bool, true, cond, List, [], ◌∷◌, ◌++◌, map, Option, Some, Result, Ok, Err, codes, refl, ap, ◌∙◌, subst}
use Rattle.c_core.specs.Program.{IsProgram}
use Rattle.c_core.specs.Tree.{Program}
use Rattle.c_core.specs.Places.{aim_fits}
use Rattle.c_core.specs.declared.number.Spot.{Spot}
use Rattle.c_core.specs.declared.place.PlaceKind.TheVariants as place
use Rattle.way_bind.specs.Binding.{AreBoundTo, BindsPoint, BindsReturn, BindsTest, Makes, Tells, WherePlaced, has_value, is_suitable, is_valued, place_named, waypoints_in}
use Rattle.way_bind.specs.InOrder.{IsLeast}
use Rattle.way_bind.specs.InOrder as order
use Rattle.way_bind.specs.declared.fault.BindFault.{BindFault}
use Rattle.way_bind.specs.declared.fault.BindFault.TheVariants as fault
use Rattle.way_bind.specs.declared.fault.Unbound.{Unbound}
use Rattle.way_bind.specs.declared.fault.Unbound.TheVariants.{NoPlace, Expression, Scope, OutOfMemory}
use Rattle.way_match.specs.Points as point
use Rattle.way_match.specs.Points.{BoundSegment, Point, ReturnTest}
use Rattle.wv_author.specs.Authored as authored
use Rattle.wv_author.specs.Authored.{returning_of, violating}
use Rattle.wv_schema.specs.declared.witness.Constraint.{Constraint}
use Rattle.wv_schema.specs.declared.witness.Segment.{Segment}
use Rattle.wv_schema.specs.declared.witness.Waypoint.{Waypoint}
use Rattle.author_runs.specs.Returning.{CameBack}
use Rattle.author_runs.proofs.Each.{Each, each_back}
use Rattle.author_binding.specs.ConstantTests.{IsEqualTo, IsTestFor}
use Rattle.author_binding.specs.Followed.{FollowEach, follows_alone}
use Rattle.author_binding.proofs.ConstantTests.{constant_bound}
use Rattle.author_binding.proofs.GivenDraws.{AreInputsBack, IsInputBack}
use Rattle.author_binding.proofs.InputEnds.{IsEndOf, input_end}

-- ---- one segment

-- bound to a return with such a test, unless memory was wanted
abbrev IsBoundReturn : Program → CameBack → Result Point Unbound → Type 0
IsBoundReturn p b (Ok x) = (t : ReturnTest) × (x ≡ point.Return b.close (Some t)) × IsEqualTo p b.value t
IsBoundReturn p b (Err NoPlace) = ⊥
IsBoundReturn p b (Err Expression) = ⊥
IsBoundReturn p b (Err Scope) = ⊥
IsBoundReturn p b (Err OutOfMemory) = Unit {0}

module _ (p : Program) (checked : IsProgram p) (file : List ℕ) where
  named : (b : CameBack) → IsEndOf p b.close b.call
      → place_named p place.CallEnd (authored.located file b.close) ≡ Some b.close
  unfolding place_named
  named b end = end.named

  valued : (b : CameBack) → IsEndOf p b.close b.call → is_valued p b.close ≡ true
  unfolding is_valued
  valued b end = ap has_value end.found

  tested : (b : CameBack) (answer : Result ReturnTest Unbound) → IsInputBack p b
      → BindsTest p true (authored.result_text b.value) answer → IsTestFor p b.value answer
  tested b answer back h = constant_bound p b.value answer back.in_bits.0 back.in_bits.1 h

  made : (b : CameBack) (answer : Result Point Unbound) → IsInputBack p b
      → Makes (BindsTest p true (authored.result_text b.value)) (λ t. point.Return b.close (Some t)) answer
      → IsBoundReturn p b answer
  made b (Ok x) back h = (h.0, h.2, tested b (Ok h.0) back h.1)
  made b (Err NoPlace) back h = tested b (Err NoPlace) back h
  made b (Err Expression) back h = tested b (Err Expression) back h
  made b (Err Scope) back h = tested b (Err Scope) back h
  made b (Err OutOfMemory) back h = tt

  abbrev constraint : CameBack → Constraint
  constraint b = record { value = authored.result_text b.value; format = Some (codes "c_expression") }

  bound_return : (b : CameBack) (answer : Result Point Unbound) → IsInputBack p b
      → BindsPoint p (returning_of file b).follow answer → IsBoundReturn p b answer
  bound_return b answer back h =
      let end = input_end p checked b.close b.call back.input in
      let there : BindsReturn p (Some (constraint b)) b.close answer =
      subst (λ (o : Option Spot). WherePlaced o (BindsReturn p (Some (constraint b))) answer) (named b end) h in
      made b answer back (subst
      (λ (v : Bool). Makes (BindsTest p v (authored.result_text b.value)) (λ t. point.Return b.close (Some t)) answer)
      (valued b end) there)

  suits : (statement : Spot) → aim_fits p statement.line (Some statement.column) ≡ true
      → is_suitable p (authored.located file statement) ≡ true
  unfolding is_suitable
  suits statement h = h

  bound_target : (statement : Spot) (answer : Result Point Unbound)
      → aim_fits p statement.line (Some statement.column) ≡ true → BindsPoint p (violating file statement).follow answer
      → answer ≡ Ok (point.Target (point.At statement))
  bound_target statement answer fits h =
      h ∙ ap (λ b. cond b (Ok (point.Target (point.At statement))) (Err NoPlace)) (suits statement fits)

  -- ---- all segments

  abbrev pub sequence : Spot → List CameBack → List Segment
  sequence statement bs = map (returning_of file) bs ++ violating file statement ∷ []

  alone : (s : BoundSegment) (x : Point) → order.AllBound (BindsPoint p) [] s.avoids → s.follow ≡ x
      → s ≡ follows_alone x
  alone s x none is = by s.avoids refl none
    where
      by : (xs : List Point) → s.avoids ≡ xs → order.AllBound (BindsPoint p) [] xs → s ≡ follows_alone x
      by [] e none = ap (λ (l : List Point). record { avoids = l; follow = s.follow }) e ∙ ap follows_alone is
      by (y ∷ xs) e none = absurd none

  same_answer : (x y : Point) (r : Result Point Unbound) → r ≡ Ok x → r ≡ Ok y → x ≡ y
  same_answer x y r a b = cc

  pub follow_each : (statement : Spot) (bs : List CameBack) (ss : List BoundSegment)
      → aim_fits p statement.line (Some statement.column) ≡ true → AreInputsBack p bs
      → AreBoundTo p (sequence statement bs) ss → FollowEach p statement bs ss
  follow_each statement [] [] fits backs h = absurd h
  follow_each statement [] (s ∷ []) fits backs h =
      let target =
      same_answer s.follow (point.Target (point.At statement)) (Ok s.follow) refl
      (bound_target statement (Ok s.follow) fits h.0.1) in
      ap (λ (x : BoundSegment). x ∷ []) (alone s (point.Target (point.At statement)) h.0.0 target)
  follow_each statement [] (s ∷ (r ∷ ss)) fits backs h = absurd h.1
  follow_each statement (b ∷ bs) [] fits backs h = absurd h
  follow_each statement (b ∷ bs) (s ∷ ss) fits backs h =
      let bound = bound_return b (Ok s.follow) backs.0 h.0.1 in
      (record { test = bound.0; is = alone s (point.Return b.close (Some bound.0)) h.0.0 bound.1; tests = bound.2 }, follow_each statement bs ss fits backs.1 h.1)

  -- ---- refusals

  -- nothing but memory is wanted
  abbrev OnlyMemory : Waypoint → Type 0
  OnlyMemory w = (lack : Unbound) → BindsPoint p w (Err lack) → lack ≡ OutOfMemory

  return_only : (b : CameBack) → IsInputBack p b → OnlyMemory (returning_of file b).follow
  return_only b back lack h = by lack (bound_return b (Err lack) back h)
    where
      by : (lack : Unbound) → IsBoundReturn p b (Err lack) → lack ≡ OutOfMemory
      by NoPlace r = absurd r
      by Expression r = absurd r
      by Scope r = absurd r
      by OutOfMemory r = refl

  target_only : (statement : Spot) → aim_fits p statement.line (Some statement.column) ≡ true
      → OnlyMemory (violating file statement).follow
  target_only statement fits lack h = let e = bound_target statement (Err lack) fits h in absurd (cc)

  only_memory : (statement : Spot) (bs : List CameBack) → aim_fits p statement.line (Some statement.column) ≡ true
      → AreInputsBack p bs → Each OnlyMemory (waypoints_in (sequence statement bs))
  only_memory statement [] fits backs = (target_only statement fits, tt)
  only_memory statement (b ∷ bs) fits backs = (return_only b backs.0, only_memory statement bs fits backs.1)

  least_only : (vs : List Waypoint) (n : ℕ) (lack : Unbound) → Each OnlyMemory vs → IsLeast (BindsPoint p) 1 vs n lack
      → lack ≡ OutOfMemory
  least_only vs n lack each least =
      let split : Each OnlyMemory (least.before ++ least.at ∷ least.behind) =
      subst (Each OnlyMemory) least.in_order each in
      (each_back OnlyMemory least.before (least.at ∷ least.behind) split).0 lack least.fails

  pub told_only : (statement : Spot) (bs : List CameBack) (f : BindFault)
      → aim_fits p statement.line (Some statement.column) ≡ true → AreInputsBack p bs
      → Tells p 1 (waypoints_in (sequence statement bs)) f → f ≡ fault.OutOfMemory
  told_only statement bs (fault.NoPlace n) fits backs h =
      let e =
      least_only (waypoints_in (sequence statement bs)) n NoPlace
      (only_memory statement bs fits backs) h in
      absurd (cc)
  told_only statement bs (fault.Expression n) fits backs h =
      let e =
      least_only (waypoints_in (sequence statement bs)) n Expression
      (only_memory statement bs fits backs) h in
      absurd (cc)
  told_only statement bs (fault.Scope n) fits backs h =
      let e =
      least_only (waypoints_in (sequence statement bs)) n Scope (only_memory statement bs fits backs) h in
      absurd (cc)
  told_only statement bs fault.OutOfMemory fits backs h = refl
