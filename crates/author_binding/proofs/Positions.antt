-- Positions at which the events of a run match the segments of its inputs and its violation.
use Rattle.std.proofs.Common.{◌≡◌, ◌≤◌, ◌+◌, inl, arith, ℕ, suc, ℤ, Bool, true, false, ◌||◌, ◌&&◌, List, [], ◌∷◌, ◌++◌, length, length-append, append_assoc, Option, Some, None, slice_get, refl, sym, ap, ◌∙◌, subst}
use Rattle.std.specs.List.{cons_option, filter_map}
use Rattle.c_core.specs.Tree.{Program}
use Rattle.c_core.specs.Parts.{same_spot}
use Rattle.c_core.specs.Places.{InputCall, call_at, input_at}
use Rattle.c_core.specs.Program.{IsProgram}
use Rattle.c_core.specs.declared.number.Spot.{Spot}
use Rattle.c_core.proofs.TextOrderLaws.{same_spot-self}
use Rattle.c_meaning.specs.Cells.{Cell}
use Rattle.c_meaning.specs.Run.{Moment, Told, Here, Head}
use Rattle.c_meaning.specs.declared.run.Event.{Event}
use Rattle.c_meaning.specs.declared.run.Event.TheVariants.{At, Branch, Enter, Return, Fail}
use Rattle.c_meaning.proofs.TypeFacts.{some_same}
use Rattle.way_match.specs.Matching.{Before, MatchesFrom, Matches, Seen, seen_of, seen_passes, seen_passes_any}
use Rattle.way_match.specs.Passing.{meets, type_of_call}
use Rattle.way_match.specs.Points as point
use Rattle.way_match.specs.Points.{BoundSegment}
use Rattle.author_runs.specs.Returning.{CameBack, back_at, back_by, returns_in}
use Rattle.author_binding.specs.Followed.{FollowEach, FollowsReturn, follows_alone}
use Rattle.author_binding.proofs.GivenDraws.{AreInputsBack, IsInputBack}
use Rattle.author_binding.proofs.InputEnds.{input_end}

-- ---- events and moments

pub seen_of-append : (xs ys : List Moment) → seen_of (xs ++ ys) ≡ seen_of xs ++ seen_of ys
seen_of-append [] ys = refl
seen_of-append (Told e cs ∷ xs) ys = ap (λ es. record { event = e; cells = cs } ∷ es) (seen_of-append xs ys)
seen_of-append (Here at cs ∷ xs) ys = seen_of-append xs ys
seen_of-append (Head at l a cs ∷ xs) ys = seen_of-append xs ys

module _ (p : Program) where
  -- the inputs that come back among events
  abbrev pub backs_in : List Seen → List CameBack
  backs_in es = filter_map (λ e. back_by p e.event) es

  pub backs_of : (xs : List Moment) → returns_in p xs ≡ backs_in (seen_of xs)
  backs_of [] = refl
  backs_of (Told e cs ∷ xs) = ap (cons_option (back_by p e)) (backs_of xs)
  backs_of (Here at cs ∷ xs) = backs_of xs
  backs_of (Head at l a cs ∷ xs) = backs_of xs

  -- what comes back is told by the return of an input call
  pub record IsReturnOf (e : Event) (b : CameBack) : Type 0 where
    pub event : e ≡ Return b.close (Some b.value)
    pub input : input_at p b.close ≡ Some b.call

  return_by : (close : Spot) (v : ℤ) (o : Option InputCall) (b : CameBack) → input_at p close ≡ o
      → back_at close v o ≡ Some b → IsReturnOf (Return close (Some v)) b
  return_by close v None b e h = absurd (cc)
  return_by close v (Some call) b e h =
      let same : record { close = close; call = call; value = v } ≡ b = some_same h in
      subst (λ (b : CameBack). IsReturnOf (Return close (Some v)) b) same (record { event = refl; input = e })

  pub return_of : (e : Event) (b : CameBack) → back_by p e ≡ Some b → IsReturnOf e b
  return_of (Return close (Some v)) b h = return_by close v (input_at p close) b refl h
  return_of (Return close None) b h = absurd (cc)
  return_of (At spot) b h = absurd (cc)
  return_of (Branch spot way) b h = absurd (cc)
  return_of (Enter spot) b h = absurd (cc)
  return_of (Fail statement full call) b h = absurd (cc)

-- ---- events of a list

get_behind : {A : Type 0} (xs : List A) (y : A) (ys : List A) → slice_get (xs ++ y ∷ ys) (length xs) ≡ Some y
get_behind [] y ys = refl
get_behind (x ∷ xs) y ys = get_behind xs y ys

none_avoided : (p : Program) (s : Option Seen) → seen_passes_any p s [] ≡ false
none_avoided p None = refl
none_avoided p (Some s) = refl

-- ---- matching

module _ (p : Program) (checked : IsProgram p) (statement full : Spot) (call : Option Spot) (cells : List Cell) where
  abbrev last : Seen
  last = record { event = Fail statement full call; cells = cells }

  or_first : (a b : Bool) → a ≡ true → (a || b) ≡ true
  or_first true b h = refl
  or_first false b h = absurd (cc)

  fails : seen_passes p (Some last) (point.Target (point.At statement)) ≡ true
  fails = or_first (same_spot statement statement) _ (same_spot-self statement)

  returned : (b : CameBack) (s : BoundSegment) (e : Seen) → IsInputBack p b → FollowsReturn p b s
      → e.event ≡ Return b.close (Some b.value) → seen_passes p (Some e) s.follow ≡ true
  returned b s e back f at =
      let end = input_end p checked b.close b.call back.input in
      let typed : type_of_call (call_at p b.close) ≡ b.call.ty = ap type_of_call end.found in
      let met : meets p f.test (type_of_call (call_at p b.close)) b.value ≡ true =
      ap (λ ty. meets p f.test ty b.value) typed ∙ f.tests.met b.call.ty back.in_type in
      ap (λ (s : BoundSegment). seen_passes p (Some e) s.follow) f.is
      ∙ ap (λ (x : Event). seen_passes p (Some (record { event = x; cells = e.cells }))
      (point.Return b.close (Some f.test))) at
      ∙ ap (λ t. t && meets p f.test (type_of_call (call_at p b.close)) b.value) (same_spot-self b.close)
      ∙ met

  -- before a segment, k events up to the position before it
  abbrev after : ℕ → Before
  after k = record { events = k; assumes = false }

  -- there are positions from there on
  abbrev Found : ℕ → List BoundSegment → List Seen → Type 0
  Found k ss es = (ns : List ℕ) × MatchesFrom p (after k) ss es ns

  found_last : (k : ℕ) (before es : List Seen) (ss : List BoundSegment) → es ≡ before ++ last ∷ [] → k ≤ length before
      → ss ≡ follows_alone (point.Target (point.At statement)) ∷ [] → Found k ss es
  found_last k before es ss e low is =
      let size : length es ≡ length before + 1 = ap length e ∙ length-append before (last ∷ []) in
      subst (λ ss. Found k ss es) (sym is) (
        length before ∷ [],
        (
          ap (λ s. seen_passes p s (point.Target (point.At statement)))
              (ap (λ (l : List Seen). slice_get l (length before)) e ∙ get_behind before last []) ∙ fails,
          inl low,
          (λ i from to. none_avoided p (slice_get es i)),
          omega (arith, size),
        ),
      )

  found_return : (k : ℕ) (before : List Seen) (e : Seen) (behind es : List Seen) (b : CameBack) (s : BoundSegment)
      (ss : List BoundSegment) → es ≡ before ++ e ∷ behind → k ≤ length before
      → IsInputBack p b → FollowsReturn p b s → e.event ≡ Return b.close (Some b.value)
      → Found (suc (length before)) ss es → Found k (s ∷ ss) es
  found_return k before e behind es b s ss at low back f told rest =
      let passes : seen_passes p (slice_get es (length before)) s.follow ≡ true =
      ap (λ x. seen_passes p x s.follow)
      (ap (λ (l : List Seen). slice_get l (length before)) at ∙ get_behind before e behind)
      ∙ returned b s e back f told in
      let no_assumption : MatchesFrom p (after (suc (length before))) ss es rest.0 = rest.1 in
      subst (λ (x : BoundSegment). Found k (x ∷ ss) es) (sym f.is) (
        length before ∷ rest.0,
        (
          subst (λ (x : BoundSegment). seen_passes p (slice_get es (length before)) x.follow ≡ true) f.is passes,
          inl low,
          (λ i from to. none_avoided p (slice_get es i)),
          no_assumption,
        ),
      )

  longer : (before : List Seen) (e : Seen) → length (before ++ e ∷ []) ≡ suc (length before)
  longer before e = length-append before (e ∷ []) ∙ omega arith

  moved : (es before : List Seen) (e : Seen) (behind : List Seen) → es ≡ before ++ e ∷ behind
      → es ≡ (before ++ e ∷ []) ++ behind
  moved es before e behind at = at ∙ rw append_assoc refl

  -- positions for the events behind these, from any position before them on
  abbrev FoundBehind : List Seen → List Seen → Type 0
  FoundBehind rest es =
      (k : ℕ) (before : List Seen) (ss : List BoundSegment) → es ≡ before ++ (rest ++ last ∷ []) → k ≤ length before
      → AreInputsBack p (backs_in p rest) → FollowEach p statement (backs_in p rest) ss → Found k ss es

  found_by : (k : ℕ) (before : List Seen) (e : Seen) (rest es : List Seen) (ss : List BoundSegment)
      (o : Option CameBack) → back_by p e.event ≡ o
      → es ≡ before ++ (e ∷ rest ++ last ∷ []) → k ≤ length before
      → AreInputsBack p (cons_option o (backs_in p rest))
      → FollowEach p statement (cons_option o (backs_in p rest)) ss → FoundBehind rest es → Found k ss es
  found_by k before e rest es ss None is at low backs f behind =
      let size = longer before e in
      behind k (before ++ e ∷ []) ss (moved es before e (rest ++ last ∷ []) at) (omega (arith, low, size)) backs f
  found_by k before e rest es [] (Some b) is at low backs f behind = absurd f
  found_by k before e rest es (s ∷ ss) (Some b) is at low backs f behind =
      let size = longer before e in
      found_return k before e (rest ++ last ∷ []) es b s ss at low backs.0 f.0 (return_of p e.event b is).event
      (behind (suc (length before)) (before ++ e ∷ []) ss (moved es before e (rest ++ last ∷ []) at)
      (omega (arith, size)) backs.1 f.1)

  found : (rest es : List Seen) → FoundBehind rest es
  found [] es k before ss at low backs f = found_last k before es ss at low f
  found (e ∷ rest) es k before ss at low backs f =
      found_by k before e rest es ss (back_by p e.event) refl at low backs f (found rest es)

  -- the events match, at the returns of the inputs and at the violation
  pub matched : (es rest : List Seen) (ss : List BoundSegment) → es ≡ rest ++ last ∷ []
      → AreInputsBack p (backs_in p rest) → FollowEach p statement (backs_in p rest) ss
      → (positions : List ℕ) × Matches p ss es positions
  matched es rest ss at backs f = found rest es 0 [] ss at (omega arith) backs f
