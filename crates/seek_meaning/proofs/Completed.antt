-- The numbers of completed segments are those that fitting positions have completed: an event completes all segments exactly where the
-- events up to it match them at some positions.
use Rattle.std.proofs.Common.{◌≡◌, ◌↔◌, ◌⊎◌, inl, inr, ℕ, suc, ◌+◌, ◌≤◌, Bool, true, false, not, ◌&&◌, ◌||◌, List, [], ◌∷◌, ◌++◌, length, replicate, reverse, Some, slice_get, refl, sym, ◌∙◌, ap, subst, arith, true≢false}
use Rattle.std.proofs.lemmas.Bool.{and_from, and_parts, or_left, or_right, or_cases, not-true, not_from_false}
use Rattle.std.proofs.lemmas.List.{reverse-append, length-append}
use Rattle.std.proofs.lemmas.Option.{slice_get_past}
use Rattle.c_core.specs.Tree.{Program}
use Rattle.c_meaning.specs.Run.{Moment, Told, Here, Head}
use Rattle.way_match.specs.Points.{Point, BoundSegment}
use Rattle.way_match.specs.Passing.{passes, passes_any, is_assumption}
use Rattle.way_match.specs.Matching.{Seen, seen_of, seen_passes, seen_passes_any, Rises, Avoids, MatchesFrom, Matches}
use Rattle.seek_meaning.specs.Progress.{none_completed, stays, completes, completed_from, completes_from, completed_after, completes_all}
use Rattle.seek_meaning.proofs.Following.{completed_by}

-- after these events
abbrev pub completed_over : Program → List BoundSegment → List Seen → List Bool → List Bool
completed_over p ss [] bs = bs
completed_over p ss (e ∷ es) bs = completed_over p ss es (completed_after p ss e.event e.cells bs)

-- a number for each segment
abbrev Fits : List BoundSegment → List Bool → Type 0
Fits [] [] = Unit {0}
Fits (s ∷ ss) (b ∷ bs) = Fits ss bs
Fits [] (b ∷ bs) = ⊥
Fits (s ∷ ss) [] = ⊥

eq_or_more : (n m : ℕ) → n ≤ m → (n ≡ m) ⊎ (suc n ≤ m)
eq_or_more n m h = grind arith

module _ (p : Program) (es : List Seen) where
  -- from event number n on these segments match at some positions
  abbrev From : ℕ → List BoundSegment → Type 0
  From n ss = (ns : List ℕ) × MatchesFrom p (record { events = n; assumes = false }) ss es ns

  -- they match at some positions after event number n has completed the segments before, the last of which follows an assumption (a)
  abbrev Behind : ℕ → Bool → List BoundSegment → Type 0
  Behind n a ss = (ns : List ℕ) × MatchesFrom p (record { events = suc n; assumes = a }) ss es ns

  -- the rest matches after some number of segments that is completed
  abbrev Alive : ℕ → List BoundSegment → List Bool → Type 0
  Alive n (s ∷ ss) (b ∷ bs) = ((b ≡ true) × From n (s ∷ ss)) ⊎ Alive n ss bs
  Alive n [] bs = ⊥
  Alive n (s ∷ ss) [] = ⊥

  from_later : (n m : ℕ) (x : Point) → Rises (record { events = n; assumes = false }) m x → n ≤ m
  from_later n m x h = elim h [
    | inl e ↦ e
    | inr e ↦ absurd (true≢false (sym e.1))
  ]

  module _ (n : ℕ) (e : Seen) (here : slice_get es n ≡ Some e) where
    abbrev passed : Point → Bool
    passed x = passes p x e.event e.cells

    abbrev avoided : BoundSegment → Bool
    avoided s = passes_any p s.avoids e.event e.cells

    passed_here : (m : ℕ) (x : Point) → n ≡ m → seen_passes p (slice_get es m) x ≡ true → passed x ≡ true
    passed_here m x q h = sym (ap (λ o. seen_passes p o x) here) ∙ ap (λ i. seen_passes p (slice_get es i) x) q ∙ h

    here_passed : (x : Point) → passed x ≡ true → seen_passes p (slice_get es n) x ≡ true
    here_passed x h = ap (λ o. seen_passes p o x) here ∙ h

    here_avoided : (s : BoundSegment) → avoided s ≡ false → seen_passes_any p (slice_get es n) s.avoids ≡ false
    here_avoided s h = ap (λ o. seen_passes_any p o s.avoids) here ∙ h

    -- behind this event the positions begin later, or at it
    from_split : (s : BoundSegment) (ss : List BoundSegment) → From n (s ∷ ss)
        → (avoided s ≡ false) × (From (suc n) (s ∷ ss) ⊎ ((passed s.follow ≡ true) × Behind n (is_assumption s.follow) ss))
    from_split s ss ([], h) = absurd h
    from_split s ss (m ∷ ns, h) =
        let le : n ≤ m = from_later n m s.follow h.1 in
        let av : avoided s ≡ false = sym (ap (λ o. seen_passes_any p o s.avoids) here) ∙ h.2 n (omega arith) (omega (arith, le)) in (
          av,
          elim (eq_or_more n m le) [
            | inl q ↦ inr (passed_here m s.follow q h.0, (ns, subst (λ i. MatchesFrom p (record { events = suc i; assumes = is_assumption s.follow }) ss es ns) (sym q) h.3))
            | inr more ↦ inl (m ∷ ns, (h.0, inl more, λ j lo hi. h.2 j (omega (arith, lo)) hi, h.3))
          ],
        )

    from_later_on : (s : BoundSegment) (ss : List BoundSegment) → avoided s ≡ false → From (suc n) (s ∷ ss) → From n (s ∷ ss)
    from_later_on s ss av ([], h) = absurd h
    from_later_on s ss av (m ∷ ns, h) =
        let le : suc n ≤ m = from_later (suc n) m s.follow h.1 in
        let none : Avoids p es s.avoids n (suc m) = λ j lo hi. elim (eq_or_more n j lo) as (λ _. seen_passes_any p (slice_get es j) s.avoids ≡ false) [
          | inl q ↦ subst (λ i. seen_passes_any p (slice_get es i) s.avoids ≡ false) q (here_avoided s av)
          | inr more ↦ h.2 j more hi
        ] in
        (m ∷ ns, (h.0, inl (omega (arith, le)), none, h.3))

    from_now_on : (s : BoundSegment) (ss : List BoundSegment) → avoided s ≡ false → passed s.follow ≡ true → Behind n (is_assumption s.follow) ss → From n (s ∷ ss)
    from_now_on s ss av f (ns, h) =
        let none : Avoids p es s.avoids n (suc n) = λ j lo hi. let q : n ≡ j = omega (arith, lo, hi) in subst (λ i. seen_passes_any p (slice_get es i) s.avoids ≡ false) q (here_avoided s av) in
        (n ∷ ns, (here_passed s.follow f, inl (omega arith), none, h))

    behind_split : (a : Bool) (s : BoundSegment) (ss : List BoundSegment) → Behind n a (s ∷ ss)
        → From (suc n) (s ∷ ss) ⊎ ((a ≡ true) × (is_assumption s.follow ≡ true) × (passed s.follow ≡ true) × Behind n (is_assumption s.follow) ss)
    behind_split a s ss ([], h) = absurd h
    behind_split a s ss (m ∷ ns, h) = elim h.1 [
      | inl le ↦ inl (m ∷ ns, (h.0, inl le, h.2, h.3))
      | inr q ↦
          let same : n ≡ m = omega (arith, q.0) in
          inr (q.1, q.2, passed_here m s.follow same h.0, (ns, subst (λ i. MatchesFrom p (record { events = suc i; assumes = is_assumption s.follow }) ss es ns) (sym same) h.3))
    ]

    behind_later : (a : Bool) (s : BoundSegment) (ss : List BoundSegment) → From (suc n) (s ∷ ss) → Behind n a (s ∷ ss)
    behind_later a s ss ([], h) = absurd h
    behind_later a s ss (m ∷ ns, h) = (m ∷ ns, (h.0, inl (from_later (suc n) m s.follow h.1), h.2, h.3))

    behind_now : (a : Bool) (s : BoundSegment) (ss : List BoundSegment) → a ≡ true → is_assumption s.follow ≡ true → passed s.follow ≡ true → Behind n (is_assumption s.follow) ss → Behind n a (s ∷ ss)
    behind_now a s ss x y f (ns, h) = (n ∷ ns, (here_passed s.follow f, inr (refl, x, y), (λ j lo hi. absurd (omega (arith, lo, hi))), h))

    behind_end : (a : Bool) → Behind n a [] → suc n ≡ length es
    behind_end a ([], h) = h
    behind_end a (m ∷ ns, h) = absurd h

    abbrev After : Bool → Bool → List BoundSegment → List Bool → Type 0
    After came a ss bs = Alive (suc n) ss (completed_from p e.event e.cells came a ss bs) ⊎ ((completes_from p e.event e.cells came a ss bs ≡ true) × (suc n ≡ length es))

    abbrev Now : Bool → Bool → List BoundSegment → List Bool → Type 0
    Now came a ss bs = Alive n ss bs ⊎ ((came ≡ true) × Behind n a ss)

    forward : (came a : Bool) (ss : List BoundSegment) (bs : List Bool) → Fits ss bs → Now came a ss bs → After came a ss bs
    forward came a [] [] f h = elim h as (λ _. After came a [] []) [
      | inl x ↦ absurd x
      | inr x ↦ inr (x.0, behind_end a x.1)
    ]
    forward came a [] (b ∷ bs) f h = absurd f
    forward came a (s ∷ ss) [] f h = absurd f
    forward came a (s ∷ ss) (b ∷ bs) f h =
        let comes : Bool = completes p e.event e.cells came a s b in
        let st : Bool = stays p e.event e.cells s b in
        let rest : Now comes (is_assumption s.follow) ss bs → After comes (is_assumption s.follow) ss bs = forward comes (is_assumption s.follow) ss bs f in
        let lift : After comes (is_assumption s.follow) ss bs → After came a (s ∷ ss) (b ∷ bs) = λ x. elim x as (λ _. After came a (s ∷ ss) (b ∷ bs)) [
          | inl y ↦ inl (inr y)
          | inr y ↦ inr y
        ] in
        elim h as (λ _. After came a (s ∷ ss) (b ∷ bs)) [
          | inl x ↦ elim x as (λ _. After came a (s ∷ ss) (b ∷ bs)) [
            | inl y ↦
                let t = from_split s ss y.1 in
                let kept : st ≡ true = and_from b (not (avoided s)) y.0 (not_from_false (avoided s) t.0) in
                elim t.1 as (λ _. After came a (s ∷ ss) (b ∷ bs)) [
                  | inl z ↦ inl (inl (or_left st came kept, z))
                  | inr z ↦ lift (rest (inr (and_from (passed s.follow) (st || (a && (is_assumption s.follow && came))) z.0 (or_left st (a && (is_assumption s.follow && came)) kept), z.1)))
                ]
            | inr y ↦ lift (rest (inl y))
          ]
          | inr x ↦ elim (behind_split a s ss x.1) as (λ _. After came a (s ∷ ss) (b ∷ bs)) [
            | inl y ↦ inl (inl (or_right st came x.0, y))
            | inr y ↦
                let shares : (a && (is_assumption s.follow && came)) ≡ true = and_from a (is_assumption s.follow && came) y.0 (and_from (is_assumption s.follow) came y.1 x.0) in
                lift (rest (inr (and_from (passed s.follow) (st || (a && (is_assumption s.follow && came))) y.2 (or_right st (a && (is_assumption s.follow && came)) shares), y.3)))
          ]
        ]

    backward : (came a : Bool) (ss : List BoundSegment) (bs : List Bool) → Fits ss bs → After came a ss bs → Now came a ss bs
    backward came a [] [] f h = elim h as (λ _. Now came a [] []) [
      | inl x ↦ absurd x
      | inr x ↦ inr (x.0, ([], x.1))
    ]
    backward came a [] (b ∷ bs) f h = absurd f
    backward came a (s ∷ ss) [] f h = absurd f
    backward came a (s ∷ ss) (b ∷ bs) f h =
        let comes : Bool = completes p e.event e.cells came a s b in
        let st : Bool = stays p e.event e.cells s b in
        let rest : After comes (is_assumption s.follow) ss bs → Now comes (is_assumption s.follow) ss bs = backward comes (is_assumption s.follow) ss bs f in
        let lift : Now comes (is_assumption s.follow) ss bs → Now came a (s ∷ ss) (b ∷ bs) = λ x. elim x as (λ _. Now came a (s ∷ ss) (b ∷ bs)) [
          | inl y ↦ inl (inr y)
          | inr y ↦
              let c = and_parts (passed s.follow) (st || (a && (is_assumption s.follow && came))) y.0 in
              elim (or_cases st (a && (is_assumption s.follow && came)) c.1) as (λ _. Now came a (s ∷ ss) (b ∷ bs)) [
                | inl z ↦
                    let k = and_parts b (not (avoided s)) z in
                    inl (inl (k.0, from_now_on s ss (not-true (avoided s) k.1) c.0 y.1))
                | inr z ↦
                    let k = and_parts a (is_assumption s.follow && came) z in
                    let j = and_parts (is_assumption s.follow) came k.1 in
                    inr (j.1, behind_now a s ss k.0 j.0 c.0 y.1)
              ]
        ] in
        elim h as (λ _. Now came a (s ∷ ss) (b ∷ bs)) [
          | inl x ↦ elim x as (λ _. Now came a (s ∷ ss) (b ∷ bs)) [
            | inl y ↦ elim (or_cases st came y.0) as (λ _. Now came a (s ∷ ss) (b ∷ bs)) [
              | inl z ↦
                  let k = and_parts b (not (avoided s)) z in
                  inl (inl (k.0, from_later_on s ss (not-true (avoided s) k.1) y.1))
              | inr z ↦ inr (z, behind_later a s ss y.1)
            ]
            | inr y ↦ lift (rest (inl y))
          ]
          | inr x ↦ lift (rest (inr x))
        ]

  -- no positions begin after the last event
  dead : (n : ℕ) (ss : List BoundSegment) (bs : List Bool) → length es ≤ n → Alive n ss bs → ⊥
  dead n [] bs le h = h
  dead n (s ∷ ss) [] le h = h
  dead n (s ∷ ss) (b ∷ bs) le h = elim h [
    | inl x ↦ none s ss x.1
    | inr x ↦ dead n ss bs le x
  ]
    where
      none : (s : BoundSegment) (ss : List BoundSegment) → From n (s ∷ ss) → ⊥
      none s ss ([], h) = h
      none s ss (m ∷ ns, h) = true≢false (sym h.0 ∙ ap (λ o. seen_passes p o s.follow) (slice_get_past es m (omega (arith, le, from_later n m s.follow h.1))))

  fits_from : (e : Seen) (came a : Bool) (ss : List BoundSegment) (bs : List Bool) → Fits ss bs → Fits ss (completed_from p e.event e.cells came a ss bs)
  fits_from e came a [] [] f = tt
  fits_from e came a [] (b ∷ bs) f = absurd f
  fits_from e came a (s ∷ ss) [] f = absurd f
  fits_from e came a (s ∷ ss) (b ∷ bs) f = fits_from e (completes p e.event e.cells came a s b) (is_assumption s.follow) ss bs f

  -- over the events from number n on, the last of which is here
  along : (ss : List BoundSegment) (last : Seen) (rest : List Seen) (n : ℕ) (bs : List Bool) → Fits ss bs → ((j : ℕ) → slice_get es (n + j) ≡ slice_get (rest ++ last ∷ []) j) → length es ≡ n + suc (length rest)
      → Alive n ss bs ↔ (completes_all p ss last.event last.cells (completed_over p ss rest bs) ≡ true)
  along ss last [] n bs f agree len =
      let z : n + 0 ≡ n = omega arith in
      let here : slice_get es n ≡ Some last = subst (λ i. slice_get es i ≡ Some last) z (agree 0) in
      let end : suc n ≡ length es = omega (arith, len) in (
        λ h. elim (forward n last here false false ss bs f (inl h)) as (λ _. completes_all p ss last.event last.cells bs ≡ true) [
          | inl x ↦ absurd (dead (suc n) ss (completed_from p last.event last.cells false false ss bs) (omega (arith, end)) x)
          | inr x ↦ x.0
        ],
        λ h. elim (backward n last here false false ss bs f (inr (h, end))) as (λ _. Alive n ss bs) [
          | inl x ↦ x
          | inr x ↦ absurd (true≢false (sym x.0))
        ],
      )
  along ss last (r ∷ rest) n bs f agree len =
      let z : n + 0 ≡ n = omega arith in
      let here : slice_get es n ≡ Some r = subst (λ i. slice_get es i ≡ Some r) z (agree 0) in
      let later : (j : ℕ) → slice_get es (suc n + j) ≡ slice_get (rest ++ last ∷ []) j = λ j. let k : n + suc j ≡ suc n + j = omega arith in subst (λ i. slice_get es i ≡ slice_get (rest ++ last ∷ []) j) k (agree (suc j)) in
      let on = along ss last rest (suc n) (completed_after p ss r.event r.cells bs) (fits_from r false false ss bs f) later (omega (arith, len)) in (
        λ h. elim (forward n r here false false ss bs f (inl h)) as (λ _. completes_all p ss last.event last.cells (completed_over p ss (r ∷ rest) bs) ≡ true) [
          | inl x ↦ on.0 x
          | inr x ↦ absurd (omega (arith, x.1, len))
        ],
        λ h. elim (backward n r here false false ss bs f (inl (on.1 h))) as (λ _. Alive n ss bs) [
          | inl x ↦ x
          | inr x ↦ absurd (true≢false (sym x.0))
        ],
      )

  none_yet : (ss : List BoundSegment) → Alive 0 ss (replicate (length ss) false) → ⊥
  none_yet [] h = h
  none_yet (s ∷ ss) h = elim h [
    | inl x ↦ true≢false (sym x.0)
    | inr x ↦ none_yet ss x
  ]

  fits_first : (ss : List BoundSegment) → Fits ss (none_completed ss)
  fits_first [] = tt
  fits_first (s ∷ ss) = by ss
    where
      by : (ss : List BoundSegment) → Fits ss (replicate (length ss) false)
      by [] = tt
      by (s ∷ ss) = by ss

  starts : (ss : List BoundSegment) → (length es ≡ 0 → ⊥) → Alive 0 ss (none_completed ss) ↔ ((ns : List ℕ) × Matches p ss es ns)
  starts [] some = (λ h. absurd h, λ h. absurd (by h.0 h.1))
    where
      by : (ns : List ℕ) → Matches p [] es ns → ⊥
      by [] h = some (sym h)
      by (n ∷ ns) h = h
  starts (s ∷ ss) some = (
    (λ h. elim h as (λ _. (ns : List ℕ) × Matches p (s ∷ ss) es ns) [
      | inl x ↦ x.1
      | inr x ↦ absurd (none_yet ss x)
    ]),
    λ h. inl (refl, h),
  )

-- the last event completes all segments exactly where the events match them
pub matched : (p : Program) (ss : List BoundSegment) (before : List Seen) (last : Seen)
    → (completes_all p ss last.event last.cells (completed_over p ss before (none_completed ss)) ≡ true) ↔ ((ns : List ℕ) × Matches p ss (before ++ last ∷ []) ns)
matched p ss before last =
    let es : List Seen = before ++ last ∷ [] in
    let len : length es ≡ 0 + suc (length before) = length-append before (last ∷ []) ∙ omega arith in
    let zero_is : (j : ℕ) → 0 + j ≡ j = λ j. omega arith in
    let a = along p es ss last before 0 (none_completed ss) (fits_first p es ss) (λ j. ap (slice_get es) (zero_is j)) len in
    let s = starts p es ss (λ e. absurd (omega (arith, e, len))) in
    (λ h. s.0 (a.1 h), λ h. a.0 (s.1 h))

seen_append : (xs ys : List Moment) → seen_of (xs ++ ys) ≡ seen_of xs ++ seen_of ys
seen_append [] ys = refl
seen_append (Told e c ∷ xs) ys = ap (λ es. record { event = e; cells = c } ∷ es) (seen_append xs ys)
seen_append (Here spot c ∷ xs) ys = seen_append xs ys
seen_append (Head at l c d ∷ xs) ys = seen_append xs ys

-- of moments, the last first, with one event more
pub one_more : (x : Moment) (xs : List Moment) → seen_of (reverse (x ∷ xs)) ≡ seen_of (reverse xs) ++ seen_of (x ∷ [])
one_more x xs = ap seen_of (reverse-append (x ∷ []) xs) ∙ seen_append (reverse xs) (x ∷ [])

over_append : (p : Program) (ss : List BoundSegment) (es fs : List Seen) (bs : List Bool) → completed_over p ss (es ++ fs) bs ≡ completed_over p ss fs (completed_over p ss es bs)
over_append p ss [] fs bs = refl
over_append p ss (e ∷ es) fs bs = over_append p ss es fs (completed_after p ss e.event e.cells bs)

-- what is kept moment by moment
in_moment : (p : Program) (ss : List BoundSegment) (k : ℕ) (x : Moment) (xs : List Moment) (bs : List Bool) → completed_by p ss k xs ≡ bs → completed_by p ss k (x ∷ xs) ≡ completed_over p ss (seen_of (x ∷ [])) bs
in_moment p ss k (Told e c) xs bs h = ap (completed_after p ss e c) h
in_moment p ss k (Here spot c) xs bs h = h
in_moment p ss k (Head at l c d) xs bs h = h

-- is what the events complete
pub completed_in_all : (p : Program) (ss : List BoundSegment) (k : ℕ) (xs : List Moment) → completed_by p ss k xs ≡ completed_over p ss (seen_of (reverse xs)) (none_completed ss)
completed_in_all p ss k [] = refl
completed_in_all p ss k (x ∷ xs) =
    let before : List Bool = completed_over p ss (seen_of (reverse xs)) (none_completed ss) in
    let all = ap (λ es. completed_over p ss es (none_completed ss)) (one_more x xs) ∙ over_append p ss (seen_of (reverse xs)) (seen_of (x ∷ [])) (none_completed ss) in
    in_moment p ss k x xs before (completed_in_all p ss k xs) ∙ sym all
