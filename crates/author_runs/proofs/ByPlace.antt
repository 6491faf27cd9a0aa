-- Values given by place answer the draws of a run.
use Rattle.std.proofs.Common.{◌≡◌, ℕ, ℤ, pos, Bool, true, false, cond, not, ◌&&◌, List, [], ◌∷◌, ◌++◌, ◌+◌, Some, refl, sym, ◌∙◌, ap, subst, nat_eq, eqb-true}
use Rattle.std.proofs.lemmas.List.{append-nil}
use Rattle.std.proofs.lemmas.List.Elements.{All-head, All-tail}
use Rattle.std.specs.List.{All, fold, filter}
use Rattle.c_core.specs.Tree.{Program}
use Rattle.c_core.specs.Types.{fit}
use Rattle.c_core.specs.declared.number.DataModel.{DataModel}
use Rattle.c_core.specs.declared.number.IntType.{IntType}
use Rattle.c_core.specs.declared.number.Spot.{Spot}
use Rattle.c_core.proofs.Fits.{fit_kept}
use Rattle.c_core.proofs.TextOrderLaws.{left, right, same_spot-self}
use Rattle.c_meaning.specs.Drawn.{IsFitting}
use Rattle.c_core.specs.Parts.{same_spot}
use Rattle.c_meaning.specs.Replay.{values_of}
use Rattle.c_meaning.specs.Run.{Run, first_value, other_values, given_at, given_after, or_zero, one_if_none}
use Rattle.c_meaning.specs.declared.run.Choices.{Choices}
use Rattle.c_meaning.specs.declared.run.Choices.TheVariants.{Given}
use Rattle.c_meaning.specs.declared.run.Draw.{Draw}
use Rattle.c_meaning.specs.declared.run.DrawKind.{DrawKind}
use Rattle.c_meaning.specs.declared.run.DrawKind.TheVariants.{Input, Cell, Havoc}
use Rattle.c_meaning.specs.declared.run.Given.{Given as GivenAt}
use Rattle.c_meaning.proofs.DrawsFit.{draws_fit}
use Rattle.author_runs.specs.Giving.{is_input, is_input_at, input_values_at, values_given_at, GivesDraws, IsZeroUnlessInput, OthersDrewZero, IsSameRun}
use Rattle.author_runs.proofs.Answered.{Left, Answers, after_all, answered_run}

one_place : (a b : Spot) → same_spot a b ≡ true → a ≡ b
one_place a b h =
    let l : a.line ≡ b.line = eqb-true a.line b.line (left _ _ h) in
    let c : a.column ≡ b.column = eqb-true a.column b.column (right (nat_eq a.line b.line) _ h) in
    ap (λ n. record { line = n; column = a.column }) l ∙ ap (λ n. record { line = b.line; column = n }) c

-- ---- the lists of places

given_first : (spot : Spot) (gs : List GivenAt) → given_at spot gs ≡ first_value (values_given_at spot gs)
given_first spot [] = refl
given_first spot (g ∷ gs) = by (same_spot g.spot spot) (given_first spot gs)
  where
    by : (b : Bool) → given_at spot gs ≡ first_value (values_given_at spot gs)
        → cond b (first_value g.values) (given_at spot gs) ≡ first_value (cond b g.values (values_given_at spot gs))
    by true i = refl
    by false i = i

-- what given_after makes of the first entry, where it is one of the place or isn't
abbrev after_by : Bool → Spot → GivenAt → List GivenAt → List GivenAt
after_by b spot g gs = cond b (record g { values = other_values g.values } ∷ gs) (g ∷ given_after spot gs)

taken_here : (spot : Spot) (gs : List GivenAt)
    → values_given_at spot (given_after spot gs) ≡ other_values (values_given_at spot gs)
taken_here spot [] = refl
taken_here spot (g ∷ gs) = by (same_spot g.spot spot) refl (taken_here spot gs)
  where
    by : (b : Bool) → same_spot g.spot spot ≡ b
        → values_given_at spot (given_after spot gs) ≡ other_values (values_given_at spot gs)
        → values_given_at spot (after_by b spot g gs) ≡ other_values (cond b g.values (values_given_at spot gs))
    by true e i = ap (λ b. cond b (other_values g.values) (values_given_at spot gs)) e
    by false e i = ap (λ b. cond b g.values (values_given_at spot (given_after spot gs))) e ∙ i

kept_elsewhere : (spot other : Spot) → same_spot spot other ≡ false → (gs : List GivenAt)
    → values_given_at other (given_after spot gs) ≡ values_given_at other gs
kept_elsewhere spot other h [] = refl
kept_elsewhere spot other h (g ∷ gs) = by (same_spot g.spot spot) refl (kept_elsewhere spot other h gs)
  where
    off : g.spot ≡ spot → same_spot g.spot other ≡ false
    off e = subst (λ s. same_spot s other ≡ false) (sym e) h

    -- an entry of another place isn't asked
    passed : g.spot ≡ spot → (vs : List ℤ)
        → cond (same_spot g.spot other) vs (values_given_at other gs) ≡ values_given_at other gs
    passed e vs = ap (λ b. cond b vs (values_given_at other gs)) (off e)

    by : (b : Bool) → same_spot g.spot spot ≡ b → values_given_at other (given_after spot gs) ≡ values_given_at other gs
        → values_given_at other (after_by b spot g gs) ≡ values_given_at other (g ∷ gs)
    by true e i = let here = one_place g.spot spot e in passed here (other_values g.values) ∙ sym (passed here g.values)
    by false e i = ap (cond (same_spot g.spot other) g.values) i

-- ---- the draws of a run

-- at each place the values given begin with those that inputs drew there
abbrev Begins : List GivenAt → List Draw → Type 0
Begins gs ds = (spot : Spot) → (rest : List ℤ) × (values_given_at spot gs ≡ input_values_at spot ds ++ rest)

both_are : (s t b : Bool) → s ≡ true → t ≡ b → (s && t) ≡ b
both_are true t b e f = f
both_are false t b e f = cc

-- what inputs drew at a place, where an input drew first, there or elsewhere
abbrev values_by : Bool → Spot → Draw → List Draw → List ℤ
values_by b spot d ds = values_of (cond b (d ∷ filter (is_input_at spot) ds) (filter (is_input_at spot) ds))

drew_first : (d : Draw) (ds : List Draw) (spot : Spot) (b : Bool) → is_input d.from ≡ true → same_spot d.spot spot ≡ b
    → input_values_at spot (d ∷ ds) ≡ values_by b spot d ds
drew_first d ds spot b i e = ap (λ t. values_by t spot d ds) (both_are (is_input d.from) (same_spot d.spot spot) b i e)

-- after a draw from an input
begins_after : (d : Draw) (ds : List Draw) (gs : List GivenAt) → is_input d.from ≡ true → Begins gs (d ∷ ds)
    → Begins (given_after d.spot gs) ds
begins_after d ds gs i g spot = by (same_spot d.spot spot) refl
  where
    rest : List ℤ
    rest = (g spot).0

    given : (b : Bool) → same_spot d.spot spot ≡ b → values_given_at spot gs ≡ values_by b spot d ds ++ rest
    given b e = (g spot).1 ∙ ap (λ vs. vs ++ rest) (drew_first d ds spot b i e)

    by : (b : Bool) → same_spot d.spot spot ≡ b
        → (left : List ℤ) × (values_given_at spot (given_after d.spot gs) ≡ input_values_at spot ds ++ left)
    by true e =
        let here = ap (λ s. values_given_at spot (given_after s gs)) (one_place d.spot spot e) in
        (rest, here ∙ taken_here spot gs ∙ ap other_values (given true e))
    by false e = (rest, kept_elsewhere d.spot spot e gs ∙ given false e)

-- the value of an input that draws first is the one given next at its place
given_next : (d : Draw) (ds : List Draw) (gs : List GivenAt) → is_input d.from ≡ true → Begins gs (d ∷ ds)
    → given_at d.spot gs ≡ Some d.value
given_next d ds gs i g =
    let from_it = drew_first d ds d.spot true i (same_spot-self d.spot) in
    given_first d.spot gs ∙ ap first_value ((g d.spot).1 ∙ ap (λ vs. vs ++ (g d.spot).0) from_it)

-- one more where a draw isn't from an input
abbrev more_others : ℕ → Draw → ℕ
more_others n d = n + cond (not (is_input d.from)) 1 0

-- the lists answer the draws, and all others take no choice
abbrev Gives : DataModel → List Draw → List GivenAt → ℕ → Type 0
Gives m ds gs n =
    let l : Left = record { choices = Given gs; unfixed = n } in
    Answers m ds l × ((after_all ds l).unfixed ≡ fold more_others n ds)

-- 0 is converted to 0 where some value of the type is 0
zero_drawn : (m : DataModel) (ty : IntType) (v : ℤ) → v ≡ pos 0 → fit m ty v ≡ v → fit m ty (pos 0) ≡ v
zero_drawn m ty v z f = ap (fit m ty) (sym z) ∙ f

-- a draw, where the lists answer the draws after it
gives_one : (m : DataModel) (kind : DrawKind) (spot : Spot) (ty : IntType) (v : ℤ) (ds : List Draw) (gs : List GivenAt)
    (n : ℕ) → IsZeroUnlessInput kind v → fit m ty v ≡ v → ((hs : List GivenAt) (k : ℕ) → Begins hs ds → Gives m ds hs k)
    → Begins gs (record { spot = spot; ty = ty; value = v; from = kind } ∷ ds)
    → Gives m (record { spot = spot; ty = ty; value = v; from = kind } ∷ ds) gs n
gives_one m Input spot ty v ds gs n z e more g =
    let d : Draw = record { spot = spot; ty = ty; value = v; from = Input } in
    let next : given_at spot gs ≡ Some v = given_next d ds gs refl g in
    let rest = more (given_after spot gs) (n + one_if_none (given_at spot gs)) (begins_after d ds gs refl g) in
    let counted = ap (λ o. fold more_others (n + one_if_none o) ds) next in
    ((ap (λ o. fit m ty (or_zero o)) next ∙ e, rest.0), rest.1 ∙ counted)
gives_one m Cell spot ty v ds gs n z e more g =
    let rest = more gs (n + 1) g in ((zero_drawn m ty v z e, rest.0), rest.1)
gives_one m Havoc spot ty v ds gs n z e more g =
    let rest = more gs (n + 1) g in ((zero_drawn m ty v z e, rest.0), rest.1)

-- what drew something else than 0 is an input
abbrev IsZeroOrInput : Draw → Type 0
IsZeroOrInput d = IsZeroUnlessInput d.from d.value

gives_all : (m : DataModel) (ds : List Draw) (gs : List GivenAt) (n : ℕ) → All IsZeroOrInput ds → All (IsFitting m) ds
    → Begins gs ds → Gives m ds gs n
gives_all m [] gs n z f g = (tt, refl)
gives_all m (d ∷ ds) gs n z f g =
    let zeros = All-tail IsZeroOrInput d ds z in
    let fits = All-tail (IsFitting m) d ds f in
    gives_one m d.from d.spot d.ty d.value ds gs n (All-head IsZeroOrInput d ds z)
    (fit_kept m d.ty d.value (All-head (IsFitting m) d ds f)) (λ hs k h. gives_all m ds hs k zeros fits h) g

-- ---- runs

some_value : (v : ℤ) (vs : List ℤ) → v ∷ vs ≡ [] → ⊥
some_value v vs e = cc

begins_exactly : (vs ws : List ℤ) → ((vs ≡ [] → ⊥) → ws ≡ vs) → (rest : List ℤ) × (ws ≡ vs ++ rest)
begins_exactly [] ws h = (ws, refl)
begins_exactly (v ∷ vs) ws h = ([], h (some_value v vs) ∙ sym (append-nil (v ∷ vs)))

pub given_by_place : (p : Program) (c : Choices) (N : ℕ) (gs : List GivenAt) → OthersDrewZero (Run p c N).draws
    → GivesDraws gs (Run p c N).draws → IsSameRun p c (Given gs) N
given_by_place p c N gs z g =
    let ds = (Run p c N).draws in
    let begins : Begins gs ds = λ spot. begins_exactly (input_values_at spot ds) (values_given_at spot gs) (g spot) in
    let r = gives_all p.model ds gs 0 z (draws_fit p c N).in_types begins in
    let a = answered_run p c (Given gs) N r.0 in
    record { run = a.0 ∙ ap (λ n. record (Run p c N) { unfixed = n }) r.1; moments = a.1 }
