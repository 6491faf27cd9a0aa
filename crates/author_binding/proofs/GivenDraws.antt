-- The values that the segments give are those that the inputs of the run drew, place by place.
use Rattle.std.proofs.Common.{◌≡◌, ℤ, Bool, true, false, cond, ◌&&◌, ◌||◌, List, [], ◌∷◌, ◌++◌, map, Option, Some, None, refl, sym, ap, ◌∙◌, subst}
use Rattle.std.proofs.lemmas.Bool.{false≢true}
use Rattle.std.proofs.lemmas.Bool.{or_right}
use Rattle.std.specs.List.{cons_option, filter, filter_map, list_all, list_any}
use Rattle.c_core.specs.Tree.{Exp, Expr, Call, Program}
use Rattle.c_core.specs.Types.{in_range}
use Rattle.c_core.specs.Parts.{exps_of_program, same_spot}
use Rattle.c_core.specs.Places.{InputCall, first_some, input_at, input_of}
use Rattle.c_core.specs.declared.number.Spot.{Spot}
use Rattle.c_core.specs.declared.tree.Callee.TheVariants.{Input as InputFunction, Defined, ReachError, Abort, Exit}
use Rattle.c_core.proofs.Fits.{fit_kept}
use Rattle.c_core.proofs.TextOrderLaws.{left, right}
use Rattle.c_meaning.specs.Drawn.{IsIn64Bits}
use Rattle.c_meaning.specs.Replay.{values_of}
use Rattle.c_meaning.specs.declared.run.Draw.{Draw}
use Rattle.c_meaning.specs.declared.run.DrawKind.{DrawKind}
use Rattle.c_meaning.specs.declared.run.DrawKind.TheVariants.{Input, Cell, Havoc}
use Rattle.c_meaning.specs.declared.run.Given.{Given as GivenAt}
use Rattle.way_match.specs.Given.{given_by_follow, given_by_return, input_calls, value_if_at, values_at}
use Rattle.way_match.specs.Points.{BoundSegment, ReturnTest}
use Rattle.author_runs.specs.Giving.{GivesDraws, HasInputAt, input_values_at, is_input, is_input_at, values_given_at}
use Rattle.author_runs.specs.Returning.{CameBack, came_of, drawn_to, end_from, end_of_input, ends_by, has_end, inputs_in}
use Rattle.author_runs.proofs.OneCall.{same_place}
use Rattle.author_binding.specs.ConstantTests.{IsEqualTo}
use Rattle.author_binding.specs.Followed.{FollowEach, FollowsReturn}

-- an input call ends at its place, and its type holds the value, which is in 64 bits
pub record IsInputBack (p : Program) (b : CameBack) : Type 0 where
  pub input : input_at p b.close ≡ Some b.call
  pub in_type : in_range p.model b.call.ty b.value ≡ true
  pub in_bits : IsIn64Bits b.value

-- each is such
abbrev pub AreInputsBack : Program → List CameBack → Type 0
AreInputsBack p [] = Unit {0}
AreInputsBack p (b ∷ bs) = IsInputBack p b × AreInputsBack p bs

module _ (p : Program) (spot : Spot) where
  -- the values of those whose call begins at the place
  abbrev values_back : List CameBack → List ℤ
  values_back [] = []
  values_back (b ∷ bs) = cond (same_spot b.call.spot spot) (b.value ∷ []) [] ++ values_back bs

  -- ---- of the draws

  abbrev drawn_here : List Draw → List Draw
  drawn_here ds = filter (is_input_at spot) ds

  ended_draw : (d : Draw) (ds : List Draw) (t : Bool) (close : Spot) → same_spot d.spot spot ≡ t
      → values_of (drawn_here ds) ≡ values_back (inputs_in p ds)
      → values_of (cond t (d ∷ drawn_here ds) (drawn_here ds)) ≡ cond t (d.value ∷ []) [] ++ values_back (inputs_in p ds)
  ended_draw d ds true close e h = ap (λ vs. d.value ∷ vs) h
  ended_draw d ds false close e h = h

  input_draw : (d : Draw) (ds : List Draw) (o : Option Spot) → ends_by Input o ≡ true
      → values_of (drawn_here ds) ≡ values_back (inputs_in p ds)
      → values_of (cond (same_spot d.spot spot) (d ∷ drawn_here ds) (drawn_here ds)) ≡ values_back (cons_option (drawn_to d o) (inputs_in p ds))
  input_draw d ds None ends h = absurd (false≢true ends)
  input_draw d ds (Some close) ends h = ended_draw d ds (same_spot d.spot spot) close refl h

  of_kind : (kind : DrawKind) (d : Draw) (ds : List Draw) → ends_by kind (end_of_input p d.spot) ≡ true
      → values_of (drawn_here ds) ≡ values_back (inputs_in p ds)
      → values_of (cond (is_input kind && same_spot d.spot spot) (d ∷ drawn_here ds) (drawn_here ds)) ≡ values_back (cons_option (came_of p kind d) (inputs_in p ds))
  of_kind Input d ds ends h = input_draw d ds (end_of_input p d.spot) ends h
  of_kind Cell d ds ends h = h
  of_kind Havoc d ds ends h = h

  drawn_back : (ds : List Draw) → list_all (has_end p) ds ≡ true
      → input_values_at spot ds ≡ values_back (inputs_in p ds)
  drawn_back [] h = refl
  drawn_back (d ∷ ds) h =
      of_kind d.from d ds (left (has_end p d) (list_all (has_end p) ds) h)
      (drawn_back ds (right (has_end p d) (list_all (has_end p) ds) h))

  -- ---- of the segments

  gives_its_value : (b : CameBack) (t : ReturnTest) → IsInputBack p b → IsEqualTo p b.value t
      → given_by_return p (input_at p b.close) (Some t) ≡ Some (record { spot = b.call.spot; value = b.value })
  gives_its_value b t h test =
      ap (λ o. given_by_return p o (Some t)) h.input
      ∙ rw (test.compares, test.value, fit_kept p.model b.call.ty b.value h.in_type) refl

  gives_one : (b : CameBack) (s : BoundSegment) → IsInputBack p b → FollowsReturn p b s
      → value_if_at spot (given_by_follow p s.follow) ≡ cond (same_spot b.call.spot spot) (b.value ∷ []) []
  gives_one b s h f =
      ap (λ (s : BoundSegment). value_if_at spot (given_by_follow p s.follow)) f.is
      ∙ ap (value_if_at spot) (gives_its_value b f.test h f.tests)

  followed_back : (statement : Spot) (bs : List CameBack) (ss : List BoundSegment) → AreInputsBack p bs
      → FollowEach p statement bs ss
      → values_at p spot ss ≡ values_back bs
  followed_back statement [] ss h f = ap (values_at p spot) f
  followed_back statement (b ∷ bs) [] h f = absurd f
  followed_back statement (b ∷ bs) (s ∷ ss) h f =
      ap (λ vs. vs ++ values_at p spot ss) (gives_one b s h.0 f.0)
      ∙ ap (λ vs. cond (same_spot b.call.spot spot) (b.value ∷ []) [] ++ vs) (followed_back statement bs ss h.1 f.1)

  -- ---- of the program's input calls

  abbrev is_there : InputCall → Bool
  is_there call = same_spot call.spot spot

  module _ (ss : List BoundSegment) where
    abbrev entry : InputCall → GivenAt
    entry call = record { spot = call.spot; values = values_at p call.spot ss }

    at_first : (call : InputCall) (calls : List InputCall) (t : Bool) → is_there call ≡ t
        → (t || list_any is_there calls) ≡ true
        → (list_any is_there calls ≡ true → values_given_at spot (map entry calls) ≡ values_at p spot ss)
        → cond t (values_at p call.spot ss) (values_given_at spot (map entry calls)) ≡ values_at p spot ss
    at_first call calls true e h rest = ap (λ (a : Spot). values_at p a ss) (same_place call.spot spot e)
    at_first call calls false e h rest = rest h

    given_there : (calls : List InputCall) → list_any is_there calls ≡ true
        → values_given_at spot (map entry calls) ≡ values_at p spot ss
    given_there [] h = absurd (false≢true h)
    given_there (call ∷ calls) h = at_first call calls (is_there call) refl h (given_there calls)

  -- where an input call begins there, it is among them
  any_more : (o : Option InputCall) (calls : List InputCall) → list_any is_there calls ≡ true
      → list_any is_there (cons_option o calls) ≡ true
  any_more None calls h = h
  any_more (Some call) calls h = or_right (is_there call) (list_any is_there calls) h

  no_end : (t : Bool) (close : Spot) → cond t None None ≡ Some close → ⊥
  no_end true close h = absurd (cc)
  no_end false close h = absurd (cc)

  end_is_call : (e : Exp) (calls : List InputCall) (close : Spot) → end_from spot e ≡ Some close
      → list_any is_there (cons_option (input_of e) calls) ≡ true
  end_is_call (Expr at ty (Call (InputFunction input) es close)) calls end h = by (same_spot at spot) h
    where
      by : (t : Bool) → cond t (Some close) None ≡ Some end → (t || list_any is_there calls) ≡ true
      by true h = refl
      by false h = absurd (cc)
  end_is_call (Expr at ty (Call (Defined f) es close)) calls end h = absurd (no_end (same_spot at spot) end h)
  end_is_call (Expr at ty (Call ReachError es close)) calls end h = absurd (no_end (same_spot at spot) end h)
  end_is_call (Expr at ty (Call Abort es close)) calls end h = absurd (no_end (same_spot at spot) end h)
  end_is_call (Expr at ty (Call Exit es close)) calls end h = absurd (no_end (same_spot at spot) end h)
  end_is_call (Expr at ty _) calls end h = absurd (no_end (same_spot at spot) end h)

  first_end : (e : Exp) (es : List Exp) (o : Option Spot) (close : Spot) → end_from spot e ≡ o
      → first_some (o ∷ map (end_from spot) es) ≡ Some close
      → (first_some (map (end_from spot) es) ≡ Some close → list_any is_there (filter_map input_of es) ≡ true)
      → list_any is_there (cons_option (input_of e) (filter_map input_of es)) ≡ true
  first_end e es None close at h rest = any_more (input_of e) (filter_map input_of es) (rest h)
  first_end e es (Some end) close at h rest = end_is_call e (filter_map input_of es) end at

  call_begins : (es : List Exp) (close : Spot) → first_some (map (end_from spot) es) ≡ Some close
      → list_any is_there (filter_map input_of es) ≡ true
  call_begins [] close h = absurd (cc)
  call_begins (e ∷ es) close h = first_end e es (end_from spot e) close refl h (call_begins es close)

  -- where none begins there, none of the draws is of the place
  elsewhere : (d : Draw) (ds : List Draw) (t : Bool) → end_of_input p spot ≡ None → same_spot d.spot spot ≡ t
      → ends_by Input (end_of_input p d.spot) ≡ true
      → values_of (drawn_here ds) ≡ [] → values_of (cond t (d ∷ drawn_here ds) (drawn_here ds)) ≡ []
  elsewhere d ds true none e ends h =
      let same = same_place d.spot spot e in
      let no : ends_by Input None ≡ true =
      subst (λ o. ends_by Input o ≡ true) (ap (λ (a : Spot). end_of_input p a) same ∙ none) ends in
      absurd (false≢true no)
  elsewhere d ds false none e ends h = h

  none_of_kind : (kind : DrawKind) (d : Draw) (ds : List Draw) → end_of_input p spot ≡ None
      → ends_by kind (end_of_input p d.spot) ≡ true
      → values_of (drawn_here ds) ≡ []
      → values_of (cond (is_input kind && same_spot d.spot spot) (d ∷ drawn_here ds) (drawn_here ds)) ≡ []
  none_of_kind Input d ds none ends h = elsewhere d ds (same_spot d.spot spot) none refl ends h
  none_of_kind Cell d ds none ends h = h
  none_of_kind Havoc d ds none ends h = h

  none_drawn : (ds : List Draw) → end_of_input p spot ≡ None → list_all (has_end p) ds ≡ true
      → input_values_at spot ds ≡ []
  none_drawn [] none h = refl
  none_drawn (d ∷ ds) none h =
      none_of_kind d.from d ds none (left (has_end p d) (list_all (has_end p) ds) h)
      (none_drawn ds none (right (has_end p d) (list_all (has_end p) ds) h))

  by_end : (ds : List Draw) (o : Option Spot) → end_of_input p spot ≡ o → list_all (has_end p) ds ≡ true
      → HasInputAt spot ds → list_any is_there (input_calls p) ≡ true
  by_end ds None e h some = absurd (some (none_drawn ds e h))
  by_end ds (Some close) e h some = call_begins (exps_of_program p) close e

-- the lists of the given run are what the inputs drew
pub gives_draws : (p : Program) (statement : Spot) (ds : List Draw) (ss : List BoundSegment)
    → list_all (has_end p) ds ≡ true → AreInputsBack p (inputs_in p ds)
    → FollowEach p statement (inputs_in p ds) ss
    → GivesDraws (map (λ call. record { spot = call.spot; values = values_at p call.spot ss }) (input_calls p)) ds
gives_draws p statement ds ss h backs f spot some =
    given_there p spot ss (input_calls p) (by_end p spot ds (end_of_input p spot) refl h some)
    ∙ followed_back p spot statement (inputs_in p ds) ss backs f
    ∙ sym (drawn_back p spot ds h)
