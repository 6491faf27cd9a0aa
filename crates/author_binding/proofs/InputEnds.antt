-- Where an input call of a checked program ends.
use Rattle.std.proofs.Common.{◌≡◌, ◌<◌, arith, length, ℕ, zero, suc, nat_lt, Bool, true, false, cond, ◌&&◌, ◌||◌, List, [], ◌∷◌, Option, Some, None, refl, sym, ap, ◌∙◌, subst}
use Rattle.std.specs.List.{Contains, filter, find, list_all, list_any, slice_index_or}
use Rattle.std.proofs.lemmas.List.Elements.{Contains-append_right}
use Rattle.c_core.specs.Tree.{Exp, Expr, Node, Call, Program}
use Rattle.c_core.specs.Parts.{exps_of_program}
use Rattle.c_core.specs.Places.{InputCall, call_at, ends_at, input_at, input_if, input_of, is_named, lefter, leftmost, place_at, spots_of_kind}
use Rattle.c_core.specs.Program.{IsProgram}
use Rattle.c_core.specs.Typing.{are_values, exp_fits, has_input, is_type}
use Rattle.c_core.specs.declared.number.Spot.{Spot}
use Rattle.c_core.specs.declared.place.PlaceKind.TheVariants.{CallEnd}
use Rattle.c_core.specs.declared.tree.Callee.TheVariants.{Input, Defined, ReachError, Abort, Exit}
use Rattle.c_core.proofs.TextOrderLaws.{left, right, same_spot-self}
use Rattle.c_meaning.proofs.TypeFacts.{some_same, the_type}
use Rattle.author_runs.proofs.CallEnds.{end_is_place}
use Rattle.author_runs.proofs.Each.{any_contained}
use Rattle.author_runs.proofs.OneCall.{same_place}
use Rattle.author_binding.proofs.TypedCalls.{exps_typed}

-- ---- the leftmost of places at one spot

module _ (spot : Spot) where
  abbrev is_there : Spot → Bool
  is_there = is_named spot.line (Some spot.column)

  lefter_of_same : (o : Option Spot) (b : Bool) → o ≡ cond b (Some spot) None → lefter spot o ≡ spot
  lefter_of_same o true e = rw e (either (nat_lt spot.column spot.column))
    where
      either : (b : Bool) → cond b spot spot ≡ spot
      either true = refl
      either false = refl
  lefter_of_same o false e = rw e refl

  first_there : (x : Spot) (xs : List Spot) (t : Bool) → is_there x ≡ t
      → leftmost (filter is_there xs) ≡ cond (list_any is_there xs) (Some spot) None
      → leftmost (cond t (x ∷ filter is_there xs) (filter is_there xs)) ≡ cond (t || list_any is_there xs) (Some spot) None
  first_there x xs true e h =
      let same = same_place x spot e in
      ap Some (ap (λ (a : Spot). lefter a (leftmost (filter is_there xs))) same ∙ lefter_of_same
      (leftmost (filter is_there xs)) (list_any is_there xs) h)
  first_there x xs false e h = h

  leftmost_there : (xs : List Spot) → leftmost (filter is_there xs) ≡ cond (list_any is_there xs) (Some spot) None
  leftmost_there [] = refl
  leftmost_there (x ∷ xs) = first_there x xs (is_there x) refl (leftmost_there xs)

-- a place of kind `CallEnd` is the one that its line and column name
end_named : (p : Program) (close : Spot) → Contains (spots_of_kind CallEnd p) close
    → place_at p CallEnd close.line (Some close.column) ≡ Some close
end_named p close c =
    leftmost_there close (spots_of_kind CallEnd p)
    ∙ ap (λ b. cond b (Some close) None)
    (any_contained (is_there close) (spots_of_kind CallEnd p) close c (same_spot-self close))

-- ---- the first that passes a test

module _ {A : Type 0} (q : A → Bool) where
  -- it passes, and is one of them
  pub record IsFirst (xs : List A) (x : A) : Type 0 where
    pub is_there : Contains xs x
    pub passes : q x ≡ true

  first_by : (y : A) (ys : List A) (x : A) (t : Bool) → q y ≡ t → cond t (Some y) (find q ys) ≡ Some x
      → (find q ys ≡ Some x → IsFirst ys x) → IsFirst (y ∷ ys) x
  first_by y ys x true e h rest =
      let same : y ≡ x =
      cc in subst (λ z. IsFirst (y ∷ ys) z) same (record { is_there = (0, omega arith, refl); passes = e })
  first_by y ys x false e h rest =
      let f = rest h in record { is_there = Contains-append_right (y ∷ []) ys x f.is_there; passes = f.passes }

  first_found : (xs : List A) (x : A) → find q xs ≡ Some x → IsFirst xs x
  first_found [] x h = absurd (cc)
  first_found (y ∷ ys) x h = first_by y ys x (q y) refl h (first_found ys x)

-- ---- input calls

-- an input call ends there: the place names itself, and the call has its type
pub record IsEndOf (p : Program) (close : Spot) (call : InputCall) : Type 0 where
  pub input : input_at p close ≡ Some call
  pub named : place_at p CallEnd close.line (Some close.column) ≡ Some close
  pub spot : Spot
  pub node : Node
  pub found : call_at p close ≡ Some (Expr spot (Some call.ty) node)

all_at : {A : Type 0} (q : A → Bool) (xs : List A) (x : A) (k : ℕ) → k < length xs → slice_index_or xs k x ≡ x
    → list_all q xs ≡ true → q x ≡ true
all_at q [] x k lt e h = absurd (omega (arith, lt))
all_at q (y ∷ ys) x zero lt e h = sym (ap q e) ∙ left (q y) (list_all q ys) h
all_at q (y ∷ ys) x (suc k) lt e h = all_at q ys x k (omega (arith, lt)) e (right (q y) (list_all q ys) h)

module _ (p : Program) (checked : IsProgram p) where
  fits : (e : Exp) → Contains (exps_of_program p) e → exp_fits p e ≡ true
  fits e c = all_at (exp_fits p) (exps_of_program p) e c.0 c.1 c.2 (exps_typed p checked.types)

  end_of : (close : Spot) (call : InputCall) (e : Exp) → input_of e ≡ Some call
      → IsFirst (ends_at close) (exps_of_program p) e → call_at p close ≡ Some e → IsEndOf p close call
  end_of close call (Expr spot ty (Call (Input input) es end)) h f found =
      let there = end_is_place p spot ty (Input input) es end f.is_there in
      let same = same_place end close f.passes in
      let fitting =
      right (are_values 0 es) (has_input input && is_type input ty)
      (fits (Expr spot ty (Call (Input input) es end)) f.is_there) in
      let typed : Some input ≡ ty = the_type input ty (right (has_input input) (is_type input ty) fitting) in
      let call_is : record { spot = spot; ty = input } ≡ call = some_same h in
      let of_type : Some call.ty ≡ ty = ap (λ (c : InputCall). Some c.ty) (sym call_is) ∙ typed in
      record {
        input = ap input_if found ∙ h;
        named = end_named p close (subst (λ (s : Spot). Contains (spots_of_kind CallEnd p) s) same there);
        spot = spot;
        node = Call (Input input) es end;
        found = found ∙ ap (λ t. Some (Expr spot t (Call (Input input) es end))) (sym of_type);
      }
  end_of close call (Expr spot ty (Call (Defined g) es end)) h f found = absurd (cc)
  end_of close call (Expr spot ty (Call ReachError es end)) h f found = absurd (cc)
  end_of close call (Expr spot ty (Call Abort es end)) h f found = absurd (cc)
  end_of close call (Expr spot ty (Call Exit es end)) h f found = absurd (cc)
  end_of close call (Expr spot ty _) h f found = absurd (cc)

  by_call : (close : Spot) (call : InputCall) (o : Option Exp) → call_at p close ≡ o → input_if o ≡ Some call
      → IsEndOf p close call
  by_call close call None e h = absurd (cc)
  by_call close call (Some e) found h =
      end_of close call e h (first_found (ends_at close) (exps_of_program p) e found) found

  -- an input call that ends there
  pub input_end : (close : Spot) (call : InputCall) → input_at p close ≡ Some call → IsEndOf p close call
  input_end close call h = by_call close call (call_at p close) refl h
