-- What a map has at a place are the values given there.
use Rattle.std.proofs.Common.{◌≡◌, ℕ, ℤ, refl, sym, ap, ◌∙◌, Bool, true, false, cond, List, [], ◌∷◌, ◌++◌, Option, Some, None, nat_eq, ◌+◌, ◌<◌, length, drop, get_or, append_assoc, drop-cons, add-one}
use Rattle.std.proofs.lemmas.List.{append-nil}
use Rattle.std.specs.BTreeMap.{BTreeMap, get, is_at}
use Rattle.std.specs.Cmp.{both_tied, unsigned_ties}
use Rattle.std.specs.Option.{unwrap_or}
use Rattle.std.specs.Ordering.{nat_cmp}
use Rattle.c_core.specs.Places as places
use Rattle.c_core.specs.declared.number.Spot.{Spot}
use Rattle.c_core.specs.Parts.{same_spot}
use Rattle.c_meaning.specs.declared.run.Given.{Given}
use Rattle.way_places.specs.Inputs.{calls_view}
use Rattle.way_places.specs.Maps.{found_at}
use Rattle.way_places.proofs.FirstLaws.{pair_cmp}
use Rattle.way_places.proofs.OrderLaws.{one_spot}
use Rattle.way_places.specs.declared.inputs.InputCall.{InputCall}
use Rattle.way_match.specs.inside.Gathered.{choices_for, choices_in, values_if, values_in, values_of}
use Rattle.way_match.specs.Given.{GivenValue}

put_by : (b : Bool) (v : ℤ) (list : List ℤ) (here before between after : Option (List ℤ)) → between ≡ cond b None before → after ≡ cond b (Some list) between → (b ≡ true → before ≡ here)
    → list ≡ values_if here ++ v ∷ [] → values_if after ≡ values_if before ++ cond b (v ∷ []) []
put_by true v list here before between after e f same is = ap values_if f ∙ is ∙ ap (λ o. values_if o ++ v ∷ []) (sym (same refl))
put_by false v list here before between after e f same is = ap values_if (f ∙ e) ∙ sym (append-nil (values_if before))

-- taken out, and put back with one more
module _ (q spot : Spot) (v : ℤ) (list : List ℤ) (before between after : BTreeMap (ℕ × ℕ) (List ℤ)) where
  pub put_there : ((k : ℕ × ℕ) → get pair_cmp between k ≡ cond (is_at (pair_cmp (spot.line, spot.column)) k) None (get pair_cmp before k))
      → ((k : ℕ × ℕ) → get pair_cmp after k ≡ cond (is_at (pair_cmp (spot.line, spot.column)) k) (Some list) (get pair_cmp between k))
      → list ≡ values_in before spot ++ v ∷ [] → values_in after q ≡ values_in before q ++ cond (same_spot spot q) (v ∷ []) []
  put_there taken put is =
      let one : same_spot spot q ≡ is_at (pair_cmp (spot.line, spot.column)) (q.line, q.column) =
      both_tied (nat_eq spot.line q.line) (nat_eq spot.column q.column) (nat_cmp spot.line q.line) (nat_cmp spot.column q.column) (unsigned_ties spot.line q.line) (unsigned_ties spot.column q.column) in
      put_by (same_spot spot q) v list (found_at before spot) (found_at before q) (found_at between q) (found_at after q)
      (taken (q.line, q.column) ∙ ap (λ b. cond b None (found_at before q)) (sym one))
      (put (q.line, q.column) ∙ ap (λ b. cond b (Some list) (found_at between q)) (sym one))
      (λ h. ap (found_at before) (sym (one_spot spot q h))) is

pub or_none : (o : Option (List ℤ)) → unwrap_or o [] ≡ values_if o
or_none None = refl
or_none (Some vs) = refl

pub choices_same : (m : BTreeMap (ℕ × ℕ) (List ℤ)) (gs : List GivenValue) (calls : List places.InputCall) → ((q : Spot) → values_in m q ≡ values_of q gs) → choices_in m calls ≡ choices_for gs calls
choices_same m gs [] h = refl
choices_same m gs (call ∷ calls) h =
    ap (λ vs. record { spot = call.spot; values = vs } ∷ choices_in m calls) (h call.spot)
    ∙ ap (λ l. record { spot = call.spot; values = values_of call.spot gs } ∷ l) (choices_same m gs calls h)

-- one more call's choice
pub choice_more : (m : BTreeMap (ℕ × ℕ) (List ℤ)) (calls : List InputCall) (i : ℕ) (d : InputCall) (list more : List Given) (there : List ℤ) → i < length calls
    → more ≡ list ++ record { spot = (get_or calls i d).spot; values = there } ∷ [] → there ≡ values_in m (get_or calls i d).spot
    → more ++ choices_in m (calls_view (drop (i + 1) calls)) ≡ list ++ choices_in m (calls_view (drop i calls))
choice_more m calls i d list more there inside put is =
    let rest : List Given = choices_in m (calls_view (drop (i + 1) calls)) in
    ap (λ l. l ++ rest) (put ∙ ap (λ vs. list ++ record { spot = (get_or calls i d).spot; values = vs } ∷ []) is)
    ∙ append_assoc list (record { spot = (get_or calls i d).spot; values = values_in m (get_or calls i d).spot } ∷ []) rest
    ∙ sym (ap (λ cs. list ++ choices_in m (calls_view cs)) (drop-cons calls i d inside ∙ ap (λ n. get_or calls i d ∷ drop n calls) (sym (add-one i))))
