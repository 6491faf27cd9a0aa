-- The way of a switch, by the bits of its constants.
use Rattle.std.proofs.Common.{◌≡◌, ◌<◌, ◌≤◌, ◌+◌, ℕ, Bool, true, false, cond, not, ◌&&◌, ◌||◌, ℤ, List, [], ◌∷◌, length, take, get_or, refl, sym, ◌∙◌, ap, subst, arith, true≢false}
use Rattle.std.proofs.lemmas.List.{get_or-map, length-map, take_all}
use Rattle.std.proofs.lemmas.List.Folds.{list_any-append, list_any_at}
use Rattle.std.proofs.lemmas.List.Elements.{All-get_or}
use Rattle.std.proofs.lemmas.Bool.Decides.{Decides-int_eq}
use Rattle.std.specs.List.{list_any}
use Rattle.std.specs.Ordering.{int_eq}
use Rattle.c_core.specs.Typing.{labels_in}
use Rattle.c_core.specs.View.{switch_view}
use Rattle.c_core.specs.declared.tree.Arm.{Arm}
use Rattle.c_core.specs.declared.tree.Label.{Label as ArmLabel}
use Rattle.c_core.specs.declared.tree.Label.TheVariants.{Case, Default}
use Rattle.c_meaning.specs.declared.run.Way.{Way}
use Rattle.c_meaning.specs.declared.run.Way.TheVariants as way
use Rattle.c_meaning.specs.Run.{is_case, way_for}
use Rattle.circuits.specs.declared.net.Bit.{Bit}
use Rattle.circuits.specs.declared.net.NetNode.{NetNode}
use Rattle.circuits.specs.Net.{holds, opposite, Means, IsIn}
use Rattle.circuits.specs.Numbers.{AreIn}
use Rattle.circuits.proofs.Nets.{means_by, opp, own}
use Rattle.way_match.specs.Passing.{same_way}
use Rattle.seek_passes.specs.Event.{AreCasesOf, IsNoneOf}
use Rattle.sym_choices.proofs.Labels.{label_of, labels_are, labels_more}

module _ (z c : ℤ) where
  -- the way of a constant is taken where the value is one of the constants, and that one
  taken : (ls : List ArmLabel) (t : Bool) → list_any (is_case z) ls ≡ t → same_way (way.Case c) (way_for z ls) ≡ (t && int_eq c z)
  taken ls true e = ap (λ t. same_way (way.Case c) (cond t (way.Case z) way.Default)) e
  taken ls false e = ap (λ t. same_way (way.Case c) (cond t (way.Case z) way.Default)) e

  -- no arm has the constant
  pub none_taken : (ls : List ArmLabel) → list_any (is_case c) ls ≡ false → same_way (way.Case c) (way_for z ls) ≡ false
  none_taken ls h = by_any (list_any (is_case z) ls) refl
    where
      by_same : (b : Bool) → int_eq c z ≡ b → list_any (is_case z) ls ≡ true → b ≡ false
      by_same false e f = refl
      by_same true e f = absurd (true≢false (sym f ∙ ap (λ x. list_any (is_case x) ls) (sym ((Decides-int_eq c z).0 e)) ∙ h))

      by_any : (t : Bool) → list_any (is_case z) ls ≡ t → same_way (way.Case c) (way_for z ls) ≡ false
      by_any true e = taken ls true e ∙ by_same (int_eq c z) refl e
      by_any false e = taken ls false e

  -- an arm that has it says where it is taken
  pub one_taken : (ls : List ArmLabel) (i : ℕ) (d l : ArmLabel) → i < length ls → get_or ls i d ≡ l → is_case c l ≡ true → is_case z l ≡ same_way (way.Case c) (way_for z ls)
  one_taken ls i d Default lt g h = absurd (true≢false (sym h))
  one_taken ls i d (Case k) lt g h = by_value (int_eq z k) refl
    where
      eq : c ≡ k
      eq = (Decides-int_eq c k).0 h

      never : (b : Bool) → int_eq c z ≡ b → int_eq z k ≡ false → b ≡ false
      never false q f = refl
      never true q f = absurd (true≢false (sym ((Decides-int_eq z k).1 (sym ((Decides-int_eq c z).0 q) ∙ eq)) ∙ f))

      by_any : (t : Bool) → list_any (is_case z) ls ≡ t → int_eq z k ≡ false → same_way (way.Case c) (way_for z ls) ≡ false
      by_any true q f = taken ls true q ∙ never (int_eq c z) refl f
      by_any false q f = taken ls false q

      by_value : (b : Bool) → int_eq z k ≡ b → b ≡ same_way (way.Case c) (way_for z ls)
      by_value true e =
          sym (taken ls true (list_any_at (is_case z) ls i d lt (ap (is_case z) g ∙ e)) ∙ (Decides-int_eq c z).1 (eq ∙ sym ((Decides-int_eq z k).0 e)))
      by_value false e = sym (by_any (list_any (is_case z) ls) refl e)

label_there : (arms : List Arm) (i : ℕ) (a : Arm) (d : ArmLabel) → i < length arms → a ≡ get_or arms i a → get_or (labels_in (switch_view arms)) i d ≡ label_of a
label_there arms i a d lt e = ap (λ ls. get_or ls i d) (labels_are arms) ∙ get_or-map label_of arms i a d lt ∙ ap label_of (sym e)

labels_many : (arms : List Arm) → length (labels_in (switch_view arms)) ≡ length arms
labels_many arms = ap length (labels_are arms) ∙ length-map arms label_of

-- a bit for each arm
pub cases_many : (net : List NetNode) (cases : List Bit) (arms : List Arm) (z : (ℕ → Bool) → ℤ) → AreCasesOf net cases arms z → length cases ≡ length arms
cases_many net cases arms z are =
    let v : ℕ → Bool = λ k. false in
    let ls = labels_in (switch_view arms) in
    omega (arith, length-map cases (holds v net), ap length (are v), length-map ls (is_case (z v)), labels_many arms)

-- the bit of the first arm that has the constant
pub found_way : (net : List NetNode) (arms : List Arm) (cases : List Bit) (c : ℤ) (i : ℕ) (a : Arm) (d : Bit) → AreIn net cases → length cases ≡ length arms → i < length arms → a ≡ get_or arms i a → is_case c (label_of a) ≡ true
    → (z : (ℕ → Bool) → ℤ) → AreCasesOf net cases arms z → Means net (get_or cases i d) (λ v. same_way (way.Case c) (way_for (z v) (labels_in (switch_view arms))))
found_way net arms cases c i a d cases_in many lt e h z are =
    let lt' : i < length cases = omega (arith, lt, many) in
    let lt2 : i < length (labels_in (switch_view arms)) = omega (arith, lt, labels_many arms) in
    record {
      inside = All-get_or (λ b. IsIn net b) cases i d lt' cases_in;
      is = λ v.
          sym (get_or-map (holds v net) cases i d (is_case (z v) (label_of a)) lt')
          ∙ ap (λ bs. get_or bs i (is_case (z v) (label_of a))) (are v)
          ∙ get_or-map (is_case (z v)) (labels_in (switch_view arms)) i (label_of a) (is_case (z v) (label_of a)) lt2
          ∙ ap (is_case (z v)) (label_there arms i a (label_of a) lt e)
          ∙ one_taken (z v) c (labels_in (switch_view arms)) i (label_of a) (label_of a) lt2 (label_there arms i a (label_of a) lt e) h;
    }

-- no arm up to an index has it
pub none_more : (arms : List Arm) (c : ℤ) (i : ℕ) (a : Arm) → i < length arms → a ≡ get_or arms i a → is_case c (label_of a) ≡ false
    → list_any (is_case c) (labels_in (switch_view (take i arms))) ≡ false → list_any (is_case c) (labels_in (switch_view (take (i + 1) arms))) ≡ false
none_more arms c i a lt e h g =
    ap (list_any (is_case c)) (labels_more arms i a lt e) ∙ list_any-append (is_case c) (labels_in (switch_view (take i arms))) (label_of a ∷ [])
    ∙ ap (λ b. b || (is_case c (label_of a) || false)) g ∙ ap (λ b. b || false) h

-- no arm has it
pub no_way : (net : List NetNode) (arms : List Arm) (cases : List Bit) (c : ℤ) (i : ℕ) (r : Bit) → length arms ≤ i → list_any (is_case c) (labels_in (switch_view (take i arms))) ≡ false → Means net r (λ v. false)
    → (z : (ℕ → Bool) → ℤ) → AreCasesOf net cases arms z → Means net r (λ v. same_way (way.Case c) (way_for (z v) (labels_in (switch_view arms))))
no_way net arms cases c i r le g m z are =
    let none : list_any (is_case c) (labels_in (switch_view arms)) ≡ false = ap (λ xs. list_any (is_case c) (labels_in (switch_view xs))) (sym (take_all i arms le)) ∙ g in
    record { inside = m.inside; is = λ v. m.is v ∙ sym (none_taken (z v) c (labels_in (switch_view arms)) none) }

same_truths : (t b : Bool) → cond t b (not b) ≡ same_way (way.Truth t) (way.Truth b)
same_truths true b = refl
same_truths false true = refl
same_truths false false = refl

-- the truth value of a condition, or its opposite
pub truth_taken : (net : List NetNode) (w : Way) (t : Bool) (truth r : Bit) → w ≡ way.Truth t → r ≡ cond t truth (opposite truth) → IsIn net truth → Means net r (λ v. same_way w (way.Truth (holds v net truth)))
truth_taken net w t truth r e q h = means_by net r _ _ (by_truth t q) (λ v. same_truths t (holds v net truth) ∙ ap (λ u. same_way u (way.Truth (holds v net truth))) (sym e))
  where
    by_truth : (t : Bool) → r ≡ cond t truth (opposite truth) → Means net r (λ v. cond t (holds v net truth) (not (holds v net truth)))
    by_truth true g = subst (λ b. Means net b (λ v. holds v net truth)) (sym g) (own net truth h)
    by_truth false g = opp g (own net truth h)

pub truth_elsewhere : (net : List NetNode) (w u : Way) (truth r : Bit) → w ≡ u → ((b : Bool) → same_way u (way.Truth b) ≡ false) → Means net r (λ v. false) → Means net r (λ v. same_way w (way.Truth (holds v net truth)))
truth_elsewhere net w u truth r e none m = means_by net r _ _ m (λ v. sym (ap (λ x. same_way x (way.Truth (holds v net truth))) e ∙ none (holds v net truth)))

-- none of them is taken where the value is none of the constants
default_taken : (z : ℤ) (ls : List ArmLabel) → not (list_any (is_case z) ls) ≡ same_way way.Default (way_for z ls)
default_taken z ls = by_any (list_any (is_case z) ls)
  where
    by_any : (t : Bool) → not t ≡ same_way way.Default (cond t (way.Case z) way.Default)
    by_any true = refl
    by_any false = refl

truth_not_taken : (b : Bool) (z : ℤ) (ls : List ArmLabel) → false ≡ same_way (way.Truth b) (way_for z ls)
truth_not_taken b z ls = by_any b (list_any (is_case z) ls)
  where
    by_any : (b t : Bool) → false ≡ same_way (way.Truth b) (cond t (way.Case z) way.Default)
    by_any true true = refl
    by_any true false = refl
    by_any false true = refl
    by_any false false = refl

-- ---- by the way that is asked for
pub truth_of_switch : (net : List NetNode) (w : Way) (t : Bool) (r : Bit) (ls : List ArmLabel) → w ≡ way.Truth t → Means net r (λ v. false) → (z : (ℕ → Bool) → ℤ) → Means net r (λ v. same_way w (way_for (z v) ls))
truth_of_switch net w t r ls e m z = means_by net r _ _ m (λ v. truth_not_taken t (z v) ls ∙ ap (λ u. same_way u (way_for (z v) ls)) (sym e))

pub case_of_switch : (net : List NetNode) (w : Way) (c : ℤ) (r : Bit) (ls : List ArmLabel) → w ≡ way.Case c → (z : (ℕ → Bool) → ℤ) → Means net r (λ v. same_way (way.Case c) (way_for (z v) ls)) → Means net r (λ v. same_way w (way_for (z v) ls))
case_of_switch net w c r ls e z m = means_by net r _ _ m (λ v. ap (λ u. same_way u (way_for (z v) ls)) (sym e))

pub default_of_switch : (net : List NetNode) (w : Way) (none : Bit) (arms : List Arm) → w ≡ way.Default → IsIn net none → (z : (ℕ → Bool) → ℤ) → IsNoneOf net none arms z → Means net none (λ v. same_way w (way_for (z v) (labels_in (switch_view arms))))
default_of_switch net w none arms e h z q =
    let ls = labels_in (switch_view arms) in
    record { inside = h; is = λ v. q v ∙ default_taken (z v) ls ∙ ap (λ u. same_way u (way_for (z v) ls)) (sym e) }
