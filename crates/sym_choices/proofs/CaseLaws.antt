-- The cases of a switch, one by one.
use Rattle.std.proofs.Common.{◌≡◌, ℕ, zero, suc, ◌+◌, ◌*◌, ◌^◌, ◌≤◌, ◌<◌, Bool, true, false, not, ℤ, IsTrue, List, [], ◌∷◌, ◌++◌, length, map, take, drop, get_or, refl, sym, ◌∙◌, ap, ap₂, subst, arith}
use Rattle.std.proofs.lemmas.List.{map-append, take-append-drop}
use Rattle.std.proofs.lemmas.List.Elements.{All-nil, All-cons, All-append}
use Rattle.std.specs.List.{list_all}
use Rattle.std.specs.Ordering.{int_eq}
use Rattle.c_core.specs.Operators.{apply_of}
use Rattle.c_core.specs.Tree.{Program}
use Rattle.c_core.specs.Types.{is_zero, number_of, width_of}
use Rattle.c_core.specs.Typing.{label_fits, labels_in}
use Rattle.c_core.specs.View.{switch_view}
use Rattle.c_core.specs.declared.number.BinOp.TheVariants.{Eq}
use Rattle.c_core.specs.declared.number.DataModel.{DataModel}
use Rattle.c_core.specs.declared.number.DataModel.TheVariants.{Ilp32, Lp64}
use Rattle.c_core.specs.declared.number.IntType.{IntType}
use Rattle.c_core.specs.declared.number.IntType.TheVariants.{Bool as BoolType, Int}
use Rattle.c_core.specs.declared.tree.Arm.{Arm}
use Rattle.c_core.specs.declared.tree.Label.{Label as ArmLabel}
use Rattle.c_meaning.specs.Run.{is_case}
use Rattle.c_meaning.proofs.TypeFacts.{both}
use Rattle.circuits.specs.declared.bits.Outcome.{Outcome}
use Rattle.circuits.specs.declared.net.Bit.{Bit}
use Rattle.circuits.specs.declared.net.NetNode.{NetNode}
use Rattle.circuits.specs.Net.{holds, Grown, IsIn, Means}
use Rattle.circuits.specs.Numbers.{typed, AreIn, AreTyped, Reads}
use Rattle.circuits.specs.Outcome.{Gives, conversion_cost}
use Rattle.circuits.proofs.Nets.{longer, opp}
use Rattle.sym_state.specs.declared.state.Sym.{Sym}
use Rattle.sym_state.specs.Standing.{Stand, stand, IsState, Turned}
use Rattle.sym_state.proofs.Nets.{unchanged, all_added, typed_added, are_typed_added, longer_by, state_grown}
use Rattle.sym_choices.proofs.Held.{all_held}
use Rattle.sym_choices.proofs.Labels.{label_of, labels_are, labels_more}
use Rattle.sym_state.proofs.Turning.{turned_as, turned_then}
use Rattle.sym_values.specs.Valuing.{Decided}
use Rattle.sym_choices.specs.Cases.{equality_cost, case_cost, cases_cost, AreCases}
use Rattle.sym_values.proofs.Reckoning.{net_turned}

-- ---- one comparison
int_wide : (m : DataModel) → width_of m Int ≡ 32
int_wide Ilp32 = refl
int_wide Lp64 = refl

truth_back : (b : Bool) → not (is_zero (number_of b)) ≡ b
truth_back true = refl
truth_back false = refl

module _ (p : Program) where
  pub equal_decided : (s t : Sym) (net : List NetNode) (ty : IntType) (x other : List Bit) (o : Outcome) (c : ℤ) (r : Bit) → IsState p s → Reads p.model ty s.net other (λ i. c) → Grown (16 * width_of p.model ty) s.net net
      → Gives p.model Int net o (λ v. apply_of p.model Eq ty (typed p.model ty v s.net x) (typed p.model ty v s.net other))
      → Decided p (conversion_cost p.model Int BoolType) (record s { net = net }) t r (λ v. not (is_zero (typed p.model Int v net o.value.bits)))
      → Decided p (equality_cost p.model ty) s t r (λ v. int_eq (typed p.model ty v s.net x) c)
  equal_decided s t net ty x other o c r h reads g gives d = record {
    turned = turned_as p (λ v z. z) (turned_then p (equality_cost p.model ty) 0 (net_turned p s net h g) d.turned (omega (arith, int_wide p.model)) (omega arith)) (λ v. refl);
    means = record {
      inside = d.means.inside;
      is = λ v.
          d.means.is v ∙ ap (λ z. not (is_zero z)) (gives.value_is v) ∙ truth_back (int_eq (typed p.model ty v s.net x) (typed p.model ty v s.net other))
          ∙ ap (int_eq (typed p.model ty v s.net x)) (reads.is v);
    };
  }

  pub equal_fits : (s : Sym) (net : List NetNode) (ty : IntType) → IsState p s → Grown (16 * width_of p.model ty) s.net net → IsState p (record s { net = net })
  equal_fits s net ty h g = state_grown p g h

  pub equal_room : (s : Sym) (net : List NetNode) (ty : IntType) → Grown (16 * width_of p.model ty) s.net net → length s.net + equality_cost p.model ty < 2 ^ 28 → length net < 2 ^ 28
  equal_room s net ty g h = omega (arith, (longer (16 * width_of p.model ty) s.net net g).1, h)

  same_turned : (s : Sym) → IsState p s → Turned p 0 0 s s (λ v z. z)
  same_turned s h = record { fits = h; added = unchanged 0 s.net; level = refl; result = refl; is = λ v. refl }

  -- no value is that of `default`
  pub default_decided : (s : Sym) (always r : Bit) → IsState p s → Means s.net always (λ v. true) → r ≡ record { node = always.node; negated = not always.negated } → Decided p 0 s s r (λ v. false)
  default_decided s always r h m e = record { turned = same_turned s h; means = opp e m }

  -- ---- all cases
  pub no_cases : (s : Sym) (ty : IntType) (x bits : List Bit) → IsState p s → bits ≡ [] → AreCases p ty x (labels_in (switch_view [])) s s bits
  no_cases s ty x bits h e = record { turned = same_turned s h; inside = subst (AreIn s.net) (sym e) (All-nil (λ b. IsIn s.net b)); are = λ v. ap (map (holds v s.net)) e }

  costs_append : (ty : IntType) (xs ys : List ArmLabel) → cases_cost p.model ty (xs ++ ys) ≡ cases_cost p.model ty xs + cases_cost p.model ty ys
  costs_append ty [] ys = omega arith
  costs_append ty (l ∷ ls) ys = omega (arith, costs_append ty ls ys)

  -- the next case
  module _ (ty : IntType) (x : List Bit) (arms : List Arm) (k : ℕ) (a : Arm) (l : k < length arms) (e : a ≡ get_or arms k a) {s m : Sym} (old : List Bit) (y : AreCases p ty x (labels_in (switch_view (take k arms))) s m old) where
    cost_within : cases_cost p.model ty (labels_in (switch_view (take k arms))) + case_cost p.model ty (label_of a) ≤ cases_cost p.model ty (labels_in (switch_view arms))
    cost_within =
        let whole = labels_are arms ∙ ap (map label_of) (sym (take-append-drop (k + 1) arms)) ∙ map-append label_of (take (k + 1) arms) (drop (k + 1) arms) in
        omega (
          arith,
          ap (cases_cost p.model ty) whole,
          costs_append ty (map label_of (take (k + 1) arms)) (map label_of (drop (k + 1) arms)),
          ap (cases_cost p.model ty) (labels_are (take (k + 1) arms)),
          ap (cases_cost p.model ty) (labels_more arms k a l e),
          costs_append ty (labels_in (switch_view (take k arms))) (label_of a ∷ []),
        )

    pub case_room : length s.net + cases_cost p.model ty (labels_in (switch_view arms)) < 2 ^ 28 → length m.net + case_cost p.model ty (label_of a) < 2 ^ 28
    case_room h = omega (arith, (longer_by y.turned.added).1, cost_within, h)

    pub case_in : AreTyped p.model ty s.net x → AreTyped p.model ty m.net x
    case_in h = are_typed_added y.turned.added h

  pub label_at : (ty : IntType) (arms : List Arm) (k : ℕ) (a : Arm) → k < length arms → a ≡ get_or arms k a → IsTrue (list_all (label_fits p.model ty) (labels_in (switch_view arms))) → IsTrue (label_fits p.model ty (label_of a))
  label_at ty arms k a l e h =
      subst (λ z. IsTrue (label_fits p.model ty (label_of z))) (sym e) (one_fits (label_fits p.model ty) arms k a l (subst (λ ls. IsTrue (list_all (label_fits p.model ty) ls)) (labels_are arms) h))
    where
      one_fits : (q : ArmLabel → Bool) (arms : List Arm) (k : ℕ) (d : Arm) → k < length arms → IsTrue (list_all q (map label_of arms)) → IsTrue (q (label_of (get_or arms k d)))
      one_fits q [] k d l h = absurd (omega (arith, l))
      one_fits q (a ∷ arms) zero d l h = (both (q (label_of a)) (list_all q (map label_of arms)) h).0
      one_fits q (a ∷ arms) (suc k) d l h = one_fits q arms k d (omega (arith, l)) (both (q (label_of a)) (list_all q (map label_of arms)) h).1

  module _ (ty : IntType) (x : List Bit) (ls all : List ArmLabel) (l : ArmLabel) (e : all ≡ ls ++ l ∷ []) where
    cost_more : cases_cost p.model ty all ≡ cases_cost p.model ty ls + case_cost p.model ty l
    cost_more = omega (arith, ap (cases_cost p.model ty) e, costs_append ty ls (l ∷ []))

    pub cases_more : {s m n : Sym} (old new : List Bit) (b : Bit) → AreTyped p.model ty s.net x → AreCases p ty x ls s m old
        → Decided p (case_cost p.model ty l) m n b (λ v. is_case (typed p.model ty v m.net x) l) → new ≡ old ++ b ∷ [] → AreCases p ty x all s n new
    cases_more {s} {m} {n} old new b ix y z q =
        let g = z.turned.added in
        record {
          turned = turned_as p (λ v z. z) (turned_then p (cases_cost p.model ty all) 0 y.turned z.turned (omega (arith, cost_more)) (omega arith)) (λ v. refl);
          inside = subst (AreIn n.net) (sym q) (All-append (λ b. IsIn n.net b) old (b ∷ []) (all_added g old y.inside) (All-cons (λ b. IsIn n.net b) b [] z.means.inside (All-nil (λ b. IsIn n.net b))));
          are = λ v.
              ap (map (holds v n.net)) q ∙ map-append (holds v n.net) old (b ∷ [])
              ∙ ap₂ (λ a c. a ++ c ∷ []) (all_held g v old y.inside ∙ y.are v) (z.means.is v ∙ ap (λ w. is_case w l) (typed_added y.turned.added p.model ty v x ix))
              ∙ sym (map-append (is_case (typed p.model ty v s.net x)) ls (l ∷ [])) ∙ ap (map (is_case (typed p.model ty v s.net x))) (sym e);
        }
