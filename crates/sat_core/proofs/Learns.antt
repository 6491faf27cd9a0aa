-- What a conflict leaves behind: the clause, the chain and the state.
use Rattle.std.proofs.Common.{◌≡◌, ℕ, zero, suc, ◌+◌, ◌-◌, ◌<◌, inl, inr, Bool, true, false, Option, None, List, [], ◌∷◌, ◌++◌, length, take, ℤ, pos, neg_ℤ, refl, sym, ◌∙◌, ap, subst, arith, replicate, nat_eq, get_or}
use Rattle.std.specs.Prelude.{slice_get}
use Rattle.std.specs.List.{Contains, All}
use Rattle.std.proofs.lemmas.Bool.{eqb-true, eqb-false}
use Rattle.std.proofs.lemmas.Option.{none-some}
use Rattle.std.proofs.lemmas.List.{nil_from_length, length-replicate, append-nil, length_push}
use Rattle.std.proofs.lemmas.List.Elements.{Contains-get_or, Contains-push_cases, All-contains}
use Rattle.clauses.specs.Clause.{IsClause, IsNumber}
use Rattle.clauses.specs.Within.{IsOf, AreOf}
use Rattle.clauses.specs.Tseitin.{flag_at}
use Rattle.clauses.specs.declared.log.Chain.{Chain}
use Rattle.clauses.specs.declared.log.Resolve.{Resolve}
use Rattle.clauses.specs.Log.{given, AreSame}
use Rattle.sat_core.specs.declared.trail.Assigned.{Assigned}
use Rattle.sat_newness.specs.Clauses.{clauses_of}
use Rattle.sat_core.specs.Trail.{number, IsTrail, Settled, IsNumberOf, AreNumbersOf}
use Rattle.sat_core.specs.Values.{Told, IsState}
use Rattle.sat_core.specs.Found.{IsLeastOpen}
use Rattle.sat_core.specs.Derived.{running, IsAnalyzed, AreFlagged, AreTwo, AreBelow, IsOfDecisions}
use Rattle.sat_core.specs.Learned.{IsLearned}
use Rattle.sat_core.specs.Answers.{HasLearned, IsLog, IsSolving}
use Rattle.sat_newness.proofs.Others.{neg_neg}
use Rattle.sat_core.proofs.Kept.{learned_trail, decision, trail_grown}
use Rattle.sat_core.proofs.Running.{runs_from, runs_at, derives_same}
use Rattle.sat_core.proofs.Fresh.{fresh, number_false}
use Rattle.sat_core.proofs.Table.{told_none}
use Rattle.sat_core.proofs.Logged.{log_none, log_more}

pub of_decisions : (clauses : List (List ℤ)) (size : ℕ) (t : List Assigned) (start : ℕ) (steps : List Resolve) (seen : List Bool) (c : List ℤ) (n : ℕ) → IsAnalyzed clauses size t start 0 steps seen → AreFlagged seen c n → IsOfDecisions t c
of_decisions clauses size t start steps seen c n a f = record {
  each = λ y i.
      let g = f.from y i in
      let v = a.covered g.0 g.2 in
      (v.at, v.entry, v.there, a.decided v.at v.entry (omega arith) v.there (subst (λ (k : ℕ). flag_at seen k ≡ true) (sym v.is) g.2), g.3 ∙ ap pos (sym v.is));
}

negative : (v w : ℕ) → 0 < v → neg_ℤ (pos v) ≡ pos w → ⊥
negative zero w lt e = omega arith
negative (suc n) w lt e = cc

pub is_clause : (clauses : List (List ℤ)) (size : ℕ) (t : List Assigned) → IsTrail clauses size t → (start : ℕ) (steps : List Resolve) (seen : List Bool) (c : List ℤ) (n : ℕ) → IsAnalyzed clauses size t start 0 steps seen → AreFlagged seen c n → IsClause c
is_clause clauses size t h start steps seen c n a f =
    let real : (v : ℕ) → flag_at seen v ≡ true → 0 < v = λ v g. let w = a.covered v g in subst (λ (k : ℕ). 0 < k) w.is (h.each w.at w.entry w.there).real in
    record {
      rising = f.rising;
      real = λ k d lt. let g = f.from (get_or c k d) (Contains-get_or c k d lt) in subst (λ (z : ℤ). IsNumber z) (sym g.3) (real g.0 g.2, a.small g.0 g.2);
      apart = λ x i j. let g = f.from x i in let k = f.from (neg_ℤ x) j in negative g.0 k.0 (real g.0 g.2) (ap neg_ℤ (sym g.3) ∙ k.3);
    }

pub learned_state : (clauses : List (List ℤ)) (values after : List (Option Bool)) (t u : List Assigned) → IsState clauses values t → (start : ℕ) (steps : List Resolve) (seen : List Bool) (c : List ℤ) (n q above : ℕ) → IsAnalyzed clauses (length values) t start 0 steps seen → AreFlagged seen c n → AreBelow t q above → (0 < above → AreTwo c above)
    → u ≡ take q t → Told after u → length after ≡ length values → IsState (clauses ++ c ∷ []) after u
learned_state clauses values after t u s start steps seen c n q above a f below two e told same =
    let size = length values in
    let of = of_decisions clauses size t start steps seen c n a f in
    let trail = learned_trail clauses size t s.trail c q above below two of in
    let numbers : AreNumbersOf size (clauses ++ c ∷ []) = record {
      each = λ d x i j. elim (Contains-push_cases clauses c d i) as (λ _. IsNumberOf size x) [
        | inl k ↦ s.numbers.each d x k j
        | inr k ↦
            let g = f.from x (subst (λ (l : List ℤ). Contains l x) (sym k) j) in
            let w = a.covered g.0 g.2 in
            let o = s.trail.each w.at w.entry w.there in
            let p : IsNumberOf size (pos g.0) = record { real = subst (λ (m : ℕ). 0 < m) w.is o.real; within = subst (λ (m : ℕ). m < size) w.is o.within; small = a.small g.0 g.2 } in
            subst (λ (z : ℤ). IsNumberOf size z) (sym g.3) p
      ];
    } in
    record {
      told = told;
      trail = subst (λ (k : ℕ). IsTrail (clauses ++ c ∷ []) k u) (sym same) (subst (λ (w : List Assigned). IsTrail (clauses ++ c ∷ []) size w) (sym e) trail);
      numbers = subst (λ (k : ℕ). AreNumbersOf k (clauses ++ c ∷ [])) (sym same) numbers;
    }

same_running : (clauses : List (List ℤ)) (size : ℕ) (t : List Assigned) → IsTrail clauses size t → (start : ℕ) (steps : List Resolve) (seen : List Bool) (c : List ℤ) → IsAnalyzed clauses size t start 0 steps seen → AreFlagged seen c (length seen) → AreSame (running seen t) c
same_running clauses size t h start steps seen c a f = λ y. (
  λ i.
      let r = runs_from seen t y i in
      let none = a.decided r.at r.entry (omega arith) r.there r.flagged in
      let is : number r.entry ≡ neg_ℤ (pos r.entry.variable) = number_false r.entry (decision clauses size t h r.at r.entry r.there none).value in
      let lt : r.entry.variable < length seen = omega (arith, (h.each r.at r.entry r.there).within, a.many) in
      subst (λ (z : ℤ). Contains c z) (sym (neg_neg (pos r.entry.variable)) ∙ ap neg_ℤ (sym is) ∙ r.is) (f.onto r.entry.variable lt r.flagged),
  λ i.
      let g = f.from y i in
      let w = a.covered g.0 g.2 in
      let flagged : flag_at seen w.entry.variable ≡ true = subst (λ (k : ℕ). flag_at seen k ≡ true) (sym w.is) g.2 in
      let none = a.decided w.at w.entry (omega arith) w.there flagged in
      let is : number w.entry ≡ neg_ℤ (pos w.entry.variable) = number_false w.entry (decision clauses size t h w.at w.entry w.there none).value in
      subst (λ (z : ℤ). Contains (running seen t) z) (ap neg_ℤ is ∙ neg_neg (pos w.entry.variable) ∙ ap pos w.is ∙ sym g.3) (runs_at seen t w.at w.entry w.there flagged),
)

pub learned_of : (given more : List (List ℤ)) (size : ℕ) (t : List Assigned) → IsTrail (given ++ more) size t → (chain : Chain) (start : ℕ) (seen : List Bool) → chain.start ≡ start + 1 → IsAnalyzed (given ++ more) size t start 0 chain.steps seen → AreFlagged seen chain.gives (length seen) → IsLearned given size (given ++ more) chain
learned_of given more size t h chain start seen e a f =
    let clauses = given ++ more in
    let back : chain.start - 1 ≡ start = omega arith in
    record {
      right = (a.first, (omega arith, ap (slice_get clauses) back ∙ a.named), derives_same clauses a.first chain.steps (running seen t) chain.gives a.derives (same_running clauses size t h start chain.steps seen chain.gives a f));
      once = a.once;
      fresh = λ ne. fresh given more size t h chain.gives (of_decisions clauses size t start chain.steps seen chain.gives (length seen) a f) ne;
    }

pub has_learned : (given : List (List ℤ)) (size : ℕ) (before after : List Chain) (chain : Chain) (many : ℕ) → after ≡ before ++ chain ∷ [] → many ≡ length chain.gives → IsLearned given size (clauses_of given before) chain → HasLearned given size before after (nat_eq many 0)
has_learned given size before after chain many e m l = record {
  chain = chain;
  more = e;
  learned = l;
  ends = λ q. nil_from_length chain.gives (sym m ∙ eqb-true many 0 q);
  goes_on = λ q none. eqb-false many 0 q (m ∙ ap length none);
}

-- a decision where nothing is left
pub decided_state : (clauses : List (List ℤ)) (values after : List (Option Bool)) (t u : List Assigned) (v : ℕ) → IsState clauses values t → Settled clauses t (length t) → IsLeastOpen (length values) t v → u ≡ t ++ record { variable = v; value = false; reason = None } ∷ [] → Told after u → length after ≡ length values → IsState clauses after u
decided_state clauses values after t u v s settled b e told same =
    let d : Assigned = record { variable = v; value = false; reason = None } in
    let grown = trail_grown clauses (length values) t d s.trail (record { real = b.real; within = b.within; first = b.unset; why = record { value = refl; least = b.least; settled = settled } }) in
    record {
      told = told;
      trail = subst (λ (k : ℕ). IsTrail clauses k u) (sym same) (subst (λ (w : List Assigned). IsTrail clauses (length values) w) (sym e) grown);
      numbers = subst (λ (k : ℕ). AreNumbersOf k clauses) (sym same) s.numbers;
    }

-- the start
pub first_numbers : (variables : ℕ) (clauses : List (List ℤ)) → AreOf variables clauses → ((c : List ℤ) → Contains clauses c → IsClause c) → AreNumbersOf (variables + 1) clauses
first_numbers variables clauses w k = record {
  each = λ c x i j.
      let o = All-contains (λ y. IsOf variables y) c x (All-contains (λ d. All (λ y. IsOf variables y) d) clauses c w i) j in
      let n = All-contains IsNumber c x (k c i).real j in
      record { real = o.0; within = omega (arith, o.1); small = n.1 };
}

pub solving_first : (variables : ℕ) (clauses : List (List ℤ)) (chains : List Chain) (values : List (Option Bool)) (t : List Assigned) → AreNumbersOf (variables + 1) clauses → chains ≡ [] → values ≡ replicate (variables + 1) None → t ≡ [] → IsSolving clauses variables 0 chains values t
solving_first variables clauses chains values t w ec ev et =
    let long : length (replicate (variables + 1) None) ≡ variables + 1 = length-replicate (variables + 1) None in
    let sized : length values ≡ variables + 1 = ap length ev ∙ long in
    subst (λ (cs : List Chain). IsSolving clauses variables 0 cs values t) (sym ec)
    (subst (λ (u : List Assigned). IsSolving clauses variables 0 [] values u) (sym et)
    (record {
      state = record {
        told = subst (λ (vs : List (Option Bool)). Told vs []) (sym ev) (told_none (variables + 1));
        trail = record { each = λ n e i. absurd (none-some e i) };
        numbers = subst (λ (k : ℕ). AreNumbersOf k (clauses ++ [])) (sym sized) (subst (λ (cs : List (List ℤ)). AreNumbersOf (variables + 1) cs) (sym (append-nil clauses)) w);
      };
      sized = sized;
      log = log_none clauses (variables + 1);
      counted = refl;
    }))

pub solving_more : (clauses : List (List ℤ)) (variables counter size : ℕ) (before after : List Chain) (empty : Bool) (values : List (Option Bool)) (t : List Assigned) (earlier : List (Option Bool)) (u : List Assigned) → IsSolving clauses variables counter before earlier u → size ≡ variables + 1 → HasLearned clauses size before after empty → empty ≡ false → IsState (clauses_of clauses after) values t → length values ≡ variables + 1 → IsSolving clauses variables (counter + 1) after values t
solving_more clauses variables counter size before after empty values t earlier u s e l q state sized =
    let chain = l.chain in
    let learned : IsLearned clauses (variables + 1) (clauses_of clauses before) chain = subst (λ (k : ℕ). IsLearned clauses k (clauses_of clauses before) chain) e l.learned in
    record {
      state = state;
      sized = sized;
      log = subst (λ (cs : List Chain). IsLog clauses (variables + 1) cs) (sym l.more) (log_more clauses (variables + 1) before chain s.log learned (l.goes_on q));
      counted = ap length l.more ∙ length_push before chain ∙ ap (λ k. k + 1) s.counted;
    }
