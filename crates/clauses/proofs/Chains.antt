-- Chains, step by step.
use Rattle.std.proofs.Common.{◌≡◌, ◌≢◌, ◌∙◌, ℕ, zero, suc, ◌+◌, ◌-◌, ◌<◌, ◌≤◌, inl, inr, ◌↔◌, Bool, true, false, Some, None, List, [], ◌∷◌, ◌++◌, length, get_or, drop, drop-cons, add-one, slice_get, ℤ, neg_ℤ, unsigned_abs, map, ap, sym, subst, arith}
use Rattle.std.proofs.lemmas.List.{drop_all}
use Rattle.std.proofs.lemmas.List.Elements.{All-head, All-tail, All-weaker}
use Rattle.std.specs.List.{All}
use Rattle.std.specs.Bool.{MatchBool}
use Rattle.clauses.specs.declared.log.Resolve.{Resolve}
use Rattle.clauses.specs.declared.log.Chain.{Chain}
use Rattle.clauses.specs.Clause.{IsClause, IsNumber}
use Rattle.clauses.specs.Log.{Clash, Resolvent, AreSame, IsClauseAt, Derives, IsRight}
use Rattle.clauses.specs.Table.{Fits, AreApart, IsClear, Holds, Resolves, Matches, ChainJudged, written}
use Rattle.clauses.proofs.Members.{none_in}
use Rattle.clauses.proofs.Integers.{size_neg}
use Rattle.clauses.proofs.Tables.{one_each}
use Rattle.clauses.proofs.Resolving.{clause_put}

-- ---- what a chain derives is told by the numbers of the clause it has come to
clash_same : (a b clause : List ℤ) (x : ℤ) → AreSame a b → Clash a clause x → Clash b clause x
clash_same a b clause x same c = record {
  left = (same x).0 c.left;
  right = c.right;
  only = λ y l r d. c.only y ((same y).1 l) r d;
}

resolvent_same : (a b clause r : List ℤ) (on : ℕ) → AreSame a b → Resolvent a clause on r → Resolvent b clause on r
resolvent_same a b clause r on same p = record {
  number = p.number;
  variable = p.variable;
  clash = clash_same a b clause p.number same p.clash;
  members = λ y. (
    (λ i. elim ((p.members y).0 i) [ inl l ↦ inl ((same y).0 l.0, l.1) | inr l ↦ inr l ]),
    (λ i. (p.members y).1 (elim i [ inl l ↦ inl ((same y).1 l.0, l.1) | inr l ↦ inr l ])),
  );
}

pub derives_same : (clauses : List (List ℤ)) (a b : List ℤ) (steps : List Resolve) (last : List ℤ) → AreSame a b → Derives clauses a steps last → Derives clauses b steps last
derives_same clauses a b [] last same d = λ y. (λ i. (d y).0 ((same y).1 i), λ i. (same y).0 ((d y).1 i))
derives_same clauses a b (s ∷ ss) last same d = (d.0, d.1, d.2, resolvent_same a b d.0 d.1 s.on same d.3, d.4)

same_clause : (clauses : List (List ℤ)) (n : ℕ) (a b : List ℤ) → IsClauseAt clauses n a → IsClauseAt clauses n b → a ≡ b
same_clause clauses n a b h g = let e : Some a ≡ Some b = sym h.1 ∙ g.1 in cc

one_number : (cells : List ℤ) (touched : List ℕ) (now clause r q : List ℤ) (on : ℕ) → Holds cells touched now → (p : Resolvent now clause on r) → (o : Resolvent now clause on q) → p.number ≡ o.number
one_number cells touched now clause r q on h p o = one_each cells p.number o.number ((h.numbers p.number).1 p.clash.left) ((h.numbers o.number).1 o.clash.left) (p.variable ∙ sym o.variable)

pub same_resolvent : (cells : List ℤ) (touched : List ℕ) (now clause r q : List ℤ) (on : ℕ) → Holds cells touched now → Resolvent now clause on r → Resolvent now clause on q → AreSame r q
same_resolvent cells touched now clause r q on h p o =
    let e = one_number cells touched now clause r q on h p o in
    λ y. (
      (λ i. (o.members y).1 (elim ((p.members y).0 i) [ inl l ↦ inl (l.0, subst (λ x. y ≢ x) e l.1) | inr l ↦ inr (l.0, subst (λ x. y ≢ neg_ℤ x) e l.1) ])),
      (λ i. (p.members y).1 (elim ((o.members y).0 i) [ inl l ↦ inl (l.0, subst (λ x. y ≢ x) (sym e) l.1) | inr l ↦ inr (l.0, subst (λ x. y ≢ neg_ℤ x) (sym e) l.1) ])),
    )

-- ---- lists of what is left
pub left_at : {A : Type 0} (xs items : List A) (i : ℕ) (d : A) → items ≡ xs → i < length items → drop i xs ≡ get_or items i d ∷ drop (i + 1) xs
left_at xs items i d e lt = ap (drop i) (sym e) ∙ drop-cons items i d lt ∙ ap (λ l. get_or items i d ∷ l) (ap (λ k. drop k items) (sym (add-one i)) ∙ ap (drop (i + 1)) e)

pub none_left : {A : Type 0} (xs items : List A) (i : ℕ) → items ≡ xs → length items ≤ i → drop i xs ≡ []
none_left xs items i e past = drop_all i xs (subst (λ l. length l ≤ i) e past)

pub all_at : (P : List ℤ → Type 0) (clauses : List (List ℤ)) (n : ℕ) (c : List ℤ) → All P clauses → slice_get clauses n ≡ Some c → P c
all_at P [] n c all e = absurd (let none : None ≡ Some c = e in cc)
all_at P (x ∷ xs) zero c all e = let same : x ≡ c = cc in subst P same (All-head P x xs all)
all_at P (x ∷ xs) (suc n) c all e = all_at P xs n c (All-tail P x xs all) e

-- the numbers of an earlier clause have cells
pub clause_fits : (cells cells_now : List ℤ) (clauses : List (List ℤ)) (n : ℕ) (c numbers : List ℤ) → All (All (Fits cells)) clauses → IsClauseAt clauses n c → numbers ≡ c → length cells_now ≡ length cells → All (Fits cells_now) numbers
clause_fits cells cells_now clauses n c numbers all at e many =
    subst (All (Fits cells_now)) (sym e) (All-weaker (Fits cells) (Fits cells_now) (λ x lt. omega arith) c (all_at (All (Fits cells)) clauses (n - 1) c all at.1))

-- ---- what an attempt to resolve says
pub when_resolved : (b : Bool) (cells cells_after : List ℤ) (touched touched_after : List ℕ) (numbers clause : List ℤ) (on : ℕ) → b ≡ true → numbers ≡ clause → Resolves cells touched numbers on b cells_after touched_after
    → (now : List ℤ) → Holds cells touched now → (r : List ℤ) × Resolvent now clause on r × Holds cells_after touched_after r
when_resolved b cells cells_after touched touched_after numbers clause on t e h =
    subst (λ n. Resolves cells touched n on true cells_after touched_after) e (subst (λ t. Resolves cells touched numbers on t cells_after touched_after) t h)

pub when_refused : (b : Bool) (cells cells_after : List ℤ) (touched touched_after : List ℕ) (numbers clause : List ℤ) (on : ℕ) → b ≡ false → numbers ≡ clause → Resolves cells touched numbers on b cells_after touched_after
    → (now : List ℤ) → Holds cells touched now → (r : List ℤ) → Resolvent now clause on r → ⊥
when_refused b cells cells_after touched touched_after numbers clause on t e h =
    subst (λ n. Resolves cells touched n on false cells_after touched_after) e (subst (λ t. Resolves cells touched numbers on t cells_after touched_after) t h)

-- ---- a chain under way: the clause in the table, from which the steps that are left have to lead to the chain's clause
pub record Reached (clauses : List (List ℤ)) (chain : Chain) (cells : List ℤ) (touched : List ℕ) (i : ℕ) : Type 0 where
  pub now : List ℤ
  pub holds : Holds cells touched now
  pub rest : IsRight clauses chain ↔ Derives clauses now (drop i chain.steps) chain.gives

holds_none : (cells : List ℤ) → IsClear cells → Holds cells [] []
holds_none cells clear = record {
  numbers = λ x. ((λ i. let z : unsigned_abs x ≡ 0 = ap unsigned_abs (sym i.1 ∙ clear (unsigned_abs x)) in absurd (omega (arith, i.0))), λ i. absurd (none_in x i));
  covered = λ n f. absurd (f (clear n));
  own = λ n f. absurd (f (clear n));
}

apart_none : (cells clause : List ℤ) → IsClear cells → All IsNumber clause → AreApart cells clause
apart_none cells clause clear real k d lt e =
    let y = get_or clause k d in
    let z : unsigned_abs y ≡ 0 = sym (size_neg y) ∙ ap unsigned_abs (sym e ∙ clear (unsigned_abs y)) in
    omega (arith, (real k d lt).0)

pub reached_first : (clauses : List (List ℤ)) (chain : Chain) (cells cells_after : List ℤ) (touched touched_after : List ℕ) (first : List ℤ) → IsClear cells → IsClause first → All (Fits cells) first → IsClauseAt clauses chain.start first → touched ≡ []
    → cells_after ≡ written cells first → touched_after ≡ touched ++ map unsigned_abs first → Reached clauses chain cells_after touched_after 0
reached_first clauses chain cells cells_after touched touched_after first clear fine within at none ec et =
    let put = clause_put cells [] [] first (holds_none cells clear) fine within (apart_none cells first clear fine.real) in
    record {
      now = first;
      holds = subst (λ t. Holds cells_after t first) (sym (et ∙ ap (λ l. l ++ map unsigned_abs first) none)) (subst (λ l. Holds l (map unsigned_abs first) first) (sym ec) put);
      rest = ((λ r. subst (λ a. Derives clauses a chain.steps chain.gives) (same_clause clauses chain.start r.0 first r.1 at) r.2), (λ d. (first, at, d)));
    }

pub reached_next : (clauses : List (List ℤ)) (chain : Chain) (cells cells_after : List ℤ) (touched touched_after : List ℕ) (i : ℕ) (s : Resolve) (ss : List Resolve) (clause : List ℤ) → drop i chain.steps ≡ s ∷ ss → drop (i + 1) chain.steps ≡ ss → IsClauseAt clauses s.with clause
    → (h : Reached clauses chain cells touched i) → ((r : List ℤ) × Resolvent h.now clause s.on r × Holds cells_after touched_after r) → Reached clauses chain cells_after touched_after (i + 1)
reached_next clauses chain cells cells_after touched touched_after i s ss clause e f at h (r, p, g) =
    record {
      now = r;
      holds = g;
      rest = (
        (λ right.
            let d = subst (λ l. Derives clauses h.now l chain.gives) e (h.rest.0 right) in
            let q : Resolvent h.now clause s.on d.1 = subst (λ c. Resolvent h.now c s.on d.1) (same_clause clauses s.with d.0 clause d.2 at) d.3 in
            subst (λ l. Derives clauses r l chain.gives) (sym f) (derives_same clauses d.1 r ss chain.gives (same_resolvent cells touched h.now clause d.1 r s.on h.holds q p) d.4)),
        (λ d. h.rest.1 (subst (λ l. Derives clauses h.now l chain.gives) (sym e) (clause, r, at, p, subst (λ l. Derives clauses r l chain.gives) f d))),
      );
    }

-- where a step fails
pub no_clause : (clauses : List (List ℤ)) (chain : Chain) (cells : List ℤ) (touched : List ℕ) (i : ℕ) (s : Resolve) (ss : List Resolve) → drop i chain.steps ≡ s ∷ ss → ((c : List ℤ) → IsClauseAt clauses s.with c → ⊥) → Reached clauses chain cells touched i → IsRight clauses chain → ⊥
no_clause clauses chain cells touched i s ss e none h right =
    let d = subst (λ l. Derives clauses h.now l chain.gives) e (h.rest.0 right) in none d.0 d.2

pub no_resolvent : (clauses : List (List ℤ)) (chain : Chain) (cells : List ℤ) (touched : List ℕ) (i : ℕ) (s : Resolve) (ss : List Resolve) (clause : List ℤ) → drop i chain.steps ≡ s ∷ ss → IsClauseAt clauses s.with clause
    → (h : Reached clauses chain cells touched i) → ((r : List ℤ) → Resolvent h.now clause s.on r → ⊥) → IsRight clauses chain → ⊥
no_resolvent clauses chain cells touched i s ss clause e at h none right =
    let d = subst (λ l. Derives clauses h.now l chain.gives) e (h.rest.0 right) in
    none d.1 (subst (λ c. Resolvent h.now c s.on d.1) (same_clause clauses s.with d.0 clause d.2 at) d.3)

-- at the end of a chain its clause is compared
judged_end : (clauses : List (List ℤ)) (chain : Chain) (cells_first cells cells_after : List ℤ) (touched : List ℕ) (i : ℕ) (right : Bool) → drop i chain.steps ≡ [] → length cells ≡ length cells_first → (h : Reached clauses chain cells touched i)
    → MatchBool right (AreSame h.now chain.gives × IsClear cells_after × All (Fits cells) chain.gives) (AreSame h.now chain.gives → ⊥) → ChainJudged cells_first clauses chain right cells_after
judged_end clauses chain cells_first cells cells_after touched i true e many h m =
    (h.rest.1 (subst (λ l. Derives clauses h.now l chain.gives) (sym e) m.0), m.1, λ k d lt. let w = m.2 k d lt in omega arith)
judged_end clauses chain cells_first cells cells_after touched i false e many h m = λ right. m (subst (λ l. Derives clauses h.now l chain.gives) e (h.rest.0 right))

pub at_end : (clauses : List (List ℤ)) (chain : Chain) (cells_first cells cells_after : List ℤ) (touched variables : List ℕ) (numbers : List ℤ) (i : ℕ) (right : Bool) → drop i chain.steps ≡ [] → length cells ≡ length cells_first → variables ≡ touched → numbers ≡ chain.gives
    → Reached clauses chain cells touched i → Matches cells variables numbers right cells_after → ChainJudged cells_first clauses chain right cells_after
at_end clauses chain cells_first cells cells_after touched variables numbers i right e many et en h m =
    judged_end clauses chain cells_first cells cells_after touched i right e many h
    (subst (λ n. MatchBool right (AreSame h.now n × IsClear cells_after × All (Fits cells) n) (AreSame h.now n → ⊥)) en (m h.now (subst (λ t. Holds cells t h.now) (sym et) h.holds)))
