-- Logs, chain by chain.
use Rattle.std.proofs.Common.{◌≡◌, ◌∙◌, ℕ, zero, suc, ◌+◌, ◌-◌, ◌<◌, ◌≤◌, ◌↔◌, Bool, true, List, [], ◌∷◌, ◌++◌, length, get_or, take, drop, slice_get, Some, Result, Ok, Err, IfOk, ℤ, ap, sym, refl, subst, arith}
use Rattle.std.proofs.lemmas.List.{append_assoc, map-append, take_more}
use Rattle.std.proofs.lemmas.List.Elements.{All-push, All-weaker}
use Rattle.std.specs.List.{All}
use Rattle.std.specs.Bool.{IsTrue}
use Rattle.clauses.specs.declared.log.Chain.{Chain}
use Rattle.clauses.specs.Log.{IsRight, IsAccepted, EndsEmpty, given}
use Rattle.clauses.proofs.Chains.{left_at}
use Rattle.clauses.specs.Table.{Fits, IsClear, ChainJudged}

-- a log under way: the chains that are left decide
pub record Accepting (variables : ℕ) (clauses : List (List ℤ)) (chains : List Chain) (cells : List ℤ) (i : ℕ) : Type 0 where
  pub many : length cells ≡ variables + 1
  pub clear : IsClear cells
  pub within : All (All (Fits cells)) (clauses ++ given (take i chains))
  pub rest : IsAccepted clauses chains ↔ IsAccepted (clauses ++ given (take i chains)) (drop i chains)

one_more : (clauses : List (List ℤ)) (chains later : List Chain) (chain : Chain) → later ≡ chains ++ chain ∷ [] → clauses ++ given later ≡ (clauses ++ given chains) ++ chain.gives ∷ []
one_more clauses chains later chain e =
    ap (λ l. clauses ++ given l) e ∙ ap (λ l. clauses ++ l) (map-append (λ (c : Chain). c.gives) chains (chain ∷ [])) ∙ sym (append_assoc clauses (given chains) (chain.gives ∷ []))

pub accepting_next : (variables : ℕ) (clauses : List (List ℤ)) (chains : List Chain) (cells cells_after : List ℤ) (i : ℕ) (chain : Chain) → drop i chains ≡ chain ∷ drop (i + 1) chains → take (i + 1) chains ≡ take i chains ++ chain ∷ []
    → length cells_after ≡ length cells → Accepting variables clauses chains cells i → (IsRight (clauses ++ given (take i chains)) chain × IsClear cells_after × All (Fits cells) chain.gives) → Accepting variables clauses chains cells_after (i + 1)
accepting_next variables clauses chains cells cells_after i chain e f many h (right, clear, fits) =
    let more = one_more clauses (take i chains) (take (i + 1) chains) chain f in
    record {
      many = many ∙ h.many;
      clear = clear;
      within = subst (All (All (Fits cells_after))) (sym more)
          (All-weaker (All (Fits cells)) (All (Fits cells_after)) (λ c all k d lt. let w = all k d lt in omega arith) ((clauses ++ given (take i chains)) ++ chain.gives ∷ [])
          (All-push (All (Fits cells)) (clauses ++ given (take i chains)) chain.gives h.within fits));
      rest = (
        (λ a. let r = subst (IsAccepted (clauses ++ given (take i chains))) e (h.rest.0 a) in subst (λ l. IsAccepted l (drop (i + 1) chains)) (sym more) r.1),
        (λ a. h.rest.1 (subst (IsAccepted (clauses ++ given (take i chains))) (sym e) (right, subst (λ l. IsAccepted l (drop (i + 1) chains)) more a))),
      );
    }

-- a chain of the log was judged right, and the log goes on
pub judged_next : (variables : ℕ) (clauses : List (List ℤ)) (chains items : List Chain) (cells cells_lent cells_new cells_after : List ℤ) (i : ℕ) (x : Chain) (b : Bool) → items ≡ chains → i < length items → x ≡ get_or items i x
    → cells_lent ≡ cells → cells_after ≡ cells_new → length cells_new ≡ length cells → b ≡ true → Accepting variables clauses chains cells i → ChainJudged cells_lent (clauses ++ given (take i chains)) x b cells_new → Accepting variables clauses chains cells_after (i + 1)
judged_next variables clauses chains items cells cells_lent cells_new cells_after i x b e lt is lent after many t h judged =
    let same : get_or items i x ≡ get_or chains i x = ap (λ l. get_or l i x) e in
    let less : i < length chains = subst (λ l. i < length l) e lt in
    let right = subst (λ t. ChainJudged cells_lent (clauses ++ given (take i chains)) x t cells_new) t judged in
    subst (λ l. Accepting variables clauses chains l (i + 1)) (sym after)
    (accepting_next variables clauses chains cells cells_new i x (left_at chains items i x e lt ∙ ap (λ y. y ∷ drop (i + 1) chains) (sym is))
    (take_more chains i x less ∙ ap (λ y. take i chains ++ y ∷ []) (sym same ∙ sym is)) many h (right.0, right.1, subst (λ l. All (Fits l) x.gives) lent right.2))

given_at : (chains : List Chain) (k : ℕ) (x : Chain) → k < length chains → x ≡ get_or chains k x → slice_get (given chains) k ≡ Some x.gives
given_at [] k x lt e = absurd (omega arith)
given_at (c ∷ cs) zero x lt e = ap (λ (y : Chain). Some y.gives) (sym e)
given_at (c ∷ cs) (suc k) x lt e = given_at cs k x (omega arith) e

-- the last chain gives the empty clause
pub ends_empty : (chains items : List Chain) (n : ℕ) (x : Chain) → items ≡ chains → n ≡ length items → 0 < n → x ≡ get_or items (n - 1) x → length x.gives ≤ 0 → EndsEmpty chains
ends_empty chains items n x e many some is none =
    let m : length items ≡ length chains = ap length e in
    let k : n - 1 ≡ length chains - 1 = omega arith in
    let empty : x.gives ≡ [] = nil_of x.gives none in
    ap (slice_get (given chains)) (sym k) ∙ given_at chains (n - 1) x (omega arith) (is ∙ ap (λ l. get_or l (n - 1) x) e) ∙ ap Some empty
  where
    nil_of : (l : List ℤ) → length l ≤ 0 → l ≡ []
    nil_of [] h = refl
    nil_of (x ∷ xs) h = absurd (omega arith)

pub when_accepted : {E : Type 0} (r : Result Bool E) (P Q : Type 0) → IfOk r (λ b. IsTrue b ↔ P) → (P → Q) → IfOk r (λ b. IsTrue b → Q)
when_accepted (Ok b) P Q h f = λ t. f (h.0 t)
when_accepted (Err e) P Q h f = tt
