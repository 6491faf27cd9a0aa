-- Multiples of polynomials that are 0.
use Rattle.std.proofs.Common.{◌≡◌, ℕ, ◌+◌, ◌*◌, ◌<◌, ◌≤◌, List, [], length, get_or, take, sym, arith}
use Rattle.std.specs.List.{All}
use Rattle.std.proofs.lemmas.List.Elements.{All-get_or, All-from_get_or, All-take, All-weaker}
use Rattle.polynomials.specs.declared.polynomial.Term.{Term}
use Rattle.polynomials.specs.Values.{Same, AreTruths, value, product_of, AreFactorsBelow, AreBelow}
use Rattle.polynomials.specs.Calls.{IsWithMultiple, IsQuotient}
use Rattle.polynomials.specs.Elimination.{AreZeros, AreAllBelow, IsReduced, IsReducedBy, Follows, AllFollow, AreAmong, StandIn}
use Rattle.polynomials.proofs.Sameness.{same_refl, same_by, same_trans, same_add, same_mul}

pub by_start : (w : ℕ) (fact p : List Term) → IsReducedBy w fact p p
by_start w fact p = record { is = λ v t z. same_refl w (value v p); within = λ n f b. b }

-- a multiple of 0 more
pub by_multiple : {w c : ℕ} {old new fact : List Term} {m : List ℕ} → IsWithMultiple w old c m fact new → StandIn old m → IsReducedBy w fact old new
by_multiple {w} {c} {old} {new} {fact} {m} p s = record {
  is = λ v t z.
      let k : ℕ = c * product_of v m in
      let none : value v old + k * 0 ≡ value v old = omega arith in
      same_trans (p.is v t) (same_trans (same_add (same_refl w (value v old)) (same_mul (same_refl w k) z)) (same_by none));
  within = λ n f b. p.within n b (s.within n b) f;
}

pub by_more : {w : ℕ} {fact old mid new : List Term} → IsReducedBy w fact old mid → IsReducedBy w fact mid new → IsReducedBy w fact old new
by_more {w} {fact} {old} {mid} {new} p q = record {
  is = λ v t z. same_trans (q.is v t z) (p.is v t z);
  within = λ n f b. q.within n f (p.within n f b);
}

pub reduced_start : (w : ℕ) (facts : List (List Term)) (p : List Term) → IsReduced w facts p p
reduced_start w facts p = record { is = λ v t z. same_refl w (value v p); within = λ n f b. b }

-- one of the facts
pub one_follows : (w : ℕ) (facts : List (List Term)) (i : ℕ) (d : List Term) → i < length facts → Follows w facts (get_or facts i d)
one_follows w facts i d h = record {
  is = λ v t z. All-get_or (λ f. Same w (value v f) 0) facts i d h z;
  within = λ n f. All-get_or (λ f. AreBelow n f) facts i d h f;
}

pub all_follow : (w : ℕ) (facts : List (List Term)) → AllFollow w facts facts
all_follow w facts = All-from_get_or (λ f. Follows w facts f) facts [] (λ i h. one_follows w facts i [] h)

-- the first facts alone
pub first_follow : (w n : ℕ) (facts cut : List (List Term)) → cut ≡ take n facts → AllFollow w facts cut
first_follow w n facts cut e = rw e (All-take (λ f. Follows w facts f) n facts (all_follow w facts))

-- what indexing gave
pub given_follows : (w : ℕ) (facts : List (List Term)) (i : ℕ) (f : List Term) → i < length facts → f ≡ get_or facts i f → Follows w facts f
given_follows w facts i f h e = rw (sym e) at (one_follows w facts i f h)

-- a fact is used, on the question and on another fact
pub reduced_more : {w : ℕ} {facts : List (List Term)} {fact old mid new : List Term} → IsReduced w facts old mid → Follows w facts fact → IsReducedBy w fact mid new
    → IsReduced w facts old new
reduced_more {w} {facts} {fact} {old} {mid} {new} p f q = record {
  is = λ v t z. same_trans (q.is v t (f.is v t z)) (p.is v t z);
  within = λ n a b. q.within n (f.within n a) (p.within n a b);
}

pub follows_more : {w : ℕ} {facts : List (List Term)} {fact old new : List Term} → Follows w facts old → Follows w facts fact → IsReducedBy w fact old new
    → Follows w facts new
follows_more {w} {facts} {fact} {old} {new} p f q = record {
  is = λ v t z. same_trans (q.is v t (f.is v t z)) (p.is v t z);
  within = λ n a. q.within n (f.within n a) (p.within n a);
}

all_zero : {w : ℕ} {given : List (List Term)} (facts : List (List Term)) → AllFollow w given facts → (v : ℕ → ℕ) → AreTruths v → AreZeros w v given → AreZeros w v facts
all_zero {w} {given} facts a v t z = All-weaker (λ f. Follows w given f) (λ f. Same w (value v f) 0) (λ f g. g.is v t z) facts a

all_below : {w : ℕ} {given : List (List Term)} (facts : List (List Term)) → AllFollow w given facts → (n : ℕ) → AreAllBelow n given → AreAllBelow n facts
all_below {w} {given} facts a n b = All-weaker (λ f. Follows w given f) (λ f. AreBelow n f) (λ f g. g.within n b) facts a

-- facts that follow are as good
pub reduced_then : {w : ℕ} {given facts : List (List Term)} {old mid new : List Term} → AllFollow w given facts → IsReduced w given old mid → IsReduced w facts mid new
    → IsReduced w given old new
reduced_then {w} {given} {facts} {old} {mid} {new} a p q = record {
  is = λ v t z. same_trans (q.is v t (all_zero facts a v t z)) (p.is v t z);
  within = λ n f b. q.within n (all_below facts a n f) (p.within n f b);
}

follows_then : {w : ℕ} {given : List (List Term)} (facts : List (List Term)) → AllFollow w given facts → (f : List Term) → Follows w facts f → Follows w given f
follows_then {w} {given} facts a f g = record {
  is = λ v t z. g.is v t (all_zero facts a v t z);
  within = λ n h. g.within n (all_below facts a n h);
}

pub follow_then : (w : ℕ) (given facts new : List (List Term)) → AllFollow w given facts → AllFollow w facts new → AllFollow w given new
follow_then w given facts new a b = All-weaker (λ f. Follows w facts f) (λ f. Follows w given f) (follows_then facts a) new b
