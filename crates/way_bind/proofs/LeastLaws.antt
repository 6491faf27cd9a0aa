-- The least item that isn't bound is one, where each item has one answer.
use Rattle.std.proofs.Common.{◌≡◌, ◌⊎◌, refl, sym, ap, ◌∙◌, subst, ℕ, ◌+◌, List, [], ◌∷◌, ◌++◌, length, Result, Ok, Err, inl, inr, arith}
use Rattle.way_bind.specs.declared.fault.Unbound.{Unbound}
use Rattle.way_bind.specs.declared.fault.Unbound.TheVariants.{NoPlace, Expression, Scope, OutOfMemory}
use Rattle.way_bind.specs.declared.fault.BindFault.{BindFault}
use Rattle.way_bind.specs.declared.fault.BindFault.TheVariants as fault
use Rattle.way_bind.specs.InOrder.{AllBound, IsLeast, TellsLeast}
use Rattle.way_bind.proofs.OneLaws.{One, ok_same, ok_and_lack, lack_same}
use Rattle.way_bind.proofs.InOrderLaws.{each_same, each_among}

abbrev Same : ℕ → ℕ → Unbound → Unbound → Type 0
Same n m l k = (n ≡ m) × (l ≡ k)

heads : {A : Type 0} (u v : A) (us vs : List A) → u ∷ us ≡ v ∷ vs → u ≡ v
heads u v us vs e = cc

tails : {A : Type 0} (u v : A) (us vs : List A) → u ∷ us ≡ v ∷ vs → us ≡ vs
tails u v us vs e = cc

longer : {A : Type 0} (us vs : List A) (u v : A) → length us ≡ length vs → length (u ∷ us) ≡ length (v ∷ vs)
longer us vs u v e = omega arith

apart : {n m : ℕ} {l k : Unbound} → Same n m l k → (l ≡ k → ⊥) → ⊥
apart same other = other same.1

module _ {A B : Type 0} (binds : A → Result B Unbound → Type 0) (one : (v : A) (r q : Result B Unbound) → binds v r → binds v q → One r q) where
  one_bound : (v : A) (x y : B) → binds v (Ok x) → binds v (Ok y) → x ≡ y
  one_bound v x y h k = ok_same x y (one v (Ok x) (Ok y) h k)

  pub bound_same : (vs : List A) (xs ys : List B) → AllBound binds vs xs → AllBound binds vs ys → xs ≡ ys
  bound_same vs xs ys h k = each_same (λ v x. binds v (Ok x)) one_bound vs xs ys h k

  lacks_memory : (v : A) (x : B) (l : Unbound) → binds v (Ok x) → binds v (Err l) → l ≡ OutOfMemory
  lacks_memory v x l h k = ok_and_lack x l (one v (Ok x) (Err l) h k)

  same_lack : (v : A) (l m : Unbound) → binds v (Err l) → binds v (Err m) → (l ≡ OutOfMemory → ⊥) → (m ≡ OutOfMemory → ⊥) → l ≡ m
  same_lack v l m h k a b = lack_same l m (one v (Err l) (Err m) h k) a b

  none_unbound : (first : ℕ) (vs : List A) (xs : List B) (n : ℕ) (l : Unbound) → AllBound binds vs xs → (l ≡ OutOfMemory → ⊥) → IsLeast binds first vs n l → ⊥
  none_unbound first vs xs n l h not_memory k =
      let there = each_among (λ v x. binds v (Ok x)) k.before k.at k.behind xs (subst (λ ws. AllBound binds ws xs) k.in_order h) in
      not_memory (lacks_memory k.at there.0 l there.1 k.fails)

  pub not_told : (first : ℕ) (vs : List A) (xs : List B) (f : BindFault) → AllBound binds vs xs → TellsLeast binds first vs f → f ≡ fault.OutOfMemory
  not_told first vs xs (fault.NoPlace n) h k = absurd (none_unbound first vs xs n NoPlace h (λ e. cc) k)
  not_told first vs xs (fault.Expression n) h k = absurd (none_unbound first vs xs n Expression h (λ e. cc) k)
  not_told first vs xs (fault.Scope n) h k = absurd (none_unbound first vs xs n Scope h (λ e. cc) k)
  not_told first vs xs fault.OutOfMemory h k = refl

  least_same : (us vs : List A) (a b : A) (cs ds : List A) (xs ys : List B) (l m : Unbound) → us ++ a ∷ cs ≡ vs ++ b ∷ ds → AllBound binds us xs → AllBound binds vs ys → binds a (Err l) → binds b (Err m) → (l ≡ OutOfMemory → ⊥) → (m ≡ OutOfMemory → ⊥) → Same (length us) (length vs) l m
  least_same [] [] a b cs ds xs ys l m e h k fa fb na nb = (refl, same_lack b l m (subst (λ w. binds w (Err l)) (heads a b cs ds e) fa) fb na nb)
  least_same [] (v ∷ vs) a b cs ds xs [] l m e h k fa fb na nb = elim k [ ]
  least_same [] (v ∷ vs) a b cs ds xs (y ∷ ys) l m e h k fa fb na nb = absurd (na (lacks_memory v y l k.0 (subst (λ w. binds w (Err l)) (heads a v cs (vs ++ b ∷ ds) e) fa)))
  least_same (u ∷ us) [] a b cs ds [] ys l m e h k fa fb na nb = elim h [ ]
  least_same (u ∷ us) [] a b cs ds (x ∷ xs) ys l m e h k fa fb na nb = absurd (nb (lacks_memory u x m h.0 (subst (λ w. binds w (Err m)) (sym (heads u b (us ++ a ∷ cs) ds e)) fb)))
  least_same (u ∷ us) (v ∷ vs) a b cs ds [] ys l m e h k fa fb na nb = elim h [ ]
  least_same (u ∷ us) (v ∷ vs) a b cs ds (x ∷ xs) [] l m e h k fa fb na nb = elim k [ ]
  least_same (u ∷ us) (v ∷ vs) a b cs ds (x ∷ xs) (y ∷ ys) l m e h k fa fb na nb =
      let rest = least_same us vs a b cs ds xs ys l m (tails u v (us ++ a ∷ cs) (vs ++ b ∷ ds) e) h.1 k.1 fa fb na nb in
      (longer us vs u v rest.0, rest.1)

  same_least : (first : ℕ) (vs : List A) (n m : ℕ) (l k : Unbound) → (l ≡ OutOfMemory → ⊥) → (k ≡ OutOfMemory → ⊥) → IsLeast binds first vs n l → IsLeast binds first vs m k → Same n m l k
  same_least first vs n m l k na nb a b =
      let same = least_same a.before b.before a.at b.at a.behind b.behind a.bound_to b.bound_to l k (sym a.in_order ∙ b.in_order) a.bound b.bound a.fails b.fails na nb in
      (a.counted ∙ ap (λ x. first + x) same.0 ∙ sym b.counted, same.1)

  pub one_told : (first : ℕ) (vs : List A) (f g : BindFault) → TellsLeast binds first vs f → TellsLeast binds first vs g → (f ≡ g) ⊎ ((f ≡ fault.OutOfMemory) ⊎ (g ≡ fault.OutOfMemory))
  one_told first vs fault.OutOfMemory g h k = inr (inl refl)
  one_told first vs (fault.NoPlace n) fault.OutOfMemory h k = inr (inr refl)
  one_told first vs (fault.Expression n) fault.OutOfMemory h k = inr (inr refl)
  one_told first vs (fault.Scope n) fault.OutOfMemory h k = inr (inr refl)
  one_told first vs (fault.NoPlace n) (fault.NoPlace m) h k = inl (ap fault.NoPlace (same_least first vs n m NoPlace NoPlace (λ e. cc) (λ e. cc) h k).0)
  one_told first vs (fault.Expression n) (fault.Expression m) h k = inl (ap fault.Expression (same_least first vs n m Expression Expression (λ e. cc) (λ e. cc) h k).0)
  one_told first vs (fault.Scope n) (fault.Scope m) h k = inl (ap fault.Scope (same_least first vs n m Scope Scope (λ e. cc) (λ e. cc) h k).0)
  one_told first vs (fault.NoPlace n) (fault.Expression m) h k = absurd (apart (same_least first vs n m NoPlace Expression (λ e. cc) (λ e. cc) h k) (λ e. cc))
  one_told first vs (fault.NoPlace n) (fault.Scope m) h k = absurd (apart (same_least first vs n m NoPlace Scope (λ e. cc) (λ e. cc) h k) (λ e. cc))
  one_told first vs (fault.Expression n) (fault.NoPlace m) h k = absurd (apart (same_least first vs n m Expression NoPlace (λ e. cc) (λ e. cc) h k) (λ e. cc))
  one_told first vs (fault.Expression n) (fault.Scope m) h k = absurd (apart (same_least first vs n m Expression Scope (λ e. cc) (λ e. cc) h k) (λ e. cc))
  one_told first vs (fault.Scope n) (fault.NoPlace m) h k = absurd (apart (same_least first vs n m Scope NoPlace (λ e. cc) (λ e. cc) h k) (λ e. cc))
  one_told first vs (fault.Scope n) (fault.Expression m) h k = absurd (apart (same_least first vs n m Scope Expression (λ e. cc) (λ e. cc) h k) (λ e. cc))
