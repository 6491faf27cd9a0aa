-- Two answers about one item are one, unless memory was wanted.
use Rattle.std.proofs.Common.{◌≡◌, ◌⊎◌, sym, ap, ◌∙◌, Option, Some, None, Result, Ok, Err, inl, inr}
use Rattle.c_core.specs.declared.number.Spot.{Spot}
use Rattle.way_bind.specs.declared.fault.Unbound.{Unbound}
use Rattle.way_bind.specs.declared.fault.Unbound.TheVariants.{OutOfMemory}
use Rattle.way_bind.specs.Binding.{Makes, WherePlaced}

abbrev pub One : {A : Type 0} → Result A Unbound → Result A Unbound → Type 0
One r q = (r ≡ q) ⊎ ((r ≡ Err OutOfMemory) ⊎ (q ≡ Err OutOfMemory))

pub ok_same : {A : Type 0} (a b : A) → One (Ok a) (Ok b) → a ≡ b
ok_same a b (inl e) = cc
ok_same a b (inr (inl e)) = cc
ok_same a b (inr (inr e)) = cc

pub ok_and_lack : {A : Type 0} (a : A) (l : Unbound) → One (Ok a) (Err l) → l ≡ OutOfMemory
ok_and_lack a l (inl e) = cc
ok_and_lack a l (inr (inl e)) = cc
ok_and_lack a l (inr (inr e)) = cc

lack_and_ok : {A : Type 0} (a : A) (l : Unbound) → One (Err l) (Ok a) → l ≡ OutOfMemory
lack_and_ok a l (inl e) = cc
lack_and_ok a l (inr (inl e)) = cc
lack_and_ok a l (inr (inr e)) = cc

pub lack_same : {A : Type 0} (l m : Unbound) → One {A = A} (Err l) (Err m) → (l ≡ OutOfMemory → ⊥) → (m ≡ OutOfMemory → ⊥) → l ≡ m
lack_same l m (inl e) a b = cc
lack_same l m (inr (inl e)) a b = absurd (a cc)
lack_same l m (inr (inr e)) a b = absurd (b cc)

lacks : {A B : Type 0} (l m : Unbound) → One {A = A} (Err l) (Err m) → One {A = B} (Err l) (Err m)
lacks l m (inl e) = inl (ap Err cc)
lacks l m (inr (inl e)) = inr (inl (ap Err cc))
lacks l m (inr (inr e)) = inr (inr (ap Err cc))

-- what one answer is made into is one
pub one_made : {A B : Type 0} (test : Result A Unbound → Type 0) (make : A → B) → ((r q : Result A Unbound) → test r → test q → One r q) → (x y : Result B Unbound) → Makes test make x → Makes test make y → One x y
one_made test make one (Ok x) (Ok y) h k = inl (ap Ok (h.2 ∙ ap make (ok_same h.0 k.0 (one (Ok h.0) (Ok k.0) h.1 k.1)) ∙ sym k.2))
one_made test make one (Ok x) (Err l) h k = inr (inr (ap Err (ok_and_lack h.0 l (one (Ok h.0) (Err l) h.1 k))))
one_made test make one (Err l) (Ok y) h k = inr (inl (ap Err (lack_and_ok k.0 l (one (Err l) (Ok k.0) h k.1))))
one_made test make one (Err l) (Err m) h k = lacks l m (one (Err l) (Err m) h k)

pub one_placed : {A : Type 0} (place : Option Spot) (binds : Spot → Result A Unbound → Type 0) → ((spot : Spot) (r q : Result A Unbound) → binds spot r → binds spot q → One r q) → (r q : Result A Unbound) → WherePlaced place binds r → WherePlaced place binds q → One r q
one_placed None binds one r q h k = inl (h ∙ sym k)
one_placed (Some spot) binds one r q h k = one spot r q h k
