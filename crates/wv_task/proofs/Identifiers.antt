-- What the answer of a reading says where it is exactly the definition's.
use Rattle.std.proofs.Common.{◌≡◌, ℕ, List, [], true, Option, Some, None, Result, Ok, Err, IsOk, ◌↔◌, is_some, is_ok, refl, sym, ap, ◌∙◌, true≢false}

pub read_alike : {T E : Type 0} (r : Result T E) (o : Option (List ℕ)) → (IsOk r ↔ ((u : List ℕ) × (o ≡ Some u))) → is_ok r ≡ is_some o
read_alike (Ok x) (Some u) h = refl
read_alike (Ok x) None h = let read = h.0 refl in absurd (cc read.1)
read_alike (Err e) (Some u) h = absurd (true≢false (sym (h.1 (u, refl))))
read_alike (Err e) None h = refl

pub none_read : {T E : Type 0} (r : Result T E) (e : E) (o : Option (List ℕ)) → r ≡ Err e → (IsOk r ↔ ((u : List ℕ) × (o ≡ Some u))) → o ≡ None
none_read r e None failed h = refl
none_read r e (Some u) failed h = absurd (true≢false (sym (h.1 (u, refl)) ∙ ap is_ok failed))
