-- What fails says nothing of what it would have ensured.
use Rattle.std.proofs.Common.{◌≡◌, Result, Err, OnOk, subst, sym}

pub fails : {A B : Type 0} (P : Type 0) (r : Result A B) (e : B) → r ≡ Err e → OnOk r P
fails {A = A} {B = B} P r e h = subst (λ (x : Result A B). OnOk x P) (sym h) tt
