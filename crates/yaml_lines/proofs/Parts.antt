-- Which way a test went, and what an optional value came from.
use Rattle.std.proofs.Common.{◌≡◌, List, [], ◌∷◌, Bool, true, false, refl, subst, cond, inl, inr, ◌⊎◌, Option, Some, None}
use Rattle.std.specs.List.{AllByRecursion}
use Rattle.yaml_lines.specs.Chunks.{◌>>=◌, collected, provided}

pub chosen : {A : Type 0} (b : Bool) (x y z : A) → cond b x y ≡ z → ((b ≡ true) × (x ≡ z)) ⊎ ((b ≡ false) × (y ≡ z))
chosen true x y z e = inl (refl, e)
chosen false x y z e = inr (refl, e)

pub bind_some : {A B : Type 0} (o : Option A) (f : A → Option B) (y : B) → (o >>= f) ≡ Some y → (x : A) × (o ≡ Some x) × (f x ≡ Some y)
bind_some None f y e = absurd (cc)
bind_some (Some x) f y e = (x, refl, e)

pub provided_some : {A : Type 0} (b : Bool) (o : Option A) (y : A) → provided b o ≡ Some y → (b ≡ true) × (o ≡ Some y)
provided_some true o y e = (refl, e)
provided_some false o y e = absurd (cc)

-- what each element gives has a property, where each has one that makes it so
pub collected_all : {A B : Type 0} (f : A → Option B) (P : A → Type 0) (Q : B → Type 0) → ((x : A) (y : B) → P x → f x ≡ Some y → Q y) →
    (xs : List A) (ys : List B) → AllByRecursion P xs → collected f xs ≡ Some ys → AllByRecursion Q ys
collected_all f P Q h [] [] p e = tt
collected_all f P Q h [] (y ∷ ys) p e = absurd (cc)
collected_all f P Q h (x ∷ xs) ys p e =
    let one = bind_some (f x) _ ys e in
    let others = bind_some (collected f xs) _ ys one.2 in
    let same : one.0 ∷ others.0 ≡ ys = cc in
    subst (AllByRecursion Q) same (h x one.0 p.0 one.1, collected_all f P Q h xs others.0 p.1 others.1)
