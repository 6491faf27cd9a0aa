-- Pairs that are pushed one after another.
use Rattle.std.proofs.Common.{◌≡◌, List, [], ◌∷◌, ◌++◌, ap, ◌∙◌}

pub pushed : {X : Type 0} (xs ys zs : List X) (x : X) → xs ≡ ys → zs ≡ xs ++ x ∷ [] → zs ≡ ys ++ x ∷ []
pushed xs ys zs x e h = h ∙ ap (λ l. l ++ x ∷ []) e

pub joined : {X : Type 0} (xs ys zs more : List X) → xs ≡ ys → zs ≡ xs ++ more → zs ≡ ys ++ more
joined xs ys zs more e h = h ∙ ap (λ l. l ++ more) e
