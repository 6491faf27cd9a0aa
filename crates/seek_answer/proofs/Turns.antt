-- The values of draws, one after the other.
use Rattle.std.proofs.Common.{◌≡◌, ℕ, ◌+◌, ◌<◌, ℤ, List, [], ◌∷◌, ◌++◌, length, take, get_or, sym, ◌∙◌, ap}
use Rattle.std.proofs.lemmas.List.{map-append, take_more}
use Rattle.c_meaning.specs.declared.run.Draw.{Draw}
use Rattle.c_meaning.specs.Replay.{values_of}

pub one_more : (draws : List Draw) (i : ℕ) (d : Draw) (values after : List ℤ) → i < length draws → values ≡ values_of (take i draws) → after ≡ values ++ (get_or draws i d).value ∷ [] → after ≡ values_of (take (i + 1) draws)
one_more draws i d values after lt before e =
    e ∙ ap (λ vs. vs ++ (get_or draws i d).value ∷ []) before
    ∙ sym (ap values_of (take_more draws i d lt) ∙ map-append (λ x. x.value) (take i draws) (get_or draws i d ∷ []))
