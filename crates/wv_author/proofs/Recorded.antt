-- What is kept of an input that comes back, by whether an input call ends there.
use Rattle.std.proofs.Common.{◌≡◌, refl, sym, ◌∙◌, ap, ℤ, true, false, List, [], ◌∷◌, ◌++◌, Option, Some, None, is_some}
use Rattle.std.proofs.lemmas.List.{append-nil}
use Rattle.c_core.specs.Places.{InputCall}
use Rattle.c_core.specs.declared.number.Spot.{Spot}
use Rattle.author_runs.specs.Returning.{back_at}
use Rattle.wv_author.specs.declared.recording.Returned.{Returned}
use Rattle.wv_author.specs.inside.Recording.{kept_if}

abbrev returned : Spot → ℤ → Returned
returned close value = record { close = close; value = value }

kept_there : (close : Spot) (value : ℤ) (o : Option InputCall) → true ≡ is_some o → returned close value ∷ [] ≡ kept_if (back_at close value o)
kept_there close value None e = absurd (cc)
kept_there close value (Some call) e = refl

nothing_there : (close : Spot) (value : ℤ) (o : Option InputCall) → false ≡ is_some o → [] ≡ kept_if (back_at close value o)
nothing_there close value None e = refl
nothing_there close value (Some call) e = absurd (cc)

module _ (close : Spot) (value : ℤ) (o : Option InputCall) (before : List Returned) where
  -- an input call ends there
  pub pushed : true ≡ is_some o → before ++ returned close value ∷ [] ≡ before ++ kept_if (back_at close value o)
  pushed e = ap (λ l. before ++ l) (kept_there close value o e)

  -- none ends there
  pub passed : false ≡ is_some o → before ≡ before ++ kept_if (back_at close value o)
  passed e = sym (append-nil before) ∙ ap (λ l. before ++ l) (nothing_there close value o e)
