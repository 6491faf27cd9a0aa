-- The value on top of a stack, the last of a list.
use Rattle.std.proofs.Common.{◌≡◌, ◌-◌, ℤ, pos, List, [], ◌∷◌, ◌++◌, length, reverse, get_or, unwrap_or, slice_get, refl, sym, ap, ◌∙◌, arith, length-append}
use Rattle.std.proofs.lemmas.List.{reverse-append, reverse-reverse}
use Rattle.std.proofs.lemmas.Option.{unwrap_or-slice_get}
use Rattle.std.proofs.Math.Seq.{get_or-append_seam}
use Rattle.flow_laws.specs.Acting.{top}

last_as : (ws : List ℤ) → get_or (reverse ws) (length (reverse ws) - 1) (pos 0) ≡ top ws
last_as [] = refl
last_as (w ∷ us) =
    let e : reverse (w ∷ us) ≡ reverse us ++ w ∷ [] = reverse-append (w ∷ []) us in
    let n : length (reverse us ++ w ∷ []) - 1 ≡ length (reverse us) = omega (arith, length-append (reverse us) (w ∷ [])) in
    ap (λ xs. get_or xs (length xs - 1) (pos 0)) e ∙ ap (λ k. get_or (reverse us ++ w ∷ []) k (pos 0)) n ∙ get_or-append_seam (reverse us) w [] (pos 0)

pub top_is : (vs : List ℤ) → unwrap_or (slice_get vs (length vs - 1)) (pos 0) ≡ top (reverse vs)
top_is vs = unwrap_or-slice_get vs (length vs - 1) (pos 0) ∙ ap (λ xs. get_or xs (length xs - 1) (pos 0)) (sym (reverse-reverse vs)) ∙ last_as (reverse vs)
