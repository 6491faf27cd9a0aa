-- A key is looked for pair by pair.
use Rattle.std.proofs.Common.{◌≡◌, ℕ, suc, ◌+◌, ◌<◌, List, [], ◌∷◌, length, drop, get_or, true, Some, cond, sym, ap, ◌∙◌, drop-cons, add-one}
use Rattle.std.specs.Str.{bytes_eq}
use Rattle.wv_yaml.specs.declared.tree.Pair.{Pair}
use Rattle.wv_schema.specs.Paths.{value_of}

pub split_at : {X : Type 0} (xs : List X) (i : ℕ) (x : X) → i < length xs → x ≡ get_or xs i x → drop i xs ≡ x ∷ drop (i + 1) xs
split_at xs i x lt is = drop-cons xs i x lt ∙ ap (λ y. y ∷ drop (suc i) xs) (sym is) ∙ ap (λ k. x ∷ drop k xs) (sym (add-one i))

pub found_here : (k : List ℕ) (ps : List Pair) (i : ℕ) (p : Pair) → i < length ps → p ≡ get_or ps i p → bytes_eq p.key k ≡ true → value_of k (drop i ps) ≡ Some p.value
found_here k ps i p lt is e = ap (value_of k) (split_at ps i p lt is) ∙ ap (λ b. cond b (Some p.value) (value_of k (drop (i + 1) ps))) e
