-- The loop over the entries of a collection, one by one.
use Rattle.std.proofs.Common.{◌≡◌, ℕ, suc, ◌+◌, ◌<◌, List, [], ◌∷◌, ◌++◌, length, take, drop, get_or, Bool, true, sym, ap, ◌∙◌, Option, Some, drop-cons, add-one}
use Rattle.yaml_lines.specs.Chunks.{◌>>=◌, collected, chunked, onto}
use Rattle.yaml_scalars.proofs.TokenSteps.{together}
use Rattle.wv_yaml.proofs.FlowSteps.{together_step}

module _ {X Y : Type 0} (head : X → Bool) (f : X × List X → Option Y) where
  -- what the entries give, from this head on
  abbrev pub entries_from : X → List X → Option (List Y)
  entries_from h left = collected f (chunked head (h ∷ left)).1

  first_entry : (h : X) (left : List X) (len : ℕ) (y : Y) → head h ≡ true → take len left ≡ (chunked head left).0 → f (h, take len left) ≡ Some y →
      entries_from h left ≡ (collected f (chunked head left).1 >>= λ ys. Some (y ∷ ys))
  first_entry h left len y e t g =
      let one : f (h, (chunked head left).0) ≡ Some y = sym (ap (λ b. f (h, b)) t) ∙ g in
      ap (λ b. collected f (onto b h (chunked head left)).1) e ∙ ap (λ o. o >>= λ y1. collected f (chunked head left).1 >>= λ ys. Some (y1 ∷ ys)) one

  pub next_entry : (h next : X) (left : List X) (len : ℕ) (ys : List Y) (y : Y) (d : X) → head h ≡ true → take len left ≡ (chunked head left).0 →
      (chunked head (drop len left)).1 ≡ (chunked head left).1 → f (h, take len left) ≡ Some y → len < length left → get_or left len d ≡ next →
      together (ys ++ y ∷ []) (entries_from next (drop (len + 1) left)) ≡ together ys (entries_from h left)
  next_entry h next left len ys y d e t o g lt n =
      let split : drop len left ≡ next ∷ drop (len + 1) left = drop-cons left len d lt ∙ ap (λ x. x ∷ drop (suc len) left) n ∙ ap (λ i. next ∷ drop i left) (sym (add-one len)) in
      together_step ys y _ ∙ ap (λ (r : List (X × List X)). together ys (collected f r >>= λ more. Some (y ∷ more))) (sym (ap (λ xs. (chunked head xs).1) split) ∙ o)
      ∙ ap (together ys) (sym (first_entry h left len y e t g))

  -- the facts as the code learns them
  pub on_to_next : (h next : X) (left body more : List X) (len : ℕ) (ys ys' : List Y) (y : Y) (d : X) → head h ≡ true → take len left ≡ (chunked head left).0 →
      (chunked head (drop len left)).1 ≡ (chunked head left).1 → body ≡ take len left → f (h, body) ≡ Some y → len < length left → get_or left len d ≡ next →
      more ≡ drop (len + 1) left → ys' ≡ ys ++ y ∷ [] →
      together ys' (entries_from next more) ≡ together ys (entries_from h left)
  on_to_next h next left body more len ys ys' y d e t o b g lt n m p =
      let one : f (h, take len left) ≡ Some y = sym (ap (λ xs. f (h, xs)) b) ∙ g in
      ap (λ xs. together xs (entries_from next more)) p ∙ ap (λ xs. together (ys ++ y ∷ []) (entries_from next xs)) m
      ∙ next_entry h next left len ys y d e t o one lt n
