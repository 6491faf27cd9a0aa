-- The end of a comment, byte by byte.
use Rattle.std.proofs.Common.{◌≡◌, ◌<◌, ◌+◌, ◌-◌, ℕ, false, List, ◌∷◌, length, take, drop, get_or, Option, Some, None, refl, sym, ap, arith, add-one, ◌∙◌}
use Rattle.std.specs.Option.{option_map}
use Rattle.std.proofs.Math.Seq.{drop-cons, take-length}
use Rattle.std.proofs.lemmas.List.{length-drop}
use Rattle.c_tokens.specs.Gaps.{closes, close_length}

moved_on : (i : ℕ) (n : Option ℕ) → option_map (λ n. n + i) (option_map (λ n. n + 1) n) ≡ option_map (λ n. n + (i + 1)) n
moved_on i None = refl
moved_on i (Some n) = let e : n + 1 + i ≡ n + (i + 1) = omega arith in ap Some e

next_byte : (b i : ℕ) (text : List ℕ) → closes (b ∷ text) ≡ false →
    option_map (λ n. n + i) (close_length (b ∷ text)) ≡ option_map (λ n. n + (i + 1)) (close_length text)
next_byte b i text e = rw e (moved_on i (close_length text))

pub rest_whole : (text : List ℕ) (i : ℕ) → take (length text - i) (drop i text) ≡ drop i text
rest_whole text i = ap (λ n. take n (drop i text)) (sym (length-drop i text)) ∙ take-length (drop i text)

-- where no comment ends at a place, its end is looked for from the next place on
pub close_later : (text : List ℕ) (i : ℕ) → i < length text → closes (take (length text - i) (drop i text)) ≡ false →
    option_map (λ n. n + i) (close_length (drop i text)) ≡ option_map (λ n. n + (i + 1)) (close_length (drop (i + 1) text))
close_later text i inside e =
    let parts : drop i text ≡ get_or text i 0 ∷ drop (i + 1) text = rw (add-one, drop-cons text i 0) in
    let whole : take (length text - i) (drop i text) ≡ get_or text i 0 ∷ drop (i + 1) text = rest_whole text i ∙ parts in
    let here : closes (get_or text i 0 ∷ drop (i + 1) text) ≡ false = sym (ap closes whole) ∙ e in
    rw parts (next_byte (get_or text i 0) i (drop (i + 1) text) here)
