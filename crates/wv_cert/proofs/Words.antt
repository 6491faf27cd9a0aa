-- Texts that begin with a word.
use Rattle.std.proofs.Common.{◌≡◌, ℕ, List, ◌++◌, Bool, true, false, length, take, drop, refl, sym, ap, ◌∙◌}
use Rattle.std.specs.Bool.{MatchBool}
use Rattle.std.specs.Str.{bytes_eq}
use Rattle.std.proofs.lemmas.Slice.Eq.{bytes_eq-Decides}
use Rattle.std.proofs.lemmas.List.{take-append-drop, take_at}

pub begins : (text word : List ℕ) (b : Bool) → b ≡ bytes_eq (take (length word) text) word
    → MatchBool b (text ≡ word ++ drop (length word) text) ((rest : List ℕ) → text ≡ word ++ rest → ⊥)
begins text word true e =
    let same : take (length word) text ≡ word = (bytes_eq-Decides (take (length word) text) word).0 (sym e) in
    sym (take-append-drop (length word) text) ∙ ap (λ front. front ++ drop (length word) text) same
begins text word false e = λ rest spelled.
    let same : take (length word) text ≡ word = ap (take (length word)) spelled ∙ take_at word rest _ refl in
    let test : bytes_eq (take (length word) text) word ≡ true = (bytes_eq-Decides (take (length word) text) word).1 same in
    absurd (cc)
