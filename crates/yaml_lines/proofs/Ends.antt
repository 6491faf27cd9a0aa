-- Where a text ends without the blanks at its end.
use Rattle.std.proofs.Common.{◌≡◌, ℕ, zero, suc, ◌+◌, List, [], ◌∷◌, ◌++◌, take, drop, add-one, true, false, refl, sym, ap, ◌∙◌}
use Rattle.yaml_lines.specs.Marks.{blank, without_end, unless_blank}

pub end_at_blank : (xs : List ℕ) (b : ℕ) → blank b ≡ true → without_end (xs ++ b ∷ []) ≡ without_end xs
end_at_blank [] b e = rw e refl
end_at_blank (x ∷ xs) b e = ap (unless_blank x) (end_at_blank xs b e)

unless_more : (x : ℕ) (xs : List ℕ) (b : ℕ) → unless_blank x (xs ++ b ∷ []) ≡ x ∷ (xs ++ b ∷ [])
unless_more x [] b = refl
unless_more x (y ∷ xs) b = refl

pub end_at_other : (xs : List ℕ) (b : ℕ) → blank b ≡ false → without_end (xs ++ b ∷ []) ≡ xs ++ b ∷ []
end_at_other [] b e = rw e refl
end_at_other (x ∷ xs) b e = ap (unless_blank x) (end_at_other xs b e) ∙ unless_more x xs b

-- the text up to a place, and with the character that stands there
take_here : (text rest : List ℕ) (at c : ℕ) → drop at text ≡ c ∷ rest → take (suc at) text ≡ take at text ++ c ∷ []
take_here [] rest zero c e = absurd (cc)
take_here [] rest (suc at) c e = absurd (cc)
take_here (x ∷ xs) rest zero c e = let same : x ≡ c = cc in ap (λ y. y ∷ []) same
take_here (x ∷ xs) rest (suc at) c e = ap (λ ys. x ∷ ys) (take_here xs rest at c e)

pub take_next : (text left rest : List ℕ) (at c : ℕ) → left ≡ drop at text → left ≡ c ∷ rest → take (at + 1) text ≡ take at text ++ c ∷ []
take_next text left rest at c f e = ap (λ n. take n text) (add-one at) ∙ take_here text rest at c (sym f ∙ e)

pub end_blank : (text left rest : List ℕ) (at end c : ℕ) → left ≡ drop at text → left ≡ c ∷ rest → blank c ≡ true → take end text ≡ without_end (take at text) →
    take end text ≡ without_end (take (at + 1) text)
end_blank text left rest at end c f e b h = h ∙ sym (ap without_end (take_next text left rest at c f e) ∙ end_at_blank (take at text) c b)

pub end_other : (text left rest : List ℕ) (at c : ℕ) → left ≡ drop at text → left ≡ c ∷ rest → blank c ≡ false → take (at + 1) text ≡ without_end (take (at + 1) text)
end_other text left rest at c f e b = take_next text left rest at c f e ∙ sym (ap without_end (take_next text left rest at c f e) ∙ end_at_other (take at text) c b)
