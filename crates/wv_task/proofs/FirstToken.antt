-- The first token of a text stands behind its blanks.
use Rattle.std.proofs.Common.{◌≡◌, ◌+◌, ◌∙◌, ℕ, suc, Bool, true, false, cond, List, [], ◌∷◌, length, take, drop, refl, sym, ap, subst, arith}
use Rattle.std.specs.List.{prefix_len}
use Rattle.std.proofs.lemmas.Bool.Decides.{nat_tests}
use Rattle.wv_task.specs.Tokens.{is_blank, is_letter, begins_with_letter, longer, tokens, token_length}

abbrev pub begins_with_blank : List ℕ → Bool
begins_with_blank [] = false
begins_with_blank (b ∷ text) = is_blank b

-- what a run of blanks leaves
abbrev pub past_blanks : List ℕ → List ℕ
past_blanks text = drop (prefix_len is_blank text) text

one_more : (n : ℕ) → 1 + n ≡ suc n
one_more n = omega arith

run_on : (p : ℕ → Bool) (b : ℕ) (text : List ℕ) → p b ≡ true → prefix_len p (b ∷ text) ≡ suc (prefix_len p text)
run_on p b text e = rw e (one_more (prefix_len p text))

run_ends : (p : ℕ → Bool) (b : ℕ) (text : List ℕ) → p b ≡ false → prefix_len p (b ∷ text) ≡ 0
run_ends p b text e = rw e refl

-- blanks are no tokens
pub blanks_passed : (text : List ℕ) → tokens (past_blanks text) ≡ tokens text
blanks_passed [] = refl
blanks_passed (b ∷ text) = passed (blanks_passed text) (is_blank b) refl
  where
    passed : tokens (past_blanks text) ≡ tokens text → (v : Bool) → is_blank b ≡ v → tokens (past_blanks (b ∷ text)) ≡ tokens (b ∷ text)
    passed later true e = ap (λ n. tokens (drop n (b ∷ text))) (run_on is_blank b text e) ∙ rw e later
    passed later false e = ap (λ n. tokens (drop n (b ∷ text))) (run_ends is_blank b text e)

pub no_blank_left : (text : List ℕ) → begins_with_blank (past_blanks text) ≡ false
no_blank_left [] = refl
no_blank_left (b ∷ text) = left (no_blank_left text) (is_blank b) refl
  where
    left : begins_with_blank (past_blanks text) ≡ false → (v : Bool) → is_blank b ≡ v → begins_with_blank (past_blanks (b ∷ text)) ≡ false
    left later true e = ap (λ n. begins_with_blank (drop n (b ∷ text))) (run_on is_blank b text e) ∙ later
    left later false e = ap (λ n. begins_with_blank (drop n (b ∷ text))) (run_ends is_blank b text e) ∙ e

letter_is_no_blank : (b : ℕ) → is_letter b ≡ true → is_blank b ≡ false
letter_is_no_blank b e = grind (arith, nat_tests)

-- a text begins with a token of so many bytes
abbrev pub Parts : List ℕ → ℕ → Type 0
Parts text n = tokens text ≡ take n text ∷ tokens (drop n text)

-- a word is as long as its letters go on
word_parts : (b : ℕ) (text : List ℕ) → is_letter b ≡ true → Parts (b ∷ text) (prefix_len is_letter (b ∷ text))
word_parts b [] e = subst (Parts (b ∷ [])) (sym (run_on is_letter b [] e)) (rw (letter_is_no_blank b e, e) refl)
word_parts b (c ∷ text) e = goes_on (word_parts c text) (is_letter c) refl
  where
    goes_on : (is_letter c ≡ true → Parts (c ∷ text) (prefix_len is_letter (c ∷ text))) → (v : Bool) → is_letter c ≡ v →
        Parts (b ∷ c ∷ text) (prefix_len is_letter (b ∷ c ∷ text))
    goes_on later true f =
        let joined : tokens (b ∷ c ∷ text) ≡ longer b (tokens (c ∷ text)) = rw (letter_is_no_blank b e, e, f) refl in
        subst (Parts (b ∷ c ∷ text)) (sym (run_on is_letter b (c ∷ text) e)) (joined ∙ ap (longer b) (later f))
    goes_on later false f =
        let one : prefix_len is_letter (b ∷ c ∷ text) ≡ 1 = run_on is_letter b (c ∷ text) e ∙ ap suc (run_ends is_letter c text f) in
        subst (Parts (b ∷ c ∷ text)) (sym one) (rw (letter_is_no_blank b e, e, f) refl)

token_of_word : (b : ℕ) (text : List ℕ) → is_letter b ≡ true → token_length (b ∷ text) ≡ prefix_len is_letter (b ∷ text)
token_of_word b text e = rw e refl

token_of_sign : (b : ℕ) (text : List ℕ) → is_letter b ≡ false → token_length (b ∷ text) ≡ 1
token_of_sign b text e = rw e refl

no_token_here : (text : List ℕ) → token_length text ≡ 0 → tokens text ≡ []
no_token_here [] e = refl
no_token_here (b ∷ text) e = absurd (some (is_letter b) refl)
  where
    some : (v : Bool) → is_letter b ≡ v → ⊥
    some true f = omega (arith, e, token_of_word b text f ∙ run_on is_letter b text f)
    some false f = omega (arith, e, token_of_sign b text f)

first_here : (text : List ℕ) → begins_with_blank text ≡ false → (token_length text ≡ 0 → ⊥) → Parts text (token_length text)
first_here [] front some = absurd (some refl)
first_here (b ∷ text) front some = parts (is_letter b) refl
  where
    parts : (v : Bool) → is_letter b ≡ v → Parts (b ∷ text) (token_length (b ∷ text))
    parts true e = subst (Parts (b ∷ text)) (sym (token_of_word b text e)) (word_parts b text e)
    parts false e = subst (Parts (b ∷ text)) (sym (token_of_sign b text e)) (rw (front, e) refl)

-- no token stands behind the blanks
pub no_token : (text : List ℕ) → token_length (past_blanks text) ≡ 0 → tokens text ≡ []
no_token text e = sym (blanks_passed text) ∙ no_token_here (past_blanks text) e

-- the token that stands behind the blanks is the first
pub first_token : (text : List ℕ) → (token_length (past_blanks text) ≡ 0 → ⊥) →
    tokens text ≡ take (token_length (past_blanks text)) (past_blanks text) ∷ tokens (drop (token_length (past_blanks text)) (past_blanks text))
first_token text some = sym (blanks_passed text) ∙ first_here (past_blanks text) (no_blank_left text) some
