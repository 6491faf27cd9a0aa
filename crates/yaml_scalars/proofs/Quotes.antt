-- A quoted scalar, step by step.
use Rattle.std.proofs.Common.{◌≡◌, ℕ, zero, suc, ◌+◌, ◌<◌, ◌≤◌, List, [], ◌∷◌, ◌++◌, length, drop, Bool, true, false, refl, sym, ap, ◌∙◌, arith, Option, Some, None, append_assoc, add-one, ◌==◌}
use Rattle.std.proofs.lemmas.Bool.{cond-true, cond-false}
use Rattle.std.proofs.lemmas.Bool.Decides.{nat_tests}
use Rattle.std.proofs.lemmas.List.{drop-drop}
use Rattle.std.proofs.lemmas.Str.{encodes-append}
use Rattle.std.proofs.lemmas.Option.{same_Some}
use lib.Utf8.{encodes}
use Rattle.yaml_lines.specs.Chunks.{◌>>=◌}
use Rattle.yaml_scalars.specs.Quoted.{quoted, step_in, first_step, on_step, Step, Refused, Closed, Stands, escape, digits_of, if_character, number, if_simple, simple}
use Rattle.yaml_scalars.specs.Gives.{stepped}

-- a value that is written behind another text, and the characters that it takes besides so many
abbrev pub with_count : ℕ → List ℕ → Option (List ℕ × ℕ) → Option (List ℕ × ℕ)
with_count k front None = None
with_count k front (Some r) = Some (front ++ encodes r.0, k + r.1)

-- so many characters more
abbrev pub counted : ℕ → Option (List ℕ × ℕ) → Option (List ℕ × ℕ)
counted k None = None
counted k (Some r) = Some (r.0, k + r.1)

counted_more : (k : ℕ) (o : Option (List ℕ × ℕ)) → (counted k o >>= λ r. Some (r.0, suc r.1)) ≡ counted (suc k) o
counted_more k None = refl
counted_more k (Some r) = let same : suc (k + r.1) ≡ suc k + r.1 = omega arith in ap (λ n. Some (r.0, n)) same

counted_none : (o : Option (List ℕ × ℕ)) → o ≡ counted 0 o
counted_none None = refl
counted_none (Some r) = let same : r.1 ≡ 0 + r.1 = omega arith in ap (λ n. Some (r.0, n)) same

-- characters that are passed over
pub quoted_skip : (step : ℕ → List ℕ → Step) (k : ℕ) (cs : List ℕ) → quoted step k cs ≡ counted k (quoted step 0 (drop k cs))
quoted_skip step zero [] = refl
quoted_skip step (suc k) [] = refl
quoted_skip step zero (c ∷ cs) = counted_none (quoted step 0 (c ∷ cs))
quoted_skip step (suc k) (c ∷ cs) = ap (λ (o : Option (List ℕ × ℕ)). o >>= λ r. Some (r.0, suc r.1)) (quoted_skip step k cs) ∙ counted_more k (quoted step 0 (drop k cs))

quoted_first : (d : Bool) (text : List ℕ) → 0 < length text → quoted (step_in d) 0 text ≡ on_step (first_step d text) (λ k. quoted (step_in d) k (drop 1 text))
quoted_first d [] h = absurd (omega arith)
quoted_first d (c ∷ cs) h = refl

step_on : (at more : ℕ) (out v : List ℕ) (o : Option (List ℕ × ℕ)) →
    with_count at out (counted more o >>= λ r. Some (v ++ r.0, suc r.1)) ≡ with_count (at + (1 + more)) (out ++ encodes v) o
step_on at more out v None = refl
step_on at more out v (Some r) =
    let n : at + suc (more + r.1) ≡ at + (1 + more) + r.1 = omega arith in
    let t : out ++ encodes (v ++ r.0) ≡ (out ++ encodes v) ++ encodes r.0 = ap (λ xs. out ++ xs) (encodes-append v r.0) ∙ sym (append_assoc out (encodes v) (encodes r.0)) in
    ap (λ m. Some (out ++ encodes (v ++ r.0), m)) n ∙ ap (λ xs. Some (xs, at + (1 + more) + r.1)) t

-- what a step that goes on says, and one that ends
pub record Goes (out new : List ℕ) (s : Step) (more : ℕ) : Type 0 where
  pub value : List ℕ
  pub is : s ≡ Stands value more
  pub text : new ≡ out ++ encodes value

pub goes_of : (out new : List ℕ) (s : Step) (more : ℕ) → stepped out s ≡ Some (Some more, new) → Goes out new s more
goes_of out new Refused more e = absurd (cc)
goes_of out new Closed more e = let p : (None, out) ≡ (Some more, new) = same_Some _ _ e in let q : None ≡ Some more = ap (λ (r : Option ℕ × List ℕ). r.0) p in absurd (cc)
goes_of out new (Stands v k) more e =
    let p : (Some k, out ++ encodes v) ≡ (Some more, new) = same_Some _ _ e in
    let q : Some k ≡ Some more = ap (λ (r : Option ℕ × List ℕ). r.0) p in
    record { value = v; is = ap (Stands v) (same_Some _ _ q); text = sym (ap (λ (r : Option ℕ × List ℕ). r.1) p) }

-- the loop's step: `front` is the text from its place on
pub quoted_on : (d : Bool) (text front : List ℕ) (at more : ℕ) (out new : List ℕ) → front ≡ drop at text → 0 < length front →
    stepped out (first_step d front) ≡ Some (Some more, new) →
    with_count (at + (1 + more)) new (quoted (step_in d) 0 (drop (at + (1 + more)) text)) ≡ with_count at out (quoted (step_in d) 0 (drop at text))
quoted_on d text front at more out new f h e =
    let g = goes_of out new (first_step d front) more e in
    let further : drop more (drop 1 front) ≡ drop (at + (1 + more)) text =
    drop-drop more 1 front ∙ ap (drop (1 + more)) f ∙ drop-drop (1 + more) at text in
    ap (λ xs. with_count (at + (1 + more)) xs (quoted (step_in d) 0 (drop (at + (1 + more)) text))) g.text
    ∙ sym (step_on at more out g.value (quoted (step_in d) 0 (drop (at + (1 + more)) text)))
    ∙ ap (λ (o : Option (List ℕ × ℕ)). with_count at out (o >>= λ r. Some (g.value ++ r.0, suc r.1)))
    (ap (λ xs. counted more (quoted (step_in d) 0 xs)) (sym further) ∙ sym (quoted_skip (step_in d) more (drop 1 front)))
    ∙ ap (λ s. with_count at out (on_step s (λ k. quoted (step_in d) k (drop 1 front)))) (sym g.is)
    ∙ ap (with_count at out) (sym (quoted_first d front h) ∙ ap (quoted (step_in d) 0) f)

-- escapes
pub escape_number : (text cs : List ℕ) (e count : ℕ) → text ≡ e ∷ cs → (e == 10) ≡ false → count ≡ digits_of e → 0 < count → escape text ≡ if_character (number count 0 cs) (count + 1)
escape_number text cs e count t h k lt =
    let some : (digits_of e == 0) ≡ false = ap (λ n. n == 0) (sym k) ∙ grind (arith, nat_tests) in
    ap escape t ∙ cond-false (e == 10) _ _ h ∙ cond-false (digits_of e == 0) _ _ some ∙ ap (λ n. if_character (number n 0 cs) (suc n)) (sym k) ∙ ap (if_character (number count 0 cs)) (sym (add-one count))

pub escape_simple : (text cs : List ℕ) (e count : ℕ) → text ≡ e ∷ cs → (e == 10) ≡ false → count ≡ digits_of e → count ≤ 0 → escape text ≡ if_simple (simple e)
escape_simple text cs e count t h k lt =
    let none : (digits_of e == 0) ≡ true = ap (λ n. n == 0) (sym k) ∙ grind (arith, nat_tests) in
    ap escape t ∙ cond-false (e == 10) _ _ h ∙ cond-true (digits_of e == 0) _ _ none
