-- The loop over the lines behind a plain scalar.
use Rattle.std.proofs.Common.{◌≡◌, ℕ, ◌<◌, List, [], ◌∷◌, ◌++◌, length, true, false, refl, sym, ap, ◌∙◌, cond, append_assoc, Option, Some, None, arith, nat_lt, ◌&&◌}
use Rattle.std.proofs.lemmas.Bool.{cond-true, cond-false, lt-ltb}
use Rattle.std.proofs.lemmas.Str.{encodes-append}
use lib.Utf8.{encodes}
use Rattle.yaml_lines.specs.Line.{Line}
use Rattle.yaml_lines.specs.Chunks.{◌>>=◌, provided}
use Rattle.yaml_lines.specs.Marks.{trimmed, nothing, quiet, is_end, is_empty, without_end, all_quiet, parted, folded}
use Rattle.yaml_scalars.specs.Plain.{cut, stops, goes_on, plain_start, plain_lines}
use Rattle.yaml_scalars.specs.Gives.{behind}

behind_some : (out v : List ℕ) (o : Option (List ℕ)) → behind (out ++ encodes v) o ≡ behind out (o >>= λ more. Some (v ++ more))
behind_some out v None = refl
behind_some out v (Some more) = ap Some (append_assoc out (encodes v) (encodes more) ∙ ap (λ xs. out ++ xs) (sym (encodes-append v more)))

bind_bind : (x v : List ℕ) (o : Option (List ℕ)) → ((o >>= λ more. Some (v ++ more)) >>= λ more. Some (x ++ more)) ≡ (o >>= λ more. Some (x ++ (v ++ more)))
bind_bind x v None = refl
bind_bind x v (Some more) = refl

pub not_end : (xs : List ℕ) → nothing xs ≡ false → is_end xs ≡ false
not_end [] e = absurd (cc)
not_end (x ∷ xs) e = refl

pub end_of : (xs : List ℕ) → length xs ≡ 0 → is_end xs ≡ true
end_of [] e = refl
end_of (x ∷ xs) e = absurd (omega arith)

pub more_of : (xs : List ℕ) → 0 < length xs → is_end xs ≡ false
more_of [] e = absurd (omega arith)
more_of (x ∷ xs) e = refl

-- what the code has of a line on which a plain scalar goes on
pub record GoesOn (n : ℕ) (l : Line) (left rest : List Line) (text tail value : List ℕ) : Type 0 where
  pub whole : left ≡ l ∷ rest
  pub text_is : text ≡ trimmed l.text
  pub loud : nothing text ≡ false
  pub under : n < l.indent
  pub tail_is : tail ≡ (cut stops false text).1
  pub value_is : value ≡ without_end (cut stops false text).0

-- what such a line gives
loud_gives : (k : ℕ) {n : ℕ} {l : Line} {left rest : List Line} {text tail value : List ℕ} → GoesOn n l left rest text tail value →
    goes_on n k left ≡ cond (is_end tail) (goes_on n 0 rest >>= λ more. Some (folded k ++ (value ++ more))) (provided (nothing tail && all_quiet rest) (Some (folded k ++ value)))
loud_gives k {n} {l} {left} {rest} {text} {tail} {value} g =
    let e : is_empty l ≡ false = ap is_end (sym g.text_is) ∙ not_end text g.loud in
    let q : quiet l.text ≡ false = ap nothing (sym g.text_is) ∙ g.loud in
    let t : (cut stops false (trimmed l.text)).1 ≡ tail = ap (λ xs. (cut stops false xs).1) (sym g.text_is) ∙ sym g.tail_is in
    let v : without_end (cut stops false (trimmed l.text)).0 ≡ value = ap (λ xs. without_end (cut stops false xs).0) (sym g.text_is) ∙ sym g.value_is in
    ap (goes_on n k) g.whole ∙ cond-false (is_empty l) _ _ e ∙ cond-false (quiet l.text) _ _ q ∙ cond-true (nat_lt n l.indent) _ _ (lt-ltb _ _ g.under)
    ∙ ap (λ (xs : List ℕ). cond (is_end xs) (goes_on n 0 rest >>= λ more. Some (folded k ++ (without_end (cut stops false (trimmed l.text)).0 ++ more))) (provided (nothing xs && all_quiet rest) (Some (folded k ++ without_end (cut stops false (trimmed l.text)).0)))) t
    ∙ ap (λ (xs : List ℕ). cond (is_end tail) (goes_on n 0 rest >>= λ more. Some (folded k ++ (xs ++ more))) (provided (nothing tail && all_quiet rest) (Some (folded k ++ xs)))) v

pub line_on : (k : ℕ) (out o1 o2 : List ℕ) {n : ℕ} {l : Line} {left rest : List Line} {text tail value : List ℕ} → GoesOn n l left rest text tail value →
    length tail ≡ 0 → o1 ≡ out ++ encodes (folded k) → o2 ≡ o1 ++ encodes value → behind o2 (goes_on n 0 rest) ≡ behind out (goes_on n k left)
line_on k out o1 o2 {n} {l} {left} {rest} {text} {tail} {value} g z a b =
    ap (λ xs. behind xs (goes_on n 0 rest)) (b ∙ ap (λ xs. xs ++ encodes value) a) ∙ behind_some (out ++ encodes (folded k)) value (goes_on n 0 rest)
    ∙ behind_some out (folded k) (goes_on n 0 rest >>= λ more. Some (value ++ more)) ∙ ap (behind out) (bind_bind (folded k) value (goes_on n 0 rest)
    ∙ sym (loud_gives k g ∙ cond-true (is_end tail) _ _ (end_of tail z)))

pub line_last : (k : ℕ) (out o1 o2 : List ℕ) {n : ℕ} {l : Line} {left rest : List Line} {text tail value : List ℕ} → GoesOn n l left rest text tail value →
    0 < length tail → nothing tail ≡ true → all_quiet rest ≡ true → o1 ≡ out ++ encodes (folded k) → o2 ≡ o1 ++ encodes value → behind out (goes_on n k left) ≡ Some o2
line_last k out o1 o2 {n} {l} {left} {rest} {text} {tail} {value} g z c q a b =
    let V : List ℕ = folded k ++ value in
    let passes : provided (nothing tail && all_quiet rest) (Some V) ≡ Some V = rw (c, q) refl in
    ap (behind out) (loud_gives k g ∙ cond-false (is_end tail) _ _ (more_of tail z) ∙ passes)
    ∙ ap Some (ap (λ xs. out ++ xs) (encodes-append (folded k) value) ∙ sym (append_assoc out (encodes (folded k)) (encodes value)) ∙ sym (b ∙ ap (λ xs. xs ++ encodes value) a))

-- a whole plain scalar
pub plain_first : (n : ℕ) (text : List ℕ) (body : List Line) → plain_start parted text ≡ true →
    plain_lines n text body ≡ cond (is_end (cut stops false text).1) (goes_on n 0 body >>= λ more. Some (without_end (cut stops false text).0 ++ more))
    (provided (nothing (cut stops false text).1 && all_quiet body) (Some (without_end (cut stops false text).0)))
plain_first n text body s = rw s refl

pub plain_on : (n : ℕ) (text value tail out o1 : List ℕ) (body : List Line) → plain_start parted text ≡ true → tail ≡ (cut stops false text).1 → value ≡ without_end (cut stops false text).0 →
    length tail ≡ 0 → o1 ≡ out ++ encodes value → behind o1 (goes_on n 0 body) ≡ behind out (plain_lines n text body)
plain_on n text value tail out o1 body s t v z a =
    ap (λ xs. behind xs (goes_on n 0 body)) a ∙ behind_some out value (goes_on n 0 body)
    ∙ ap (behind out) (ap (λ (xs : List ℕ). goes_on n 0 body >>= λ more. Some (xs ++ more)) v ∙ sym (plain_first n text body s ∙ cond-true _ _ _ (ap is_end (sym t) ∙ end_of tail z)))

pub plain_last : (n : ℕ) (text value tail out o1 : List ℕ) (body : List Line) → plain_start parted text ≡ true → tail ≡ (cut stops false text).1 → value ≡ without_end (cut stops false text).0 →
    0 < length tail → nothing tail ≡ true → all_quiet body ≡ true → o1 ≡ out ++ encodes value → behind out (plain_lines n text body) ≡ Some o1
plain_last n text value tail out o1 body s t v z c q a =
    let here : nothing (cut stops false text).1 ≡ true = ap nothing (sym t) ∙ c in
    let V : List ℕ = without_end (cut stops false text).0 in
    let passes : provided (nothing (cut stops false text).1 && all_quiet body) (Some V) ≡ Some V = rw (here, q) refl in
    ap (behind out) (plain_first n text body s ∙ cond-false _ _ _ (ap is_end (sym t) ∙ more_of tail z) ∙ passes)
    ∙ ap Some (ap (λ xs. out ++ encodes xs) (sym v) ∙ sym a)
