-- The rows of a block scalar, one by one.
use Rattle.std.proofs.Common.{◌≡◌, ℕ, zero, suc, List, [], ◌∷◌, ◌++◌, Bool, false, refl, sym, ap, ◌∙◌, append_assoc, Option, Some, None, if◌then◌else◌}
use Rattle.std.proofs.lemmas.Bool.{cond-false}
use Rattle.std.proofs.lemmas.Str.{encodes-append}
use lib.Utf8.{encodes}
use Rattle.yaml_lines.specs.Line.{Line}
use Rattle.yaml_scalars.specs.declared.header.Chomp.{Chomp}
use Rattle.yaml_lines.specs.Marks.{indented, is_end, begins_blank}
use Rattle.yaml_scalars.specs.BlockScalar.{Row, row_in, extra_in, text_in, between, content}

pub indented_append : (n : ℕ) (text : List ℕ) → indented n text ≡ indented n [] ++ text
indented_append zero text = refl
indented_append (suc n) text = ap (λ xs. 32 ∷ xs) (indented_append n text)

pub row_out : (n : ℕ) (text out o1 o2 : List ℕ) → o1 ≡ out ++ encodes (indented n []) → o2 ≡ o1 ++ encodes text → o2 ≡ out ++ encodes (indented n text)
row_out n text out o1 o2 a b =
    b ∙ ap (λ xs. xs ++ encodes text) a ∙ append_assoc out (encodes (indented n [])) (encodes text)
    ∙ ap (λ xs. out ++ xs) (sym (encodes-append (indented n []) text) ∙ ap encodes (sym (indented_append n text)))

pub row_text : (column : Option ℕ) (l : Line) → (row_in column l).0 ≡ indented (extra_in column l) (text_in column l)
row_text None l = refl
row_text (Some m) l = refl

pub row_break : (column : Option ℕ) (l : Line) → (row_in column l).1 ≡ l.ended
row_break None l = refl
row_break (Some m) l = refl

-- a content line
pub content_on : (folds : Bool) (chomp : Chomp) (before : Option Bool) (p h : ℕ) (blank : Bool) (r : Row) (rs : List Row) (text out o1 o2 : List ℕ) → r.0 ≡ text → is_end text ≡ false →
    blank ≡ begins_blank text → h ≡ (if r.1 then 1 else 0) → o1 ≡ out ++ encodes (between folds before p blank) → o2 ≡ o1 ++ encodes text →
    o2 ++ encodes (content folds chomp (Some blank) h rs) ≡ out ++ encodes (content folds chomp before p (r ∷ rs))
content_on folds chomp before p h blank r rs text out o1 o2 t e b k a c =
    let B : List ℕ = between folds before p blank in
    let C : List ℕ = content folds chomp (Some blank) h rs in
    let same : content folds chomp before p (r ∷ rs) ≡ B ++ (text ++ C) =
    cond-false (is_end r.0) _ _ (ap is_end t ∙ e)
    ∙ ap (λ (xs : List ℕ). between folds before p (begins_blank xs) ++ (xs ++ content folds chomp (Some (begins_blank xs)) (if r.1 then 1 else 0) rs)) t
    ∙ ap (λ (v : Bool). between folds before p v ++ (text ++ content folds chomp (Some v) (if r.1 then 1 else 0) rs)) (sym b)
    ∙ ap (λ (n : ℕ). B ++ (text ++ content folds chomp (Some blank) n rs)) (sym k) in
    ap (λ xs. xs ++ encodes C) (c ∙ ap (λ xs. xs ++ encodes text) a) ∙ append_assoc (out ++ encodes B) (encodes text) (encodes C) ∙ append_assoc out (encodes B) (encodes text ++ encodes C)
    ∙ ap (λ xs. out ++ (encodes B ++ xs)) (sym (encodes-append text C)) ∙ ap (λ xs. out ++ xs) (sym (encodes-append B (text ++ C))) ∙ ap (λ xs. out ++ encodes xs) (sym same)
