-- What the reader answers, step by step.
use Rattle.std.proofs.Common.{◌≡◌, ℕ, List, Bool, true, false, ◌&&◌, refl, sym, ap, subst, Option, Some, Result, Err}
use Rattle.std.specs.Str.{IsUtf8, is_utf8, chars}
use Rattle.std.proofs.lemmas.Str.{IsUtf8-from_is_utf8, is_utf8-from_IsUtf8}
use Rattle.wv_yaml.specs.declared.tree.Tree.{Tree}
use Rattle.yaml_scalars.specs.declared.fault.YamlFault.{YamlFault}
use Rattle.yaml_scalars.specs.declared.fault.YamlFault.TheVariants.{Bytes, Grammar, Duplicate, OutOfMemory}
use Rattle.yaml_lines.specs.Lines.{allowed, unmarked, lines_in}
use Rattle.wv_yaml.specs.Document.{is_allowed, tree_of, document}
use Rattle.yaml_scalars.specs.Gives.{Fails}
use Rattle.wv_yaml.specs.Reading.{IsReading}

pub reads_on : (fit : Bool) (given : Option Tree) (t : Tree) (r : Result Tree YamlFault) → fit ≡ true → given ≡ Some t → IsReading true (Some t) r → IsReading fit given r
reads_on fit given t r f g h =
    let P : Bool → Type 0 = λ b. IsReading b given r in
    let Q : Option Tree → Type 0 = λ o. IsReading true o r in
    subst P (sym f) (subst Q (sym g) h)

pub reads_not : (fit : Bool) (given : Option Tree) (e : YamlFault) → fit ≡ true → Fails e given → IsReading fit given (Err e)
reads_not fit given Bytes f h = absurd h
reads_not fit given Grammar f h = (f, h)
reads_not fit given Duplicate f h = absurd h
reads_not fit given OutOfMemory f h = tt

-- the tree of a text, by its characters
pub tree_by : (bytes cs : List ℕ) → cs ≡ unmarked (chars bytes) → document (lines_in cs) ≡ tree_of bytes
unfolding tree_of
tree_by bytes cs e = ap (λ xs. document (lines_in xs)) e

-- bytes that are UTF-8
pub reads_text : (bytes text : List ℕ) (r : Result Tree YamlFault) → text ≡ bytes → IsUtf8 bytes →
    IsReading (allowed (unmarked (chars text))) (tree_of text) r → IsReading (is_allowed bytes) (tree_of bytes) r
reads_text bytes text r e u h =
    let P : List ℕ → Type 0 = λ xs. IsReading (allowed (unmarked (chars xs))) (tree_of xs) r in
    let Q : Bool → Type 0 = λ b. IsReading (b && allowed (unmarked (chars bytes))) (tree_of bytes) r in
    subst Q (sym (is_utf8-from_IsUtf8 bytes u)) (subst P e h)

pub no_text : (bytes : List ℕ) → (IsUtf8 bytes → ⊥) → is_allowed bytes ≡ false
no_text bytes h = by (is_utf8 bytes) (λ e. h (IsUtf8-from_is_utf8 bytes e))
  where
    by : (b : Bool) → (b ≡ true → ⊥) → (b && allowed (unmarked (chars bytes))) ≡ false
    by true n = absurd (n refl)
    by false n = refl
