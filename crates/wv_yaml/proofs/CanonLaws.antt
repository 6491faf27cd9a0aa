-- The canonical text of a tree spells that tree, and is read as it.
use Rattle.std.proofs.Common.{◌≡◌, ℕ, zero, suc, List, [], ◌∷◌, ◌++◌, Bool, true, false, ◌==◌, ◌&&◌, refl, sym, ap, ◌∙◌, subst, append-nil, Some, Result, Ok, Err}
use Rattle.std.proofs.lemmas.Bool.{cond-false}
use Rattle.std.specs.Str.{chars, all_scalars, is_utf8}
use lib.Utf8.{encode, encodes}
use Rattle.yaml_lines.specs.Line.{Line, line_at}
use Rattle.wv_yaml.specs.declared.tree.Tree.{Tree, Text, List', Map'}
use Rattle.wv_yaml.specs.declared.tree.Tree.TheVariants as tree
use Rattle.yaml_scalars.specs.declared.fault.YamlFault.{YamlFault}
use Rattle.yaml_scalars.specs.declared.fault.YamlFault.TheVariants.{Bytes, Grammar, Duplicate, OutOfMemory}
use Rattle.yaml_lines.specs.Chunks.{Each}
use Rattle.yaml_lines.specs.Marks.{trimmed, quiet, indented}
use Rattle.yaml_lines.specs.Lines.{allowed, unmarked, NoSpace, IsBreak, LineFeed, LineAt, AreLines}
use Rattle.wv_yaml.specs.Flow.{flow}
use Rattle.wv_yaml.specs.Inline.{key_bytes, inline, begins_flow, KeyText, Inline}
use Rattle.wv_yaml.specs.Document.{max_depth, is_triple, is_start, is_alone, is_plain_line, document, tree_of, Characters, Unmarked, Open, TopBlock, Document, Spelled}
use Rattle.wv_yaml.specs.Canon.{is_inline, form, canon, Fits, IsCollection, InUtf8}
use Rattle.wv_yaml.specs.Repeats.{Repeats}
use Rattle.wv_yaml.specs.Reading.{IsAnswer}
use Rattle.yaml_scalars.specs.Gives.{Gives}
use Rattle.wv_yaml.proofs.TreeRows.{relisted_is}
use Rattle.wv_yaml.proofs.BlockLaws.{block_sound}
use Rattle.wv_yaml.proofs.InlineLaws.{key_text_sound, key_text_complete, inline_sound}
use Rattle.wv_yaml.proofs.SpelledLaws.{not_nil, spelled_sound, one_spelled}
use Rattle.yaml_lines.proofs.Ranges.{differs}
use Rattle.wv_yaml.proofs.CanonLines.{first_text, later_lines, text_of}
use Rattle.wv_yaml.proofs.CanonBytes.{value_bytes}
use Rattle.wv_yaml.proofs.CanonChars.{shown, all_stand, are_scalars, unbroken}
use Rattle.wv_yaml.proofs.CanonLineFacts.{key_sign, Opening, Dashed, Keyed, CanonicalLines, line_of, first_shown, block_opening, later_are_lines}
use Rattle.wv_yaml.proofs.CanonValues.{leads_trimmed, leads_quiet, opening_leads, no_items, no_pairs, inline_alone}
use Rattle.wv_yaml.proofs.CanonBlocks.{block_back}

-- the characters of the lines
indented_shown : (n : ℕ) (text : List ℕ) → Each shown text → Each shown (indented n text)
indented_shown zero text h = h
indented_shown (suc n) text h = (refl, indented_shown n text h)

text_scalars : (n : ℕ) (ls : List Line) → CanonicalLines n ls → all_scalars (text_of ls) ≡ true
text_scalars n [] h = refl
text_scalars n (l ∷ ls) h = are_scalars (indented l.indent l.text) (indented_shown l.indent l.text h.0.stands) (10 ∷ text_of ls) (text_scalars n ls h.1)

text_stands : (n : ℕ) (ls : List Line) → CanonicalLines n ls → allowed (text_of ls) ≡ true
text_stands n [] h = refl
text_stands n (l ∷ ls) h = all_stand (indented l.indent l.text) (indented_shown l.indent l.text h.0.stands) (10 ∷ text_of ls) (text_stands n ls h.1)

-- what a line that begins with an entry or a pair is not
no_space : (text : List ℕ) → Opening text → NoSpace text
no_space _ (Dashed rest) = refl
no_space _ (Keyed c rest e) = differs key_sign c 32 e refl

no_mark : (text rest : List ℕ) → Opening text → text ++ rest ≡ unmarked (text ++ rest)
no_mark _ rest (Dashed more) = refl
no_mark _ rest (Keyed c more e) = sym (cond-false (c == 0xFEFF) _ _ (differs key_sign c 0xFEFF e refl))

no_flow : (text : List ℕ) → Opening text → begins_flow text ≡ false
no_flow _ (Dashed rest) = refl
no_flow _ (Keyed c rest e) = rw (differs key_sign c 91 e refl, differs key_sign c 123 e refl) refl

no_triple : (text : List ℕ) → Opening text → (is_triple 45 text ≡ false) × (is_triple 46 text ≡ false)
no_triple _ (Dashed []) = (refl, refl)
no_triple _ (Dashed (x ∷ rest)) = (refl, refl)
no_triple _ (Keyed c [] e) = (refl, refl)
no_triple _ (Keyed c (x ∷ []) e) = (refl, refl)
no_triple _ (Keyed c (x ∷ y ∷ rest) e) = (rw (differs key_sign c 45 e refl) refl, rw (differs key_sign c 46 e refl) refl)

and_false : (a b : Bool) → b ≡ false → (a && b) ≡ false
and_false true b e = e
and_false false b e = refl

no_start : (l : Line) → Opening l.text → is_start l ≡ false
no_start l o = and_false (l.indent == 0) (is_triple 45 l.text) (no_triple l.text o).0

plain_lines : (n : ℕ) (ls : List Line) → CanonicalLines n ls → Each is_plain_line ls
plain_lines n [] h = tt
plain_lines n (l ∷ ls) h =
    let stop = and_false (l.indent == 0) (is_triple 46 l.text) (no_triple l.text h.0.begins).1 in
    (rw (no_start l h.0.begins, stop) refl, plain_lines n ls h.1)

-- the lines of the text
are_lines_of : (n : ℕ) (ls : List Line) → CanonicalLines n ls → AreLines (text_of ls) ls
are_lines_of n [] h = refl
are_lines_of n (l ∷ ls) h =
    let at : LineAt (indented l.indent l.text ++ (10 ∷ text_of ls)) l (text_of ls) =
    record {
      after = 10 ∷ text_of ls;
      whole = refl;
      one_line = unbroken l.text h.0.stands;
      no_more = no_space l.text h.0.begins;
      ends = subst (λ b. IsBreak b (10 ∷ text_of ls) (text_of ls)) (sym h.0.ended) (LineFeed (text_of ls));
      some = not_nil (indented l.indent l.text) 10 (text_of ls);
    } in
    (text_of ls, at, are_lines_of n ls h.1)

-- the document of a list or a map that is no inline form
canonical_document : (t : Tree) → Fits max_depth t → InUtf8 t → is_inline t ≡ false → Document (line_at 0 (first_text false t) true ∷ later_lines 0 t) t
canonical_document t f u e =
    let text : List ℕ = first_text false t in
    let l : Line = line_at 0 text true in
    let ls : List Line = later_lines 0 t in
    let o : Opening text = block_opening false t e in
    let loud : quiet text ≡ false = leads_quiet text (opening_leads text o) in
    let flowless : begins_flow (trimmed text) ≡ false = ap begins_flow (leads_trimmed text (opening_leads text o)) ∙ no_flow text o in
    let are : CanonicalLines 0 (l ∷ ls) = (line_of 0 text o (first_shown false t u), later_are_lines 0 t u) in
    record {
      before = [];
      first = l;
      others = ls;
      whole = refl;
      skipped = tt;
      loud = loud;
      inside = l ∷ ls;
      opened = Unmarked l ls (ap (λ b. b && is_alone l) (no_start l o));
      more_before = [];
      node = l ∷ ls;
      tail = [];
      parts = sym (append-nil (l ∷ ls));
      quiet_before = tt;
      no_marks = plain_lines 0 (l ∷ ls) are;
      closed = Open;
      top = TopBlock l ls t flowless (block_sound inline key_bytes KeyText Inline key_text_sound key_text_complete inline_sound max_depth (l ∷ ls) t (block_back max_depth 0 false t f u e));
      begins = cond-false (quiet text) _ _ loud;
    }

block_spelled : (t : Tree) → Fits max_depth t → InUtf8 t → is_inline t ≡ false → Spelled t (canon t)
unfolding canon
block_spelled t f u e =
    let text : List ℕ = first_text false t in
    let ls : List Line = line_at 0 text true ∷ later_lines 0 t in
    let o : Opening text = block_opening false t e in
    let are : CanonicalLines 0 ls = (line_of 0 text o (first_shown false t u), later_are_lines 0 t u) in
    let characters : Characters (canon t) (text_of ls) =
    record {
      all = text_of ls;
      scalars = text_scalars 0 ls are;
      encoded = sym (value_bytes 0 false t);
      behind_mark = no_mark text (10 ∷ text_of (later_lines 0 t)) o;
      may_stand = text_stands 0 ls are;
    } in
    record { cs = text_of ls; lines = ls; characters = characters; are_lines = are_lines_of 0 ls are; document = canonical_document t f u e }

-- empty collections
empty_list : Spelled (tree.List []) (encodes (91 ∷ 93 ∷ 10 ∷ []))
unfolding tree_of document flow chars is_utf8 encode
empty_list = spelled_sound (91 ∷ 93 ∷ 10 ∷ []) (tree.List []) refl refl

empty_map : Spelled (tree.Map []) (encodes (123 ∷ 125 ∷ 10 ∷ []))
unfolding tree_of document flow chars is_utf8 encode
empty_map = spelled_sound (123 ∷ 125 ∷ 10 ∷ []) (tree.Map []) refl refl

line_spelled : (t u : Tree) (line : List ℕ) → Spelled u (encodes (line ++ (10 ∷ []))) → u ≡ t → first_text false t ≡ line → later_lines 0 t ≡ [] → Spelled t (canon t)
unfolding canon
line_spelled t u line s e f l =
    let bytes : form 0 false t ≡ encodes (line ++ (10 ∷ [])) =
    value_bytes 0 false t ∙ ap (λ xs. encodes (xs ++ (10 ∷ text_of (later_lines 0 t)))) f ∙ ap (λ ls. encodes (line ++ (10 ∷ text_of ls))) l in
    subst (λ x. Spelled x (form 0 false t)) e (subst (Spelled u) (sym bytes) s)

inline_spelled : (t : Tree) → IsCollection t → is_inline t ≡ true → Spelled t (canon t)
inline_spelled (Text v) c e = absurd c
inline_spelled (List' s row) c e =
    let r = no_items row e in
    line_spelled (List' s row) (tree.List []) (91 ∷ 93 ∷ []) empty_list (ap tree.List (sym r.1) ∙ relisted_is (List' s row)) r.0 (inline_alone 0 (List' s row) e)
inline_spelled (Map' s row) c e =
    let r = no_pairs row e in
    line_spelled (Map' s row) (tree.Map []) (123 ∷ 125 ∷ []) empty_map (ap tree.Map (sym r.1) ∙ relisted_is (Map' s row)) r.0 (inline_alone 0 (Map' s row) e)

pub canonical_spelled : (t : Tree) → IsCollection t → Fits max_depth t → InUtf8 t → Spelled t (canon t)
canonical_spelled t c f u = at (is_inline t) refl
  where
    at : (b : Bool) → is_inline t ≡ b → Spelled t (canon t)
    at true e = inline_spelled t c e
    at false e = block_spelled t f u e

-- what is read of a tree's spelling
pub spelled_back : (t : Tree) (bytes : List ℕ) (r : Result Tree YamlFault) → Spelled t bytes → (Repeats t → ⊥) → IsAnswer bytes r → Gives (λ (u : Tree). u) r (Some t)
spelled_back t bytes (Ok u) s n h = ap Some (one_spelled bytes t u s h.0)
spelled_back t bytes (Err Bytes) s n h = h s.cs s.characters
spelled_back t bytes (Err Grammar) s n h = absurd (h.1 t s)
spelled_back t bytes (Err Duplicate) s n h = n (subst Repeats (one_spelled bytes h.0 t h.1 s) h.2)
spelled_back t bytes (Err OutOfMemory) s n h = tt
