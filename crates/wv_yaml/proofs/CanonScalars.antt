-- Keys, texts and empty collections of the canonical text are read as what was written.
use Rattle.std.proofs.Common.{◌≡◌, ℕ, suc, ◌≤◌, List, [], ◌∷◌, ◌++◌, length, drop, Bool, true, false, ◌==◌, ◌&&◌, ◌||◌, refl, sym, ap, ◌∙◌, subst, append_assoc, append-nil, Option, Some, None, true≢false}
use Rattle.std.specs.List.{flat_map}
use Rattle.std.specs.Str.{chars, IsUtf8}
use Rattle.std.proofs.lemmas.Str.{encodes-chars, chars_from_encodes}
use lib.Utf8.{encodes}
use Rattle.wv_yaml.specs.declared.tree.Tree.TheVariants as tree
use Rattle.yaml_lines.specs.Chunks.{◌>>=◌}
use Rattle.yaml_lines.specs.Marks.{blank, is_end, trimmed, parted, EndsWell}
use Rattle.yaml_scalars.specs.Plain.{is_sign, plain_start, stops, RunsTo, Part, Done}
use Rattle.yaml_lines.specs.Lines.{joined}
use Rattle.yaml_scalars.specs.Quoted.{Double}
use Rattle.yaml_scalars.specs.Tokens.{max_key, NoMore}
use Rattle.wv_yaml.specs.Flow.{flow}
use Rattle.wv_yaml.specs.Inline.{named, key_bytes, colon, inline, KeyText, PlainKey, DoubleKey, Inline, PlainOver, InDouble}
use Rattle.wv_yaml.specs.Block.{has_key, opens}
use Rattle.wv_yaml.specs.Canon.{escaped, is_word_char, all_of, is_name, is_count}
use Rattle.std.proofs.lemmas.Bool.{and_parts}
use Rattle.wv_yaml.proofs.QuoteLaws.{reads_back}
use Rattle.yaml_scalars.proofs.QuotedLaws.{double_complete}
use Rattle.wv_yaml.proofs.InlineLaws.{key_text_complete, inline_complete}
use Rattle.yaml_lines.proofs.Ranges.{either, differs}
use Rattle.wv_yaml.proofs.CanonAscii.{name_words, count_words, name_same, count_same}
use Rattle.wv_yaml.proofs.CanonLines.{quoted_chars, key_chars, text_chars}

-- letters, digits and `_` stop no plain scalar, and none is a blank or a sign
other : (c k : ℕ) → is_word_char c ≡ true → is_word_char k ≡ false → (c == k) ≡ false
other c k e f = differs is_word_char c k e f

pub unblank : (c : ℕ) → is_word_char c ≡ true → blank c ≡ false
unblank c e = rw (other c 32 e refl, other c 9 e refl) refl

unsigned : (c : ℕ) → is_word_char c ≡ true → is_sign c ≡ false
unsigned c e =
    rw (
      other c 44 e refl,
      other c 91 e refl,
      other c 93 e refl,
      other c 123 e refl,
      other c 125 e refl,
      other c 35 e refl,
      other c 38 e refl,
      other c 42 e refl,
      other c 33 e refl,
      other c 124 e refl,
      other c 62 e refl,
      other c 39 e refl,
      other c 34 e refl,
      other c 37 e refl,
      other c 64 e refl,
      other c 96 e refl,
    ) refl

begins : (cs rest : List ℕ) → is_end cs ≡ false → all_of is_word_char cs ≡ true → plain_start parted (cs ++ rest) ≡ true
begins [] rest n e = absurd (true≢false n)
begins (c ∷ cs) rest n e =
    let w : is_word_char c ≡ true = (and_parts _ _ e).0 in
    rw (unsigned c w, unblank c w, other c 45 w refl, other c 63 w refl, other c 58 w refl) refl

runs : (behind : Bool) (cs rest : List ℕ) → all_of is_word_char cs ≡ true → ((b : Bool) → RunsTo stops b [] rest) → RunsTo stops behind cs rest
runs behind [] rest e f = f behind
runs behind (c ∷ cs) rest e f =
    let both : (is_word_char c ≡ true) × (all_of is_word_char cs ≡ true) = and_parts _ _ e in
    (rw (other c 58 both.0 refl, other c 35 both.0 refl) refl, runs (blank c) cs rest both.1 f)

ends : (cs : List ℕ) → all_of is_word_char cs ≡ true → EndsWell cs
ends [] e = tt
ends (c ∷ []) e = unblank c (and_parts _ _ e).0
ends (c ∷ d ∷ ds) e = ends (d ∷ ds) (and_parts _ _ e).1

part_of : (cs rest : List ℕ) → all_of is_word_char cs ≡ true → ((b : Bool) → RunsTo stops b [] rest) → Part stops (cs ++ rest) cs rest
part_of cs rest e f =
    record {
      gap = [];
      whole = ap (λ xs. xs ++ rest) (sym (append-nil cs));
      runs = subst (λ xs. RunsTo stops false xs rest) (sym (append-nil cs)) (runs false cs rest e f);
      blanks = tt;
      ends = ends cs e;
    }

some_name : (k : List ℕ) → is_name k ≡ true → is_end k ≡ false
some_name [] e = absurd (true≢false (sym e))
some_name (c ∷ cs) e = refl

some_count : (v : List ℕ) → is_count v ≡ true → is_end v ≡ false
some_count [] e = absurd (true≢false (sym e))
some_count (c ∷ cs) e = refl

-- keys
bare_key : (k rest : List ℕ) → IsUtf8 k → length (chars k) ≤ max_key → parted rest ≡ true → is_name k ≡ true → KeyText (k ++ (58 ∷ rest)) k rest
bare_key k rest u s p e =
    let few : length k ≤ max_key = subst (λ xs. length xs ≤ max_key) (sym (chars_from_encodes k k u (name_same k e))) s in
    let words = name_words k e in
    let part = part_of k (58 ∷ rest) words (λ b. ap (λ a. a || ((58 == 35) && b)) p) in
    (k, PlainKey (k ++ (58 ∷ rest)) k rest (begins k (58 ∷ rest) (some_name k e) words) part (record { blanks = tt; apart = p; short = few }), sym (name_same k e))

quoted_key_text : (k rest : List ℕ) → IsUtf8 k → length (chars k) ≤ max_key → parted rest ≡ true → KeyText (quoted_chars k ++ (58 ∷ rest)) k rest
quoted_key_text k rest u s p =
    let inner : List ℕ = (flat_map escaped (chars k) ++ (34 ∷ [])) ++ (58 ∷ rest) in
    let d : Double inner (chars k) (58 ∷ rest) = subst (λ xs. Double xs (chars k) (58 ∷ rest)) (sym (append_assoc (flat_map escaped (chars k)) (34 ∷ []) (58 ∷ rest))) (reads_back (chars k) (58 ∷ rest)) in
    (chars k, DoubleKey inner (chars k) [] rest d (record { blanks = tt; apart = p; short = s }), sym (encodes-chars k u))

pub key_back : (k rest : List ℕ) → IsUtf8 k → length (chars k) ≤ max_key → parted rest ≡ true → key_bytes (key_chars k ++ (58 ∷ rest)) ≡ Some (k, rest)
key_back k rest u s p =
    key_text_complete (key_chars k ++ (58 ∷ rest)) k rest
    (either (λ xs. KeyText (xs ++ (58 ∷ rest)) k rest) (is_name k) k (quoted_chars k) (bare_key k rest u s p) (λ _. quoted_key_text k rest u s p))

-- texts
quoted_back : (d n : ℕ) (v : List ℕ) → IsUtf8 v → inline d true n (quoted_chars v) [] ≡ Some (tree.Text v)
quoted_back d n v u =
    let inner : List ℕ = flat_map escaped (chars v) ++ (34 ∷ []) in
    let whole : Double (joined (suc n) inner []) (chars v) [] = subst (λ xs. Double xs (chars v) []) (sym (append-nil inner)) (reads_back (chars v) []) in
    inline_complete d true n (quoted_chars v) [] (tree.Text v)
    (subst (λ xs. Inline d true n [] (quoted_chars v) (tree.Text xs)) (encodes-chars v u) (InDouble inner (chars v) [] whole (NoMore false)))

bare_back : (d n : ℕ) (v : List ℕ) → is_count v ≡ true → inline d true n v [] ≡ Some (tree.Text v)
bare_back d n v e =
    let words = count_words v e in
    let nil = append-nil v in
    let start : plain_start parted v ≡ true = ap (plain_start parted) (sym nil) ∙ begins v [] (some_count v e) words in
    let part : Part stops v v [] = subst (λ xs. Part stops xs v []) nil (part_of v [] words (λ _. tt)) in
    inline_complete d true n v [] (tree.Text v)
    (subst (λ xs. Inline d true n [] v (tree.Text xs)) (ap encodes nil ∙ count_same v e) (PlainOver v v [] start part (Done [] tt)))

pub text_back : (d n : ℕ) (bare : Bool) (v : List ℕ) → IsUtf8 v → inline d true n (text_chars bare v) [] ≡ Some (tree.Text v)
text_back d n bare v u =
    either (λ xs. inline d true n xs [] ≡ Some (tree.Text v)) (bare && is_count v) v (quoted_chars v) (λ e. bare_back d n v (and_parts _ _ e).1) (λ _. quoted_back d n v u)

-- a quoted text is no key
pub quoted_no_key : (v : List ℕ) → opens key_bytes (quoted_chars v) ≡ false
quoted_no_key v =
    let inner : List ℕ = flat_map escaped (chars v) ++ (34 ∷ []) in
    let f = double_complete inner (chars v) [] (reads_back (chars v) []) in
    let none : colon (chars v) (trimmed (drop f.count inner)) ≡ None = ap (λ xs. colon (chars v) (trimmed xs)) f.left in
    ap (λ (o : Option (List ℕ × ℕ)). has_key (named (o >>= λ r. colon r.0 (trimmed (drop r.1 inner))))) f.is ∙ ap (λ o. has_key (named o)) none

-- empty collections
pub list_back : (d n : ℕ) → inline (suc d) true n (91 ∷ 93 ∷ []) [] ≡ Some (tree.List [])
unfolding flow
list_back d n = refl

pub map_back : (d n : ℕ) → inline (suc d) true n (123 ∷ 125 ∷ []) [] ≡ Some (tree.Map [])
unfolding flow
map_back d n = refl
