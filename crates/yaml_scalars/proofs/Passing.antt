-- What a loop over characters passes: white space, the text of a plain scalar, a comment. `left` is the text from its place on.
use Rattle.std.proofs.Common.{◌≡◌, ℕ, suc, ◌+◌, ◌<◌, ◌≤◌, List, [], ◌∷◌, ◌++◌, length, take, drop, true, refl, sym, ap, ◌∙◌, append_assoc, arith, Bool, false, ◌-◌}
use Rattle.yaml_lines.specs.Marks.{blank, count_of}
use lib.Utf8.{encodes, encode}
use Rattle.yaml_scalars.specs.Plain.{cut, first_to}
use Rattle.yaml_scalars.specs.Quoted.{white_front, begins_white, is_feed}
use Rattle.yaml_lines.specs.Lines.{is_break}
use Rattle.yaml_scalars.specs.Tokens.{comment_front, on_one_line}
use Rattle.yaml_lines.proofs.Ends.{take_next}
use Rattle.yaml_lines.proofs.Places.{next_within, some_here, take_one}

-- white space is passed
pub record Whitened (text left next : List ℕ) (at : ℕ) : Type 0 where
  pub within : at + 1 ≤ length text
  pub count : length (white_front left) ≡ suc (length (white_front next))
  pub front : take (at + 1) text ++ white_front next ≡ take at text ++ white_front left

pub whitened : (text left next : List ℕ) (at : ℕ) → left ≡ drop at text → begins_white left ≡ true → next ≡ drop 1 left → Whitened text left next at
whitened text [] next at f b n = absurd (cc)
whitened text (c ∷ cs) next at f b n =
    let more : white_front (c ∷ cs) ≡ c ∷ white_front next = rw (b, n) refl in
    record {
      within = next_within text (c ∷ cs) at f (omega arith);
      count = ap length more;
      front = ap (λ xs. xs ++ white_front next) (take_next text (c ∷ cs) cs at c f refl) ∙ append_assoc (take at text) (c ∷ []) (white_front next) ∙ ap (λ xs. take at text ++ xs) (sym more);
    }

-- a plain scalar goes on
pub record CutOn (stop : Bool → ℕ → List ℕ → Bool) (behind later : Bool) (text left next : List ℕ) (at : ℕ) : Type 0 where
  pub within : at + 1 ≤ length text
  pub front : take (at + 1) text ++ (cut stop later next).0 ≡ take at text ++ (cut stop behind left).0
  pub rest : (cut stop later next).1 ≡ (cut stop behind left).1

pub cut_on : (stop : Bool → ℕ → List ℕ → Bool) (behind later : Bool) (text left next : List ℕ) (at c : ℕ) → left ≡ drop at text → left ≡ c ∷ drop 1 left → next ≡ drop 1 left →
    stop behind c next ≡ false → later ≡ blank c → CutOn stop behind later text left next at
cut_on stop behind later text left next at c f e n s b =
    let here : left ≡ c ∷ next = e ∙ ap (λ xs. c ∷ xs) (sym n) in
    let is : cut stop behind left ≡ first_to c (cut stop later next) = ap (cut stop behind) here ∙ rw (s, b) refl in
    record {
      within = next_within text left at f (some_here left c e);
      front = ap (λ xs. xs ++ (cut stop later next).0) (take_next text left next at c f here) ∙ append_assoc (take at text) (c ∷ []) (cut stop later next).0 ∙ ap (λ p. take at text ++ p.0) (sym is);
      rest = ap (λ p. p.1) (sym is);
    }

pub pushed_on : (left next out new : List ℕ) (more c : ℕ) → left ≡ c ∷ drop 1 left → next ≡ drop 1 left → 0 < more → new ≡ out ++ encode c →
    new ++ encodes (take (more - 1) next) ≡ out ++ encodes (take more left)
pushed_on left next out new more c e n h is =
    ap (λ xs. xs ++ encodes (take (more - 1) next)) is ∙ append_assoc out (encode c) (encodes (take (more - 1) next))
    ∙ ap (λ xs. out ++ encodes xs) (sym (take_one left next more c e n h))

pub counted_feed : (left next : List ℕ) (more c : ℕ) → left ≡ c ∷ drop 1 left → next ≡ drop 1 left → 0 < more → is_feed c ≡ true →
    count_of is_feed (take more left) ≡ suc (count_of is_feed (take (more - 1) next))
counted_feed left next more c e n h f = ap (count_of is_feed) (take_one left next more c e n h) ∙ rw f refl

pub counted_other : (left next : List ℕ) (more c : ℕ) → left ≡ c ∷ drop 1 left → next ≡ drop 1 left → 0 < more → is_feed c ≡ false →
    count_of is_feed (take more left) ≡ count_of is_feed (take (more - 1) next)
counted_other left next more c e n h f = ap (count_of is_feed) (take_one left next more c e n h) ∙ rw f refl

-- a comment goes on
pub comment_on : (left next : List ℕ) (c : ℕ) → left ≡ c ∷ drop 1 left → next ≡ drop 1 left → is_break c ≡ false → length (comment_front left) ≡ suc (length (comment_front next))
comment_on left next c e n b = ap (λ xs. length (comment_front xs)) (e ∙ ap (λ xs. c ∷ xs) (sym n)) ∙ rw b refl

pub one_line_on : (left next : List ℕ) (more c : ℕ) → left ≡ c ∷ drop 1 left → next ≡ drop 1 left → 0 < more → is_break c ≡ false →
    on_one_line (take more left) ≡ on_one_line (take (more - 1) next)
one_line_on left next more c e n h b = ap on_one_line (take_one left next more c e n h) ∙ rw b refl

pub one_line_off : (left : List ℕ) (more c : ℕ) → left ≡ c ∷ drop 1 left → 0 < more → is_break c ≡ true → on_one_line (take more left) ≡ false
one_line_off left more c e h b = ap on_one_line (take_one left (drop 1 left) more c e refl h) ∙ rw b refl
