-- The places of a loop over characters: `left` is the text from its place on.
use Rattle.std.proofs.Common.{◌≡◌, ℕ, zero, suc, ◌==◌, false, ◌+◌, ◌<◌, ◌≤◌, List, [], ◌∷◌, ◌++◌, length, length-drop, take, drop, true, refl, sym, ap, ◌∙◌, append_assoc, arith, get_or, drop-cons, ◌-◌}
use Rattle.std.proofs.lemmas.List.{drop-drop}
use Rattle.yaml_lines.specs.Marks.{blank, gap, trimmed, begins_blank}
use Rattle.yaml_lines.proofs.Ends.{take_next}

-- a loop that goes on has something left
pub some_left : (n : ℕ) → (n == 0) ≡ false → 0 < n
some_left zero e = absurd (cc)
some_left (suc n) e = omega arith

pub next_place : (text left next : List ℕ) (at : ℕ) → left ≡ drop at text → next ≡ drop 1 left → next ≡ drop (at + 1) text
next_place text left next at f n = n ∙ ap (drop 1) f ∙ drop-drop 1 at text

pub next_within : (text left : List ℕ) (at : ℕ) → left ≡ drop at text → 0 < length left → at + 1 ≤ length text
next_within text left at f h = let size : length left ≡ length (drop at text) = ap length f in omega (arith, size, length-drop at text)

-- a blank is passed
pub record Gapped (text left next : List ℕ) (at : ℕ) : Type 0 where
  pub within : at + 1 ≤ length text
  pub count : length (gap left) ≡ suc (length (gap next))
  pub front : take (at + 1) text ++ gap next ≡ take at text ++ gap left
  pub rest : trimmed next ≡ trimmed left

pub gapped : (text left next : List ℕ) (at : ℕ) → left ≡ drop at text → begins_blank left ≡ true → next ≡ drop 1 left → Gapped text left next at
gapped text [] next at f b n = absurd (cc)
gapped text (c ∷ cs) next at f b n =
    let more : gap (c ∷ cs) ≡ c ∷ gap next = rw (b, n) refl in
    record {
      within = next_within text (c ∷ cs) at f (omega arith);
      count = ap length more;
      front = ap (λ xs. xs ++ gap next) (take_next text (c ∷ cs) cs at c f refl) ∙ append_assoc (take at text) (c ∷ []) (gap next) ∙ ap (λ xs. take at text ++ xs) (sym more);
      rest = rw (b, n) refl;
    }

-- the character at a place
pub char_at : (text left : List ℕ) (at c : ℕ) → left ≡ drop at text → left ≡ c ∷ drop 1 left → at < length text → c ≡ get_or text at c
char_at text left at c f e h = let same : c ∷ drop 1 left ≡ get_or text at c ∷ drop (suc at) text = sym e ∙ f ∙ drop-cons text at c h in cc

pub some_here : (left : List ℕ) (c : ℕ) → left ≡ c ∷ drop 1 left → 0 < length left
some_here [] c e = absurd (cc)
some_here (x ∷ xs) c e = omega arith

-- the first of so many characters is taken
pub take_one : (left next : List ℕ) (more c : ℕ) → left ≡ c ∷ drop 1 left → next ≡ drop 1 left → 0 < more → take more left ≡ c ∷ take (more - 1) next
take_one left next more c e n h =
    let one : more ≡ suc (more - 1) = omega arith in
    ap (λ k. take k left) one ∙ ap (take (suc (more - 1))) (e ∙ ap (λ xs. c ∷ xs) (sym n))

pub more_within : (left next : List ℕ) (more c : ℕ) → left ≡ c ∷ drop 1 left → next ≡ drop 1 left → more ≤ length left → more - 1 ≤ length next
more_within left next more c e n h = let size : length left ≡ suc (length next) = ap length (e ∙ ap (λ xs. c ∷ xs) (sym n)) in omega arith
