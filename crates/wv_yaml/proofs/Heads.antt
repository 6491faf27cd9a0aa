-- What is known of the first line of an entry.
use Rattle.std.proofs.Common.{◌≡◌, ℕ, zero, suc, ◌-◌, ◌<◌, List, ◌∷◌, length, drop, get_or, true, false, All, sym, ap, ◌∙◌, subst, not, eq-eqb, arith}
use Rattle.std.proofs.lemmas.Bool.{and_from, cond-true, cond-false}
use Rattle.std.proofs.lemmas.List.Elements.{All-drop}
use Rattle.yaml_lines.specs.Line.{Line, IsSmall}
use Rattle.yaml_lines.specs.Marks.{quiet, dash}
use Rattle.wv_yaml.specs.Inline.{key_bytes, inline}
use Rattle.wv_yaml.specs.Block.{is_item, is_pair, sequence, mapping, block}

pub small_from : (k : ℕ) (xs ys : List Line) → All IsSmall xs → ys ≡ drop k xs → All IsSmall ys
small_from k xs ys h e = subst (All IsSmall) (sym e) (All-drop IsSmall k xs h)

pub small_at : (ys : List Line) (i : ℕ) (l : Line) → All IsSmall ys → i < length ys → l ≡ get_or ys i l → IsSmall l
small_at ys i l h lt e = subst IsSmall (sym e) (h i l lt)

pub is_item_at : (n : ℕ) (l : Line) → l.indent ≡ n → dash l.text ≡ true → is_item n l ≡ true
is_item_at n l e d = and_from _ _ (eq-eqb l.indent n e) d

pub is_pair_at : (n : ℕ) (l : Line) → l.indent ≡ n → dash l.text ≡ false → quiet l.text ≡ false → is_pair n l ≡ true
is_pair_at n l e d q = and_from _ _ (eq-eqb l.indent n e) (and_from _ _ (ap not d) (ap not q))

-- a collection that begins with a dash, and another
pub block_dash : (d : ℕ) (l : Line) (ls : List Line) → 0 < d → dash l.text ≡ true →
    block inline key_bytes d (l ∷ ls) ≡ sequence (inline (d - 1)) key_bytes (block inline key_bytes (d - 1)) l ls
unfolding block
block_dash zero l ls h e = absurd (omega arith)
block_dash (suc d) l ls h e =
    let same : d ≡ suc d - 1 = omega arith in
    cond-true (dash l.text) _ _ e ∙ ap (λ k. sequence (inline k) key_bytes (block inline key_bytes k) l ls) same

pub block_loud : (d : ℕ) (l : Line) (ls : List Line) → 0 < d → dash l.text ≡ false → quiet l.text ≡ false →
    block inline key_bytes d (l ∷ ls) ≡ mapping (inline (d - 1)) key_bytes (block inline key_bytes (d - 1)) l ls
unfolding block
block_loud zero l ls h e q = absurd (omega arith)
block_loud (suc d) l ls h e q =
    let same : d ≡ suc d - 1 = omega arith in
    cond-false (dash l.text) _ _ e ∙ cond-false (quiet l.text) _ _ q ∙ ap (λ k. mapping (inline k) key_bytes (block inline key_bytes k) l ls) same
