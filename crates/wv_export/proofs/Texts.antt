-- Texts of things in a row, written one after the other.
use Rattle.std.proofs.Common.{◌≡◌, ℕ, ◌+◌, ◌-◌, ◌<◌, ◌≤◌, List, ◌∷◌, ◌++◌, length, drop, get_or, append_assoc, arith, sym, ap, ◌∙◌}
use Rattle.std.proofs.lemmas.List.{append-nil, drop_all, drop_more}
use Rattle.clauses.specs.declared.log.Chain.{Chain}
use Rattle.clauses.specs.declared.log.Resolve.{Resolve}
use Rattle.wv_export.specs.Lrat.{hint_text, hints_text, lrat_line, lrat_lines}

-- no resolution yet
pub hints_none : (out : List ℕ) (steps : List Resolve) → out ≡ out ++ hints_text (drop (length steps - 0) steps)
unfolding hints_text
hints_none out steps = sym (ap (λ l. out ++ hints_text l) (drop_all (length steps - 0) steps (omega arith)) ∙ append-nil out)

-- one more, before those that were written
pub hints_more : (before out after : List ℕ) (steps : List Resolve) (at j : ℕ) (d : Resolve) → at < length steps → j ≡ length steps - 1 - at
    → out ≡ before ++ hints_text (drop (length steps - at) steps) → after ≡ out ++ hint_text (get_or steps j d).with → after ≡ before ++ hints_text (drop (length steps - (at + 1)) steps)
unfolding hints_text
hints_more before out after steps at j d lt e so_far written =
    let here : length steps - (at + 1) ≡ j = omega (arith, e) in
    let there : j + 1 ≡ length steps - at = omega (arith, e, lt) in
    let next : drop (length steps - (at + 1)) steps ≡ get_or steps j d ∷ drop (length steps - at) steps =
    ap (λ k. drop k steps) here ∙ drop_more steps j d (omega (arith, e, lt)) ∙ ap (λ k. get_or steps j d ∷ drop k steps) there in
    written ∙ ap (λ t. t ++ hint_text (get_or steps j d).with) so_far
    ∙ append_assoc before (hints_text (drop (length steps - at) steps)) (hint_text (get_or steps j d).with)
    ∙ sym (ap (λ l. before ++ hints_text l) next)

-- one more line
pub lines_more : (items chains : List Chain) (i number next : ℕ) (chain : Chain) (out before more : List ℕ) → next ≡ number + 1 → items ≡ chains → i < length items → chain ≡ get_or items i chain
    → out ++ lrat_lines number (drop i chains) ≡ before → more ≡ out ++ lrat_line number chain → more ++ lrat_lines next (drop (i + 1) chains) ≡ before
unfolding lrat_lines
lines_more items chains i number next chain out before more e same inside is so_far written =
    let here : drop i chains ≡ chain ∷ drop (i + 1) chains =
    drop_more chains i chain (omega (arith, inside, ap length same)) ∙ ap (λ l. l ∷ drop (i + 1) chains) (sym (is ∙ ap (λ list. get_or list i chain) same)) in
    ap (λ k. more ++ lrat_lines k (drop (i + 1) chains)) e
    ∙ ap (λ t. t ++ lrat_lines (number + 1) (drop (i + 1) chains)) written ∙ append_assoc out (lrat_line number chain) (lrat_lines (number + 1) (drop (i + 1) chains))
    ∙ ap (λ list. out ++ lrat_lines number list) (sym here) ∙ so_far

-- all lines
pub lines_done : (chains : List Chain) (i number : ℕ) (out all : List ℕ) → length chains ≤ i → out ++ lrat_lines number (drop i chains) ≡ all → out ≡ all
unfolding lrat_lines
lines_done chains i number out all past so_far = sym (append-nil out) ∙ ap (λ list. out ++ lrat_lines number list) (sym (drop_all i chains past)) ∙ so_far
