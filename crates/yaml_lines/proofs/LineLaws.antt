-- Lines one by one.
use Rattle.std.proofs.Common.{◌≡◌, ℕ, List, [], ◌∷◌, ◌++◌, Bool, true, false, refl, sym, ap, ◌∙◌, append_assoc, append-nil, cond, ◌==◌}
use Rattle.yaml_lines.specs.Line.{Line}
use Rattle.yaml_lines.specs.Marks.{is_end}
use Rattle.yaml_lines.specs.Lines.{to_feed, from_feed, without_return, ended_line, lines_from, lines_in}

-- the first line, and what follows its break
abbrev pub line_by : List ℕ → List ℕ → List Line
line_by front [] = cond (is_end front) [] (ended_line front false ∷ [])
line_by front (c ∷ rest) = ended_line (without_return front) true ∷ lines_from [] rest

pub lines_by : (front text : List ℕ) → lines_from front text ≡ line_by (front ++ to_feed text) (from_feed text)
lines_by front [] = ap (λ f. line_by f []) (sym (append-nil front))
lines_by front (c ∷ cs) = at_char (c == 10) refl (lines_by (front ++ (c ∷ [])) cs)
  where
    at_char : (b : Bool) → (c == 10) ≡ b → lines_from (front ++ (c ∷ [])) cs ≡ line_by ((front ++ (c ∷ [])) ++ to_feed cs) (from_feed cs) →
        lines_from front (c ∷ cs) ≡ line_by (front ++ to_feed (c ∷ cs)) (from_feed (c ∷ cs))
    at_char true e h = rw e (ap (λ f. ended_line (without_return f) true ∷ lines_from [] cs) (sym (append-nil front)))
    at_char false e h = rw e (h ∙ ap (λ f. line_by f (from_feed cs)) (append_assoc front (c ∷ []) (to_feed cs)))

-- a break is there, or the text is one line
pub feed_whole : (text : List ℕ) → to_feed text ++ from_feed text ≡ text
feed_whole [] = refl
feed_whole (c ∷ cs) = at_char (c == 10) refl (feed_whole cs)
  where
    at_char : (b : Bool) → (c == 10) ≡ b → to_feed cs ++ from_feed cs ≡ cs → to_feed (c ∷ cs) ++ from_feed (c ∷ cs) ≡ c ∷ cs
    at_char true e h = rw e refl
    at_char false e h = rw e (ap (λ xs. c ∷ xs) h)

pub line_step : (lines new whole rest : List Line) (l m : Line) (left : List ℕ) → new ≡ lines ++ l ∷ [] → l ≡ m → lines_in left ≡ m ∷ rest →
    lines ++ lines_in left ≡ whole → new ++ rest ≡ whole
line_step lines new whole rest l m left e s f w = ap (λ xs. xs ++ rest) (e ∙ ap (λ x. lines ++ x ∷ []) s) ∙ append_assoc lines (m ∷ []) rest ∙ ap (λ xs. lines ++ xs) (sym f) ∙ w
