-- Where a text is cut at a line break.
use Rattle.std.proofs.Common.{◌≡◌, ◌≢◌, ℕ, suc, ◌+◌, ◌<◌, ◌≤◌, List, [], ◌∷◌, ◌++◌, length, length-append, take, drop, true, false, refl, sym, ap, subst, ◌∙◌, append-nil, arith, lit<, ◌==◌}
use Rattle.std.proofs.lemmas.List.{take-append-drop}
use Rattle.std.proofs.lemmas.Str.{encodes-chars, encodes-append, chars_from_encodes, chars-append, chars_past_char, encode_ascii, chars-nil, IsUtf8-append, IsUtf8-take, IsUtf8-drop, IsCharBoundary-at_seam, IsUtf8-encode}
use Rattle.std.proofs.lemmas.Str.Pattern.{drop_at_char}
use Rattle.std.specs.Str.{IsUtf8, chars, NonePass, NoCharPasses}
use Rattle.std.specs.Str.Pattern.{FindsChar, HasCharAt, SplitsAroundMatch}
use Rattle.std.specs.Char.{len_utf8}
use lib.Utf8.{encodes, encode}
use Rattle.yaml_lines.specs.Lines.{to_feed, from_feed, without_return, ended_line, lines_in}
use Rattle.yaml_lines.proofs.LineLaws.{lines_by, line_by, feed_whole}
use Rattle.yaml_lines.proofs.Returns.{return_off}

-- a text of one ASCII character
one_utf8 : (c : ℕ) → c < 128 → IsUtf8 (c ∷ [])
one_utf8 c h = let e : encode c ≡ c ∷ [] = encode_ascii c h in subst IsUtf8 e (IsUtf8-encode c (grind arith))

chars_one : (c : ℕ) (rest : List ℕ) → c < 128 → IsUtf8 rest → chars (c ∷ rest) ≡ c ∷ chars rest
chars_one c rest h u = chars_past_char (c ∷ rest) rest c (IsUtf8-append (c ∷ []) rest (one_utf8 c h) u) (ap (λ xs. xs ++ rest) (sym (encode_ascii c h)))

-- an ASCII character within a text
pub record Parted (s front rest : List ℕ) (c : ℕ) : Type 0 where
  pub before : IsUtf8 front
  pub after : IsUtf8 rest
  pub whole : chars s ≡ chars front ++ c ∷ chars rest

pub parted_at : (s front rest : List ℕ) (c : ℕ) → c < 128 → IsUtf8 s → IsUtf8 rest → s ≡ front ++ c ∷ rest → Parted s front rest c
parted_at s front rest c h u v e =
    let w : IsUtf8 (c ∷ rest) = IsUtf8-append (c ∷ []) rest (one_utf8 c h) v in
    let front_is : take (length front) s ≡ front = ap (take (length front)) e ∙ take_front front (c ∷ rest) in
    let f : IsUtf8 front = subst IsUtf8 front_is (IsUtf8-take s (length front) u (IsCharBoundary-at_seam s front (c ∷ rest) e w)) in
    record {
      before = f;
      after = v;
      whole = ap chars e ∙ chars-append front (c ∷ rest) f ∙ ap (λ xs. chars front ++ xs) (chars_one c rest h v);
    }
  where
    take_front : (xs ys : List ℕ) → take (length xs) (xs ++ ys) ≡ xs
    take_front [] ys = refl
    take_front (x ∷ xs) ys = ap (λ zs. x ∷ zs) (take_front xs ys)

to_none : (cs rest : List ℕ) → NonePass (λ d. d == 10) cs → to_feed (cs ++ 10 ∷ rest) ≡ cs
to_none [] rest h = refl
to_none (c ∷ cs) rest h = rw h.0 (ap (λ xs. c ∷ xs) (to_none cs rest h.1))

from_none : (cs rest : List ℕ) → NonePass (λ d. d == 10) cs → from_feed (cs ++ 10 ∷ rest) ≡ 10 ∷ rest
from_none [] rest h = refl
from_none (c ∷ cs) rest h = rw h.0 (from_none cs rest h.1)

ends_none : (cs : List ℕ) → NonePass (λ d. d == 10) cs → from_feed cs ≡ []
ends_none [] h = refl
ends_none (c ∷ cs) h = rw h.0 (ends_none cs h.1)

-- a line feed is found
pub record Fed (s front rest : List ℕ) : Type 0 where
  pub before : IsUtf8 front
  pub after : IsUtf8 rest
  pub step : lines_in (chars s) ≡ ended_line (without_return (chars front)) true ∷ lines_in (chars rest)
  pub size : length (chars s) ≡ length (chars front) + suc (length (chars rest))

pub fed : (s front rest : List ℕ) → IsUtf8 s → SplitsAroundMatch (FindsChar 10) s front rest → Fed s front rest
fed s front rest u m =
    let i = m.0 in
    let j = m.1 in
    let at : HasCharAt 10 s i j = m.2.1 in
    let front_is : front ≡ take i s = m.3 in
    let rest_is : rest ≡ drop j s = m.4 in
    let v : IsUtf8 rest = subst IsUtf8 (ap (λ k. drop k s) (sym at.ends) ∙ sym rest_is) (IsUtf8-drop s (i + len_utf8 10) u at.after) in
    let here : s ≡ front ++ 10 ∷ rest =
    sym (take-append-drop i s) ∙ ap (λ xs. take i s ++ xs) (drop_at_char 10 s i j at (lit< tt)) ∙ ap (λ xs. xs ++ 10 ∷ drop j s) (sym front_is) ∙ ap (λ xs. front ++ 10 ∷ xs) (sym rest_is) in
    let p = parted_at s front rest 10 (lit< tt) u v here in
    let none = m.2.0 in
    let cs_is : none.0 ≡ chars front = chars_from_encodes none.0 front p.before (none.1 ∙ sym front_is) in
    let none_in : NonePass (λ d. d == 10) (chars front) = subst (λ xs. NonePass (λ d. d == 10) xs) cs_is none.2 in
    record {
      before = p.before;
      after = p.after;
      step = lines_by [] (chars s) ∙ ap (λ t. line_by (to_feed t) (from_feed t)) p.whole
          ∙ ap (λ f. line_by f (from_feed (chars front ++ 10 ∷ chars rest))) (to_none (chars front) (chars rest) none_in)
          ∙ ap (line_by (chars front)) (from_none (chars front) (chars rest) none_in);
      size = ap length p.whole ∙ length-append (chars front) (10 ∷ chars rest);
    }

-- none is found
pub unfed : (s : List ℕ) → IsUtf8 s → NoCharPasses (λ d. d == 10) s → 0 < length (chars s) → lines_in (chars s) ≡ ended_line (chars s) false ∷ []
unfed s u none h =
    let cs_is : none.0 ≡ chars s = chars_from_encodes none.0 s u none.1 in
    let end : from_feed (chars s) ≡ [] = ends_none (chars s) (subst (λ xs. NonePass (λ d. d == 10) xs) cs_is none.2) in
    let all : to_feed (chars s) ≡ chars s = sym (append-nil (to_feed (chars s))) ∙ ap (λ r. to_feed (chars s) ++ r) (sym end) ∙ feed_whole (chars s) in
    lines_by [] (chars s) ∙ ap (line_by (to_feed (chars s))) end ∙ ap (λ f. line_by f []) all ∙ one_line (chars s) h
  where
    one_line : (cs : List ℕ) → 0 < length cs → line_by cs [] ≡ ended_line cs false ∷ []
    one_line [] k = absurd (omega arith)
    one_line (c ∷ cs) k = refl

-- a CR at the end, and none there
pub return_cut : (s front : List ℕ) → IsUtf8 s → s ≡ front ++ 13 ∷ [] → chars front ≡ without_return (chars s)
return_cut s front u e =
    let p = parted_at s front [] 13 (lit< tt) u ([], (refl, refl)) e in
    sym (ap without_return (p.whole ∙ ap (λ xs. chars front ++ 13 ∷ xs) chars-nil) ∙ return_off (chars front))

pub return_less : (s front : List ℕ) → IsUtf8 s → s ≡ front ++ 13 ∷ [] → length (chars front) ≤ length (chars s)
return_less s front u e =
    let p = parted_at s front [] 13 (lit< tt) u ([], (refl, refl)) e in
    omega (arith, ap length p.whole, length-append (chars front) (13 ∷ chars []))

no_return : (cs : List ℕ) → ((xs : List ℕ) → cs ≢ xs ++ 13 ∷ []) → cs ≡ without_return cs
no_return [] h = refl
no_return (c ∷ []) h = at_char (c == 13) refl
  where
    at_char : (b : _) → (c == 13) ≡ b → c ∷ [] ≡ without_return (c ∷ [])
    at_char true e = absurd (h [] (ap (λ x. x ∷ []) (grind (arith, e))))
    at_char false e = rw e refl
no_return (c ∷ d ∷ ds) h = ap (λ xs. c ∷ xs) (no_return (d ∷ ds) (λ xs e. h (c ∷ xs) (ap (λ ys. c ∷ ys) e)))

pub return_kept : (s : List ℕ) → IsUtf8 s → ((front : List ℕ) → s ≢ front ++ 13 ∷ []) → chars s ≡ without_return (chars s)
return_kept s u h =
    let one : encodes (13 ∷ []) ≡ 13 ∷ [] = append-nil (encode 13) ∙ encode_ascii 13 (lit< tt) in
    no_return (chars s) (λ xs e. h (encodes xs) (sym (encodes-chars s u) ∙ ap encodes e ∙ encodes-append xs (13 ∷ []) ∙ ap (λ ys. encodes xs ++ ys) one))
