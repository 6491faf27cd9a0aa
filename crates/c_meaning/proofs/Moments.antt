-- Runs whose moments are kept, and the events among moments.
use Rattle.std.proofs.Common.{◌≡◌, ◌+◌, List, [], ◌∷◌, ◌++◌, length, reverse, refl, ◌∙◌, ap, arith}
use Rattle.std.proofs.lemmas.List.{reverse-append, length-append}
use Rattle.c_meaning.specs.declared.run.End.{End}
use Rattle.c_meaning.specs.Acts.{Res}
use Rattle.c_meaning.specs.Run.{State, Moment, Told, Here, Head, events_of}
use Rattle.c_meaning.specs.Budget.{Begins}

abbrev pub Seen : Type 0
Seen = List Moment

-- the last first
abbrev pub keep : Moment → Seen → Seen
keep x xs = x ∷ xs

abbrev pub Result : Type 0 → Type 0
Result A = Res End (State Seen) A

abbrev pub Act : Type 0 → Type 0
Act A = State Seen → Result A

events_append : (xs ys : Seen) → events_of (xs ++ ys) ≡ events_of xs ++ events_of ys
events_append [] ys = refl
events_append (Told e c ∷ xs) ys = ap (λ es. e ∷ es) (events_append xs ys)
events_append (Here spot c ∷ xs) ys = events_append xs ys
events_append (Head at l c d ∷ xs) ys = events_append xs ys

pub events_begin : (xs ys : Seen) → Begins xs ys → Begins (events_of xs) (events_of ys)
events_begin xs ys h = (events_of h.0, ap events_of h.1 ∙ events_append xs h.0)

count_append : (xs ys : Seen) → length (events_of (xs ++ ys)) ≡ length (events_of xs) + length (events_of ys)
count_append xs ys = ap length (events_append xs ys) ∙ length-append (events_of xs) (events_of ys)

pub count_reverse : (xs : Seen) → length (events_of (reverse xs)) ≡ length (events_of xs)
count_reverse [] = refl
count_reverse (x ∷ xs) =
    let last = ap (λ ys. length (events_of ys)) (reverse-append (x ∷ []) xs) ∙ count_append (reverse xs) (x ∷ []) in
    omega (arith, last, count_append (x ∷ []) xs, count_reverse xs)
