-- What is made of a name, after one declaration more and after one less.
use Rattle.std.proofs.Common.{arith, ◌≡◌, ◌+◌, ◌-◌, ◌≤◌, ◌++◌, ℕ, suc, Bool, true, false, cond, List, [], ◌∷◌, length, take, get_or, refl, ap, sym, subst, ◌∙◌, Option, Some, None}
use Rattle.std.specs.Str.{bytes_eq}
use Rattle.std.proofs.lemmas.List.{append-nil, append_assoc, drop_all, take-append-drop}
use Rattle.std.proofs.Math.Seq.{take-append_seam, get_or-append_seam}
use Rattle.std.proofs.lemmas.Slice.Eq.{bytes_eq-Decides}
use Rattle.check_scope.specs.declared.line.Line.{Line}
use Rattle.check_scope.specs.declared.past.Past.{Past}
use Rattle.check_scope.specs.Pasts.{with_known}
use Rattle.check_scope.specs.Lines.{past_after, past_from, past_of, befores, hidden}

past_push : (n : ℕ) (before : Option Past) (ls : List Line) (l : Line) (x : List ℕ)
    → past_from n before (ls ++ l ∷ []) x ≡ past_after (n + length ls) (past_from n before ls x) l x
past_push n before [] l x = ap (λ k. past_after k before l x) (omega arith)
past_push n before (m ∷ ls) l x =
    let e : n + 1 + length ls ≡ n + length (m ∷ ls) = omega arith in
    past_push (n + 1) (past_after n before m x) ls l x ∙ ap (λ k. past_after k (past_from (n + 1) (past_after n before m x) ls x) l x) e

pub past_more : (ls : List Line) (l : Line) (x : List ℕ) → past_of (ls ++ l ∷ []) x ≡ past_after (length ls) (past_of ls x) l x
past_more ls l x =
    let e : 0 + length ls ≡ length ls = omega arith in
    past_push 0 None ls l x ∙ ap (λ k. past_after k (past_of ls x) l x) e

-- the index after one declaration more: now is what it says of x

pub indexed_push : (ls : List Line) (l : Line) (x : List ℕ) (now : Option Past)
    → now ≡ cond (bytes_eq l.name.now x) (Some (with_known (length ls) (past_of ls l.name.now) l.known)) (past_of ls x) → now ≡ past_of (ls ++ l ∷ []) x
indexed_push ls l x now h = h ∙ by_test (bytes_eq l.name.now x) refl ∙ sym (past_more ls l x)
  where
    by_test : (b : Bool) → bytes_eq l.name.now x ≡ b
        → cond b (Some (with_known (length ls) (past_of ls l.name.now) l.known)) (past_of ls x) ≡ cond b (Some (with_known (length ls) (past_of ls x) l.known)) (past_of ls x)
    by_test true e = ap (λ y. Some (with_known (length ls) (past_of ls y) l.known)) ((bytes_eq-Decides l.name.now x).0 e)
    by_test false e = refl

befores_push : (ls : List Line) (l : Line) → befores (ls ++ l ∷ []) ≡ befores ls ++ l.before ∷ []
befores_push [] l = refl
befores_push (m ∷ ls) l = ap (λ r. m.before ∷ r) (befores_push ls l)

hidden_push : (seen ls : List Line) (l : Line) → hidden seen (ls ++ l ∷ []) ≡ hidden seen ls ++ past_of (seen ++ ls) l.name.now ∷ []
hidden_push seen [] l = ap (λ r. past_of r l.name.now ∷ []) (sym (append-nil seen))
hidden_push seen (m ∷ ls) l =
    ap (λ r. past_of seen m.name.now ∷ r)
    (hidden_push (seen ++ m ∷ []) ls l ∙ ap (λ r. hidden (seen ++ m ∷ []) ls ++ past_of r l.name.now ∷ []) (append_assoc seen (m ∷ []) ls))

pub keeps_push : (ls : List Line) (l : Line) → befores ls ≡ hidden [] ls → l.before ≡ past_of ls l.name.now → befores (ls ++ l ∷ []) ≡ hidden [] (ls ++ l ∷ [])
keeps_push ls l h k =
    befores_push ls l ∙ ap (λ r. r ++ l.before ∷ []) h ∙ ap (λ o. hidden [] ls ++ o ∷ []) k ∙ sym (hidden_push [] ls l)

-- the last declaration is taken back

befores_length : (ls : List Line) → length (befores ls) ≡ length ls
befores_length [] = refl
befores_length (l ∷ ls) = ap suc (befores_length ls)

hidden_length : (seen ls : List Line) → length (hidden seen ls) ≡ length ls
hidden_length seen [] = refl
hidden_length seen (l ∷ ls) = ap suc (hidden_length (seen ++ l ∷ []) ls)

same_length : (ls : List Line) → length (befores ls) ≡ length (hidden [] ls)
same_length ls = befores_length ls ∙ sym (hidden_length [] ls)

seam : (ls : List Line) (l : Line) → befores (ls ++ l ∷ []) ≡ hidden [] (ls ++ l ∷ []) → befores ls ++ l.before ∷ [] ≡ hidden [] ls ++ past_of ls l.name.now ∷ []
seam ls l h = sym (befores_push ls l) ∙ h ∙ hidden_push [] ls l

last_same : (xs ys : List (Option Past)) (x y : Option Past) → length xs ≡ length ys → xs ++ x ∷ [] ≡ ys ++ y ∷ [] → x ≡ y
last_same xs ys x y n h =
    sym (get_or-append_seam xs x [] x) ∙ ap (λ r. get_or r (length xs) x) h ∙ ap (λ k. get_or (ys ++ y ∷ []) k x) n ∙ get_or-append_seam ys y [] x

front_same : (xs ys : List (Option Past)) (x y : Option Past) → length xs ≡ length ys → xs ++ x ∷ [] ≡ ys ++ y ∷ [] → xs ≡ ys
front_same xs ys x y n h =
    sym (take-append_seam xs (x ∷ [])) ∙ ap (take (length xs)) h ∙ ap (λ k. take k (ys ++ y ∷ [])) n ∙ take-append_seam ys (y ∷ [])

pub last_keeps : (ls : List Line) (l : Line) → befores (ls ++ l ∷ []) ≡ hidden [] (ls ++ l ∷ []) → l.before ≡ past_of ls l.name.now
last_keeps ls l h = last_same (befores ls) (hidden [] ls) l.before (past_of ls l.name.now) (same_length ls) (seam ls l h)

pub front_keeps : (ls : List Line) (l : Line) → befores (ls ++ l ∷ []) ≡ hidden [] (ls ++ l ∷ []) → befores ls ≡ hidden [] ls
front_keeps ls l h = front_same (befores ls) (hidden [] ls) l.before (past_of ls l.name.now) (same_length ls) (seam ls l h)

-- old and now: what the index says of x before and after w is put at the last name
pub taken_back : (ls : List Line) (l : Line) (x : List ℕ) (w now old : Option Past) → old ≡ past_of (ls ++ l ∷ []) x
    → now ≡ cond (bytes_eq l.name.now x) w old → w ≡ past_of ls l.name.now → now ≡ past_of ls x
taken_back ls l x w now old o n k = by_test (bytes_eq l.name.now x) refl
  where
    by_test : (b : Bool) → bytes_eq l.name.now x ≡ b → now ≡ past_of ls x
    by_test true e = n ∙ ap (λ b. cond b w old) e ∙ k ∙ ap (past_of ls) ((bytes_eq-Decides l.name.now x).0 e)
    by_test false e =
        n ∙ ap (λ b. cond b w old) e ∙ o ∙ past_more ls l x ∙ ap (λ b. cond b (Some (with_known (length ls) (past_of ls x) l.known)) (past_of ls x)) e

abbrev IsAbsent : Option Past → Type 0
IsAbsent None = Unit {0}
IsAbsent (Some p) = ⊥

-- the name of the last declaration is in the index
pub is_there : (ls : List Line) (l : Line) → past_of (ls ++ l ∷ []) l.name.now ≡ None → ⊥
is_there ls l h =
    let x = l.name.now in
    subst IsAbsent (sym h ∙ past_more ls l x ∙ ap (λ b. cond b (Some (with_known (length ls) (past_of ls x) l.known)) (past_of ls x)) ((bytes_eq-Decides x x).1 refl)) tt

pub all_taken : {X : Type 0} (n : ℕ) (xs : List X) → length xs ≤ n → take n xs ≡ xs
all_taken n xs h = sym (append-nil (take n xs)) ∙ ap (λ d. take n xs ++ d) (sym (drop_all n xs h)) ∙ take-append-drop n xs
