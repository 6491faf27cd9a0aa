-- Operations appended to a list, behind others that were.
use Rattle.std.proofs.Common.{◌≡◌, ℕ, zero, suc, ◌+◌, ◌<◌, Bool, List, [], ◌∷◌, ◌++◌, length, get_or, drop, refl, sym, ap, ◌∙◌, arith, length-append, append_assoc, append-nil}
use Rattle.std.proofs.lemmas.List.{at_drop_more}
use Rattle.flow_code.specs.declared.code.Action.TheVariants.{Close}
use Rattle.flow_code.specs.declared.code.Op.{Op}
use Rattle.flow_code.specs.Preparing.{followed, op, opened, closed, scope, all_closed}

-- nothing is appended
pub nothing_more : (old : List Op) → old ≡ old ++ []
nothing_more old = sym (append-nil old)

-- what is appended behind others depends on where it begins
pub glued : (old xs ys zs : List Op) (f : ℕ → List Op) → ys ≡ old ++ xs → zs ≡ ys ++ f (length ys) → zs ≡ old ++ followed (length old) xs f
glued old xs ys zs f h g =
    g ∙ ap (λ l. l ++ f (length l)) h ∙ ap (λ n. (old ++ xs) ++ f n) (length-append old xs) ∙ append_assoc old xs (f (length old + length xs))

-- what is appended behind others stands by itself
pub behind_it : (old xs ys zs ws : List Op) → ys ≡ old ++ xs → zs ≡ ys ++ ws → zs ≡ old ++ (xs ++ ws)
behind_it old xs ys zs ws h g = g ∙ ap (λ l. l ++ ws) h ∙ append_assoc old xs ws

-- two operations behind others
pub two_behind : (old xs ys zs ws : List Op) (a b : Op) → ys ≡ old ++ xs → zs ≡ ys ++ a ∷ [] → ws ≡ zs ++ b ∷ [] → ws ≡ old ++ (xs ++ a ∷ b ∷ [])
two_behind old xs ys zs ws a b h g e = behind_it old xs ys ws (a ∷ b ∷ []) h (behind_it ys (a ∷ []) zs ws (b ∷ []) g e)

-- a scope around operations, where it is there
pub scoped : (b : Bool) (old mid new whole : List Op) (f : ℕ → List Op) → mid ≡ old ++ opened b → new ≡ mid ++ f (length mid) → whole ≡ new ++ closed b → whole ≡ old ++ scope b (length old) f
scoped b old mid new whole f h g e = behind_it old (followed (length old) (opened b) f) new whole (closed b) (glued old (opened b) mid new f h g) e

closed_more : (n : ℕ) → all_closed n ++ op 0 Close ∷ [] ≡ all_closed (suc n)
closed_more zero = refl
closed_more (suc n) = ap (λ l. op 0 Close ∷ l) (closed_more n)

-- one scope more ends
pub closed_on : (n : ℕ) (old mid new : List Op) → mid ≡ old ++ all_closed n → new ≡ mid ++ op 0 Close ∷ [] → new ≡ old ++ all_closed (n + 1)
closed_on n old mid new h g =
    let e : suc n ≡ n + 1 = omega arith in
    behind_it old (all_closed n) mid new (op 0 Close ∷ []) h g ∙ ap (λ l. old ++ l) (closed_more n ∙ ap all_closed e)

-- the next item of a list
pub next_item : {A : Type 0} (xs : List A) (i : ℕ) (x : A) → i < length xs → x ≡ get_or xs i x → drop i xs ≡ x ∷ drop (i + 1) xs
next_item xs i x h is = at_drop_more (λ ys. ys) xs i x h ∙ ap (λ y. y ∷ drop (i + 1) xs) (sym is)

-- the code of what is left of a list, one item on
pub walk_on : {A : Type 0} (xs : List A) (i : ℕ) (x : A) (old new whole : List Op) (f l : ℕ → List A → List Op) (g : ℕ → List Op)
    → drop i xs ≡ x ∷ drop (i + 1) xs → ((j : ℕ) → f j (x ∷ drop (i + 1) xs) ≡ followed j (g j) (λ k. l k (drop (i + 1) xs)))
    → old ++ f (length old) (drop i xs) ≡ whole → new ≡ old ++ g (length old) → new ++ l (length new) (drop (i + 1) xs) ≡ whole
walk_on xs i x old new whole f l g d q w h =
    glued old (g (length old)) new (new ++ l (length new) (drop (i + 1) xs)) (λ k. l k (drop (i + 1) xs)) h refl
    ∙ ap (λ ys. old ++ ys) (sym (q (length old)) ∙ ap (f (length old)) (sym d)) ∙ w

-- nothing is left of a list
pub walk_done : {A : Type 0} (xs : List A) (i : ℕ) (ops whole : List Op) (f : ℕ → List A → List Op)
    → drop i xs ≡ [] → f (length ops) [] ≡ [] → ops ++ f (length ops) (drop i xs) ≡ whole → ops ≡ whole
walk_done xs i ops whole f d q w =
    sym (append-nil ops) ∙ ap (λ ys. ops ++ ys) (sym q ∙ ap (f (length ops)) (sym d)) ∙ w
