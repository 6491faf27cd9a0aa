-- Scopes among more scopes, and that each has its own names.
use Rattle.std.proofs.Common.{◌≡◌, ◌≤◌, ℕ, zero, suc, refl, sym, ap, subst, ◌∙◌, List, [], ◌∷◌, ◌++◌, Option, Some, None, length, reverse, get_or, arith}
use Rattle.std.specs.Prelude.{slice_get}
use Rattle.std.proofs.lemmas.List.{append-nil, append_assoc, reverse-append}
use Rattle.std.proofs.lemmas.Option.{slice_get_within, same_Some, get_or_from_slice_get}
use Rattle.way_names.specs.declared.scope.Scope.{Scope}
use Rattle.way_names.specs.Walk.{scope_around}
use Rattle.way_names.specs.Scopes.{HasNames, IsScope, outermost, inner, height}

get_front : (xs ys : List Scope) (n : ℕ) (x : Scope) → slice_get xs n ≡ Some x → slice_get (xs ++ ys) n ≡ Some x
get_front [] ys n x h = grind arith
get_front (y ∷ xs) ys zero x h = h
get_front (y ∷ xs) ys (suc n) x h = get_front xs ys n x h

get_last : (xs : List Scope) (x : Scope) → slice_get (xs ++ x ∷ []) (length xs) ≡ Some x
get_last [] x = refl
get_last (y ∷ xs) x = get_last xs x

-- a scope stays the same among more of them
pub scope_kept : (xs ys : List Scope) (scope : Option ℕ) (names : List ℕ) → IsScope xs scope names → IsScope (xs ++ ys) scope names
scope_kept xs ys _ _ outermost = outermost
scope_kept xs ys _ _ (inner n s names at low around) = inner n s names (get_front xs ys n s at) low (scope_kept xs ys s.outer names around)

pub scope_within : (xs : List Scope) (scope : Option ℕ) (names : List ℕ) → IsScope xs scope names → height scope ≤ length xs
scope_within xs _ _ outermost = omega arith
scope_within xs _ _ (inner n s names at low around) = omega (arith, slice_get_within xs n s at)

-- one more scope, in this one
pub scope_more : (xs : List Scope) (scope : Option ℕ) (names : List ℕ) (o : ℕ) → IsScope xs scope names
    → IsScope (xs ++ scope_around scope o ∷ []) (Some (length xs)) (names ++ o ∷ [])
scope_more xs scope names o h =
    let s : Scope = scope_around scope o in
    inner (length xs) s names (get_last xs s) (scope_within xs scope names h) (scope_kept xs (s ∷ []) scope names h)

-- what an inner scope is made of
pub record Within (xs : List Scope) (n : ℕ) (names : List ℕ) : Type 0 where
  pub scope : Scope
  pub around : List ℕ
  pub at : slice_get xs n ≡ Some scope
  pub low : height scope.outer ≤ n
  pub is : IsScope xs scope.outer around
  pub named : names ≡ around ++ scope.object ∷ []

pub scope_parts : (xs : List Scope) (n : ℕ) (names : List ℕ) → IsScope xs (Some n) names → Within xs n names
scope_parts xs _ _ (inner n s names at low around) = record { scope = s; around = names; at = at; low = low; is = around; named = refl }

pub none_outermost : (xs : List Scope) (names : List ℕ) → IsScope xs None names → names ≡ []
none_outermost xs _ outermost = refl

-- the names of a scope are its own
pub one_scope : (xs : List Scope) (scope : Option ℕ) (names more : List ℕ) → IsScope xs scope names → IsScope xs scope more → names ≡ more
one_scope xs _ _ more outermost k = sym (none_outermost xs more k)
one_scope xs _ _ more (inner n s names at low around) k =
    let w = scope_parts xs n more k in
    let same : s ≡ w.scope = same_Some s w.scope (sym at ∙ w.at) in
    let rest : names ≡ w.around = one_scope xs s.outer names w.around around (subst (λ (x : Scope). IsScope xs x.outer w.around) (sym same) w.is) in
    ap (λ l. l ++ s.object ∷ []) rest ∙ ap (λ (x : Scope). w.around ++ x.object ∷ []) same ∙ sym w.named

-- ---- from a scope outwards

-- nothing is read yet
pub path_begins : (xs : List Scope) (scope : Option ℕ) (found : List ℕ) → found ≡ [] → HasNames xs scope → (rest : List ℕ) × IsScope xs scope rest × IsScope xs scope (rest ++ reverse found)
path_begins xs scope found e h =
    (h.0, h.1, subst (λ l. IsScope xs scope (h.0 ++ reverse l)) (sym e) (subst (IsScope xs scope) (sym (append-nil h.0)) h.1))

-- one scope is read
pub path_more : (xs : List Scope) (whole scope : Option ℕ) (n : ℕ) (d : Scope) (rest found new : List ℕ) → scope ≡ Some n → IsScope xs scope rest → IsScope xs whole (rest ++ reverse found) → new ≡ found ++ (get_or xs n d).object ∷ []
    → (around : List ℕ) × IsScope xs (get_or xs n d).outer around × IsScope xs whole (around ++ reverse new)
path_more xs whole scope n d rest found new at h all is =
    let w = scope_parts xs n rest (subst (λ o. IsScope xs o rest) at h) in
    let s : Scope = get_or xs n d in
    let same : s ≡ w.scope = get_or_from_slice_get xs n w.scope d w.at in
    let named : rest ≡ w.around ++ s.object ∷ [] = w.named ∙ ap (λ (x : Scope). w.around ++ x.object ∷ []) (sym same) in
    let turned : rest ++ reverse found ≡ w.around ++ reverse new =
    ap (λ l. l ++ reverse found) named ∙ append_assoc w.around (s.object ∷ []) (reverse found)
    ∙ ap (λ l. w.around ++ l) (sym (ap reverse is ∙ reverse-append found (s.object ∷ []))) in
    (w.around, subst (λ (x : Scope). IsScope xs x.outer w.around) (sym same) w.is, subst (IsScope xs whole) turned all)
