-- Items bound one after another, and the least that isn't.
use Rattle.std.proofs.Common.{◌≡◌, refl, sym, ap, ◌∙◌, subst, ℕ, suc, ◌+◌, ◌<◌, ◌≤◌, add-one, List, [], ◌∷◌, ◌++◌, length, take, drop, get_or, Result, Ok, Err, arith}
use Rattle.std.proofs.Math.Seq.{drop-cons}
use Rattle.std.proofs.lemmas.List.{append_assoc, take_more, take-append-drop, length-append, length-take-le}
use Rattle.way_bind.specs.declared.fault.Unbound.{Unbound}
use Rattle.way_bind.specs.declared.fault.Unbound.TheVariants.{NoPlace, Expression, Scope, OutOfMemory}
use Rattle.way_bind.specs.declared.fault.BindFault.{BindFault}
use Rattle.way_bind.specs.declared.fault.BindFault.TheVariants as fault
use Rattle.way_bind.specs.InOrder.{Each, AllBound, IsLeast, TellsLeast, told}

-- ---- the item of a turn

pub next_taken : {X : Type 0} (xs : List X) (i : ℕ) (x : X) → i < length xs → x ≡ get_or xs i x → take (i + 1) xs ≡ take i xs ++ x ∷ []
next_taken xs i x lt is = take_more xs i x lt ∙ ap (λ y. take i xs ++ y ∷ []) (sym is)

rest_split : {X : Type 0} (xs : List X) (i : ℕ) (x : X) → i < length xs → x ≡ get_or xs i x → drop i xs ≡ x ∷ drop (i + 1) xs
rest_split xs i x lt is = drop-cons xs i x lt ∙ ap (λ y. y ∷ drop (suc i) xs) (sym is) ∙ ap (λ k. x ∷ drop k xs) (sym (add-one i))

pub whole_split : {X : Type 0} (xs : List X) (i : ℕ) (x : X) → i < length xs → x ≡ get_or xs i x → xs ≡ take i xs ++ x ∷ drop (i + 1) xs
whole_split xs i x lt is = sym (take-append-drop i xs) ∙ ap (λ l. take i xs ++ l) (rest_split xs i x lt is)

below : (i n : ℕ) → i < n → i ≤ n
below i n lt = omega arith

-- ---- two lists, item by item

pub each_both : {A B : Type 0} (holds : A → B → Type 0) (us vs : List A) (xs ys : List B) → Each holds us xs → Each holds vs ys → Each holds (us ++ vs) (xs ++ ys)
each_both holds [] vs [] ys h k = k
each_both holds [] vs (x ∷ xs) ys h k = elim h [ ]
each_both holds (u ∷ us) vs [] ys h k = elim h [ ]
each_both holds (u ∷ us) vs (x ∷ xs) ys h k = (h.0, each_both holds us vs xs ys h.1 k)

pub each_more : {A B : Type 0} (holds : A → B → Type 0) (vs : List A) (v : A) (xs : List B) (x : B) → Each holds vs xs → holds v x → Each holds (vs ++ v ∷ []) (xs ++ x ∷ [])
each_more holds vs v xs x h k = each_both holds vs (v ∷ []) xs (x ∷ []) h (k, tt)

longer : {A B : Type 0} (us : List A) (vs : List B) (u : A) (v : B) → length us ≡ length vs → length (u ∷ us) ≡ length (v ∷ vs)
longer us vs u v e = omega arith

pub each_length : {A B : Type 0} (holds : A → B → Type 0) (vs : List A) (xs : List B) → Each holds vs xs → length vs ≡ length xs
each_length holds [] [] h = refl
each_length holds [] (x ∷ xs) h = elim h [ ]
each_length holds (v ∷ vs) [] h = elim h [ ]
each_length holds (v ∷ vs) (x ∷ xs) h = longer vs xs v x (each_length holds vs xs h.1)

pub each_same : {A B : Type 0} (holds : A → B → Type 0) → ((v : A) (x y : B) → holds v x → holds v y → x ≡ y) → (vs : List A) (xs ys : List B) → Each holds vs xs → Each holds vs ys → xs ≡ ys
each_same holds one [] [] [] h k = refl
each_same holds one [] [] (y ∷ ys) h k = elim k [ ]
each_same holds one [] (x ∷ xs) ys h k = elim h [ ]
each_same holds one (v ∷ vs) [] ys h k = elim h [ ]
each_same holds one (v ∷ vs) (x ∷ xs) [] h k = elim k [ ]
each_same {A} {B} holds one (v ∷ vs) (x ∷ xs) (y ∷ ys) h k =
    let head : x ≡ y = one v x y h.0 k.0 in
    let tail : xs ≡ ys = each_same holds one vs xs ys h.1 k.1 in
    cc

-- an item among others has what stands at its place
pub each_among : {A B : Type 0} (holds : A → B → Type 0) (us : List A) (v : A) (ws : List A) (xs : List B) → Each holds (us ++ v ∷ ws) xs → (x : B) × holds v x
each_among holds [] v ws [] h = elim h [ ]
each_among holds [] v ws (x ∷ xs) h = (x, h.0)
each_among holds (u ∷ us) v ws [] h = elim h [ ]
each_among holds (u ∷ us) v ws (x ∷ xs) h = each_among holds us v ws xs h.1

-- ---- the least that isn't bound

module _ {A B : Type 0} (binds : A → Result B Unbound → Type 0) (first : ℕ) where
  least_here : (us : List A) (xs : List B) (v : A) (vs : List A) (lack : Unbound) → AllBound binds us xs → binds v (Err lack) → IsLeast binds first (us ++ v ∷ vs) (first + length us) lack
  least_here us xs v vs lack h k = record { before = us; bound_to = xs; at = v; behind = vs; in_order = refl; counted = refl; bound = h; fails = k }

  pub told_here : (us : List A) (xs : List B) (v : A) (vs : List A) (lack : Unbound) → AllBound binds us xs → binds v (Err lack) → TellsLeast binds first (us ++ v ∷ vs) (told (first + length us) lack)
  told_here us xs v vs NoPlace h k = least_here us xs v vs NoPlace h k
  told_here us xs v vs Expression h k = least_here us xs v vs Expression h k
  told_here us xs v vs Scope h k = least_here us xs v vs Scope h k
  told_here us xs v vs OutOfMemory h k = tt

  -- in the turn of its index
  pub told_at : (vs : List A) (i : ℕ) (v : A) (xs : List B) (lack : Unbound) (f : BindFault) → i < length vs → v ≡ get_or vs i v → f ≡ told (first + i) lack → binds v (Err lack) → AllBound binds (take i vs) xs → TellsLeast binds first vs f
  told_at vs i v xs lack f lt is e k h =
      subst (λ g. TellsLeast binds first vs g) (sym e)
      (subst (λ l. TellsLeast binds first l (told (first + i) lack)) (sym (whole_split vs i v lt is))
      (subst (λ n. TellsLeast binds first (take i vs ++ v ∷ drop (i + 1) vs) (told (first + n) lack)) (length-take-le i vs (below i (length vs) lt))
      (told_here (take i vs) xs v (drop (i + 1) vs) lack h k)))

  least_among : (us : List A) (xs : List B) (vs ws : List A) (n : ℕ) (lack : Unbound) → AllBound binds us xs → IsLeast binds (first + length us) vs n lack → IsLeast binds first (us ++ (vs ++ ws)) n lack
  least_among us xs vs ws n lack h k = record {
    before = us ++ k.before;
    bound_to = xs ++ k.bound_to;
    at = k.at;
    behind = k.behind ++ ws;
    in_order = ap (λ l. us ++ (l ++ ws)) k.in_order ∙ (ap (λ l. us ++ l) (append_assoc k.before (k.at ∷ k.behind) ws) ∙ sym (append_assoc us k.before (k.at ∷ (k.behind ++ ws))));
    counted = omega (arith, k.counted, length-append us k.before);
    bound = each_both (λ v x. binds v (Ok x)) us k.before xs k.bound_to h k.bound;
    fails = k.fails;
  }

  -- what is told of some items is told of all, where those before them are bound
  pub told_among : (us : List A) (xs : List B) (vs ws : List A) (f : BindFault) → AllBound binds us xs → TellsLeast binds (first + length us) vs f → TellsLeast binds first (us ++ (vs ++ ws)) f
  told_among us xs vs ws (fault.NoPlace n) h k = least_among us xs vs ws n NoPlace h k
  told_among us xs vs ws (fault.Expression n) h k = least_among us xs vs ws n Expression h k
  told_among us xs vs ws (fault.Scope n) h k = least_among us xs vs ws n Scope h k
  told_among us xs vs ws fault.OutOfMemory h k = tt

  least_front : (vs ws : List A) (n : ℕ) (lack : Unbound) → IsLeast binds first vs n lack → IsLeast binds first (vs ++ ws) n lack
  least_front vs ws n lack k = record {
    before = k.before;
    bound_to = k.bound_to;
    at = k.at;
    behind = k.behind ++ ws;
    in_order = ap (λ l. l ++ ws) k.in_order ∙ append_assoc k.before (k.at ∷ k.behind) ws;
    counted = k.counted;
    bound = k.bound;
    fails = k.fails;
  }

  -- the same where nothing stands before them
  pub told_front : (vs ws : List A) (f : BindFault) → TellsLeast binds first vs f → TellsLeast binds first (vs ++ ws) f
  told_front vs ws (fault.NoPlace n) k = least_front vs ws n NoPlace k
  told_front vs ws (fault.Expression n) k = least_front vs ws n Expression k
  told_front vs ws (fault.Scope n) k = least_front vs ws n Scope k
  told_front vs ws fault.OutOfMemory k = tt
