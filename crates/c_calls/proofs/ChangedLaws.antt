-- The marked objects are those that a loop changes.
use Rattle.std.proofs.Common.{◌≡◌, ℕ, ◌<◌, Bool, true, false, cond, not, ◌&&◌, ◌||◌, List, [], ◌∷◌, length, get_or, ◌+◌, ◌++◌, zero, suc, slice_get, Option, Some, None, refl, sym, ap, ◌∙◌, arith}
use Rattle.std.specs.Prelude.{IsTrue}
use Rattle.std.proofs.lemmas.Bool.{false_from_ne_true}
use Rattle.c_core.specs.Tree.{Exp, Form, While, DoWhile, For, Program}
use Rattle.c_meaning.specs.Changed.{body_of, called_from, changed_by, fulls_of_loop}
use Rattle.c_core.specs.Scope.{is_fixed, is_fixed_object}
use Rattle.c_meaning.specs.Meaning.{Loop, WhileLoop, DoLoop, ForLoop}
use Rattle.c_meaning.specs.Parts.{some_of, some_node, those, is_in, changes, declared_in, fulls_of_function, object_numbers, numbers_from}
use Rattle.c_core.specs.declared.tree.Object.{Object}
use Rattle.std.proofs.lemmas.Option.{slice_get_read}
use Rattle.c_calls.specs.Calling.{IsCalledFrom, directly, further, HasCalled}
use Rattle.c_calls.specs.Loops.{loop_of, changed_if, declared_in_loop}
use Rattle.c_calls.specs.Marks.{is_marked, AreMarked, is_changed}
use Rattle.c_calls.specs.Uses.{is_change, uses_of_all, uses_of_function, uses_of_loop}
use Rattle.c_calls.proofs.CallingLaws.{all_called}
use Rattle.c_calls.proofs.Listing.{not_both, numbers_in, same_some, some_member, those_same}
use Rattle.c_calls.proofs.UsesLaws.{changes_listed, none_is_none, of_function, of_loop, some_injective}

and_false : (b : Bool) → (b && false) ≡ false
and_false true = refl
and_false false = refl

some_ext : (q r : ℕ → Bool) (xs : List ℕ) → ((x : ℕ) → q x ≡ r x) → some_of q xs ≡ some_of r xs
some_ext q r [] h = refl
some_ext q r (x ∷ xs) h = ap (λ b. b || some_of q xs) (h x) ∙ ap (λ b. r x || b) (some_ext q r xs h)

none_picked : (q : ℕ → Bool) (xs : List ℕ) → ((x : ℕ) → IsTrue (is_in x xs) → q x ≡ false) → those q xs ≡ []
none_picked q xs h = those_same q (λ _. false) xs h ∙ none xs
  where
    none : (xs : List ℕ) → those (λ _. false) xs ≡ []
    none [] = refl
    none (x ∷ xs) = none xs

declared_of : (f : Form) (l : Loop) → loop_of f ≡ Some l → declared_in_loop f ≡ declared_in (body_of l)
declared_of (While e b) l h = ap (λ x. declared_in (body_of x)) (some_injective (WhileLoop e b) l h)
declared_of (DoWhile b e) l h = ap (λ x. declared_in (body_of x)) (some_injective (DoLoop b e) l h)
declared_of (For i e s b) l h = ap (λ x. declared_in (body_of x)) (some_injective (ForLoop e s b) l h)
declared_of _ l h = absurd (none_is_none h)

no_uses : (f : Form) → loop_of f ≡ None → uses_of_loop f ≡ []
no_uses (While e b) h = absurd (none_is_none (sym h))
no_uses (DoWhile b e) h = absurd (none_is_none (sym h))
no_uses (For i e s b) h = absurd (none_is_none (sym h))
no_uses _ h = refl

module _ (p : Program) (f : Form) (fs : List ℕ) (here inside there : List Bool)
    (called : (es : List Exp) → uses_of_loop f ≡ uses_of_all es → HasCalled p es fs)
    (h : AreMarked (length p.objects) (λ o. some_of (is_change o) (uses_of_loop f)) here)
    (i : AreMarked (length p.objects) (λ o. is_in o (declared_in_loop f)) inside)
    (t : AreMarked (length p.objects) (λ o. some_of (λ g. some_of (is_change o) (uses_of_function p g)) fs) there) where
  object_is : (o : ℕ) → IsTrue (is_in o (object_numbers p)) → o < length p.objects
  object_is o m = let r = numbers_in 0 (length p.objects) o m in omega arith

  changes_there : (o : ℕ) → some_of (λ g. some_of (is_change o) (uses_of_function p g)) fs ≡ some_of (λ g. some_of (some_node (changes o)) (fulls_of_function p g)) fs
  changes_there o = some_ext _ _ fs (λ g. ap (some_of (is_change o)) (of_function p g) ∙ sym (changes_listed o (fulls_of_function p g)))

  of_a_loop : (l : Loop) → loop_of f ≡ Some l → those (λ o. is_changed here inside there o (is_fixed p o)) (object_numbers p) ≡ changed_by p l
  of_a_loop l e = those_same _ _ (object_numbers p) (λ o m.
      let o_is = object_is o m in
      let c = called (fulls_of_loop l) (of_loop f l e) in
      let d = all_called p (fulls_of_loop l) in
      ap (λ b. (b && not (is_marked inside o)) || (is_fixed p o && is_marked there o)) (h o o_is ∙ ap (some_of (is_change o)) (of_loop f l e) ∙ sym (changes_listed o (fulls_of_loop l)))
      ∙ ap (λ b. (some_of (some_node (changes o)) (fulls_of_loop l) && not b) || (is_fixed p o && is_marked there o)) (i o o_is ∙ ap (is_in o) (declared_of f l e))
      ∙ ap (λ b. (some_of (some_node (changes o)) (fulls_of_loop l) && not (is_in o (declared_in (body_of l)))) || (is_fixed p o && b)) (t o o_is ∙ changes_there o ∙ same_some _ fs (called_from p (fulls_of_loop l)) (λ x n. (d.members x).1 ((c.members x).0 n)) (λ x n. (c.members x).1 ((d.members x).0 n))))

  nothing_called : (g : ℕ) → IsCalledFrom p [] g → ⊥
  nothing_called _ (directly g c) = not_both _ refl c.1
  nothing_called _ (further f g c d) = nothing_called f c

  of_no_loop : loop_of f ≡ None → those (λ o. is_changed here inside there o (is_fixed p o)) (object_numbers p) ≡ []
  of_no_loop e = none_picked _ (object_numbers p) (λ o m.
      let o_is = object_is o m in
      let c = called [] (no_uses f e) in
      let none : some_of (λ g. some_of (is_change o) (uses_of_function p g)) fs ≡ false = false_from_ne_true _ (λ s. let r = some_member _ fs s in nothing_called r.0 ((c.members r.0).0 r.1)) in
      ap (λ b. (b && not (is_marked inside o)) || (is_fixed p o && is_marked there o)) (h o o_is ∙ ap (some_of (is_change o)) (no_uses f e))
      ∙ ap (λ b. is_fixed p o && b) (t o o_is ∙ none)
      ∙ and_false (is_fixed p o))

  pub all_changed : those (λ o. is_changed here inside there o (is_fixed p o)) (object_numbers p) ≡ changed_if p (loop_of f)
  all_changed = by_loop (loop_of f) refl
    where
      by_loop : (o : Option Loop) → loop_of f ≡ o → those (λ o. is_changed here inside there o (is_fixed p o)) (object_numbers p) ≡ changed_if p o
      by_loop None e = of_no_loop e
      by_loop (Some l) e = of_a_loop l e

those_append : (q : ℕ → Bool) (xs : List ℕ) (n : ℕ) → those q (xs ++ n ∷ []) ≡ those q xs ++ cond (q n) (n ∷ []) []
those_append q [] n = refl
those_append q (x ∷ xs) n = by_test (q x) (those_append q xs n)
  where
    by_test : (b : Bool) → those q (xs ++ n ∷ []) ≡ those q xs ++ cond (q n) (n ∷ []) [] → cond b (x ∷ those q (xs ++ n ∷ [])) (those q (xs ++ n ∷ [])) ≡ cond b (x ∷ those q xs) (those q xs) ++ cond (q n) (n ∷ []) []
    by_test true ih = ap (λ l. x ∷ l) ih
    by_test false ih = ih

one_number_more : (i n : ℕ) → numbers_from i (n + 1) ≡ numbers_from i n ++ (i + n) ∷ []
one_number_more i zero = let e : zero + 1 ≡ suc zero = omega arith in let f : i ≡ i + zero = omega arith in ap (numbers_from i) e ∙ ap (λ k. k ∷ []) f
one_number_more i (suc n) =
    let e : suc n + 1 ≡ suc (n + 1) = omega arith in let f : suc i + n ≡ i + suc n = omega arith in
    ap (numbers_from i) e ∙ ap (λ l. i ∷ l) (one_number_more (suc i) n ∙ ap (λ k. numbers_from (suc i) n ++ k ∷ []) f)

-- one number more is picked where the test holds
pub one_more_picked : (q : ℕ → Bool) (n : ℕ) (b : Bool) → b ≡ q n → those q (numbers_from 0 n) ++ cond b (n ∷ []) [] ≡ those q (numbers_from 0 (n + 1))
one_more_picked q n b e =
    ap (λ t. those q (numbers_from 0 n) ++ cond t (n ∷ []) []) e ∙ sym (those_append q (numbers_from 0 n) n)
    ∙ sym (ap (those q) (one_number_more 0 n ∙ (let f : 0 + n ≡ n = omega arith in ap (λ k. numbers_from 0 n ++ k ∷ []) f)))

pub fixed_at : (os : List Object) (n : ℕ) (o : Object) → n < length os → o ≡ get_or os n o → is_fixed_object (slice_get os n) ≡ o.fixed
fixed_at os n o inside at = ap is_fixed_object (slice_get_read os (length os) n o refl inside at)
