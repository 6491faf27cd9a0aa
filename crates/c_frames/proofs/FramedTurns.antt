-- A turn of a loop changes only what the loop changes.
use Rattle.std.proofs.Common.{◌≡◌, ◌⊎◌, ◌<◌, ℕ, zero, suc, Bool, true, false, cond, not, ◌||◌, nat_eq, IsTrue, List, [], ◌∷◌, ◌++◌, length, Option, Some, None, slice_get, refl, sym, ap, ◌∙◌, subst, inl, inr, ⊎_elim, arith, append_assoc, append-nil, true≢false}
use Rattle.std.proofs.lemmas.Bool.{or_left, or_right, or_cases, and_from}
use Rattle.std.proofs.lemmas.List.Folds.{list_any-append}
use Rattle.c_core.specs.Program.{IsProgram}
use Rattle.c_core.specs.Scope as scope
use Rattle.c_core.specs.Scope.{is_reached, times_in}
use Rattle.c_core.specs.Tree.{Node, Function, Program}
use Rattle.c_core.specs.declared.number.IntType.{IntType}
use Rattle.c_core.specs.declared.number.Spot.{Spot}
use Rattle.c_core.specs.declared.tree.Object.{Object}
use Rattle.c_meaning.specs.Objects.{size_in, size_of_object}
use Rattle.c_meaning.specs.Parts.{some_of, some_node, is_in, declared_in, changes, fulls_of_function, fulls_if, object_numbers}
use Rattle.c_meaning.specs.Meaning.{Loop, Meaning}
use Rattle.c_meaning.specs.Acts.{Go, Next}
use Rattle.c_meaning.specs.Changed.{fulls_of_loop, body_of, changed_here, changed_there, changed_by, called_from}
use Rattle.c_meaning.specs.Run.{State, Moment, real}
use Rattle.c_meaning.specs.Exec.{turn, run_in}
use Rattle.c_meaning.specs.Fitting.{calls_in}
use Rattle.c_meaning.specs.Related.{FitsLoop, FitsS, FitsParams, with_names, after, CallsPreserve}
use Rattle.c_meaning.proofs.Checked.{function_params}
use Rattle.c_meaning.proofs.Fundamental.{related_body, related_call, related_turn}
use Rattle.c_frames.specs.Frames.{SameBut}
use Rattle.c_frames.proofs.Framing.{none_high, over_same, Moves, moves_loop, framing, framing_keeps, Lands}
use Rattle.c_frames.proofs.Refitting.{assigns_no_target, named, most, Fresh, Looped, OwnAgreesTo, Refit, refit_s, refit_loop}
use Rattle.c_frames.proofs.Bodies.{in_same, counted, uncounted, found_below, params_of, fresh_body, targets_body, named_body, asks}
use Rattle.c_frames.proofs.Members.{in_those, in_numbers, some_in, called_first, called_further}

module _ (p : Program) where
  object_below : (o : ℕ) → 0 < size_of_object p o → o < length p.objects
  object_below o l = by (slice_get p.objects o) refl
    where
      by : (x : Option Object) → slice_get p.objects o ≡ x → o < length p.objects
      by None e = absurd (omega (arith, l, ap size_in e))
      by (Some x) e = found_below p.objects o x e

  module _ (l : Loop) where
    abbrev A : List ℕ
    A = changed_by p l

    changed_of : (o : ℕ) → 0 < size_of_object p o → (changed_here l o || changed_there p l o) ≡ true → is_in o A ≡ true
    changed_of o s h = let b = object_below o s in in_those (λ o. changed_here l o || changed_there p l o) o (object_numbers p) (in_numbers 0 (length p.objects) o (omega arith) (omega (arith, b))) h

    -- what was in reach at the loop isn't declared in it
    outside : (L : List ℕ) (o : ℕ) → Fresh p L (declared_in (body_of l)) → (scope.is_fixed p o ≡ true) ⊎ (scope.is_in o L ≡ true) → is_in o (declared_in (body_of l)) ≡ false
    outside L o f (inl h) =
        let m : most p o ≡ 0 = ap (λ b. cond b 0 1) h in
        in_same o (declared_in (body_of l)) ∙ uncounted o (declared_in (body_of l)) (omega (arith, f o, m))
    outside L o f (inr h) =
        in_same o (declared_in (body_of l)) ∙ uncounted o (declared_in (body_of l)) (by (scope.is_fixed p o) refl)
      where
        by : (b : Bool) → scope.is_fixed p o ≡ b → times_in o (declared_in (body_of l)) ≡ 0
        by true e = let m : most p o ≡ 0 = ap (λ b. cond b 0 1) e in omega (arith, f o, m)
        by false e = let m : most p o ≡ 1 = ap (λ b. cond b 0 1) e in omega (arith, f o, m, counted o L h)

    here : (L : List ℕ) (o : ℕ) → Fresh p L (declared_in (body_of l)) → (scope.is_fixed p o ≡ true) ⊎ (scope.is_in o L ≡ true) → some_of (some_node (changes o)) (fulls_of_loop l) ≡ true → 0 < size_of_object p o → is_in o A ≡ true
    here L o f r c s = changed_of o s (or_left _ _ (and_from _ _ c (ap not (outside L o f r))))

    there : (o g : ℕ) → scope.is_fixed p o ≡ true → is_in g (called_from p (fulls_of_loop l)) ≡ true → some_of (some_node (changes o)) (fulls_of_function p g) ≡ true → 0 < size_of_object p o → is_in o A ≡ true
    there o g f i c s =
        changed_of o s (or_right (changed_here l o) _ (and_from _ _ f (some_in (λ f. some_of (some_node (changes o)) (fulls_of_function p f)) g (called_from p (fulls_of_loop l)) i c)))

    module _ (h : IsProgram p) (S : Type 0) (see : Moment → S → S) where
      abbrev Called : ℕ → Type 0
      Called f = is_in f (called_from p (fulls_of_loop l)) ≡ true

      reach_cases : (L : List ℕ) (o : ℕ) → IsTrue (is_reached p L o) → (scope.is_fixed p o ≡ true) ⊎ (scope.is_in o L ≡ true)
      reach_cases L o r = or_cases (scope.is_fixed p o) (scope.is_in o L) r

      -- in the loop: what was in reach when it was reached, and what was declared since
      abbrev InLoop : (Node → Bool) → Type 0
      InLoop q = some_of (some_node q) (fulls_of_loop l) ≡ true

      turn_refit : (L : List ℕ) (r1 r2 : Option IntType) → Fresh p L (declared_in (body_of l)) → (InLoop assigns_no_target → ⊥) → Refit p InLoop (framing p A S see Called) r1 r2
      turn_refit L r1 r2 f sound = record {
        sound = sound;
        Sees = λ M K. M ≡ L ++ K;
        sees_more = λ M K o e. ap (λ os. os ++ o ∷ []) e ∙ append_assoc L K (o ∷ []);
        agree = λ a b e. tt;
        returned = λ ty e. free r2 ty;
        returned_none = λ e. tt;
        const = λ ty v e. tt;
        cell = λ o i e. e;
        size = λ o n e. e;
        read = λ M K o z e. tt;
        write = λ M K o z r c s. ⊎_elim (λ x. inr (here L o f (inl x) c s)) (λ x. since K o c s (or_cases (scope.is_in o L) (scope.is_in o K) (sym (list_any-append (nat_eq o) L K) ∙ sym (ap (scope.is_in o) z) ∙ x))) (reach_cases M o r);
        call = λ g fn e s. called_first p (fulls_of_loop l) g (found_below p.functions g fn e) s;
        loop = λ M K at k z x. tt;
      }
        where
          since : (K : List ℕ) (o : ℕ) → InLoop (changes o) → 0 < size_of_object p o → (scope.is_in o L ≡ true) ⊎ (scope.is_in o K ≡ true) → IsTrue (is_in o K) ⊎ IsTrue (is_in o A)
          since K o c s (inl x) = inr (here L o f (inr x) c s)
          since K o c s (inr x) = inl (in_same o K ∙ x)

          free : (r ty : Option IntType) → OwnAgreesTo p InLoop (framing p A S see Called) r ty
          free None ty = tt
          free (Some to) ty = tt

      -- in a function that it calls
      abbrev InFunction : ℕ → (Node → Bool) → Type 0
      InFunction g q = some_of (some_node q) (fulls_of_function p g) ≡ true

      callee_refit : (g : ℕ) (fn : Function) (r : Option IntType) → slice_get p.functions g ≡ Some fn → Called g → Refit p (InFunction g) (framing p A S see Called) r r
      callee_refit g fn r e i = record {
        sound = λ b. true≢false (sym b ∙ ap (λ o. some_of (some_node assigns_no_target) (fulls_if o)) e ∙ targets_body p h g fn e);
        Sees = λ M K. M ≡ K;
        sees_more = λ M K o e. ap (λ os. os ++ o ∷ []) e;
        agree = λ a b e. tt;
        returned = λ ty e. free r ty;
        returned_none = λ e. tt;
        const = λ ty v e. tt;
        cell = λ o i e. e;
        size = λ o n e. e;
        read = λ M K o z e. tt;
        write = λ M K o z r c s. ⊎_elim (λ x. inr (there o g x i c s)) (λ x. inl (in_same o K ∙ sym (ap (scope.is_in o) z) ∙ x)) (reach_cases M o r);
        call = λ f fn e s. called_further p (fulls_of_loop l) g f i (found_below p.functions f fn e) s;
        loop = λ M K at k z x. tt;
      }
        where
          free : (r ty : Option IntType) → OwnAgreesTo p (InFunction g) (framing p A S see Called) r ty
          free None ty = tt
          free (Some to) ty = tt

      sees_params : (L K os : List ℕ) → L ≡ K → with_names p (named p) L os ≡ with_names p (framing p A S see Called) K os
      sees_params L K [] e = e
      sees_params L K (o ∷ os) e = sees_params (L ++ o ∷ []) (K ++ o ∷ []) os (ap (λ xs. xs ++ o ∷ []) e)

      -- a function that is called from the loop changes what the loop changes, and its own
      callee_fits : (g : ℕ) (fn : Function) → slice_get p.functions g ≡ Some fn → Called g → (K : List ℕ) → K ≡ [] → FitsS p (framing p A S see Called) fn.result (with_names p (framing p A S see Called) K fn.params) fn.body
      unfolding callee_refit
      callee_fits g fn e i K z =
          refit_s p (InFunction g) (framing p A S see Called) fn.result fn.result (callee_refit g fn fn.result e i) (params_of p h fn) (with_names p (framing p A S see Called) K fn.params) (sees_params [] K fn.params (sym z)) fn.body
          (named_body p h g fn e) (fresh_body p h g fn e) (λ q s. ap (λ o. some_of (some_node q) (fulls_if o)) e ∙ s)

      params_fit : (g : ℕ) (fn : Function) → slice_get p.functions g ≡ Some fn → FitsParams p (framing p A S see Called) fn.params
      params_fit g fn e = by fn.params (function_params p h (named p) (asks p h) g fn e)
        where
          by : (os : List ℕ) → FitsParams p (named p) os → FitsParams p (framing p A S see Called) os
          by [] f = tt
          by (o ∷ os) f = (f.0, f.1, by os f.2)

      abbrev M : Meaning
      M = real p S see

      -- calls at most n deep
      moves_run : (n g : ℕ) (fn : Function) → slice_get p.functions g ≡ Some fn → Called g → (K : List ℕ) → K ≡ [] → Moves p A S see (with_names p (framing p A S see Called) K fn.params) (after p (framing p A S see Called) (with_names p (framing p A S see Called) K fn.params) fn.body) (run_in p M n fn)
      moves_run zero g fn e i K z = record { at = λ base s o. tt }
      moves_run (suc n) g fn e i K z =
          related_body p (framing p A S see Called) (framing_keeps p A S see Called) (calls_in p M n) (calls_in p M n)
          (λ L site f vs ws m q. related_call p (framing p A S see Called) (framing_keeps p A S see Called) (run_in p M n) (run_in p M n) site (slice_get p.functions f)
          (λ fn e. (params_fit f fn e, λ E z. moves_run n f fn e m E z)) L vs ws q)
          (λ L at result k m g. moves_loop p A S see L at k _ g)
          fn.result (with_names p (framing p A S see Called) K fn.params) fn.body (callee_fits g fn e i K z)

      calls_move : (n : ℕ) → CallsPreserve p (framing p A S see Called) (calls_in p M n) (calls_in p M n)
      calls_move n L site f vs ws m q =
          related_call p (framing p A S see Called) (framing_keeps p A S see Called) (run_in p M n) (run_in p M n) site (slice_get p.functions f) (λ fn e. (params_fit f fn e, λ E z. moves_run n f fn e m E z)) L vs ws q

      turn_moves : (n : ℕ) (result : Option IntType) (at : Spot) → FitsLoop p (framing p A S see Called) result [] l → Moves p A S see [] [] (turn p M (calls_in p M n) result at l)
      turn_moves n result at f =
          related_turn p (framing p A S see Called) (framing_keeps p A S see Called) (calls_in p M n) (calls_in p M n) (calls_move n) (λ L at result k m g. moves_loop p A S see L at k _ g) result [] at l f

      turn_lands : (n : ℕ) (result : Option IntType) (at : Spot) (s t : State S) → FitsLoop p (framing p A S see Called) result [] l → turn p M (calls_in p M n) result at l s ≡ Go Next t → SameBut p A s.cells t.cells
      turn_lands n result at s t f e = over_same p A s.cells t.cells (subst (λ r. Lands p A S see s.cells [] [] r) e ((turn_moves n result at f).at s.cells s (none_high p A s.cells))).2

      -- a loop of a region in which targets are assigned
      pub turn_framed : (Seen : (Node → Bool) → Type 0) → (Seen assigns_no_target → ⊥) → (L : List ℕ) → Looped p Seen L l → (n : ℕ) (result : Option IntType) (at : Spot) (s t : State S) → turn p M (calls_in p M n) result at l s ≡ Go Next t → SameBut p A s.cells t.cells
      unfolding turn_refit
      turn_framed Seen sound L k n result at s t e =
          turn_lands n result at s t
          (refit_loop p InLoop (framing p A S see Called) k.result result (turn_refit L k.result result k.fresh (λ b. sound (k.seen assigns_no_target b))) L [] (sym (append-nil L)) l k.fits k.fresh (λ q s. s)) e
