-- What a test finds depends on the functions' bodies only through what they do, in any order.
use Rattle.std.proofs.Common.{◌≡◌, inl, inr, ℕ, zero, suc, Bool, true, false, List, [], ◌∷◌, Option, Some, None, refl, ap, sym, ◌∙◌}
use Rattle.std.specs.Prelude.{slice_get}
use Rattle.std.specs.List.{list_any}
use Rattle.c_core.specs.Tree.{Exp, Expr, Node, Const, Var, Index, Unary, Cast, Step, Binary, Logic, Choose, Comma, Assign, Call}
use Rattle.c_core.specs.declared.number.Spot.{Spot}
use Rattle.c_core.specs.declared.tree.Object.{Object}
use Rattle.check_sequencing.specs.declared.effect.Effect.{Effect}
use Rattle.check_sequencing.specs.declared.effect.Effect.TheVariants as does
use Rattle.check_sequencing.specs.Effects.{AreUnsequenced, ByCall, Changes, Clash, Does, IsBody, IsCallThatDoes, Itself, OfFirst, OfOthers, SomePair, Through, Touches, calls, changes, touches}
use Rattle.check_sequencing.specs.Typed.{ChangedBeside, ChangedInIndex, Initial, IsFound, IsStoredTwice, IsUnorderedIn, Listed, Nothing, Operands, Passed, Test, Told, below, effects, operands, target}

-- ---- two lists of bodies that do the same

abbrev pub AreSame : List (List Effect) → List (List Effect) → Type 0
AreSame [] [] = Unit {0}
AreSame (es ∷ ours) (fs ∷ theirs) = ((g : Effect → Bool) → list_any g es ≡ list_any g fs) × AreSame ours theirs
AreSame _ _ = ⊥

pub same_back : (ours theirs : List (List Effect)) → AreSame ours theirs → AreSame theirs ours
same_back [] [] h = tt
same_back [] (fs ∷ theirs) h = absurd h
same_back (es ∷ ours) [] h = absurd h
same_back (es ∷ ours) (fs ∷ theirs) h = ((λ g. sym (h.0 g)), same_back ours theirs h.1)

-- a body that does all that the effects es do
record Body (bodies : List (List Effect)) (k : ℕ) (es : List Effect) : Type 0 where
  its : List Effect
  at : IsBody bodies k its
  has : (g : Effect → Bool) → list_any g es ≡ true → list_any g its ≡ true

its_body : (ours theirs : List (List Effect)) → AreSame ours theirs → (k : ℕ) (es : List Effect) → slice_get ours k ≡ Some es → Body theirs k es
its_body [] [] h k es e = cc
its_body [] (fs ∷ theirs) h k es e = absurd h
its_body (ds ∷ ours) [] h k es e = absurd h
its_body (ds ∷ ours) (fs ∷ theirs) h zero es e =
    let same : ds ≡ es = cc in
    record { its = fs; at = refl; has = λ g t. sym (h.0 g) ∙ ap (list_any g) same ∙ t }
its_body (ds ∷ ours) (fs ∷ theirs) h (suc k) es e = let b = its_body ours theirs h.1 k es e in record { its = b.its; at = b.at; has = b.has }

does_same : (ours theirs : List (List Effect)) → AreSame ours theirs → (test : Effect → Bool) (k : ℕ) → Does ours test k → Does theirs test k
does_same ours theirs h test k (Itself {es = es} b t) = let x = its_body ours theirs h k es b in Itself x.at (x.has test t)
does_same ours theirs h test k (ByCall {j = j} {es = es} b c d) = let x = its_body ours theirs h k es b in ByCall x.at (x.has (calls j) c) (does_same ours theirs h test j d)

-- ---- what is found with bodies that do more

module _ (objects : List Object) (count : ℕ) (ours theirs : List (List Effect)) (more : (test : Effect → Bool) (k : ℕ) → Does ours test k → Does theirs test k) where
  call_more : (test : ℕ → Effect → Bool) (o : ℕ) (e : Effect) → IsCallThatDoes ours objects test o e → IsCallThatDoes theirs objects test o e
  call_more test o (does.Reads n) h = h
  call_more test o (does.Changes n) h = h
  call_more test o (does.Calls k) h = (h.0, more (test o) k h.1)

  through_more : (test : ℕ → Effect → Bool) (o : ℕ) (es : List Effect) → Through ours objects test o es → Through theirs objects test o es
  through_more test o es t = record { effect = t.effect; among = t.among; holds = call_more test o t.effect t.holds }

  changes_more : (o : ℕ) (es : List Effect) → Changes ours objects o es → Changes theirs objects o es
  changes_more o es (inl d) = inl d
  changes_more o es (inr t) = inr (through_more changes o es t)

  touches_more : (o : ℕ) (es : List Effect) → Touches ours objects o es → Touches theirs objects o es
  touches_more o es (inl d) = inl d
  touches_more o es (inr t) = inr (through_more touches o es t)

  clash_more : (es fs : List Effect) → Clash ours objects es fs → Clash theirs objects es fs
  clash_more es fs c = record { object = c.object; changed = changes_more c.object es c.changed; touched = touches_more c.object fs c.touched }

  unsequenced_more : (es fs : List Effect) → AreUnsequenced ours objects es fs → AreUnsequenced theirs objects es fs
  unsequenced_more es fs (inl c) = inl (clash_more es fs c)
  unsequenced_more es fs (inr (inl c)) = inr (inl (clash_more fs es c))
  unsequenced_more es fs (inr (inr both)) = inr (inr both)

  pair_more : (ls : List (List Effect)) → SomePair ours objects ls → SomePair theirs objects ls
  pair_more [] p = elim p [ ]
  pair_more (es ∷ ls) (OfFirst {fs = fs} c u) = OfFirst c (unsequenced_more es fs u)
  pair_more (es ∷ ls) (OfOthers p) = OfOthers (pair_more ls p)

  index_more : (o : Option ℕ) (a : Exp) → ChangedInIndex objects count ours o a → ChangedInIndex objects count theirs o a
  index_more None a c = c
  index_more (Some o) a c = changes_more o (below objects count a) c

  beside_more : (o : Option ℕ) (a b : Exp) → ChangedBeside objects count ours o a b → ChangedBeside objects count theirs o a b
  beside_more None a b c = c
  beside_more (Some o) a b c = c

  stored_more : (n : Node) → IsStoredTwice objects count ours n → IsStoredTwice objects count theirs n
  stored_more (Step op a) h = index_more (target objects count a) a h
  stored_more (Assign op a b) (inl h) = inl (index_more (target objects count a) a h)
  stored_more (Assign op a b) (inr h) = inr (beside_more (target objects count a) a b h)
  stored_more (Const v) h = absurd h
  stored_more (Var o) h = absurd h
  stored_more (Index o is) h = absurd h
  stored_more (Unary op a) h = absurd h
  stored_more (Cast a) h = absurd h
  stored_more (Binary op a b) h = absurd h
  stored_more (Logic both a b) h = absurd h
  stored_more (Choose mark e a b) h = absurd h
  stored_more (Comma a b) h = absurd h
  stored_more (Call callee es close) h = absurd h

  node_more : (n : Node) → IsUnorderedIn objects count ours n → IsUnorderedIn objects count theirs n
  node_more n (inl p) = inl (pair_more (operands objects count n) p)
  node_more n (inr h) = inr (stored_more n h)

  found_more : (t : Test) → IsFound objects count ours t → IsFound objects count theirs t
  found_more (Operands (Expr p ty n)) h = node_more n h
  found_more (Initial o e) h = touches_more o (effects objects count false e) h

-- tests list the same places
pub listed_same : (objects : List Object) (count : ℕ) (ours theirs : List (List Effect)) → AreSame ours theirs → (ts : List Test) (spots : List Spot) → Listed objects count ours ts spots → Listed objects count theirs ts spots
listed_same objects count ours theirs h [] [] Nothing = Nothing
listed_same objects count ours theirs h [] (s ∷ spots) l = elim l [ ]
listed_same objects count ours theirs h (t ∷ ts) spots (Passed n l) =
    Passed (λ f. n (found_more objects count theirs ours (does_same theirs ours (same_back ours theirs h)) t f)) (listed_same objects count ours theirs h ts spots l)
listed_same objects count ours theirs h (t ∷ ts) (s ∷ spots) (Told f l) =
    Told (found_more objects count ours theirs (does_same ours theirs h) t f) (listed_same objects count ours theirs h ts spots l)
