-- An expression is unordered exactly where its typed tree is.
use Rattle.std.proofs.Common.{◌≡◌, ◌⊎◌, inl, inr, ℕ, zero, suc, ◌<◌, true, false, cond, List, [], ◌∷◌, ◌++◌, length, map, Option, Some, None, refl, ap, sym, subst, ◌∙◌, arith}
use Rattle.std.specs.Prelude.{slice_get, get_or, is_some, nat_eq, ◌-◌}
use Rattle.std.specs.List.{list_any, Contains}
use Rattle.std.proofs.lemmas.Bool.{false≢true, eqb-true, eq-eqb}
use Rattle.c_core.specs.Tree as t
use Rattle.c_core.specs.declared.number.DataModel.{DataModel}
use Rattle.c_core.specs.declared.tree.Object.{Object}
use Rattle.c_parser.specs.Tree as raw
use Rattle.c_parser.specs.Tree.{Exp, Expr, Node, Number, Char, Var, Index, Unary, Cast, Step, Binary, Logic, Choose, Comma, Assign, Call, Exps, NoExp, MoreExp}
use Rattle.check_rules.specs.Names as kind
use Rattle.check_rules.specs.Names.{Kind, Entry, named}
use Rattle.check_rules.specs.Scopes.{Scope, seen}
use Rattle.check_rules.specs.Typed.{no_object, number_named, typed, typed_all}
use Rattle.check_rules.specs.Parts.{Value, Target, Effect as ForEffect, Role, Part, Expression, bodies_of, parts, parts_in, parts_of, of_cast}
use Rattle.check_rules.specs.Order as order
use Rattle.check_rules.specs.Order.{is_object, left_side, parts_below}
use Rattle.check_sequencing.specs.declared.effect.Effect.{Effect}
use Rattle.check_sequencing.specs.Effects as effect
use Rattle.check_sequencing.specs.Effects.{changes}
use Rattle.check_sequencing.specs.Typed as rule
use Rattle.check_sequencing.specs.Typed.{below, effects, effects_all, target}
use Rattle.check_sequencing.proofs.Lists.{here, there}
use Rattle.check_unsequenced.specs.PartEffects.{AreListed, AreListedParts, NoPart, OnePart, HasStorage, IsListed, IsObjectList, count, effects_of_bodies, effects_of_parts}
use Rattle.check_unsequenced.proofs.PartTests.{any_some, part_changes, some_any}
use Rattle.check_unsequenced.proofs.SameOrder.{changes_from, changes_to, touches_from, touches_to, unsequenced_from, unsequenced_to}
use Rattle.check_unsequenced.proofs.TypedEffects.{effects_of_all, effects_of_expression, two}

-- ---- the parts of an expression see the same names

module _ (objects : List Object) where
  listed_append : (ps qs : List Part) → AreListedParts objects ps → AreListedParts objects qs → AreListedParts objects (ps ++ qs)
  listed_append [] qs h i = i
  listed_append (p ∷ ps) qs (OnePart x h) i = OnePart x (listed_append ps qs h i)

  module _ (es : List Entry) (h : AreListed objects es) where
    mutual
      pub listed_parts : (r : Role) (e : Exp) → AreListedParts objects (parts es r e)
      listed_parts r (Expr p n) = OnePart h (listed_in n)

      pub listed_in : (n : Node) → AreListedParts objects (parts_in es n)
      listed_in (Number v decimal unsigned longs) = NoPart
      listed_in (Char v) = NoPart
      listed_in (Var x w) = NoPart
      listed_in (Index x w is) = listed_of is
      listed_in (Unary op a) = listed_parts Value a
      listed_in (Cast to a) = listed_parts (of_cast to) a
      listed_in (Step op a) = listed_parts Target a
      listed_in (Binary op a b) = listed_append (parts es Value a) (parts es Value b) (listed_parts Value a) (listed_parts Value b)
      listed_in (Logic both a b) = listed_append (parts es Value a) (parts es Value b) (listed_parts Value a) (listed_parts Value b)
      listed_in (Choose mark e a b) =
          listed_append (parts es Value e ++ parts es ForEffect a) (parts es ForEffect b)
          (listed_append (parts es Value e) (parts es ForEffect a) (listed_parts Value e) (listed_parts ForEffect a)) (listed_parts ForEffect b)
      listed_in (Comma a b) = listed_append (parts es ForEffect a) (parts es ForEffect b) (listed_parts ForEffect a) (listed_parts ForEffect b)
      listed_in (Assign op a b) = listed_append (parts es Target a) (parts es Value b) (listed_parts Target a) (listed_parts Value b)
      listed_in (Call f w gs close) = listed_of gs

      pub listed_of : (gs : Exps) → AreListedParts objects (parts_of es gs)
      listed_of NoExp = NoPart
      listed_of (MoreExp e gs) = listed_append (parts es Value e) (parts_of es gs) (listed_parts Value e) (listed_of gs)

    pub listed_below : (e : Exp) → AreListedParts objects (parts_below es e)
    listed_below (Expr p n) = listed_in n

    -- the left side of an assignment
    pub listed_left : (e : Exp) → AreListedParts objects (left_side es e)
    listed_left (Expr p (Call f w gs close)) = listed_parts Target (Expr p (Call f w gs close))
    listed_left (Expr p (Number v decimal unsigned longs)) = listed_below (Expr p (Number v decimal unsigned longs))
    listed_left (Expr p (Char v)) = listed_below (Expr p (Char v))
    listed_left (Expr p (Var x w)) = listed_below (Expr p (Var x w))
    listed_left (Expr p (Index x w is)) = listed_below (Expr p (Index x w is))
    listed_left (Expr p (Unary op a)) = listed_below (Expr p (Unary op a))
    listed_left (Expr p (Cast to a)) = listed_below (Expr p (Cast to a))
    listed_left (Expr p (Step op a)) = listed_below (Expr p (Step op a))
    listed_left (Expr p (Binary op a b)) = listed_below (Expr p (Binary op a b))
    listed_left (Expr p (Logic both a b)) = listed_below (Expr p (Logic both a b))
    listed_left (Expr p (Choose mark e a b)) = listed_below (Expr p (Choose mark e a b))
    listed_left (Expr p (Comma a b)) = listed_below (Expr p (Comma a b))
    listed_left (Expr p (Assign op a b)) = listed_below (Expr p (Assign op a b))

pub data AllListed (objects : List Object) : List (List Part) → Type 0 where
  NoList : AllListed objects []
  OneList : {ps : List Part} {ls : List (List Part)} → AreListedParts objects ps → AllListed objects ls → AllListed objects (ps ∷ ls)

-- ---- pairs of operands

module _ (m : DataModel) (items : List raw.Item) (objects : List Object) (list : IsObjectList m items objects) where
  abbrev effs : List Part → List Effect
  effs ps = effects_of_parts m items objects ps

  abbrev done : List (List Effect)
  done = effects_of_bodies m items objects

  contains_to : (ls : List (List Part)) (n : ℕ) (qs : List Part) → n < length ls → get_or ls n qs ≡ qs → AllListed objects ls → Contains (map effs ls) (effs qs) × AreListedParts objects qs
  contains_to [] n qs l g h = absurd (omega (arith, l))
  contains_to (ps ∷ ls) zero qs l g (OneList h hs) =
      (subst (λ xs. Contains (effs ps ∷ map effs ls) (effs xs)) g (here (effs ps) (map effs ls)), subst (AreListedParts objects) g h)
  contains_to (ps ∷ ls) (suc n) qs l g (OneList h hs) =
      let c = contains_to ls n qs (omega (arith, l)) g hs in
      (there (effs ps) (effs qs) (map effs ls) c.0, c.1)

  record Operand (ls : List (List Part)) (fs : List Effect) : Type 0 where
    operand : List Part
    among : Contains ls operand
    listed : AreListedParts objects operand
    same : effs operand ≡ fs

  contains_from : (ls : List (List Part)) (n : ℕ) (fs : List Effect) → n < length (map effs ls) → get_or (map effs ls) n fs ≡ fs → AllListed objects ls → Operand ls fs
  contains_from [] n fs l g h = absurd (omega (arith, l))
  contains_from (ps ∷ ls) zero fs l g (OneList h hs) = record { operand = ps; among = here ps ls; listed = h; same = g }
  contains_from (ps ∷ ls) (suc n) fs l g (OneList h hs) =
      let o = contains_from ls n fs (omega (arith, l)) g hs in
      record { operand = o.operand; among = there ps o.operand ls o.among; listed = o.listed; same = o.same }

  pair_to : (ls : List (List Part)) → AllListed objects ls → order.SomePair m items ls → effect.SomePair done objects (map effs ls)
  pair_to [] h p = elim p [ ]
  pair_to (ps ∷ ls) (OneList h hs) (order.OfFirst {qs = qs} c u) =
      let d = contains_to ls c.0 qs c.1 c.2 hs in
      effect.OfFirst d.0 (unsequenced_to m items objects list ps qs h d.1 u)
  pair_to (ps ∷ ls) (OneList h hs) (order.OfOthers p) = effect.OfOthers (pair_to ls hs p)

  pair_from : (ls : List (List Part)) → AllListed objects ls → effect.SomePair done objects (map effs ls) → order.SomePair m items ls
  pair_from [] h p = elim p [ ]
  pair_from (ps ∷ ls) (OneList h hs) (effect.OfFirst {fs = fs} c u) =
      let o = contains_from ls c.0 fs c.1 c.2 hs in
      order.OfFirst o.among (unsequenced_from m items objects list ps o.operand h o.listed (subst (effect.AreUnsequenced done objects (effs ps)) (sym o.same) u))
  pair_from (ps ∷ ls) (OneList h hs) (effect.OfOthers p) = order.OfOthers (pair_from ls hs p)

  module _ (es : List Entry) (h : AreListed objects es) where
    abbrev tree : Exp → t.Exp
    tree e = typed m (bodies_of items) es e

    abbrev many : ℕ
    many = count m items objects

    effects_below : (e : Exp) → effs (parts_below es e) ≡ below objects many (tree e)
    effects_below (Expr p (Number v decimal unsigned longs)) = refl
    effects_below (Expr p (Char v)) = refl
    effects_below (Expr p (Var x w)) = refl
    effects_below (Expr p (Index x w is)) = effects_of_all m items objects es is
    effects_below (Expr p (Unary op a)) = effects_of_expression m items objects es Value a
    effects_below (Expr p (Cast to a)) = effects_of_expression m items objects es Value (Expr p (Cast to a))
    effects_below (Expr p (Step op a)) = effects_of_expression m items objects es Target a
    effects_below (Expr p (Binary op a b)) = effects_of_expression m items objects es Value (Expr p (Binary op a b))
    effects_below (Expr p (Logic both a b)) = effects_of_expression m items objects es Value (Expr p (Logic both a b))
    effects_below (Expr p (Choose mark e a b)) = effects_of_expression m items objects es Value (Expr p (Choose mark e a b))
    effects_below (Expr p (Comma a b)) = effects_of_expression m items objects es Value (Expr p (Comma a b))
    effects_below (Expr p (Assign op a b)) = effects_of_expression m items objects es Value (Expr p (Assign op a b))
    effects_below (Expr p (Call f w gs close)) = effects_of_all m items objects es gs

    effects_left : (e : Exp) → effs (left_side es e) ≡ rule.left_side objects many (tree e)
    effects_left (Expr p (Call f w gs close)) = effects_of_expression m items objects es Target (Expr p (Call f w gs close))
    effects_left (Expr p (Number v decimal unsigned longs)) = effects_below (Expr p (Number v decimal unsigned longs))
    effects_left (Expr p (Char v)) = effects_below (Expr p (Char v))
    effects_left (Expr p (Var x w)) = effects_below (Expr p (Var x w))
    effects_left (Expr p (Index x w is)) = effects_below (Expr p (Index x w is))
    effects_left (Expr p (Unary op a)) = effects_below (Expr p (Unary op a))
    effects_left (Expr p (Cast to a)) = effects_below (Expr p (Cast to a))
    effects_left (Expr p (Step op a)) = effects_below (Expr p (Step op a))
    effects_left (Expr p (Binary op a b)) = effects_below (Expr p (Binary op a b))
    effects_left (Expr p (Logic both a b)) = effects_below (Expr p (Logic both a b))
    effects_left (Expr p (Choose mark e a b)) = effects_below (Expr p (Choose mark e a b))
    effects_left (Expr p (Comma a b)) = effects_below (Expr p (Comma a b))
    effects_left (Expr p (Assign op a b)) = effects_below (Expr p (Assign op a b))

    same_arguments : (gs : Exps) → map effs (order.arguments es gs) ≡ rule.arguments objects many (typed_all m (bodies_of items) es gs)
    same_arguments NoExp = refl
    same_arguments (MoreExp e gs) =
        ap (λ xs. xs ∷ map effs (order.arguments es gs)) (effects_of_expression m items objects es Value e) ∙ ap (λ xs. effects objects many false (tree e) ∷ xs) (same_arguments gs)

    listed_arguments : (gs : Exps) → AllListed objects (order.arguments es gs)
    listed_arguments NoExp = NoList
    listed_arguments (MoreExp e gs) = OneList (listed_parts objects es h Value e) (listed_arguments gs)

    same_two : (ps qs : List Part) (xs ys : List Effect) → effs ps ≡ xs → effs qs ≡ ys → map effs (ps ∷ qs ∷ []) ≡ xs ∷ ys ∷ []
    same_two ps qs xs ys e f = ap (λ zs. zs ∷ effs qs ∷ []) e ∙ ap (λ zs. xs ∷ zs ∷ []) f

    -- ---- what is stored to

    object_target : (o : ℕ) (k : Option Kind) → IsListed objects k → is_object o k ≡ true → cond (is_some (slice_get objects (number_named k))) (Some (number_named k)) None ≡ Some o
    object_target o None i e = absurd (false≢true e)
    object_target o (Some (kind.Object n ty dims fixed)) i e = there_it_is (slice_get objects n) i
      where
        there_it_is : (g : Option Object) → HasStorage fixed g → cond (is_some g) (Some n) None ≡ Some o
        there_it_is None x = absurd x
        there_it_is (Some y) x = ap Some (eqb-true n o e)
    object_target o (Some (kind.Function result stated has_body)) i e = absurd (false≢true e)
    object_target o (Some kind.Closed) i e = absurd (false≢true e)

    no_target : (o : ℕ) → cond (is_some (slice_get objects no_object)) (Some no_object) None ≡ Some o → ⊥
    no_target o e = let z : None ≡ Some o = ap (λ g. cond (is_some g) (Some no_object) None) (sym list.absent) ∙ e in cc

    target_object : (o : ℕ) (k : Option Kind) → cond (is_some (slice_get objects (number_named k))) (Some (number_named k)) None ≡ Some o → is_object o k ≡ true
    target_object o None e = absurd (no_target o e)
    target_object o (Some (kind.Object n ty dims fixed)) e = found (slice_get objects n) e
      where
        found : (g : Option Object) → cond (is_some g) (Some n) None ≡ Some o → nat_eq n o ≡ true
        found None q = cc
        found (Some y) q = let z : n ≡ o = cc in eq-eqb n o z
    target_object o (Some (kind.Function result stated has_body)) e = absurd (no_target o e)
    target_object o (Some kind.Closed) e = absurd (no_target o e)

    target_to : (o : ℕ) (e : Exp) → order.IsTarget o es e → target objects many (tree e) ≡ Some o
    target_to o (Expr p (Var x w)) i = object_target o (named es x) (h x) i
    target_to o (Expr p (Index x w is)) i = object_target o (named es x) (h x) i
    target_to o (Expr p (Number v decimal unsigned longs)) i = absurd (false≢true i)
    target_to o (Expr p (Char v)) i = absurd (false≢true i)
    target_to o (Expr p (Unary op a)) i = absurd (false≢true i)
    target_to o (Expr p (Cast to a)) i = absurd (false≢true i)
    target_to o (Expr p (Step op a)) i = absurd (false≢true i)
    target_to o (Expr p (Binary op a b)) i = absurd (false≢true i)
    target_to o (Expr p (Logic both a b)) i = absurd (false≢true i)
    target_to o (Expr p (Choose mark e a b)) i = absurd (false≢true i)
    target_to o (Expr p (Comma a b)) i = absurd (false≢true i)
    target_to o (Expr p (Assign op a b)) i = absurd (false≢true i)
    target_to o (Expr p (Call f w gs close)) i = absurd (false≢true i)

    target_from : (o : ℕ) (e : Exp) → target objects many (tree e) ≡ Some o → order.IsTarget o es e
    target_from o (Expr p (Var x w)) i = target_object o (named es x) i
    target_from o (Expr p (Index x w is)) i = target_object o (named es x) i
    target_from o (Expr p (Number v decimal unsigned longs)) i = cc
    target_from o (Expr p (Char v)) i = cc
    target_from o (Expr p (Unary op a)) i = cc
    target_from o (Expr p (Cast to a)) i = cc
    target_from o (Expr p (Step op a)) i = cc
    target_from o (Expr p (Binary op a b)) i = cc
    target_from o (Expr p (Logic both a b)) i = cc
    target_from o (Expr p (Choose mark e a b)) i = cc
    target_from o (Expr p (Comma a b)) i = cc
    target_from o (Expr p (Assign op a b)) i = cc
    target_from o (Expr p (Call f w gs close)) i = cc

    index_to : (a : Exp) → order.ChangedInIndex m items es a → rule.ChangedInIndex objects many done (target objects many (tree a)) (tree a)
    index_to a c =
        subst (λ o. rule.ChangedInIndex objects many done o (tree a)) (sym (target_to c.object a c.its))
        (subst (effect.Changes done objects c.object) (effects_below a) (changes_to m items objects list c.object (parts_below es a) (listed_below objects es h a) c.changed))

    index_from : (a : Exp) (o : Option ℕ) → target objects many (tree a) ≡ o → rule.ChangedInIndex objects many done o (tree a) → order.ChangedInIndex m items es a
    index_from a None e c = absurd c
    index_from a (Some o) e c = record {
      object = o;
      its = target_from o a e;
      changed = changes_from m items objects list o (parts_below es a) (listed_below objects es h a) (subst (effect.Changes done objects o) (sym (effects_below a)) c);
    }

    beside : (a b : Exp) → effs (parts_below es a ++ parts es Value b) ≡ below objects many (tree a) ++ effects objects many false (tree b)
    beside a b = two m items objects es (parts_below es a) (parts es Value b) (below objects many (tree a)) (effects objects many false (tree b)) (effects_below a) (effects_of_expression m items objects es Value b)

    listed_beside : (a b : Exp) → AreListedParts objects (parts_below es a ++ parts es Value b)
    listed_beside a b = listed_append objects (parts_below es a) (parts es Value b) (listed_below objects es h a) (listed_parts objects es h Value b)

    beside_to : (a b : Exp) → order.ChangedBeside m items es a b → rule.ChangedBeside objects many done (target objects many (tree a)) (tree a) (tree b)
    beside_to a b c =
        subst (λ o. rule.ChangedBeside objects many done o (tree a) (tree b)) (sym (target_to c.object a c.its))
        (subst (λ xs. list_any (changes c.object) xs ≡ true) (beside a b)
        (some_any m items objects (order.changes (is_object c.object)) (changes c.object) (part_changes m items objects list.absent c.object) (parts_below es a ++ parts es Value b) (listed_beside a b) c.changed))

    beside_from : (a b : Exp) (o : Option ℕ) → target objects many (tree a) ≡ o → rule.ChangedBeside objects many done o (tree a) (tree b) → order.ChangedBeside m items es a b
    beside_from a b None e c = absurd c
    beside_from a b (Some o) e c = record {
      object = o;
      its = target_from o a e;
      changed = any_some m items objects (order.changes (is_object o)) (changes o) (part_changes m items objects list.absent o) (parts_below es a ++ parts es Value b) (listed_beside a b)
          (subst (λ xs. list_any (changes o) xs ≡ true) (sym (beside a b)) c);
    }

    -- ---- the rule

    no_operands : {A B : Type 0} → order.SomePair m items [] → A ⊎ B
    no_operands p = elim p [ ]

    none_typed : {A B : Type 0} → effect.SomePair done objects [] → A ⊎ B
    none_typed p = elim p [ ]

    abbrev RawUnordered : Role → Exp → Type 0
    RawUnordered r e = order.IsUnordered m items (Expression es r e)

    abbrev TypedUnordered : Exp → Type 0
    TypedUnordered e = rule.IsUnordered objects many done (tree e)

    binary_lists : (a b : Exp) → AllListed objects (parts es Value a ∷ parts es Value b ∷ [])
    binary_lists a b = OneList (listed_parts objects es h Value a) (OneList (listed_parts objects es h Value b) NoList)

    assign_lists : (a b : Exp) → AllListed objects (left_side es a ∷ parts es Value b ∷ [])
    assign_lists a b = OneList (listed_left objects es h a) (OneList (listed_parts objects es h Value b) NoList)

    binary_same : (a b : Exp) → map effs (parts es Value a ∷ parts es Value b ∷ []) ≡ effects objects many false (tree a) ∷ effects objects many false (tree b) ∷ []
    binary_same a b = same_two (parts es Value a) (parts es Value b) (effects objects many false (tree a)) (effects objects many false (tree b)) (effects_of_expression m items objects es Value a) (effects_of_expression m items objects es Value b)

    assign_same : (a b : Exp) → map effs (left_side es a ∷ parts es Value b ∷ []) ≡ rule.left_side objects many (tree a) ∷ effects objects many false (tree b) ∷ []
    assign_same a b = same_two (left_side es a) (parts es Value b) (rule.left_side objects many (tree a)) (effects objects many false (tree b)) (effects_left a) (effects_of_expression m items objects es Value b)

    pub unordered_to : (r : Role) (e : Exp) → RawUnordered r e → TypedUnordered e
    unordered_to r (Expr p (Binary op a b)) (inl q) = inl (subst (effect.SomePair done objects) (binary_same a b) (pair_to (parts es Value a ∷ parts es Value b ∷ []) (binary_lists a b) q))
    unordered_to r (Expr p (Assign op a b)) (inl q) = inl (subst (effect.SomePair done objects) (assign_same a b) (pair_to (left_side es a ∷ parts es Value b ∷ []) (assign_lists a b) q))
    unordered_to r (Expr p (Assign op a b)) (inr (inl c)) = inr (inl (index_to a c))
    unordered_to r (Expr p (Assign op a b)) (inr (inr c)) = inr (inr (beside_to a b c))
    unordered_to r (Expr p (Step op a)) (inr c) = inr (index_to a c)
    unordered_to r (Expr p (Call f w gs close)) (inl q) = inl (subst (effect.SomePair done objects) (same_arguments gs) (pair_to (order.arguments es gs) (listed_arguments gs) q))
    unordered_to r (Expr p (Step op a)) (inl q) = no_operands q
    unordered_to r (Expr p (Number v decimal unsigned longs)) (inl q) = no_operands q
    unordered_to r (Expr p (Char v)) (inl q) = no_operands q
    unordered_to r (Expr p (Var x w)) (inl q) = no_operands q
    unordered_to r (Expr p (Index x w is)) (inl q) = inl (subst (effect.SomePair done objects) (same_arguments is) (pair_to (order.arguments es is) (listed_arguments is) q))
    unordered_to r (Expr p (Unary op a)) (inl q) = no_operands q
    unordered_to r (Expr p (Cast to a)) (inl q) = no_operands q
    unordered_to r (Expr p (Logic both a b)) (inl q) = no_operands q
    unordered_to r (Expr p (Choose mark e a b)) (inl q) = no_operands q
    unordered_to r (Expr p (Comma a b)) (inl q) = no_operands q
    unordered_to r (Expr p (Binary op a b)) (inr c) = absurd c
    unordered_to r (Expr p (Call f w gs close)) (inr c) = absurd c
    unordered_to r (Expr p (Number v decimal unsigned longs)) (inr c) = absurd c
    unordered_to r (Expr p (Char v)) (inr c) = absurd c
    unordered_to r (Expr p (Var x w)) (inr c) = absurd c
    unordered_to r (Expr p (Index x w is)) (inr c) = absurd c
    unordered_to r (Expr p (Unary op a)) (inr c) = absurd c
    unordered_to r (Expr p (Cast to a)) (inr c) = absurd c
    unordered_to r (Expr p (Logic both a b)) (inr c) = absurd c
    unordered_to r (Expr p (Choose mark e a b)) (inr c) = absurd c
    unordered_to r (Expr p (Comma a b)) (inr c) = absurd c

    pub unordered_from : (r : Role) (e : Exp) → TypedUnordered e → RawUnordered r e
    unordered_from r (Expr p (Binary op a b)) (inl q) = inl (pair_from (parts es Value a ∷ parts es Value b ∷ []) (binary_lists a b) (subst (effect.SomePair done objects) (sym (binary_same a b)) q))
    unordered_from r (Expr p (Assign op a b)) (inl q) = inl (pair_from (left_side es a ∷ parts es Value b ∷ []) (assign_lists a b) (subst (effect.SomePair done objects) (sym (assign_same a b)) q))
    unordered_from r (Expr p (Assign op a b)) (inr (inl c)) = inr (inl (index_from a (target objects many (tree a)) refl c))
    unordered_from r (Expr p (Assign op a b)) (inr (inr c)) = inr (inr (beside_from a b (target objects many (tree a)) refl c))
    unordered_from r (Expr p (Step op a)) (inr c) = inr (index_from a (target objects many (tree a)) refl c)
    unordered_from r (Expr p (Call f w gs close)) (inl q) = inl (pair_from (order.arguments es gs) (listed_arguments gs) (subst (effect.SomePair done objects) (sym (same_arguments gs)) q))
    unordered_from r (Expr p (Step op a)) (inl q) = none_typed q
    unordered_from r (Expr p (Number v decimal unsigned longs)) (inl q) = none_typed q
    unordered_from r (Expr p (Char v)) (inl q) = none_typed q
    unordered_from r (Expr p (Var x w)) (inl q) = none_typed q
    unordered_from r (Expr p (Index x w is)) (inl q) = inl (pair_from (order.arguments es is) (listed_arguments is) (subst (effect.SomePair done objects) (sym (same_arguments is)) q))
    unordered_from r (Expr p (Unary op a)) (inl q) = none_typed q
    unordered_from r (Expr p (Cast to a)) (inl q) = none_typed q
    unordered_from r (Expr p (Logic both a b)) (inl q) = none_typed q
    unordered_from r (Expr p (Choose mark e a b)) (inl q) = none_typed q
    unordered_from r (Expr p (Comma a b)) (inl q) = none_typed q
    unordered_from r (Expr p (Binary op a b)) (inr c) = absurd c
    unordered_from r (Expr p (Call f w gs close)) (inr c) = absurd c
    unordered_from r (Expr p (Number v decimal unsigned longs)) (inr c) = absurd c
    unordered_from r (Expr p (Char v)) (inr c) = absurd c
    unordered_from r (Expr p (Var x w)) (inr c) = absurd c
    unordered_from r (Expr p (Index x w is)) (inr c) = absurd c
    unordered_from r (Expr p (Unary op a)) (inr c) = absurd c
    unordered_from r (Expr p (Cast to a)) (inr c) = absurd c
    unordered_from r (Expr p (Logic both a b)) (inr c) = absurd c
    unordered_from r (Expr p (Choose mark e a b)) (inr c) = absurd c
    unordered_from r (Expr p (Comma a b)) (inr c) = absurd c

  -- an initializer, whose object is the last of its scope
  pub initializer_to : (s : Scope) (e : Exp) → AreListed objects (seen s) → order.InitializesItself m items s e
      → rule.InitializesItself objects (count m items objects) done (length s.objects - 1) (typed m (bodies_of items) (seen s) e)
  initializer_to s e h i =
      subst (effect.Touches done objects (length s.objects - 1)) (effects_of_expression m items objects (seen s) Value e)
      (touches_to m items objects list (length s.objects - 1) (parts (seen s) Value e) (listed_parts objects (seen s) h Value e) i)

  pub initializer_from : (s : Scope) (e : Exp) → AreListed objects (seen s) → rule.InitializesItself objects (count m items objects) done (length s.objects - 1) (typed m (bodies_of items) (seen s) e)
      → order.InitializesItself m items s e
  initializer_from s e h i =
      touches_from m items objects list (length s.objects - 1) (parts (seen s) Value e) (listed_parts objects (seen s) h Value e)
      (subst (effect.Touches done objects (length s.objects - 1)) (sym (effects_of_expression m items objects (seen s) Value e)) i)
