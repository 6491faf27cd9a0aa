-- The tests of typed trees find what is unordered among the parts.
use Rattle.std.proofs.Common.{◌≡◌, ◌⊎◌, inl, inr, ℕ, zero, suc, ◌<◌, Bool, List, [], ◌∷◌, ◌++◌, length, refl, ap, sym, subst, ◌∙◌, arith}
use Rattle.std.specs.Prelude.{get_or, ◌-◌}
use Rattle.std.specs.List.{Contains}
use Rattle.std.proofs.lemmas.List.Elements.{Contains-append_left, Contains-append_right, Contains-append_cases}
use Rattle.c_core.specs.Parts.{spot_of}
use Rattle.c_core.specs.Tree as t
use Rattle.c_core.specs.declared.number.DataModel.{DataModel}
use Rattle.c_core.specs.declared.number.Spot.{Spot}
use Rattle.c_core.specs.declared.tree.Object.{Object}
use Rattle.c_parser.specs.Tree as raw
use Rattle.c_parser.specs.Tree.{Exp, Expr, Node, Number, Char, Var, Index, Unary, Cast, Step, Binary, Logic, Choose, Comma, Assign, Call, Exps, NoExp, MoreExp}
use Rattle.check_rules.specs.Names.{Entry}
use Rattle.check_rules.specs.Scopes.{Scope, seen}
use Rattle.check_rules.specs.Typed.{typed, typed_all}
use Rattle.check_rules.specs.Codes.{place_of}
use Rattle.check_rules.specs.Parts.{Value, Target, Effect as ForEffect, Role, Part, Expression, Initializing, bodies_of, of_cast, parts, parts_of, parts_of_value}
use Rattle.check_rules.specs.Order.{IsUnordered}
use Rattle.check_sequencing.specs.Typed.{Initial, Listed, Nothing, Operands, Passed, Test, Told, place, tested, tested_all}
use Rattle.check_sequencing.proofs.Lists.{here, there}
use Rattle.check_unsequenced.specs.PartEffects.{AreListed, IsObjectList, count, effects_of_bodies}
use Rattle.check_unsequenced.specs.PartsFound.{AreTestsOf, Finds, OneFound, OneUnordered}
use Rattle.check_unsequenced.proofs.SameUnordered.{initializer_from, initializer_to, unordered_from, unordered_to}

only_at : {A : Type 0} (x y : A) (n : ℕ) → n < 1 → get_or (x ∷ []) n y ≡ y → x ≡ y
only_at x y zero l g = g
only_at x y (suc n) l g = absurd (omega (arith, l))

only : {A : Type 0} (x y : A) → Contains (x ∷ []) y → x ≡ y
only x y c = only_at x y c.0 c.1 c.2

pub none_in : {A : Type 0} (x : A) → Contains [] x → ⊥
none_in x c = omega (arith, c.1)

first_or_rest_at : {A : Type 0} (x y : A) (xs : List A) (n : ℕ) → n < length (x ∷ xs) → get_or (x ∷ xs) n y ≡ y → (x ≡ y) ⊎ Contains xs y
first_or_rest_at x y xs zero l g = inl g
first_or_rest_at x y xs (suc n) l g = inr (n, omega (arith, l), g)

first_or_rest : {A : Type 0} (x y : A) (xs : List A) → Contains (x ∷ xs) y → (x ≡ y) ⊎ Contains xs y
first_or_rest x y xs c = first_or_rest_at x y xs c.0 c.1 c.2

module _ (m : DataModel) (items : List raw.Item) (objects : List Object) where
  abbrev Found : List Test → Spot → Type 0
  Found ts p = OneFound m items objects ts p

  abbrev Unordered : List Part → Spot → Type 0
  Unordered ps p = OneUnordered m items objects ps p

  abbrev Same : List Part → List Test → Type 0
  Same ps ts = AreTestsOf m items objects ps ts

  pub found_left : (ts us : List Test) (p : Spot) → Found ts p → Found (ts ++ us) p
  found_left ts us p o = record { test = o.test; among = Contains-append_left ts us o.test o.among; found = o.found; there = o.there }

  pub found_right : (ts us : List Test) (p : Spot) → Found us p → Found (ts ++ us) p
  found_right ts us p o = record { test = o.test; among = Contains-append_right ts us o.test o.among; found = o.found; there = o.there }

  pub found_cases : (ts us : List Test) (p : Spot) → Found (ts ++ us) p → Found ts p ⊎ Found us p
  found_cases ts us p o = elim (Contains-append_cases ts us o.test o.among) as (λ _. Found ts p ⊎ Found us p) [
    | inl c ↦ inl (record { test = o.test; among = c; found = o.found; there = o.there })
    | inr c ↦ inr (record { test = o.test; among = c; found = o.found; there = o.there })
  ]

  pub unordered_left : (ps qs : List Part) (p : Spot) → Unordered ps p → Unordered (ps ++ qs) p
  unordered_left ps qs p o = record { part = o.part; among = Contains-append_left ps qs o.part o.among; unordered = o.unordered; there = o.there }

  pub unordered_right : (ps qs : List Part) (p : Spot) → Unordered qs p → Unordered (ps ++ qs) p
  unordered_right ps qs p o = record { part = o.part; among = Contains-append_right ps qs o.part o.among; unordered = o.unordered; there = o.there }

  pub unordered_cases : (ps qs : List Part) (p : Spot) → Unordered (ps ++ qs) p → Unordered ps p ⊎ Unordered qs p
  unordered_cases ps qs p o = elim (Contains-append_cases ps qs o.part o.among) as (λ _. Unordered ps p ⊎ Unordered qs p) [
    | inl c ↦ inl (record { part = o.part; among = c; unordered = o.unordered; there = o.there })
    | inr c ↦ inr (record { part = o.part; among = c; unordered = o.unordered; there = o.there })
  ]

  pub same_none : Same [] []
  same_none = record { to = λ p o. absurd (none_in o.part o.among); from = λ p o. absurd (none_in o.test o.among) }

  pub same_both : (ps qs : List Part) (ts us : List Test) → Same ps ts → Same qs us → Same (ps ++ qs) (ts ++ us)
  same_both ps qs ts us g h = record {
    to = λ p o. elim (unordered_cases ps qs p o) as (λ _. Found (ts ++ us) p) [ inl x ↦ found_left ts us p (g.to p x) | inr x ↦ found_right ts us p (h.to p x) ];
    from = λ p o. elim (found_cases ts us p o) as (λ _. Unordered (ps ++ qs) p) [ inl x ↦ unordered_left ps qs p (g.from p x) | inr x ↦ unordered_right ps qs p (h.from p x) ];
  }

  -- the tests the other way round
  same_crossed : (ps qs : List Part) (ts us : List Test) → Same ps ts → Same qs us → Same (ps ++ qs) (us ++ ts)
  same_crossed ps qs ts us g h = record {
    to = λ p o. elim (unordered_cases ps qs p o) as (λ _. Found (us ++ ts) p) [ inl x ↦ found_right us ts p (g.to p x) | inr x ↦ found_left us ts p (h.to p x) ];
    from = λ p o. elim (found_cases us ts p o) as (λ _. Unordered (ps ++ qs) p) [ inl x ↦ unordered_right ps qs p (h.from p x) | inr x ↦ unordered_left ps qs p (g.from p x) ];
  }

  same_one : (part : Part) (test : Test) → (IsUnordered m items part → Finds m items objects test) → (Finds m items objects test → IsUnordered m items part) → place test ≡ place_of part
      → Same (part ∷ []) (test ∷ [])
  same_one part test to from at = record {
    to = λ p o.
        let e = only part o.part o.among in
        record { test = test; among = here test []; found = to (subst (IsUnordered m items) (sym e) o.unordered); there = at ∙ ap place_of e ∙ o.there };
    from = λ p o.
        let e = only test o.test o.among in
        record { part = part; among = here part []; unordered = from (subst (Finds m items objects) (sym e) o.found); there = sym at ∙ ap place e ∙ o.there };
  }

  pub same_other : (part : Part) (ps : List Part) (ts : List Test) → (IsUnordered m items part → ⊥) → Same ps ts → Same (part ∷ ps) ts
  same_other part ps ts n g = record {
    to = λ p o. elim (first_or_rest part o.part ps o.among) as (λ _. Found ts p) [
      | inl e ↦ absurd (n (subst (IsUnordered m items) (sym e) o.unordered))
      | inr c ↦ g.to p (record { part = o.part; among = c; unordered = o.unordered; there = o.there })
    ];
    from = λ p o. unordered_right (part ∷ []) ps p (g.from p o);
  }

  abbrev Lists : List Test → List Spot → Type 0
  Lists ts spots = Listed objects (count m items objects) (effects_of_bodies m items objects) ts spots

  pub listed_to : (ts : List Test) (spots : List Spot) → Lists ts spots → (p : Spot) → Found ts p → Contains spots p
  listed_to [] spots l p o = absurd (none_in o.test o.among)
  listed_to (t ∷ ts) spots (Passed n l) p o = elim (first_or_rest t o.test ts o.among) as (λ _. Contains spots p) [
    | inl e ↦ absurd (n (subst (Finds m items objects) (sym e) o.found))
    | inr c ↦ listed_to ts spots l p (record { test = o.test; among = c; found = o.found; there = o.there })
  ]
  listed_to (t ∷ ts) (s ∷ spots) (Told f l) p o = elim (first_or_rest t o.test ts o.among) as (λ _. Contains (place t ∷ spots) p) [
    | inl e ↦ subst (Contains (place t ∷ spots)) (ap place e ∙ o.there) (here (place t) spots)
    | inr c ↦ there (place t) p spots (listed_to ts spots l p (record { test = o.test; among = c; found = o.found; there = o.there }))
  ]

  pub listed_from : (ts : List Test) (spots : List Spot) → Lists ts spots → (p : Spot) → Contains spots p → Found ts p
  listed_from [] [] Nothing p c = absurd (none_in p c)
  listed_from [] (s ∷ spots) l p c = elim l [ ]
  listed_from (t ∷ ts) spots (Passed n l) p c = found_right (t ∷ []) ts p (listed_from ts spots l p c)
  listed_from (t ∷ ts) (s ∷ spots) (Told f l) p c = elim (first_or_rest (place t) p spots c) as (λ _. Found (t ∷ ts) p) [
    | inl e ↦ record { test = t; among = here t ts; found = f; there = e }
    | inr d ↦ found_right (t ∷ []) ts p (listed_from ts spots l p d)
  ]

  module _ (list : IsObjectList m items objects) (es : List Entry) (h : AreListed objects es) where
    abbrev tree : Exp → t.Exp
    tree e = typed m (bodies_of items) es e

    same_spot : (r : Role) (e : Exp) → spot_of (tree e) ≡ place_of (Expression es r e)
    same_spot r (Expr p (Number v decimal unsigned longs)) = refl
    same_spot r (Expr p (Char v)) = refl
    same_spot r (Expr p (Var x w)) = refl
    same_spot r (Expr p (Index x w is)) = refl
    same_spot r (Expr p (Unary op a)) = refl
    same_spot r (Expr p (Cast to a)) = refl
    same_spot r (Expr p (Step op a)) = refl
    same_spot r (Expr p (Binary op a b)) = refl
    same_spot r (Expr p (Logic both a b)) = refl
    same_spot r (Expr p (Choose mark e a b)) = refl
    same_spot r (Expr p (Comma a b)) = refl
    same_spot r (Expr p (Assign op a b)) = refl
    same_spot r (Expr p (Call f w gs close)) = refl

    itself : (r : Role) (e : Exp) → Same (Expression es r e ∷ []) (Operands (tree e) ∷ [])
    itself r e = same_one (Expression es r e) (Operands (tree e)) (unordered_to m items objects list es h r e) (unordered_from m items objects list es h r e) (same_spot r e)

    -- an expression behind its parts
    behind : (r : Role) (e : Exp) (ps : List Part) (ts : List Test) → Same ps ts → Same (Expression es r e ∷ ps) (ts ++ Operands (tree e) ∷ [])
    behind r e ps ts g = same_crossed (Expression es r e ∷ []) ps (Operands (tree e) ∷ []) ts (itself r e) g

    mutual
      pub same_expression : (r : Role) (e : Exp) → Same (parts es r e) (tested (tree e))
      same_expression r (Expr p (Number v decimal unsigned longs)) = itself r (Expr p (Number v decimal unsigned longs))
      same_expression r (Expr p (Char v)) = itself r (Expr p (Char v))
      same_expression r (Expr p (Var x w)) = itself r (Expr p (Var x w))
      same_expression r (Expr p (Index x w is)) = behind r (Expr p (Index x w is)) (parts_of es is) (tested_all (typed_all m (bodies_of items) es is)) (same_all is)
      same_expression r (Expr p (Unary op a)) = behind r (Expr p (Unary op a)) (parts es Value a) (tested (tree a)) (same_expression Value a)
      same_expression r (Expr p (Cast to a)) = behind r (Expr p (Cast to a)) (parts es (of_cast to) a) (tested (tree a)) (same_expression (of_cast to) a)
      same_expression r (Expr p (Step op a)) = behind r (Expr p (Step op a)) (parts es Target a) (tested (tree a)) (same_expression Target a)
      same_expression r (Expr p (Binary op a b)) =
          behind r (Expr p (Binary op a b)) (parts es Value a ++ parts es Value b) (tested (tree a) ++ tested (tree b))
          (same_both (parts es Value a) (parts es Value b) (tested (tree a)) (tested (tree b)) (same_expression Value a) (same_expression Value b))
      same_expression r (Expr p (Logic both a b)) =
          behind r (Expr p (Logic both a b)) (parts es Value a ++ parts es Value b) (tested (tree a) ++ tested (tree b))
          (same_both (parts es Value a) (parts es Value b) (tested (tree a)) (tested (tree b)) (same_expression Value a) (same_expression Value b))
      same_expression r (Expr p (Choose mark e a b)) =
          behind r (Expr p (Choose mark e a b)) (parts es Value e ++ parts es ForEffect a ++ parts es ForEffect b) (tested (tree e) ++ tested (tree a) ++ tested (tree b))
          (same_both (parts es Value e ++ parts es ForEffect a) (parts es ForEffect b) (tested (tree e) ++ tested (tree a)) (tested (tree b))
          (same_both (parts es Value e) (parts es ForEffect a) (tested (tree e)) (tested (tree a)) (same_expression Value e) (same_expression ForEffect a)) (same_expression ForEffect b))
      same_expression r (Expr p (Comma a b)) =
          behind r (Expr p (Comma a b)) (parts es ForEffect a ++ parts es ForEffect b) (tested (tree a) ++ tested (tree b))
          (same_both (parts es ForEffect a) (parts es ForEffect b) (tested (tree a)) (tested (tree b)) (same_expression ForEffect a) (same_expression ForEffect b))
      same_expression r (Expr p (Assign op a b)) =
          behind r (Expr p (Assign op a b)) (parts es Target a ++ parts es Value b) (tested (tree a) ++ tested (tree b))
          (same_both (parts es Target a) (parts es Value b) (tested (tree a)) (tested (tree b)) (same_expression Target a) (same_expression Value b))
      same_expression r (Expr p (Call f w gs close)) =
          behind r (Expr p (Call f w gs close)) (parts_of es gs) (tested_all (typed_all m (bodies_of items) es gs)) (same_all gs)

      pub same_all : (gs : Exps) → Same (parts_of es gs) (tested_all (typed_all m (bodies_of items) es gs))
      same_all NoExp = same_none
      same_all (MoreExp e gs) = same_both (parts es Value e) (parts_of es gs) (tested (tree e)) (tested_all (typed_all m (bodies_of items) es gs)) (same_expression Value e) (same_all gs)

  pub same_initializer : IsObjectList m items objects → (fixed : Bool) (s : Scope) → AreListed objects (seen s) → (e : Exp)
      → Same (parts_of_value fixed s e) (Initial (length s.objects - 1) (typed m (bodies_of items) (seen s) e) ∷ tested (typed m (bodies_of items) (seen s) e))
  same_initializer list fixed s h e =
      same_both (Initializing fixed s e ∷ []) (parts (seen s) Value e) (Initial (length s.objects - 1) (typed m (bodies_of items) (seen s) e) ∷ []) (tested (typed m (bodies_of items) (seen s) e))
      (same_one (Initializing fixed s e) (Initial (length s.objects - 1) (typed m (bodies_of items) (seen s) e)) (initializer_to m items objects list s e h) (initializer_from m items objects list s e h) (same_spot list (seen s) h Value e))
      (same_expression list (seen s) h Value e)
