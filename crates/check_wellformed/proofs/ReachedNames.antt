-- Expressions that aren't refused name objects in reach.
use Rattle.std.proofs.Common.{◌≡◌, ℕ, Bool, true, false, ◌||◌, List, [], ◌∷◌, ◌++◌, refl, sym, ◌∙◌, subst, Option, Some, None, is_none, ◌⊎◌, inl, inr, eq-eqb, nat_eq}
use Rattle.std.proofs.lemmas.Bool.{false≢true}
use Rattle.std.proofs.lemmas.List.Folds.{list_any-append}
use Rattle.std.specs.Str.{bytes_eq}
use Rattle.c_core.specs.Tree as t
use Rattle.c_core.specs.Parts.{every_argument}
use Rattle.c_core.specs.Scope.{is_in, is_fixed, is_reached, exp_reaches, reaches}
use Rattle.c_core.specs.declared.number.Spot.{Spot}
use Rattle.c_core.specs.declared.tree.Callee.{Callee}
use Rattle.c_parser.specs.Tree as raw
use Rattle.c_parser.specs.Tree.{Exp, Expr, Node, Number, Char, Var, Index, Unary, Cast, Step, Binary, Logic, Choose, Comma, Assign, Call, Exps, NoExp, MoreExp}
use Rattle.check_rules.specs.Names as kind
use Rattle.check_rules.specs.Names.{Kind, Entry, declared_as, or_built_in, built_in, named}
use Rattle.check_rules.specs.Typed.{typed, typed_node, typed_all, number_named}
use Rattle.check_rules.specs.Parts.{Role, Value, Target, Effect, Part, Expression, Declaring, Naming, Initializing, Returning, Leaving, Labelling, of_cast, parts, parts_in, parts_of, bodies_of, ArmLabelling, CaseConstant}
use Rattle.check_rules.specs.Codes.{is_no_scalar, is_no_element, count}
use Rattle.check_rules.specs.Order.{is_object, object_named, reads, changes, SomeOf, This, Other}
use Rattle.check_wellformed.proofs.Lists.{AllOf, both, all_front, all_behind, first_fails, or_first, or_also}
use Rattle.check_wellformed.proofs.Threads.{Sees, parts_see}
use Rattle.check_wellformed.proofs.Good.{IsGood, If, declared_if}

-- what holds of the object of each declaration in scope holds of the object that a word names
module _ (Q : ℕ → Type 0) where
  abbrev pub OfObject : Kind → Type 0
  OfObject (kind.Object n ty dims fixed) = Q n
  OfObject _ = Unit {0}

  abbrev pub OfEntry : Entry → Type 0
  OfEntry e = OfObject e.kind

  of_name : (x : List ℕ) (es : List Entry) → AllOf OfEntry es → AllOf (λ e. bytes_eq e.name x ≡ true → OfObject e.kind) es
  of_name x [] h = tt
  of_name x (e ∷ es) h = ((λ same. h.0), of_name x es h.1)

  or_built : (d : Option Kind) (b : Option Callee) → If OfObject d → If OfObject (or_built_in d b)
  or_built None None h = tt
  or_built None (Some c) h = tt
  or_built (Some (kind.Object n ty dims fixed)) None h = h
  or_built (Some (kind.Object n ty dims fixed)) (Some c) h = h
  or_built (Some (kind.Function result stated has_body)) None h = tt
  or_built (Some (kind.Function result stated has_body)) (Some c) h = tt
  or_built (Some kind.Closed) None h = tt
  or_built (Some kind.Closed) (Some c) h = tt

  of_named : (x : List ℕ) (es : List Entry) → AllOf OfEntry es → If OfObject (named es x)
  of_named x es h = or_built (declared_as es x) (built_in x) (declared_if OfObject es x (of_name x es h))

  pub of_object_named : (es : List Entry) (n : Node) → AllOf OfEntry es → If OfObject (object_named es n)
  of_object_named es (Var x w) h = of_named x es h
  of_object_named es (Index x w is) h = of_named x es h
  of_object_named es (Number v decimal unsigned longs) h = tt
  of_object_named es (Char v) h = tt
  of_object_named es (Unary op a) h = tt
  of_object_named es (Cast to a) h = tt
  of_object_named es (Step op a) h = tt
  of_object_named es (Binary op a b) h = tt
  of_object_named es (Logic both' a b) h = tt
  of_object_named es (Choose mark e a b) h = tt
  of_object_named es (Comma a b) h = tt
  of_object_named es (Assign op a b) h = tt
  of_object_named es (Call f w gs close) h = tt

  -- of the object that a part names
  abbrev pub OfPart : Part → Type 0
  OfPart (Expression es r (Expr q n)) = If OfObject (object_named es n)
  OfPart part = Unit {0}

  of_one : (es es' : List Entry) (r : Role) (e : Exp) → es' ≡ es → AllOf OfEntry es → OfPart (Expression es' r e)
  of_one es es' r (Expr q n) same h = of_object_named es' n (subst (λ l. AllOf OfEntry l) (sym same) h)

  of_all : (es : List Entry) (ps : List Part) → AllOf (Sees es) ps → AllOf OfEntry es → AllOf OfPart ps
  of_all es [] k h = tt
  of_all es (Expression es' r e ∷ ps) k h = (of_one es es' r e k.0 h, of_all es ps k.1 h)
  of_all es (Declaring fixed s d ∷ ps) k h = absurd k.0
  of_all es (Naming s e p ∷ ps) k h = absurd k.0
  of_all es (Initializing fixed s e ∷ ps) k h = absurd k.0
  of_all es (Returning result p given ∷ ps) k h = absurd k.0
  of_all es (Leaving may p ∷ ps) k h = absurd k.0
  of_all es (Labelling before w p ∷ ps) k h = absurd k.0
  of_all es (ArmLabelling before l p ∷ ps) k h = absurd k.0
  of_all es (CaseConstant es' e ∷ ps) k h = absurd k.0

  pub of_parts : (es : List Entry) (r : Role) (e : Exp) → AllOf OfEntry es → AllOf OfPart (parts es r e)
  of_parts es r e h = of_all es (parts es r e) (parts_see es r e) h

-- ---- an object that isn't touched

module _ (Q : ℕ → Type 0) (o : ℕ) where
  abbrev pub Either : ℕ → Type 0
  Either n = Q n ⊎ (n ≡ o)

  but_one : (x : Option Kind) → If (OfObject Either) x → (is_object o x ≡ true → ⊥) → If (OfObject Q) x
  but_one None h k = tt
  but_one (Some (kind.Object n ty dims fixed)) (inl q) k = q
  but_one (Some (kind.Object n ty dims fixed)) (inr e) k = absurd (k (eq-eqb n o e))
  but_one (Some (kind.Function result stated has_body)) h k = tt
  but_one (Some kind.Closed) h k = tt

  but_one_part : (es : List Entry) (r : Role) (e : Exp) → OfPart Either (Expression es r e) → (reads (is_object o) (Expression es r e) ≡ true → ⊥) → (changes (is_object o) (Expression es r e) ≡ true → ⊥) → OfPart Q (Expression es r e)
  but_one_part es Value (Expr q n) h k l = but_one (object_named es n) h k
  but_one_part es Effect (Expr q n) h k l = but_one (object_named es n) h k
  but_one_part es Target (Expr q n) h k l = but_one (object_named es n) h l

  pub but_untouched : (ps : List Part) → AllOf (OfPart Either) ps → (SomeOf (reads (is_object o)) ps → ⊥) → (SomeOf (changes (is_object o)) ps → ⊥) → AllOf (OfPart Q) ps
  but_untouched [] h k l = tt
  but_untouched (Expression es r e ∷ ps) h k l = (but_one_part es r e h.0 (λ x. k (This x)) (λ x. l (This x)), but_untouched ps h.1 (λ x. k (Other x)) (λ x. l (Other x)))
  but_untouched (Declaring fixed s d ∷ ps) h k l = (tt, but_untouched ps h.1 (λ x. k (Other x)) (λ x. l (Other x)))
  but_untouched (Naming s e p ∷ ps) h k l = (tt, but_untouched ps h.1 (λ x. k (Other x)) (λ x. l (Other x)))
  but_untouched (Initializing fixed s e ∷ ps) h k l = (tt, but_untouched ps h.1 (λ x. k (Other x)) (λ x. l (Other x)))
  but_untouched (Returning result p given ∷ ps) h k l = (tt, but_untouched ps h.1 (λ x. k (Other x)) (λ x. l (Other x)))
  but_untouched (Leaving may p ∷ ps) h k l = (tt, but_untouched ps h.1 (λ x. k (Other x)) (λ x. l (Other x)))
  but_untouched (Labelling before w p ∷ ps) h k l = (tt, but_untouched ps h.1 (λ x. k (Other x)) (λ x. l (Other x)))
  but_untouched (ArmLabelling before label p ∷ ps) h k l = (tt, but_untouched ps h.1 (λ x. k (Other x)) (λ x. l (Other x)))
  but_untouched (CaseConstant es e ∷ ps) h k l = (tt, but_untouched ps h.1 (λ x. k (Other x)) (λ x. l (Other x)))

-- ---- expressions

module _ (p : t.Program) (items : List raw.Item) (entries : List Entry) where
  -- an object in reach
  abbrev pub Reached : List ℕ → ℕ → Type 0
  Reached reach n = is_reached p reach n ≡ true

  pub reached_more : (reach more : List ℕ) (n : ℕ) → Reached reach n → Reached (reach ++ more) n
  reached_more reach more n h = by_fixed (is_fixed p n) h
    where
      by_fixed : (b : Bool) → (b || is_in n reach) ≡ true → (b || is_in n (reach ++ more)) ≡ true
      by_fixed true h = refl
      by_fixed false h = list_any-append (nat_eq n) reach more ∙ or_first (is_in n reach) (is_in n more) h

  pub reached_last : (reach : List ℕ) (n : ℕ) → Reached (reach ++ n ∷ []) n
  reached_last reach n = or_also (is_fixed p n) _ (list_any-append (nat_eq n) reach (n ∷ []) ∙ or_also (is_in n reach) _ (or_first (nat_eq n n) _ (eq-eqb n n refl)))

  scalar_reached : (reach : List ℕ) (o : Option Kind) → If (OfObject (Reached reach)) o → is_none o ≡ false → is_no_scalar o ≡ false → Reached reach (number_named o)
  scalar_reached reach None h n s = absurd (false≢true (sym n))
  scalar_reached reach (Some (kind.Object k ty dims fixed)) h n s = h
  scalar_reached reach (Some (kind.Function result stated has_body)) h n s = absurd (false≢true (sym s))
  scalar_reached reach (Some kind.Closed) h n s = absurd (false≢true (sym s))

  element_reached : (reach : List ℕ) (count : ℕ) (o : Option Kind) → If (OfObject (Reached reach)) o → is_none o ≡ false → is_no_element count o ≡ false → Reached reach (number_named o)
  element_reached reach count None h n s = absurd (false≢true (sym n))
  element_reached reach count (Some (kind.Object k ty dims fixed)) h n s = h
  element_reached reach count (Some (kind.Function result stated has_body)) h n s = absurd (false≢true (sym s))
  element_reached reach count (Some kind.Closed) h n s = absurd (false≢true (sym s))

  -- a part that isn't refused, and names an object in reach if any
  pub record Reaches (reach : List ℕ) (part : Part) : Type 0 where
    pub good : IsGood p items entries part
    pub names : OfPart (Reached reach) part

  pub with_names : (reach : List ℕ) (ps : List Part) → AllOf (IsGood p items entries) ps → AllOf (OfPart (Reached reach)) ps → AllOf (Reaches reach) ps
  with_names reach [] g h = tt
  with_names reach (part ∷ ps) g h = (record { good = g.0; names = h.0 }, with_names reach ps g.1 h.1)

  module _ (reach : List ℕ) where
    mutual
      pub expression_reaches : (es : List Entry) (r : Role) (e : Exp) → AllOf (Reaches reach) (parts es r e) → reaches p reach (typed p.model (bodies_of items) es e) ≡ true
      expression_reaches es r (Expr q n) h = node_reaches es r q n h.0 h.1

      node_reaches : (es : List Entry) (r : Role) (q : Spot) (n : Node) → Reaches reach (Expression es r (Expr q n)) → AllOf (Reaches reach) (parts_in es n) → reaches p reach (typed_node p.model (bodies_of items) es q n) ≡ true
      node_reaches es r q (Number v decimal unsigned longs) g h = refl
      node_reaches es r q (Char v) g h = refl
      node_reaches es r q (Var x w) g h = both (scalar_reached reach (named es x) g.names g.good.fair.named (first_fails _ _ g.good.fair.typed)) refl
      node_reaches es r q (Index x w is) g h = both (element_reached reach (count is) (named es x) g.names g.good.fair.named (first_fails _ _ g.good.fair.typed)) (arguments_reach es is h)
      node_reaches es r q (Unary op a) g h = expression_reaches es Value a h
      node_reaches es r q (Cast to a) g h = expression_reaches es (of_cast to) a h
      node_reaches es r q (Step op a) g h = expression_reaches es Target a h
      node_reaches es r q (Binary op a b) g h =
          both (expression_reaches es Value a (all_front (Reaches reach) (parts es Value a) _ h)) (expression_reaches es Value b (all_behind (Reaches reach) (parts es Value a) _ h))
      node_reaches es r q (Logic both' a b) g h =
          both (expression_reaches es Value a (all_front (Reaches reach) (parts es Value a) _ h)) (expression_reaches es Value b (all_behind (Reaches reach) (parts es Value a) _ h))
      node_reaches es r q (Choose mark e a b) g h =
          let hea = all_front (Reaches reach) (parts es Value e ++ parts es Effect a) _ h in
          let hb = all_behind (Reaches reach) (parts es Value e ++ parts es Effect a) _ h in
          both (expression_reaches es Value e (all_front (Reaches reach) (parts es Value e) _ hea))
          (both (expression_reaches es Effect a (all_behind (Reaches reach) (parts es Value e) _ hea)) (expression_reaches es Effect b hb))
      node_reaches es r q (Comma a b) g h =
          both (expression_reaches es Effect a (all_front (Reaches reach) (parts es Effect a) _ h)) (expression_reaches es Effect b (all_behind (Reaches reach) (parts es Effect a) _ h))
      node_reaches es r q (Assign op a b) g h =
          both (expression_reaches es Target a (all_front (Reaches reach) (parts es Target a) _ h)) (expression_reaches es Value b (all_behind (Reaches reach) (parts es Target a) _ h))
      node_reaches es r q (Call f w gs close) g h = arguments_reach es gs h

      arguments_reach : (es : List Entry) (gs : Exps) → AllOf (Reaches reach) (parts_of es gs) → every_argument (exp_reaches p reach) (typed_all p.model (bodies_of items) es gs) ≡ true
      arguments_reach es NoExp h = refl
      arguments_reach es (MoreExp e gs) h =
          both (expression_reaches es Value e (all_front (Reaches reach) (parts es Value e) _ h)) (arguments_reach es gs (all_behind (Reaches reach) (parts es Value e) _ h))
