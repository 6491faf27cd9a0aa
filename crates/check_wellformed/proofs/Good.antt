-- What is known of each part of a source that isn't refused, beside its program.
use Rattle.std.proofs.Common.{◌≡◌, ℕ, Bool, true, false, cond, List, [], ◌∷◌, length, refl, sym, subst, Option, Some, None, is_some, is_none}
use Rattle.std.proofs.lemmas.Bool.{false≢true}
use Rattle.std.proofs.lemmas.Slice.Eq.{bytes_eq-Decides}
use Rattle.std.specs.List.{Contains, slice_get, position_or_len}
use Rattle.std.specs.Str.{bytes_eq}
use Rattle.c_core.specs.Tree as t
use Rattle.c_core.specs.Parts.{type_of}
use Rattle.c_core.specs.Typing.{has_value, is_target, has_input}
use Rattle.c_core.specs.declared.number.IntType.{IntType}
use Rattle.c_core.specs.declared.number.Spot.{Spot}
use Rattle.c_core.specs.declared.tree.Callee.{Callee}
use Rattle.c_core.specs.declared.tree.Callee.TheVariants as callee
use Rattle.c_parser.specs.Tree as raw
use Rattle.c_parser.specs.Tree.{Exp, Expr, Node, Number, Char, Var, Index, Unary, Cast, Step, Binary, Logic, Choose, Comma, Assign, Call}
use Rattle.c_parser.specs.Formed.{constant_fits, assignment_fits}
use Rattle.check_rules.specs.Names as kind
use Rattle.check_rules.specs.Names.{Kind, Entry, entry, BuiltIn, later, declared_as, or_built_in, callee_among, built_ins, built_in, named}
use Rattle.check_rules.specs.Typed.{typed}
use Rattle.check_rules.specs.Parts.{Value, Target, Part, parts, bodies_of}
use Rattle.check_rules.specs.Codes.{closed_names, count_defined, is_place}
use Rattle.check_wellformed.proofs.Lists.{AllOf, second_fails, not_false}
use Rattle.check_wellformed.proofs.Fair.{IsFair}
use Rattle.check_wellformed.proofs.Passing.{Passes}
use Rattle.check_wellformed.proofs.Known.{IsThere, IsKind, IsSound, Knows, IsPlaced}

pub not_none : {A : Type 0} (o : Option A) → is_none o ≡ false → is_some o ≡ true
not_none None h = absurd (false≢true (sym h))
not_none (Some x) h = refl

-- ---- built-in functions

abbrev pub IsBuilt : Callee → Type 0
IsBuilt (callee.Defined f) = ⊥
IsBuilt (callee.Input ty) = has_input ty ≡ true
IsBuilt _ = Unit {0}

abbrev pub IsBuiltIf : Option Callee → Type 0
IsBuiltIf None = Unit {0}
IsBuiltIf (Some c) = IsBuilt c

found : (b : Bool) (c : Callee) (o : Option Callee) → IsBuilt c → IsBuiltIf o → IsBuiltIf (cond b (Some c) o)
found true c o h k = h
found false c o h k = k

among_built : (bs : List BuiltIn) (x : List ℕ) → AllOf (λ b. IsBuilt b.callee) bs → IsBuiltIf (callee_among bs x)
among_built [] x h = tt
among_built (b ∷ bs) x h = found (bytes_eq b.name x) b.callee (callee_among bs x) h.0 (among_built bs x h.1)

pub is_built : (x : List ℕ) → IsBuiltIf (built_in x)
is_built x =
    among_built built_ins x (refl, (refl, (refl, (refl, (refl, (refl, (refl, (refl, (refl, (refl, (refl, (refl, (tt, (tt, (tt, tt)))))))))))))))

-- ---- what a word stands for

module _ (P : Kind → Type 0) where
  abbrev pub If : Option Kind → Type 0
  If None = Unit {0}
  If (Some k) = P k

  later_if : (a b : Option Kind) → If a → If b → If (later a b)
  later_if a None h k = h
  later_if None (Some l) h k = k
  later_if (Some k') (Some (kind.Object n ty dims fixed)) h k = k
  later_if (Some k') (Some (kind.Function result stated has_body)) h k = k
  later_if (Some k') (Some kind.Closed) h k = h

  chosen_if : (b : Bool) (k : Kind) → (b ≡ true → P k) → If (cond b (Some k) None)
  chosen_if true k h = h refl
  chosen_if false k h = tt

  pub declared_if : (es : List Entry) (x : List ℕ) → AllOf (λ e. bytes_eq e.name x ≡ true → P e.kind) es → If (declared_as es x)
  declared_if [] x h = tt
  declared_if (e ∷ es) x h =
      later_if (cond (bytes_eq e.name x) (Some e.kind) None) (declared_as es x) (chosen_if (bytes_eq e.name x) e.kind h.0) (declared_if es x h.1)

module _ (p : t.Program) (items : List raw.Item) (entries : List Entry) where
  pub record IsGood (part : Part) : Type 0 where
    pub fair : IsFair p.model items part
    pub knows : Knows p.objects entries (closed_names items) part
    pub placed : IsPlaced p.objects entries (closed_names items) p.model (bodies_of items) part
    pub character : Passes constant_fits part
    pub assignment : Passes assignment_fits part

  -- a function with a body, and what is known of its name
  pub record IsCalled (f : List ℕ) : Type 0 where
    pub function : t.Function
    pub at : slice_get p.functions (position_or_len (bytes_eq f) (bodies_of items)) ≡ Some function
    pub types : List IntType
    pub stands : Contains entries (entry f (kind.Function function.result (Some types) true))
    pub many : length types ≡ length function.params
    pub defined : count_defined items f ≡ Some (length types)

  abbrev pub Stands : List ℕ → Option Kind → Type 0
  Stands x o = If (IsKind p.objects entries (closed_names items) x) o

  of_name : (x : List ℕ) (es : List Entry) → AllOf (IsSound p.objects entries (closed_names items)) es → AllOf (λ e. bytes_eq e.name x ≡ true → IsKind p.objects entries (closed_names items) x e.kind) es
  of_name x [] h = tt
  of_name x (e ∷ es) h =
      ((λ same. subst (λ y. IsKind p.objects entries (closed_names items) y e.kind) ((bytes_eq-Decides e.name x).0 same) h.0), of_name x es h.1)

  -- what the declarations in scope make of a word is so
  pub declared_stands : (x : List ℕ) (es : List Entry) → AllOf (IsSound p.objects entries (closed_names items)) es → Stands x (declared_as es x)
  declared_stands x es h = declared_if (IsKind p.objects entries (closed_names items) x) es x (of_name x es h)

  -- what is known of an object
  abbrev pub IsObject : Kind → Type 0
  IsObject (kind.Object n ty dims fixed) = IsThere p.objects n ty dims fixed
  IsObject _ = Unit {0}

  object_or_built_in : (x : List ℕ) (d : Option Kind) (b : Option Callee) → Stands x d → If IsObject (or_built_in d b)
  object_or_built_in x None None h = tt
  object_or_built_in x None (Some c) h = tt
  object_or_built_in x (Some (kind.Object n ty dims fixed)) b h = h
  object_or_built_in x (Some (kind.Function result stated has_body)) None h = tt
  object_or_built_in x (Some (kind.Function result stated has_body)) (Some c) h = tt
  object_or_built_in x (Some kind.Closed) None h = tt
  object_or_built_in x (Some kind.Closed) (Some c) h = tt

  pub named_object : (x : List ℕ) (es : List Entry) → AllOf (IsSound p.objects entries (closed_names items)) es → If IsObject (named es x)
  named_object x es h = object_or_built_in x (declared_as es x) (built_in x) (declared_stands x es h)

  -- ---- the head of an expression

  pub value_of_part : (es : List Entry) (e : Exp) → AllOf IsGood (parts es Value e) → has_value (typed p.model (bodies_of items) es e) ≡ true
  value_of_part es (Expr q n) h = not_none (type_of (typed p.model (bodies_of items) es (Expr q n))) (second_fails _ _ h.0.fair.typed)

  placed_target : (es : List Entry) (q : Spot) (n : Node) → is_place n ≡ true → is_target (typed p.model (bodies_of items) es (Expr q n)) ≡ true
  placed_target es q (Var x w) h = refl
  placed_target es q (Index x w is) h = refl
  placed_target es q (Number v decimal unsigned longs) h = absurd (false≢true h)
  placed_target es q (Char v) h = absurd (false≢true h)
  placed_target es q (Unary op a) h = absurd (false≢true h)
  placed_target es q (Cast to a) h = absurd (false≢true h)
  placed_target es q (Step op a) h = absurd (false≢true h)
  placed_target es q (Binary op a b) h = absurd (false≢true h)
  placed_target es q (Logic both a b) h = absurd (false≢true h)
  placed_target es q (Choose mark e a b) h = absurd (false≢true h)
  placed_target es q (Comma a b) h = absurd (false≢true h)
  placed_target es q (Assign op a b) h = absurd (false≢true h)
  placed_target es q (Call f w gs close) h = absurd (false≢true h)

  pub target_of_part : (es : List Entry) (e : Exp) → AllOf IsGood (parts es Target e) → is_target (typed p.model (bodies_of items) es e) ≡ true
  target_of_part es (Expr q n) h = placed_target es q n (not_false (is_place n) (second_fails _ _ h.0.fair.typed))
