-- Expressions of witnesses that aren't refused are well typed.
use Rattle.std.proofs.Common.{◌≡◌, ◌⊎◌, inl, inr, ℕ, Bool, true, false, cond, ◌&&◌, ◌||◌, List, [], ◌∷◌, ◌++◌, Option, Some, None, is_none, refl, sym, subst, ◌∙◌, arith}
use Rattle.std.proofs.lemmas.Bool.{false≢true}
use Rattle.std.proofs.lemmas.List.Elements.{Contains-append_cases, Contains-push_cases}
use Rattle.std.specs.List.{Contains, list_any, slice_get}
use Rattle.std.specs.Str.{bytes_eq}
use Rattle.c_core.specs.Tree as t
use Rattle.c_core.specs.Typing.{is_typed, has_value}
use Rattle.c_core.specs.declared.number.Spot.{Spot}
use Rattle.c_core.specs.declared.tree.Callee.{Callee}
use Rattle.c_core.specs.declared.tree.Object.{Object}
use Rattle.c_parser.specs.Formed.{every_node, every_argument, constant_fits, assignment_fits}
use Rattle.c_parser.specs.Tree.{Exp, Expr, Node, Number, Char, Var, Index, Unary, Cast, Step, Binary, Logic, Choose, Comma, Assign, Call, Exps, NoExp, MoreExp}
use Rattle.c_parser.specs.Witness.{IsWitnessExpression, is_effectless, are_effectless}
use Rattle.check_rules.specs.Names as kind
use Rattle.check_rules.specs.Names.{Kind, Entry, later, declared_as, or_built_in, built_in, named}
use Rattle.check_rules.specs.Codes.{word_of, names_nothing, calls_bodiless, mistyped}
use Rattle.check_rules.specs.Order.{SomeOf, This, Other, SomePair, OfFirst, OfOthers, Changes, AreUnsequenced, IsUnordered, arguments, is_object, changes}
use Rattle.check_rules.specs.Parts.{Role, Value, Target, Effect, Part, Expression, parts, parts_in, parts_of}
use Rattle.check_wellformed.proofs.Lists.{AllOf, all_then, all_front, all_behind, all_weaker, left, right, first_fails, second_fails}
use Rattle.check_wellformed.proofs.Known.{IsSound}
use Rattle.check_wellformed.proofs.Good.{IsGood, value_of_part}
use Rattle.check_wellformed.proofs.TypedExpressions.{typed_fits}
use Rattle.way_constraint.specs.Constraints.{IsTyped, entries, entry_at, is_among}
use Rattle.way_invariants.proofs.SpelledConstants.{constants_fit_in}

-- ---- names in scope stand for something

found : (b : Bool) (k : Kind) (d : Option Kind) (behind : Bool) → (behind ≡ true → is_none d ≡ false) → (b || behind) ≡ true → is_none (later (cond b (Some k) None) d) ≡ false
found true k None behind f h = refl
found true k (Some (kind.Object n ty dims fixed)) behind f h = refl
found true k (Some (kind.Function result stated has_body)) behind f h = refl
found true k (Some kind.Closed) behind f h = refl
found false k None behind f h = f h
found false k (Some l) behind f h = refl

declared : (x : List ℕ) (es : List Entry) → list_any (λ (e : Entry). bytes_eq e.name x) es ≡ true → is_none (declared_as es x) ≡ false
declared x [] h = absurd (false≢true h)
declared x (e ∷ es) h = found (bytes_eq e.name x) e.kind (declared_as es x) (list_any (λ (e : Entry). bytes_eq e.name x) es) (declared x es) h

built_or : (d : Option Kind) (b : Option Callee) → is_none d ≡ false → is_none (or_built_in d b) ≡ false
built_or None b h = absurd (false≢true (sym h))
built_or (Some (kind.Object n ty dims fixed)) b h = refl
built_or (Some (kind.Function result stated has_body)) None h = refl
built_or (Some (kind.Function result stated has_body)) (Some c) h = refl
built_or (Some kind.Closed) None h = refl
built_or (Some kind.Closed) (Some c) h = refl

names_something : (es : List Entry) (w : Option (List ℕ)) → is_among es w ≡ true → names_nothing es w ≡ false
names_something es None h = refl
names_something es (Some x) h = built_or (declared_as es x) (built_in x) (declared x es h)

-- ---- operands are in order where nothing is stored and no function is called

none_holds : {A : Type 0} (test : A → Bool) (xs : List A) → list_any test xs ≡ false → AllOf (λ x. test x ≡ false) xs
none_holds test [] h = tt
none_holds test (x ∷ xs) h = (first_fails (test x) _ h, none_holds test xs (second_fails (test x) _ h))

one_of_all : {A : Type 0} (P : A → Type 0) (xs : List A) → AllOf P xs → (x : A) → Contains xs x → P x
one_of_all P [] h x c = absurd (omega (arith, c))
one_of_all P (y ∷ xs) h x c = by (λ k. one_of_all P xs h.1 x k) (Contains-append_cases (y ∷ []) xs x c)
  where
    first : Contains [] x ⊎ (y ≡ x) → P x
    first (inl k) = absurd (omega (arith, k))
    first (inr e) = subst P e h.0

    by : (Contains xs x → P x) → Contains (y ∷ []) x ⊎ Contains xs x → P x
    by later (inl k) = first (Contains-push_cases [] y x k)
    by later (inr k) = later k

-- an operand is there for its value or its effect
abbrev IsRead : Role → Type 0
IsRead Target = ⊥
IsRead _ = Unit {0}

module _ (p : t.Program) (numbers : List ℕ) where
  abbrev es : List Entry
  es = entries p.objects numbers

  record Checked (part : Part) : Type 0 where
    good : IsGood p [] [] part
    changes_none : (test : Option Kind → Bool) → changes test part ≡ false

  unchanged : (test : Option Kind → Bool) (ps : List Part) → AllOf Checked ps → SomeOf (changes test) ps → ⊥
  unchanged test [] h s = elim s [ ]
  unchanged test (x ∷ ps) h (This e) = false≢true (sym (h.0.changes_none test) ∙ e)
  unchanged test (x ∷ ps) h (Other s) = unchanged test ps h.1 s

  none_changes : (o : ℕ) (ps : List Part) → AllOf Checked ps → Changes p.model [] o ps → ⊥
  none_changes o ps h (inl s) = unchanged (is_object o) ps h s
  none_changes o ps h (inr x) = absurd (cc x.its)

  sequenced : (ps qs : List Part) → AllOf Checked ps → AllOf Checked qs → AreUnsequenced p.model [] ps qs → ⊥
  sequenced ps qs h k (inl c) = none_changes c.object ps h c.changed
  sequenced ps qs h k (inr (inl c)) = none_changes c.object qs k c.changed
  sequenced ps qs h k (inr (inr c)) = absurd (omega (arith, c.0.below))

  no_pair : SomePair p.model [] [] → ⊥
  no_pair h = elim h [ ]

  ordered : (pss : List (List Part)) → AllOf (AllOf Checked) pss → SomePair p.model [] pss → ⊥
  ordered [] h x = no_pair x
  ordered (ps ∷ pss) h (OfFirst {qs = qs} c u) = sequenced ps qs h.0 (one_of_all (AllOf Checked) pss h.1 qs c) u
  ordered (ps ∷ pss) h (OfOthers x) = ordered pss h.1 x

  -- ---- the parts of an expression of a witness

  sound_at : (n : ℕ) (o : Option Object) → slice_get p.objects n ≡ o → AllOf (IsSound p.objects [] []) (entry_at n o)
  sound_at n None e = tt
  sound_at n (Some o) e = (record { object = o; at = e; type = refl; dims = refl; fixed = refl }, tt)

  sound : (ns : List ℕ) → AllOf (IsSound p.objects [] []) (entries p.objects ns)
  sound [] = tt
  sound (n ∷ ns) = all_then (IsSound p.objects [] []) (entry_at n (slice_get p.objects n)) _ (sound_at n (slice_get p.objects n) refl) (sound ns)

  abbrev known : Node → Bool
  known n = is_among es (word_of n)

  record Fit (e : Exp) : Type 0 where
    effectless : is_effectless e ≡ true
    scope : every_node known e ≡ true
    constants : every_node constant_fits e ≡ true

  record FitAll (is : Exps) : Type 0 where
    effectless : are_effectless is ≡ true
    scope : every_argument known is ≡ true
    constants : every_argument constant_fits is ≡ true

  fit_first : (a b : Exp) → (is_effectless a && is_effectless b) ≡ true → (every_node known a && every_node known b) ≡ true → (every_node constant_fits a && every_node constant_fits b) ≡ true → Fit a
  fit_first a b e s c = record { effectless = left (is_effectless a) _ e; scope = left (every_node known a) _ s; constants = left (every_node constant_fits a) _ c }

  fit_second : (a b : Exp) → (is_effectless a && is_effectless b) ≡ true → (every_node known a && every_node known b) ≡ true → (every_node constant_fits a && every_node constant_fits b) ≡ true → Fit b
  fit_second a b e s c = record { effectless = right (is_effectless a) _ e; scope = right (every_node known a) _ s; constants = right (every_node constant_fits a) _ c }

  abbrev Types : List Part → Type 0
  Types ps = AllOf (λ x. mistyped p.model [] x ≡ false) ps

  reads : (r : Role) → IsRead r → (q : Spot) (n : Node) (test : Option Kind → Bool) → changes test (Expression es r (Expr q n)) ≡ false
  reads Value x q n test = refl
  reads Effect x q n test = refl
  reads Target x q n test = absurd x

  head : (r : Role) → IsRead r → (q : Spot) (n : Node) → Fit (Expr q n) → mistyped p.model [] (Expression es r (Expr q n)) ≡ false →
      calls_bodiless p.model [] es n ≡ false → assignment_fits n ≡ true → (IsUnordered p.model [] (Expression es r (Expr q n)) → ⊥) → Checked (Expression es r (Expr q n))
  head r x q n h t b a o = record {
    good = record {
      fair = record { named = names_something es (word_of n) (left (known n) _ h.scope); once = refl; typed = t; sized = refl; bodied = b; fits = refl; ordered = o };
      knows = sound numbers;
      placed = tt;
      character = left (constant_fits n) _ h.constants;
      assignment = a;
    };
    changes_none = reads r x q n;
  }

  nothing_apart : SomePair p.model [] [] ⊎ ⊥ → ⊥
  nothing_apart (inl h) = no_pair h
  nothing_apart (inr h) = h

  apart : (pss : List (List Part)) → AllOf (AllOf Checked) pss → SomePair p.model [] pss ⊎ ⊥ → ⊥
  apart pss h (inl x) = ordered pss h x
  apart pss h (inr x) = x

  mutual
    goods : (r : Role) → IsRead r → (e : Exp) → Fit e → Types (parts es r e) → AllOf Checked (parts es r e)
    goods r x (Expr q n) h t = node_goods r x q n h t.0 t.1

    node_goods : (r : Role) → IsRead r → (q : Spot) (n : Node) → Fit (Expr q n) → mistyped p.model [] (Expression es r (Expr q n)) ≡ false → Types (parts_in es n) → AllOf Checked (parts es r (Expr q n))
    node_goods r x q (Number v decimal unsigned longs) h t u = (head r x q _ h t refl refl nothing_apart, tt)
    node_goods r x q (Char v) h t u = (head r x q _ h t refl refl nothing_apart, tt)
    node_goods r x q (Var y w) h t u = (head r x q _ h t refl refl nothing_apart, tt)
    node_goods r x q (Index y w is) h t u =
        let f : FitAll is = record { effectless = h.effectless; scope = right (known (Index y w is)) _ h.scope; constants = h.constants } in
        let all = goods_of is f u in
        (head r x q _ h t refl refl (apart (arguments es is) all.1), all.0)
    node_goods r x q (Unary op a) h t u =
        let f : Fit a = record { effectless = h.effectless; scope = h.scope; constants = h.constants } in
        (head r x q _ h t refl refl nothing_apart, goods Value tt a f u)
    node_goods r x q (Cast None a) h t u = absurd (false≢true h.effectless)
    node_goods r x q (Cast (Some ty) a) h t u =
        let f : Fit a = record { effectless = h.effectless; scope = h.scope; constants = h.constants } in
        (head r x q _ h t refl refl nothing_apart, goods Value tt a f u)
    node_goods r x q (Binary op a b) h t u =
        let ha = goods Value tt a (fit_first a b h.effectless h.scope h.constants) (all_front _ (parts es Value a) _ u) in
        let hb = goods Value tt b (fit_second a b h.effectless h.scope h.constants) (all_behind _ (parts es Value a) _ u) in
        (head r x q _ h t refl refl (apart (parts es Value a ∷ parts es Value b ∷ []) (ha, (hb, tt))), all_then Checked (parts es Value a) _ ha hb)
    node_goods r x q (Logic both a b) h t u =
        let ha = goods Value tt a (fit_first a b h.effectless h.scope h.constants) (all_front _ (parts es Value a) _ u) in
        let hb = goods Value tt b (fit_second a b h.effectless h.scope h.constants) (all_behind _ (parts es Value a) _ u) in
        (head r x q _ h t refl refl nothing_apart, all_then Checked (parts es Value a) _ ha hb)
    node_goods r x q (Choose mark e a b) h t u =
        let uea = all_front _ (parts es Value e ++ parts es Effect a) _ u in
        let eb = right (is_effectless e) _ h.effectless in
        let sb = right (every_node known e) _ h.scope in
        let cb = right (every_node constant_fits e) _ h.constants in
        let f : Fit e = record { effectless = left (is_effectless e) _ h.effectless; scope = left (every_node known e) _ h.scope; constants = left (every_node constant_fits e) _ h.constants } in
        let he = goods Value tt e f (all_front _ (parts es Value e) _ uea) in
        let ha = goods Effect tt a (fit_first a b eb sb cb) (all_behind _ (parts es Value e) _ uea) in
        let hb = goods Effect tt b (fit_second a b eb sb cb) (all_behind _ (parts es Value e ++ parts es Effect a) _ u) in
        (head r x q _ h t refl refl nothing_apart, all_then Checked (parts es Value e ++ parts es Effect a) _ (all_then Checked (parts es Value e) _ he ha) hb)
    node_goods r x q (Step op a) h t u = absurd (false≢true h.effectless)
    node_goods r x q (Comma a b) h t u = absurd (false≢true h.effectless)
    node_goods r x q (Assign op a b) h t u = absurd (false≢true h.effectless)
    node_goods r x q (Call f w gs close) h t u = absurd (false≢true h.effectless)

    goods_of : (is : Exps) → FitAll is → Types (parts_of es is) → AllOf Checked (parts_of es is) × AllOf (AllOf Checked) (arguments es is)
    goods_of NoExp f u = (tt, tt)
    goods_of (MoreExp e is) f u =
        let one : Fit e = record { effectless = left (is_effectless e) _ f.effectless; scope = left (every_node known e) _ f.scope; constants = left (every_node constant_fits e) _ f.constants } in
        let rest : FitAll is = record { effectless = right (is_effectless e) _ f.effectless; scope = right (every_node known e) _ f.scope; constants = right (every_node constant_fits e) _ f.constants } in
        let h = goods Value tt e one (all_front _ (parts es Value e) _ u) in
        let k = goods_of is rest (all_behind _ (parts es Value e) _ u) in
        (all_then Checked (parts es Value e) _ h k.0, (h, k.1))

  -- a typed expression of a witness is one of the program, and not void
  pub test_fits : (text : List ℕ) (e : Exp) (tree : t.Exp) → IsWitnessExpression text e → IsTyped p.model es e tree → (is_typed p tree ≡ true) × (has_value tree ≡ true)
  test_fits text e tree h k =
      let all = goods Value tt e (record { effectless = h.effectless; scope = k.scope; constants = constants_fit_in text e h }) (none_holds (mistyped p.model []) (parts es Value e) k.typing) in
      let good = all_weaker Checked (IsGood p [] []) (λ x c. c.good) (parts es Value e) all in
      subst (λ (x : t.Exp). (is_typed p x ≡ true) × (has_value x ≡ true)) (sym k.made)
      (typed_fits p [] [] (λ a b c. absurd (omega (arith, c))) (λ f i. absurd (false≢true i)) es Value e good, value_of_part p [] [] es e good)
