-- Parts of a source, and the full expressions that a typed program and the kept values hold of them.
use Rattle.std.proofs.Common.{◌≡◌, ◌⊎◌, inl, inr, ℕ, Bool, true, false, ◌||◌, List, [], ◌∷◌, ◌++◌, length, Option, Some, None, refl, ap, sym, subst, ◌∙◌}
use Rattle.std.specs.Prelude.{◌-◌}
use Rattle.std.specs.List.{list_any}
use Rattle.std.proofs.lemmas.Grind.{flat_map-append}
use Rattle.std.proofs.lemmas.List.{append-nil}
use Rattle.c_core.specs.Tree as t
use Rattle.c_core.specs.declared.number.DataModel.{DataModel}
use Rattle.c_core.specs.declared.number.Spot.{Spot}
use Rattle.c_core.specs.declared.tree.Object.{Object}
use Rattle.c_parser.specs.Tree as raw
use Rattle.c_parser.specs.Tree.{Exp, Expr, Exps, NoExp, MoreExp, exps}
use Rattle.check_rules.specs.Names.{Entry}
use Rattle.check_rules.specs.Scopes.{Scope, seen}
use Rattle.check_rules.specs.Typed.{typed, typed_all}
use Rattle.check_rules.specs.Parts.{Value, Role, Part, Expression, Declaring, Naming, Initializing, Returning, Leaving, Labelling, bodies_of, parts, parts_of_value, ArmLabelling, CaseConstant, parts_of}
use Rattle.check_rules.specs.Order.{IsUnordered}
use Rattle.check_rules.specs.Kept as rules
use Rattle.check_rules.specs.Kept.{kept_of_part, kept_of_parts, kept_sizes}
use Rattle.check_sequencing.specs.declared.effect.Effect.{Effect}
use Rattle.check_sequencing.specs.Bodies.{Full, full, effects_of_fulls, tested_fulls, tests_of}
use Rattle.check_sequencing.specs.Typed.{effects, effects_all, tested, tested_all}
use Rattle.check_unsequenced.specs.PartEffects.{AreListed, AreListedParts, NoPart, OnePart, IsListedPart, IsObjectList, count, effects_of_part, effects_of_parts, is_stored}
use Rattle.check_unsequenced.specs.PartsFound.{AreTestsOf, OneFound, OneUnordered}
use Rattle.check_unsequenced.proofs.PartTests.{any_append, or_none}
use Rattle.check_unsequenced.proofs.TypedEffects.{effects_of_all, effects_of_expression}
use Rattle.check_unsequenced.proofs.SameTests.{found_cases, found_left, found_right, none_in, same_both, same_expression, same_initializer, same_none, same_other, unordered_cases, unordered_left, unordered_right}
use Rattle.check_wellformed.proofs.Lists.{AllOf}
use Rattle.check_wellformed.proofs.Threads.{Sees, arguments_see, parts_see}
use Rattle.check_unsequenced.specs.Bodies.{kept_full, kept_fulls}

crossed : (f k g l : Bool) → ((f || k) || (g || l)) ≡ ((f || g) || (k || l))
crossed true k g l = refl
crossed false true true l = refl
crossed false true false l = refl
crossed false false g l = refl

joined : (w a b f g k l fg kl : Bool) → w ≡ (a || b) → a ≡ (f || k) → b ≡ (g || l) → fg ≡ (f || g) → kl ≡ (k || l) → w ≡ (fg || kl)
joined w a b f g k l fg kl e x y p q =
    e ∙ ap (λ z. z || b) x ∙ ap (λ z. (f || k) || z) y ∙ crossed f k g l ∙ ap (λ z. z || (k || l)) (sym p) ∙ ap (λ z. fg || z) (sym q)

pub map_append : (ks ls : List rules.Kept) → kept_fulls (ks ++ ls) ≡ kept_fulls ks ++ kept_fulls ls
map_append [] ls = refl
map_append (k ∷ ks) ls = ap (λ fs. kept_full k ∷ fs) (map_append ks ls)

-- ---- the parts in front and those behind are listed

pub listed_front : (objects : List Object) (ps qs : List Part) → AreListedParts objects (ps ++ qs) → AreListedParts objects ps
listed_front objects [] qs h = NoPart
listed_front objects (p ∷ ps) qs (OnePart x h) = OnePart x (listed_front objects ps qs h)

pub listed_behind : (objects : List Object) (ps qs : List Part) → AreListedParts objects (ps ++ qs) → AreListedParts objects qs
listed_behind objects [] qs h = h
listed_behind objects (p ∷ ps) qs (OnePart x h) = listed_behind objects ps qs h

first_listed : (objects : List Object) (p : Part) (ps : List Part) → AreListedParts objects (p ∷ ps) → IsListedPart objects p
first_listed objects p ps (OnePart x h) = x

names_listed : (objects : List Object) (es : List Entry) (r : Role) (e : Exp) → AreListedParts objects (parts es r e) → AreListed objects es
names_listed objects es r (Expr p n) h = first_listed objects (Expression es r (Expr p n)) _ h

module _ (m : DataModel) (items : List raw.Item) (objects : List Object) where
  abbrev pub effs : List Part → List Effect
  effs ps = effects_of_parts m items objects ps

  abbrev pub done : List Full → List Effect
  done fs = effects_of_fulls objects (count m items objects) fs

  abbrev pub kept_of : List Part → List Full
  kept_of ps = kept_fulls (kept_of_parts m (bodies_of items) ps)

  abbrev pub Found : List Full → Spot → Type 0
  Found fs p = OneFound m items objects (tested_fulls fs) p

  abbrev pub Unordered : List Part → Spot → Type 0
  Unordered ps p = OneUnordered m items objects ps p

  -- these parts are unordered where these full expressions or those are found
  pub record AreFound (ps : List Part) (fs ks : List Full) : Type 0 where
    pub to : (p : Spot) → Unordered ps p → Found fs p ⊎ Found ks p
    pub typed : (p : Spot) → Found fs p → Unordered ps p
    pub kept : (p : Spot) → Found ks p → Unordered ps p

  -- these full expressions, with those that are kept of the parts, do what the parts do, and are found where they are unordered
  pub record Match (ps : List Part) (fs : List Full) : Type 0 where
    pub effects : (g : Effect → Bool) → list_any g (effs ps) ≡ (list_any g (done fs) || list_any g (done (kept_of ps)))
    pub tests : IsObjectList m items objects → AreListedParts objects ps → AreFound ps fs (kept_of ps)

  -- ---- one behind the other

  any_effs : (g : Effect → Bool) (ps qs : List Part) → list_any g (effs (ps ++ qs)) ≡ (list_any g (effs ps) || list_any g (effs qs))
  any_effs g ps qs = ap (list_any g) (flat_map-append (effects_of_part m items objects) ps qs) ∙ any_append g (effs ps) (effs qs)

  any_done : (g : Effect → Bool) (fs ks : List Full) → list_any g (done (fs ++ ks)) ≡ (list_any g (done fs) || list_any g (done ks))
  any_done g fs ks =
      ap (list_any g) (flat_map-append (λ (f : Full). effects objects (count m items objects) false f.value) fs ks) ∙ any_append g (done fs) (done ks)

  kept_append : (ps qs : List Part) → kept_of (ps ++ qs) ≡ kept_of ps ++ kept_of qs
  kept_append ps qs =
      ap kept_fulls (flat_map-append (kept_of_part m (bodies_of items)) ps qs) ∙ map_append (kept_of_parts m (bodies_of items) ps) (kept_of_parts m (bodies_of items) qs)

  pub full_left : (fs ks : List Full) (p : Spot) → Found fs p → Found (fs ++ ks) p
  full_left fs ks p o = subst (λ ts. OneFound m items objects ts p) (sym (flat_map-append tests_of fs ks)) (found_left m items objects (tested_fulls fs) (tested_fulls ks) p o)

  pub full_right : (fs ks : List Full) (p : Spot) → Found ks p → Found (fs ++ ks) p
  full_right fs ks p o = subst (λ ts. OneFound m items objects ts p) (sym (flat_map-append tests_of fs ks)) (found_right m items objects (tested_fulls fs) (tested_fulls ks) p o)

  pub full_cases : (fs ks : List Full) (p : Spot) → Found (fs ++ ks) p → Found fs p ⊎ Found ks p
  full_cases fs ks p o = found_cases m items objects (tested_fulls fs) (tested_fulls ks) p (subst (λ ts. OneFound m items objects ts p) (flat_map-append tests_of fs ks) o)

  left_is : (fs gs ks ls : List Full) (p : Spot) → Found fs p ⊎ Found ks p → Found (fs ++ gs) p ⊎ Found (ks ++ ls) p
  left_is fs gs ks ls p (inl o) = inl (full_left fs gs p o)
  left_is fs gs ks ls p (inr o) = inr (full_left ks ls p o)

  right_is : (fs gs ks ls : List Full) (p : Spot) → Found gs p ⊎ Found ls p → Found (fs ++ gs) p ⊎ Found (ks ++ ls) p
  right_is fs gs ks ls p (inl o) = inl (full_right fs gs p o)
  right_is fs gs ks ls p (inr o) = inr (full_right ks ls p o)

  pub found_both : (ps qs : List Part) (fs gs ks ls : List Full) → AreFound ps fs ks → AreFound qs gs ls → AreFound (ps ++ qs) (fs ++ gs) (ks ++ ls)
  found_both ps qs fs gs ks ls x y = record {
    to = λ p o. elim (unordered_cases m items objects ps qs p o) as (λ _. Found (fs ++ gs) p ⊎ Found (ks ++ ls) p) [
      | inl u ↦ left_is fs gs ks ls p (x.to p u)
      | inr u ↦ right_is fs gs ks ls p (y.to p u)
    ];
    typed = λ p o. elim (full_cases fs gs p o) as (λ _. Unordered (ps ++ qs) p) [
      | inl u ↦ unordered_left m items objects ps qs p (x.typed p u)
      | inr u ↦ unordered_right m items objects ps qs p (y.typed p u)
    ];
    kept = λ p o. elim (full_cases ks ls p o) as (λ _. Unordered (ps ++ qs) p) [
      | inl u ↦ unordered_left m items objects ps qs p (x.kept p u)
      | inr u ↦ unordered_right m items objects ps qs p (y.kept p u)
    ];
  }

  pub both : {ps qs : List Part} {fs gs : List Full} → Match ps fs → Match qs gs → Match (ps ++ qs) (fs ++ gs)
  both {ps} {qs} {fs} {gs} x y = record {
    effects = λ g.
        joined (list_any g (effs (ps ++ qs))) (list_any g (effs ps)) (list_any g (effs qs)) (list_any g (done fs)) (list_any g (done gs)) (list_any g (done (kept_of ps))) (list_any g (done (kept_of qs))) (list_any g (done (fs ++ gs))) (list_any g (done (kept_of (ps ++ qs))))
        (any_effs g ps qs) (x.effects g) (y.effects g) (any_done g fs gs) (ap (λ ks. list_any g (done ks)) (kept_append ps qs) ∙ any_done g (kept_of ps) (kept_of qs));
    tests = λ list h.
        subst (AreFound (ps ++ qs) (fs ++ gs)) (sym (kept_append ps qs))
        (found_both ps qs fs gs (kept_of ps) (kept_of qs) (x.tests list (listed_front objects ps qs h)) (y.tests list (listed_behind objects ps qs h)));
  }

  -- ---- none

  pub found_none : AreFound [] [] []
  found_none = record { to = λ p o. absurd (none_in o.part o.among); typed = λ p o. absurd (none_in o.test o.among); kept = λ p o. absurd (none_in o.test o.among) }

  pub none : Match [] []
  none = record { effects = λ g. refl; tests = λ list h. found_none }

  -- ---- by what is kept, and by the tests

  of_tests : (ps : List Part) (fs ks : List Full) → AreTestsOf m items objects ps (tested_fulls fs ++ tested_fulls ks) → AreFound ps fs ks
  of_tests ps fs ks a = record {
    to = λ p o. found_cases m items objects (tested_fulls fs) (tested_fulls ks) p (a.to p o);
    typed = λ p o. a.from p (found_left m items objects (tested_fulls fs) (tested_fulls ks) p o);
    kept = λ p o. a.from p (found_right m items objects (tested_fulls fs) (tested_fulls ks) p o);
  }

  by_tests : (ps : List Part) (fs ks : List Full) → kept_of ps ≡ ks
      → ((g : Effect → Bool) → list_any g (effs ps) ≡ (list_any g (done fs) || list_any g (done ks)))
      → (IsObjectList m items objects → AreListedParts objects ps → AreTestsOf m items objects ps (tested_fulls fs ++ tested_fulls ks)) → Match ps fs
  by_tests ps fs ks e f a = record {
    effects = λ g. f g ∙ ap (λ ls. list_any g (done fs) || list_any g (done ls)) (sym e);
    tests = λ list h. subst (AreFound ps fs) (sym e) (of_tests ps fs ks (a list h));
  }

  -- a part of another kind
  pub found_other : (part : Part) → (IsUnordered m items part → ⊥) → AreFound (part ∷ []) [] []
  found_other part n = of_tests (part ∷ []) [] [] (same_other m items objects part [] [] n (same_none m items objects))

  pub other : (part : Part) → effects_of_part m items objects part ≡ [] → kept_of_part m (bodies_of items) part ≡ [] → (IsUnordered m items part → ⊥) → Match (part ∷ []) []
  other part e k n =
      by_tests (part ∷ []) [] [] (ap (λ ks. kept_fulls (ks ++ [])) k) (λ g. ap (λ es. list_any g (es ++ [])) e)
      (λ list h. same_other m items objects part [] [] n (same_none m items objects))

  -- ---- expressions

  none_kept : (es : List Entry) (ps : List Part) → AllOf (Sees es) ps → kept_of_parts m (bodies_of items) ps ≡ []
  none_kept es [] h = refl
  none_kept es (Expression es' r e ∷ ps) h = none_kept es ps h.1
  none_kept es (Declaring fixed s d ∷ ps) h = absurd h.0
  none_kept es (Naming s e p ∷ ps) h = absurd h.0
  none_kept es (Initializing fixed s e ∷ ps) h = absurd h.0
  none_kept es (Returning result p given ∷ ps) h = absurd h.0
  none_kept es (Leaving may p ∷ ps) h = absurd h.0
  none_kept es (Labelling before w p ∷ ps) h = absurd h.0
  none_kept es (ArmLabelling before l p ∷ ps) h = absurd h.0
  none_kept es (CaseConstant es' e ∷ ps) h = absurd h.0

  kept_of_expression : (es : List Entry) (r : Role) (e : Exp) → kept_of_parts m (bodies_of items) (parts es r e) ≡ []
  kept_of_expression es r e = none_kept es (parts es r e) (parts_see es r e)

  abbrev tree : List Entry → Exp → t.Exp
  tree es e = typed m (bodies_of items) es e

  -- what is done by one full expression
  any_one : (g : Effect → Bool) (es : List Entry) (r : Role) (e : Exp) (o : Option ℕ) → is_stored r ≡ false → list_any g (effs (parts es r e)) ≡ list_any g (done (full o (tree es e) ∷ []))
  any_one g es r e o s =
      ap (list_any g) (effects_of_expression m items objects es r e ∙ ap (λ b. effects objects (count m items objects) b (tree es e)) s ∙ sym (append-nil (effects objects (count m items objects) false (tree es e))))

  pub expression : (es : List Entry) (r : Role) (e : Exp) → is_stored r ≡ false → Match (parts es r e) (full None (tree es e) ∷ [])
  expression es r e s =
      by_tests (parts es r e) (full None (tree es e) ∷ []) [] (ap kept_fulls (kept_of_expression es r e))
      (λ g. any_one g es r e None s ∙ or_none (list_any g (done (full None (tree es e) ∷ []))))
      (λ list h.
      subst (AreTestsOf m items objects (parts es r e)) (sym (append-nil (tested (tree es e) ++ []) ∙ append-nil (tested (tree es e))))
      (same_expression m items objects list es (names_listed objects es r e h) r e))

  -- ---- initializers

  abbrev start : Scope → Exp → Full
  start s e = full (Some (length s.objects - 1)) (tree (seen s) e)

  scope_listed : (fixed : Bool) (s : Scope) (e : Exp) → AreListedParts objects (parts_of_value fixed s e) → AreListed objects (seen s)
  scope_listed fixed s e h = names_listed objects (seen s) Value e (listed_behind objects (Initializing fixed s e ∷ []) (parts (seen s) Value e) h)

  pub initializer : (s : Scope) (e : Exp) → Match (parts_of_value false s e) (start s e ∷ [])
  initializer s e =
      by_tests (parts_of_value false s e) (start s e ∷ []) [] (ap kept_fulls (kept_of_expression (seen s) Value e))
      (λ g. any_one g (seen s) Value e (Some (length s.objects - 1)) refl ∙ or_none (list_any g (done (start s e ∷ []))))
      (λ list h.
      subst (AreTestsOf m items objects (parts_of_value false s e)) (sym (append-nil (tests_of (start s e) ++ []) ∙ append-nil (tests_of (start s e))))
      (same_initializer m items objects list false s (scope_listed false s e h) e))

  pub fixed_initializer : (s : Scope) (e : Exp) → Match (parts_of_value true s e) []
  fixed_initializer s e =
      by_tests (parts_of_value true s e) [] (start s e ∷ []) (ap (λ ks. start s e ∷ kept_fulls ks) (kept_of_expression (seen s) Value e))
      (λ g. any_one g (seen s) Value e (Some (length s.objects - 1)) refl)
      (λ list h.
      subst (AreTestsOf m items objects (parts_of_value true s e)) (sym (append-nil (tests_of (start s e))))
      (same_initializer m items objects list true s (scope_listed true s e h) e))

  -- ---- a case constant

  pub constant : (es : List Entry) (e : Exp) → Match (CaseConstant es e ∷ parts es Value e) []
  constant es e =
      let ps = parts es Value e in
      let f = full None (tree es e) in
      by_tests (CaseConstant es e ∷ ps) [] (f ∷ []) (ap (λ ks. f ∷ kept_fulls ks) (kept_of_expression es Value e))
      (λ g. any_one g es Value e None refl)
      (λ list h.
      subst (AreTestsOf m items objects (CaseConstant es e ∷ ps)) (sym (append-nil (tested (tree es e))))
      (same_other m items objects (CaseConstant es e) ps (tested (tree es e)) (λ u. u)
      (same_expression m items objects list es (names_listed objects es Value e (listed_behind objects (CaseConstant es e ∷ []) ps h)) Value e)))

  -- ---- the sizes of a declared name

  kept_of_arguments : (es : List Entry) (gs : Exps) → kept_of_parts m (bodies_of items) (parts_of es gs) ≡ []
  kept_of_arguments es gs = none_kept es (parts_of es gs) (arguments_see es gs)

  abbrev sizes_kept : List Entry → List Exp → List Full
  sizes_kept es sizes = kept_fulls (kept_sizes m (bodies_of items) es sizes)

  sizes_done : (es : List Entry) (sizes : List Exp) → done (sizes_kept es sizes) ≡ effects_all objects (count m items objects) (typed_all m (bodies_of items) es (exps sizes))
  sizes_done es [] = refl
  sizes_done es (e ∷ sizes) = ap (λ xs. effects objects (count m items objects) false (tree es e) ++ xs) (sizes_done es sizes)

  sizes_tested : (es : List Entry) (sizes : List Exp) → tested_fulls (sizes_kept es sizes) ≡ tested_all (typed_all m (bodies_of items) es (exps sizes))
  sizes_tested es [] = refl
  sizes_tested es (e ∷ sizes) = ap (λ xs. tested (tree es e) ++ xs) (sizes_tested es sizes)

  -- the names are listed, or there are no parts
  sizes_same : IsObjectList m items objects → (es : List Entry) (gs : Exps) → AreListedParts objects (parts_of es gs) → AreTestsOf m items objects (parts_of es gs) (tested_all (typed_all m (bodies_of items) es gs))
  sizes_same list es NoExp h = same_none m items objects
  sizes_same list es (MoreExp e gs) h =
      same_both m items objects (parts es Value e) (parts_of es gs) (tested (tree es e)) (tested_all (typed_all m (bodies_of items) es gs))
      (same_expression m items objects list es (names_listed objects es Value e (listed_front objects (parts es Value e) (parts_of es gs) h)) Value e)
      (sizes_same list es gs (listed_behind objects (parts es Value e) (parts_of es gs) h))

  pub sized : (fixed : Bool) (s : Scope) (d : raw.Declared) → Match (parts_of (seen s) (exps d.sizes) ++ Declaring fixed s d ∷ []) []
  sized fixed s d =
      let ps = parts_of (seen s) (exps d.sizes) in
      let fs = sizes_kept (seen s) d.sizes in
      let here = Declaring fixed s d ∷ [] in
      by_tests (ps ++ here) [] fs
      (kept_append ps here ∙ ap (λ ks. kept_fulls ks ++ kept_of here) (kept_of_arguments (seen s) (exps d.sizes)) ∙ ap kept_fulls (append-nil (kept_sizes m (bodies_of items) (seen s) d.sizes)))
      (λ g. any_effs g ps here ∙ sym (or_none (list_any g (effs ps))) ∙ ap (list_any g) (effects_of_all m items objects (seen s) (exps d.sizes) ∙ sym (sizes_done (seen s) d.sizes)))
      (λ list h.
      subst (AreTestsOf m items objects (ps ++ here)) (append-nil (tested_all (typed_all m (bodies_of items) (seen s) (exps d.sizes))) ∙ sym (sizes_tested (seen s) d.sizes))
      (same_both m items objects ps here (tested_all (typed_all m (bodies_of items) (seen s) (exps d.sizes))) []
      (sizes_same list (seen s) (exps d.sizes) (listed_front objects ps here h))
      (same_other m items objects (Declaring fixed s d) [] [] (λ u. u) (same_none m items objects))))
