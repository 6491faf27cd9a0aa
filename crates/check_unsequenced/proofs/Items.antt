-- The parts of items, and the full expressions of their functions and of what is kept outside.
use Rattle.std.proofs.Common.{◌≡◌, ◌⊎◌, inl, inr, ℕ, zero, suc, Bool, true, List, [], ◌∷◌, ◌++◌, map, length, Option, Some, refl, ap, sym, subst, ◌∙◌}
use Rattle.std.specs.Prelude.{slice_get}
use Rattle.std.specs.List.{list_any}
use Rattle.std.proofs.lemmas.List.{append-nil}
use Rattle.c_core.specs.declared.number.IntType.{IntType}
use Rattle.c_core.specs.declared.number.DataModel.{DataModel}
use Rattle.c_core.specs.declared.number.Spot.{Spot}
use Rattle.c_core.specs.declared.tree.Object.{Object}
use Rattle.c_parser.specs.Tree as raw
use Rattle.check_rules.specs.Scopes.{Scope, after_item, after_parameters, inside, statements_of, entry_of_function, with_object, parameter}
use Rattle.check_rules.specs.Parts.{Part, Naming, Label, bodies_of, labels_of, parts_of_body, parts_of_item, parts_of_items, parts_of_labels, parts_of_names, parts_of_parameters, in_body}
use Rattle.check_rules.specs.Order.{IsUnordered, parts_of_bodies}
use Rattle.check_rules.specs.Checked.{functions_of, typed_block}
use Rattle.check_rules.specs.Kept as rules
use Rattle.check_rules.specs.Kept.{kept_of_parts, kept_outside}
use Rattle.check_sequencing.specs.declared.effect.Effect.{Effect}
use Rattle.check_sequencing.specs.Bodies.{Full, fulls_of_block}
use Rattle.check_unsequenced.specs.PartEffects.{AreListedParts, IsObjectList, count}
use Rattle.check_unsequenced.proofs.PartTests.{any_append}
use Rattle.check_unsequenced.proofs.SameTests.{none_in}
use Rattle.check_wellformed.proofs.Lists.{AllOf}
use Rattle.check_unsequenced.specs.Bodies.{all_fulls, body_effects, kept_fulls}
use Rattle.check_unsequenced.proofs.Wider.{AreSame}
use Rattle.check_unsequenced.proofs.Matches.{AreFound, Found, Unordered, done, effs, found_both, found_none, found_other, full_cases, full_left, full_right, kept_of, listed_behind, listed_front, map_append}
use Rattle.check_unsequenced.proofs.Statements.{block_is, fixed_names_are}

module _ (m : DataModel) (items : List raw.Item) (objects : List Object) where
  abbrev names : List (List ℕ)
  names = bodies_of items

  abbrev Are : List Part → List Full → List Full → Type 0
  Are ps fs ks = AreFound m items objects ps fs ks

  -- ---- parts that are never unordered

  abbrev IsSilent : Part → Type 0
  IsSilent part = IsUnordered m items part → ⊥

  silent : (ps : List Part) → AllOf IsSilent ps → Are ps [] []
  silent [] h = found_none m items objects
  silent (part ∷ ps) h = found_both m items objects (part ∷ []) ps [] [] [] [] (found_other m items objects part h.0) (silent ps h.1)

  parameters_silent : (s : Scope) (xs : List raw.Param) → AllOf IsSilent (parts_of_parameters s xs)
  parameters_silent s [] = tt
  parameters_silent s (x ∷ xs) = ((λ u. u), parameters_silent (with_object s (parameter x)) xs)

  labels_silent : (before : List (List ℕ)) (ls : List Label) → AllOf IsSilent (parts_of_labels before ls)
  labels_silent before [] = tt
  labels_silent before (l ∷ ls) = ((λ u. u), labels_silent (before ++ l.name ∷ []) ls)

  -- what is kept of the parts counts as theirs
  merged : (ps : List Part) (fs ks : List Full) → Are ps fs ks → Are ps (fs ++ ks) []
  merged ps fs ks x = record {
    to = λ p o. elim (x.to p o) as (λ _. Found m items objects (fs ++ ks) p ⊎ Found m items objects [] p) [
      | inl u ↦ inl (full_left m items objects fs ks p u)
      | inr u ↦ inl (full_right m items objects fs ks p u)
    ];
    typed = λ p o. elim (full_cases m items objects fs ks p o) as (λ _. Unordered m items objects ps p) [ inl u ↦ x.typed p u | inr u ↦ x.kept p u ];
    kept = λ p o. absurd (none_in o.test o.among);
  }

  -- ---- functions

  module _ (s : Scope) (p : Spot) (name : List ℕ) (result : Option IntType) (xs : List raw.Param) (body : raw.Stm) where
    abbrev begun : Scope
    begun = inside s name result xs

    abbrev behind : Scope
    behind = after_parameters begun xs

    abbrev its_parts : List Part
    its_parts = parts_of_body m names s name result xs body

    abbrev its_fulls : List Full
    its_fulls = fulls_of_block (typed_block m names behind (statements_of body))

    abbrev head : List Part
    head = Naming s (entry_of_function name result xs) p ∷ parts_of_parameters begun xs

    abbrev tail : List Part
    tail = parts_of_labels [] (labels_of body)

    body_listed : AreListedParts objects (parts_of_item m names s (raw.Function p name result xs body)) → AreListedParts objects its_parts
    body_listed h = listed_behind objects head its_parts (listed_front objects (head ++ its_parts) tail h)

    body_found : IsObjectList m items objects → AreListedParts objects its_parts → Are its_parts (its_fulls ++ kept_of m items objects its_parts) []
    body_found list h = merged its_parts its_fulls (kept_of m items objects its_parts) ((block_is m items objects result in_body behind (statements_of body)).tests list h)

    function_found : IsObjectList m items objects → AreListedParts objects (parts_of_item m names s (raw.Function p name result xs body))
        → Are (parts_of_item m names s (raw.Function p name result xs body)) (its_fulls ++ kept_of m items objects its_parts) []
    function_found list h =
        let fs = its_fulls ++ kept_of m items objects its_parts in
        subst (λ gs. Are (head ++ its_parts ++ tail) gs []) (append-nil fs)
        (found_both m items objects (head ++ its_parts) tail fs [] [] []
        (found_both m items objects head its_parts [] fs [] [] (silent head ((λ u. u), parameters_silent begun xs)) (body_found list (body_listed h))) (silent tail (labels_silent [] (labels_of body))))

    body_same : (g : Effect → Bool) → list_any g (effs m items objects its_parts) ≡ list_any g (done m items objects its_fulls ++ done m items objects (kept_of m items objects its_parts))
    body_same g =
        (block_is m items objects result in_body behind (statements_of body)).effects g ∙ sym (any_append g (done m items objects its_fulls) (done m items objects (kept_of m items objects its_parts)))

  -- ---- items

  abbrev kept_lists : Scope → List raw.Item → List (List rules.Kept)
  kept_lists s xs = map (kept_of_parts m names) (parts_of_bodies m names s xs)

  abbrev outside : Scope → List raw.Item → List Full
  outside s xs = kept_fulls (kept_outside m names s xs)

  abbrev inner : Scope → List raw.Item → List Full
  inner s xs = all_fulls (functions_of m names s xs) (kept_lists s xs)

  module _ (list : IsObjectList m items objects) where
    pub items_found : (s : Scope) (xs : List raw.Item) → AreListedParts objects (parts_of_items m names s xs) → Are (parts_of_items m names s xs) (inner s xs) (outside s xs)
    items_found s [] h = found_none m items objects
    items_found s (raw.Function p name result ys body ∷ xs) h =
        let x = raw.Function p name result ys body in
        let u = after_item m names s x in
        let ps = its_parts s p name result ys body in
        found_both m items objects (parts_of_item m names s x) (parts_of_items m names u xs) (its_fulls s p name result ys body ++ kept_of m items objects ps) (inner u xs) [] (outside u xs)
        (function_found s p name result ys body list (listed_front objects (parts_of_item m names s x) (parts_of_items m names u xs) h))
        (items_found u xs (listed_behind objects (parts_of_item m names s x) (parts_of_items m names u xs) h))
    items_found s (raw.Prototype p name result types ∷ xs) h =
        let x = raw.Prototype p name result types in
        let u = after_item m names s x in
        found_both m items objects (parts_of_item m names s x) (parts_of_items m names u xs) [] (inner u xs) [] (outside u xs)
        (silent (parts_of_item m names s x) ((λ v. v), tt))
        (items_found u xs (listed_behind objects (parts_of_item m names s x) (parts_of_items m names u xs) h))
    items_found s (raw.Global ds ∷ xs) h =
        let u = after_item m names s (raw.Global ds) in
        let ps = parts_of_names m names true s ds in
        subst (Are (ps ++ parts_of_items m names u xs) (inner u xs)) (sym (map_append (kept_of_parts m names ps) (kept_outside m names u xs)))
        (found_both m items objects ps (parts_of_items m names u xs) [] (inner u xs) (kept_of m items objects ps) (outside u xs)
        ((fixed_names_are m items objects s ds).tests list (listed_front objects ps (parts_of_items m names u xs) h))
        (items_found u xs (listed_behind objects ps (parts_of_items m names u xs) h)))
    items_found s (raw.Closed p name ∷ xs) h = items_found (after_item m names s (raw.Closed p name)) xs h

  pub bodies_same : (s : Scope) (xs : List raw.Item) → AreSame (map (effs m items objects) (parts_of_bodies m names s xs)) (body_effects objects (count m items objects) (functions_of m names s xs) (kept_lists s xs))
  bodies_same s [] = tt
  bodies_same s (raw.Function p name result ys body ∷ xs) = (body_same s p name result ys body, bodies_same (after_item m names s (raw.Function p name result ys body)) xs)
  bodies_same s (raw.Prototype p name result types ∷ xs) = bodies_same (after_item m names s (raw.Prototype p name result types)) xs
  bodies_same s (raw.Global ds ∷ xs) = bodies_same (after_item m names s (raw.Global ds)) xs
  bodies_same s (raw.Closed p name ∷ xs) = bodies_same (after_item m names s (raw.Closed p name)) xs

  pub bodies_listed : (s : Scope) (xs : List raw.Item) → AreListedParts objects (parts_of_items m names s xs) → (k : ℕ) (ps : List Part) → slice_get (parts_of_bodies m names s xs) k ≡ Some ps → AreListedParts objects ps
  bodies_listed s [] h k ps e = cc
  bodies_listed s (raw.Function p name result ys body ∷ xs) h zero ps e =
      let x = raw.Function p name result ys body in
      let its = its_parts s p name result ys body in
      let same : its ≡ ps = cc in
      subst (AreListedParts objects) same (body_listed s p name result ys body (listed_front objects (parts_of_item m names s x) (parts_of_items m names (after_item m names s x) xs) h))
  bodies_listed s (raw.Function p name result ys body ∷ xs) h (suc k) ps e =
      let x = raw.Function p name result ys body in
      bodies_listed (after_item m names s x) xs (listed_behind objects (parts_of_item m names s x) (parts_of_items m names (after_item m names s x) xs) h) k ps e
  bodies_listed s (raw.Prototype p name result types ∷ xs) h k ps e =
      let x = raw.Prototype p name result types in
      bodies_listed (after_item m names s x) xs (listed_behind objects (parts_of_item m names s x) (parts_of_items m names (after_item m names s x) xs) h) k ps e
  bodies_listed s (raw.Global ds ∷ xs) h k ps e =
      bodies_listed (after_item m names s (raw.Global ds)) xs (listed_behind objects (parts_of_names m names true s ds) (parts_of_items m names (after_item m names s (raw.Global ds)) xs) h) k ps e
  bodies_listed s (raw.Closed p name ∷ xs) h k ps e = bodies_listed (after_item m names s (raw.Closed p name)) xs h k ps e

  pub many_functions : (s : Scope) (xs : List raw.Item) → length (functions_of m names s xs) ≡ length (bodies_of xs)
  many_functions s [] = refl
  many_functions s (raw.Function p name result ys body ∷ xs) = ap suc (many_functions (after_item m names s (raw.Function p name result ys body)) xs)
  many_functions s (raw.Prototype p name result types ∷ xs) = many_functions (after_item m names s (raw.Prototype p name result types)) xs
  many_functions s (raw.Global ds ∷ xs) = many_functions (after_item m names s (raw.Global ds)) xs
  many_functions s (raw.Closed p name ∷ xs) = many_functions (after_item m names s (raw.Closed p name)) xs
