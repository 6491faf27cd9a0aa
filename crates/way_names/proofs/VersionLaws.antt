-- A version more has what that of its outer scope has, and its object.
use Rattle.std.proofs.Common.{◌≡◌, ◌<◌, ◌≤◌, ◌+◌, ◌^◌, ◌/◌, ℕ, zero, suc, nat_eq, eqb-true, refl, sym, ap, subst, ◌∙◌, Bool, true, false, cond, List, [], ◌∷◌, ◌++◌, length, map, take, get_or, Option, Some, None, arith}
use Rattle.std.specs.Prelude.{slice_get}
use Rattle.std.specs.Option.{option_flatten}
use Rattle.std.proofs.Math.Seq.{take-suc}
use Rattle.std.proofs.lemmas.Bool.Decides.{nat_tests}
use Rattle.std.proofs.lemmas.List.{append-nil, map-append}
use Rattle.std.proofs.lemmas.Option.{get_or_from_slice_get}
use Rattle.c_core.specs.declared.number.Spot.{Spot}
use Rattle.c_core.specs.declared.tree.Object.{Object}
use Rattle.way_places.specs.Seeking.{or_else}
use Rattle.way_names.specs.Keys.{has_key, is_key, key_at, last_of}
use Rattle.way_names.specs.Scopes.{IsScope, height}
use Rattle.way_names.specs.Versions.{AddsObject, AllStand, Finds, Puts, Stands, behind, found_in, look, numbers_of, version_of}
use Rattle.way_names.specs.declared.scope.Scope.{Scope}
use Rattle.way_names.specs.declared.versions.Node.{Node}
use Rattle.way_names.specs.declared.versions.Versions.{Versions}
use Rattle.way_names.proofs.NodeLaws.{found_same, get_end, get_within, stands_in}
use Rattle.way_names.proofs.ScopeLaws.{none_outermost, scope_parts, scope_within}

-- ---- the last of numbers

or_none : (o : Option ℕ) → or_else o None ≡ o
or_none None = refl
or_none (Some n) = refl

or_later : (o p q : Option ℕ) → or_else (or_else o p) q ≡ or_else o (or_else p q)
or_later None p q = refl
or_later (Some n) p q = refl

pub last_joined : (test : ℕ → Bool) (a b : List ℕ) → last_of test (a ++ b) ≡ or_else (last_of test b) (last_of test a)
last_joined test [] b = sym (or_none (last_of test b))
last_joined test (n ∷ a) b =
    ap (λ o. or_else o (cond (test n) (Some n) None)) (last_joined test a b) ∙ or_later (last_of test b) (last_of test a) (cond (test n) (Some n) None)

or_test : (t : Bool) (n : ℕ) (o : Option ℕ) → or_else (cond t (Some n) None) o ≡ cond t (Some n) o
or_test true n o = refl
or_test false n o = refl

last_added : (test : ℕ → Bool) (ns : List ℕ) (n : ℕ) → last_of test (ns ++ n ∷ []) ≡ cond (test n) (Some n) (last_of test ns)
last_added test ns n = last_joined test ns (n ∷ []) ∙ or_test (test n) n (last_of test ns)

-- ---- an object by its key

-- one without a name is passed over
pub put_nothing : (objects : List Object) (nodes : List Node) (bits : ℕ) (at : Option ℕ) (object : ℕ) → None ≡ key_at objects (slice_get objects object) → Stands nodes bits at
    → Puts nodes nodes bits at (λ key. has_key objects key object) object at
put_nothing objects nodes bits at object e h = record {
  grown = ([], sym (append-nil nodes));
  stands = h;
  found = λ key l. ap (λ k. cond (is_key k key) (Some object) (found_in nodes bits at key)) e;
}

pub put_keyed : (objects : List Object) (old new : List Node) (bits : ℕ) (at : Option ℕ) (key object : ℕ) (put : Option ℕ) → Some key ≡ key_at objects (slice_get objects object)
    → Puts old new bits at (λ x. is_key (Some key) x) object put → Puts old new bits at (λ x. has_key objects x object) object put
put_keyed objects old new bits at key object put e h = record {
  grown = h.grown;
  stands = h.stands;
  found = λ x l. h.found x l ∙ ap (λ k. cond (is_key k x) (Some object) (found_in old bits at x)) e;
}

-- ---- a version more

get_more : (P : Option ℕ → Type 0) (roots : List (Option ℕ)) (root : Option ℕ) → P None → P root → ((n : ℕ) → P (option_flatten (slice_get roots n)))
    → (n : ℕ) → P (option_flatten (slice_get (roots ++ root ∷ []) n))
get_more P [] root none new old zero = new
get_more P [] root none new old (suc n) = none
get_more P (r ∷ roots) root none new old zero = old 0
get_more P (r ∷ roots) root none new old (suc n) = get_more P roots root none new (λ k. old (suc k)) n

version_stays : (roots : List (Option ℕ)) (root : Option ℕ) (scope : Option ℕ) → height scope ≤ length roots → version_of (roots ++ root ∷ []) scope ≡ version_of roots scope
version_stays roots root None low = refl
version_stays roots root (Some n) low = ap option_flatten (get_within roots (root ∷ []) n (omega (arith, low)))

one_longer : {X : Type 0} (xs : List X) (x : X) → length (xs ++ x ∷ []) ≡ suc (length xs)
one_longer [] x = refl
one_longer (y ∷ xs) x = ap suc (one_longer xs x)

module _ (objects : List Object) (v w : Versions) (outer : Option ℕ) (object : ℕ) (root : Option ℕ) (stood : AllStand v) (wide : length objects ≤ 2 ^ v.bits)
    (put : Puts v.nodes.items w.nodes.items v.bits (version_of v.roots.items outer) (λ key. has_key objects key object) object root)
    (pushed : w.roots.items ≡ v.roots.items ++ root ∷ []) (bits : w.bits ≡ v.bits) where
  abbrev roots : List (Option ℕ)
  roots = v.roots.items ++ root ∷ []

  looks : (scope : Option ℕ) (key : ℕ) → look w scope key ≡ found_in w.nodes.items v.bits (version_of roots scope) key
  looks scope key =
      ap (λ b. found_in w.nodes.items b (version_of w.roots.items scope) key) bits
      ∙ ap (λ rs. found_in w.nodes.items v.bits (version_of rs scope) key) pushed

  old_stands : (scope : Option ℕ) → Stands w.nodes.items v.bits (version_of v.roots.items scope)
  old_stands scope = stands_in v.nodes.items w.nodes.items put.grown.0 put.grown.1 v.bits (version_of v.roots.items scope) (stood scope)

  each_stands : (scope : Option ℕ) → Stands w.nodes.items v.bits (version_of roots scope)
  each_stands None = old_stands None
  each_stands (Some n) = get_more (Stands w.nodes.items v.bits) v.roots.items root (old_stands None) put.stands (λ k. old_stands (Some k)) n

  pub adds : AddsObject objects v w outer object
  adds = record {
    bits = bits;
    count = ap length pushed ∙ one_longer v.roots.items root;
    stand = λ scope. subst (λ b. Stands w.nodes.items b (version_of w.roots.items scope)) (sym bits) (subst (λ rs. Stands w.nodes.items v.bits (version_of rs scope)) (sym pushed) (each_stands scope));
    kept = λ scope low key l.
        looks scope key ∙ ap (λ a. found_in w.nodes.items v.bits a key) (version_stays v.roots.items root scope low)
        ∙ found_same v.nodes.items w.nodes.items put.grown.0 put.grown.1 v.bits (version_of v.roots.items scope) (stood scope) key;
    added = λ key l.
        looks (Some (length v.roots.items)) key ∙ ap (λ a. found_in w.nodes.items v.bits (option_flatten a) key) (get_end v.roots.items root)
        ∙ put.found key (omega (arith, l, wide));
  }

module _ (objects : List Object) (v w : Versions) (outer : Option ℕ) (object : ℕ) (h : AddsObject objects v w outer object) where
  finds_still : (scope : Option ℕ) (names : List ℕ) → height scope ≤ length v.roots.items → Finds objects v scope names → Finds objects w scope names
  finds_still scope names low f key l = h.kept scope low key l ∙ f key l

  finds_added : (around : List ℕ) → Finds objects v outer around → Finds objects w (Some (length v.roots.items)) (around ++ object ∷ [])
  finds_added around f key l =
      h.added key l ∙ ap (λ o. cond (has_key objects key object) (Some object) o) (f key l) ∙ sym (last_added (has_key objects key) around object)

-- ---- scopes

-- versions of the first scopes
pub record FindScopes (objects : List Object) (scopes : List Scope) (v : Versions) (count : ℕ) : Type 0 where
  pub wide : length objects ≤ 2 ^ v.bits
  pub counted : length v.roots.items ≡ count
  pub stand : AllStand v
  pub found : (scope : Option ℕ) (names : List ℕ) → IsScope scopes scope names → height scope ≤ count → Finds objects v scope names

module _ (objects : List Object) (scopes : List Scope) (v w : Versions) (i : ℕ) (scope d : Scope) (known : FindScopes objects scopes v i) (within : i < length scopes) (read : scope ≡ get_or scopes i d)
    (h : AddsObject objects v w scope.outer scope.object) where
  at_last : (names : List ℕ) → IsScope scopes (Some i) names → Finds objects w (Some i) names
  at_last names is =
      let k = scope_parts scopes i names is in
      let same : scope ≡ k.scope = read ∙ get_or_from_slice_get scopes i k.scope d k.at in
      let around : Finds objects v scope.outer k.around = subst (λ (s : Scope). Finds objects v s.outer k.around) (sym same) (known.found k.scope.outer k.around k.is k.low) in
      subst (λ n. Finds objects w (Some n) names) known.counted
      (subst (Finds objects w (Some (length v.roots.items))) (ap (λ (s : Scope). k.around ++ s.object ∷ []) same ∙ sym k.named)
      (finds_added objects v w scope.outer scope.object h k.around around))

  earlier : (s : Option ℕ) (names : List ℕ) → IsScope scopes s names → height s ≤ i → Finds objects w s names
  earlier s names is low =
      finds_still objects v w scope.outer scope.object h s names (subst (λ n. height s ≤ n) (sym known.counted) low) (known.found s names is low)

  up_to : (n : ℕ) (names : List ℕ) → IsScope scopes (Some n) names → suc n ≤ suc i → Finds objects w (Some n) names
  up_to n names is low = by_test (nat_eq n i) refl
    where
      by_test : (t : Bool) → nat_eq n i ≡ t → Finds objects w (Some n) names
      by_test true e = let same : i ≡ n = sym (eqb-true n i e) in subst (λ k. Finds objects w (Some k) names) same (at_last names (subst (λ k. IsScope scopes (Some k) names) (sym same) is))
      by_test false e = earlier (Some n) names is (grind (arith, nat_tests))

  pub scope_found : FindScopes objects scopes w (i + 1)
  scope_found = record {
    wide = subst (λ b. length objects ≤ 2 ^ b) (sym h.bits) known.wide;
    counted = h.count ∙ ap suc known.counted ∙ (let e : suc i ≡ i + 1 = omega arith in e);
    stand = h.stand;
    found = λ s names is low. of_scope s names is (omega (arith, low));
  }
    where
      of_scope : (s : Option ℕ) (names : List ℕ) → IsScope scopes s names → height s ≤ suc i → Finds objects w s names
      of_scope None names is low = earlier None names is (omega arith)
      of_scope (Some n) names is low = up_to n names is low

-- a tree of nothing has nothing
none_in : (nodes : List Node) (bits key : ℕ) → found_in nodes bits None key ≡ None
none_in nodes zero key = refl
none_in nodes (suc bits) key = none_in nodes bits (key / 2)

nothing_stands : (nodes : List Node) (bits : ℕ) → Stands nodes bits None
nothing_stands nodes zero = tt
nothing_stands nodes (suc bits) = (tt, nothing_stands nodes bits, nothing_stands nodes bits)

pub none_stand : (nodes : List Node) (bits : ℕ) (roots : List (Option ℕ)) → roots ≡ [] → (scope : Option ℕ) → Stands nodes bits (version_of roots scope)
none_stand nodes bits roots e None = nothing_stands nodes bits
none_stand nodes bits roots e (Some n) = subst (λ (rs : List (Option ℕ)). Stands nodes bits (option_flatten (slice_get rs n))) (sym e) (nothing_stands nodes bits)

module _ (objects : List Object) (v : Versions) where
  outermost_finds : (names : List ℕ) → names ≡ [] → Finds objects v None names
  outermost_finds names e key l = none_in v.nodes.items v.bits key ∙ sym (ap (last_of (has_key objects key)) e)

  module _ (wide : length objects ≤ 2 ^ v.bits) (empty : v.roots.items ≡ []) (stand : AllStand v) where
    pub scopes_begin : (scopes : List Scope) → FindScopes objects scopes v 0
    scopes_begin scopes = record { wide = wide; counted = ap length empty; stand = stand; found = of_scope }
      where
        of_scope : (s : Option ℕ) (names : List ℕ) → IsScope scopes s names → height s ≤ 0 → Finds objects v s names
        of_scope None names is low = outermost_finds names (none_outermost scopes names is)
        of_scope (Some n) names is low = absurd (omega (arith, low))

  pub each_scope_found : (scopes : List Scope) (i : ℕ) → length scopes ≤ i → FindScopes objects scopes v i → (scope : Option ℕ) (names : List ℕ) → IsScope scopes scope names → Finds objects v scope names
  each_scope_found scopes i all known scope names is = known.found scope names is (let l = scope_within scopes scope names is in omega (arith, l, all))

-- ---- static objects

-- versions of the first static objects
pub record FindStatics (objects : List Object) (statics : List (Spot × ℕ)) (v : Versions) (count : ℕ) : Type 0 where
  pub wide : length objects ≤ 2 ^ v.bits
  pub counted : length v.roots.items ≡ count
  pub stand : AllStand v
  pub found : (n : ℕ) → n ≤ count → Finds objects v (behind n) (numbers_of (take n statics))

behind_height : (n : ℕ) → height (behind n) ≡ n
behind_height zero = refl
behind_height (suc n) = refl

pub statics_begin : (objects : List Object) (v : Versions) → length objects ≤ 2 ^ v.bits → v.roots.items ≡ [] → AllStand v → (statics : List (Spot × ℕ)) → FindStatics objects statics v 0
statics_begin objects v wide empty stand statics = record { wide = wide; counted = ap length empty; stand = stand; found = of_count }
  where
    of_count : (n : ℕ) → n ≤ 0 → Finds objects v (behind n) (numbers_of (take n statics))
    of_count zero low = outermost_finds objects v [] refl
    of_count (suc n) low = absurd (omega (arith, low))

module _ (objects : List Object) (statics : List (Spot × ℕ)) (v w : Versions) (i : ℕ) (s d : Spot × ℕ) (known : FindStatics objects statics v i) (within : i < length statics) (read : s ≡ get_or statics i d)
    (h : AddsObject objects v w (behind i) s.1) where
  abbrev object : ℕ
  object = s.1

  one_more : numbers_of (take (suc i) statics) ≡ numbers_of (take i statics) ++ object ∷ []
  one_more =
      ap numbers_of (take-suc statics i d within ∙ ap (λ (t : Spot × ℕ). take i statics ++ t ∷ []) (sym read)) ∙ map-append (λ (t : Spot × ℕ). t.1) (take i statics) (s ∷ [])

  last_found : Finds objects w (Some i) (numbers_of (take (suc i) statics))
  last_found =
      subst (λ n. Finds objects w (Some n) (numbers_of (take (suc i) statics))) known.counted
      (subst (Finds objects w (Some (length v.roots.items))) (sym one_more)
      (finds_added objects v w (behind i) object h (numbers_of (take i statics)) (known.found i (omega arith))))

  of_first : (n : ℕ) → n ≤ i → Finds objects w (behind n) (numbers_of (take n statics))
  of_first n low =
      finds_still objects v w (behind i) object h (behind n) (numbers_of (take n statics)) (let e = behind_height n in omega (arith, e, low, known.counted)) (known.found n low)

  up_to_there : (n : ℕ) → n ≤ i + 1 → Finds objects w (behind n) (numbers_of (take n statics))
  up_to_there n low = by_test (nat_eq n (suc i)) refl
    where
      by_test : (t : Bool) → nat_eq n (suc i) ≡ t → Finds objects w (behind n) (numbers_of (take n statics))
      by_test true e = subst (λ k. Finds objects w (behind k) (numbers_of (take k statics))) (sym (eqb-true n (suc i) e)) last_found
      by_test false e = of_first n (grind (arith, nat_tests))

  pub static_found : FindStatics objects statics w (i + 1)
  static_found = record {
    wide = subst (λ b. length objects ≤ 2 ^ b) (sym h.bits) known.wide;
    counted = h.count ∙ ap suc known.counted ∙ (let e : suc i ≡ i + 1 = omega arith in e);
    stand = h.stand;
    found = up_to_there;
  }
