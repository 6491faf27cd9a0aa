-- What of a program stands before its k-th loop, and what that loop sees.
use Rattle.std.proofs.Common.{◌≡◌, ◌<◌, ◌≤◌, ◌∙◌, ℕ, suc, ◌+◌, ◌*◌, ◌-◌, nat_eq, true, false, ◌&&◌, cond, List, [], ◌∷◌, ◌++◌, length, slice_get, Some, refl, sym, ap, arith, append_assoc, append-nil}
use Rattle.std.specs.List.{AllByRecursion, filter}
use Rattle.std.proofs.lemmas.Bool.Decides.{nat_tests}
use Rattle.std.proofs.lemmas.Grind.{flat_map-append}
use Rattle.std.proofs.lemmas.List.{length_push}
use Rattle.c_core.specs.Places.{is_named, leftmost, of_kind, place_at, places_of_block, spots_of_kind}
use Rattle.c_core.specs.Tree.{MoreStm, NoStm, Program, Stms}
use Rattle.c_core.specs.declared.number.Spot.{Spot}
use Rattle.c_core.specs.declared.place.PlaceKind.TheVariants as place
use Rattle.c_core.specs.declared.tree.Object.{Object}
use Rattle.demo_checks.proofs.Fine.{joined}
use Rattle.demo_checks.proofs.Names.{variable}
use Rattle.demo_laws.specs.DemoLines.{name}
use Rattle.demo_laws.specs.Source.{declared_at, ended_at, line_behind, looped_at}
use Rattle.demo_run.specs.Typed.{correct_typed, end, local, loop_objects, loops}
use Rattle.way_constraint.specs.Constraints.{entries, entry_at}
use Rattle.way_names.specs.Visible.{Sight, fixed_from, names_at, names_or, seen_from, sight, sights_in_block, sights_in_functions}

-- ---- lists

at_seam : {A : Type 0} (xs ys : List A) (x : A) → slice_get (xs ++ x ∷ ys) (length xs) ≡ Some x
at_seam [] ys x = refl
at_seam (a ∷ xs) ys x = at_seam xs ys x

pushed : {A : Type 0} (xs ys : List A) (x : A) → xs ++ x ∷ ys ≡ (xs ++ x ∷ []) ++ ys
pushed xs ys x = sym (append_assoc xs (x ∷ []) ys)

-- ---- lines

differs : (a b : ℕ) → a < b → nat_eq a b ≡ false
differs a b low = grind (arith, nat_tests)

differs_back : (a b : ℕ) → b < a → nat_eq a b ≡ false
differs_back a b low = grind (arith, nat_tests)

same : (a : ℕ) → nat_eq a a ≡ true
same a = grind (arith, nat_tests)

-- places of earlier lines aren't named
none_before : (line column : ℕ) (xs ys : List Spot) → AllByRecursion (λ (s : Spot). s.line < line) xs → filter (is_named line (Some column)) (xs ++ ys) ≡ filter (is_named line (Some column)) ys
none_before line column [] ys low = refl
none_before line column (s ∷ xs) ys low =
    ap (λ b. cond (b && nat_eq s.column column) (s ∷ filter (is_named line (Some column)) (xs ++ ys)) (filter (is_named line (Some column)) (xs ++ ys))) (differs s.line line low.0)
    ∙ none_before line column xs ys low.1

-- the loops behind this line
abbrev pub last : List ℕ → Stms
last bs = MoreStm (end (ended_at (line_behind 4 bs))) NoStm

abbrev pub loop_spots : Stms → List Spot
loop_spots b = of_kind place.Loop (places_of_block b ++ [])

none_behind : (line column l k o : ℕ) (cs : List ℕ) (bs : List ℕ) → line ≤ l → filter (is_named line (Some column)) (loop_spots (loops l k o cs (last bs))) ≡ []
none_behind line column l k o [] bs high = refl
none_behind line column l k o (c ∷ cs) bs high =
    let m = l + 1 + 1 + 1 + 1 + 1 + 1 + 1 in
    let at = looped_at (l + 1) k c 0 in
    let more = loop_spots (loops m (k + 1) (o + 1) cs (last bs)) in
    ap (λ b. cond (b && nat_eq at.column column) (at ∷ filter (is_named line (Some column)) more) (filter (is_named line (Some column)) more)) (differs_back (l + 1) line (omega arith))
    ∙ none_behind line column m (k + 1) (o + 1) cs bs (omega arith)

-- sights of earlier lines are others
unseen_before : (at : Spot) (xs ys : List Sight) → AllByRecursion (λ (s : Sight). s.spot.line < at.line) xs → seen_from at (xs ++ ys) ≡ seen_from at ys
unseen_before at [] ys low = refl
unseen_before at (s ∷ xs) ys low =
    ap (λ b. cond (b && nat_eq s.spot.column at.column) (Some s.names) (seen_from at (xs ++ ys))) (differs s.spot.line at.line low.0) ∙ unseen_before at xs ys low.1

-- no object of a demo is of static storage
no_static : (n l k : ℕ) (at : Spot) (bs : List ℕ) → fixed_from n at (loop_objects l k bs) ≡ []
no_static n l k at [] = refl
no_static n l k at (b ∷ bs) = no_static (suc n) (l + 1 + 1 + 1 + 1 + 1 + 1 + 1) (k + 1) at bs

-- the first loop of those, and what those behind it see
one_sight : (names : List ℕ) (l k o b : ℕ) (cs : List ℕ) (rest : Stms) →
    sights_in_block place.Loop names (loops l k o (b ∷ cs) rest)
    ≡ sight (looped_at (l + 1) k b 0) (names ++ o ∷ []) ∷ sights_in_block place.Loop (names ++ o ∷ []) (loops (l + 1 + 1 + 1 + 1 + 1 + 1 + 1) (k + 1) (o + 1) cs rest)
one_sight names l k o b cs rest =
    ap (λ ns. sight (looped_at (l + 1) k b 0) (names ++ o ∷ []) ∷ sights_in_block place.Loop ns (loops (l + 1 + 1 + 1 + 1 + 1 + 1 + 1) (k + 1) (o + 1) cs rest))
    (append-nil ((names ++ o ∷ []) ++ []) ∙ append-nil (names ++ o ∷ []))

module _ (bs : List ℕ) where
  abbrev pub p : Program
  p = correct_typed bs

  -- the loops with these bounds stand last, the first of which is the k-th
  pub record IsSuffix (l k o : ℕ) (cs : List ℕ) : Type 0 where
    pub spots : List Spot
    pub sights : List Sight
    pub objects : List Object
    pub names : List ℕ
    pub low_spots : AllByRecursion (λ (s : Spot). s.line < l) spots
    pub low_sights : AllByRecursion (λ (s : Sight). s.spot.line < l) sights
    pub all_spots : spots_of_kind place.Loop p ≡ spots ++ loop_spots (loops l k o cs (last bs))
    pub all_sights : sights_in_functions place.Loop [] p.functions ≡ sights ++ (sights_in_block place.Loop names (loops l k o cs (last bs)) ++ [])
    pub all_objects : p.objects ≡ objects ++ loop_objects l k cs
    pub count : length objects ≡ o
    pub line : l + 3 ≡ 7 * k

  pub whole : IsSuffix 4 1 0 bs
  whole = record {
    spots = [];
    sights = [];
    objects = [];
    names = [];
    low_spots = tt;
    low_sights = tt;
    all_spots = refl;
    all_sights = refl;
    all_objects = refl;
    count = refl;
    line = refl;
  }

  higher : (l m : ℕ) (xs : List Spot) → l ≤ m → AllByRecursion (λ (s : Spot). s.line < l) xs → AllByRecursion (λ (s : Spot). s.line < m) xs
  higher l m [] up low = tt
  higher l m (s ∷ xs) up low = let here = low.0 in (omega (arith, here), higher l m xs up low.1)

  higher_sights : (l m : ℕ) (xs : List Sight) → l ≤ m → AllByRecursion (λ (s : Sight). s.spot.line < l) xs → AllByRecursion (λ (s : Sight). s.spot.line < m) xs
  higher_sights l m [] up low = tt
  higher_sights l m (s ∷ xs) up low = let here = low.0 in (omega (arith, here), higher_sights l m xs up low.1)

  pub next : (l k o b : ℕ) (cs : List ℕ) → IsSuffix l k o (b ∷ cs) → IsSuffix (l + 1 + 1 + 1 + 1 + 1 + 1 + 1) (k + 1) (o + 1) cs
  next l k o b cs h =
      let m = l + 1 + 1 + 1 + 1 + 1 + 1 + 1 in
      let at = looped_at (l + 1) k b 0 in
      let seen = sight at (h.names ++ o ∷ []) in
      let object = local (name k) (declared_at l k 1) in
      let here = h.line in
      record {
        spots = h.spots ++ at ∷ [];
        sights = h.sights ++ seen ∷ [];
        objects = h.objects ++ object ∷ [];
        names = h.names ++ o ∷ [];
        low_spots = joined (λ (s : Spot). s.line < m) h.spots (at ∷ []) (higher l m h.spots (omega arith) h.low_spots) (omega arith, tt);
        low_sights = joined (λ (s : Sight). s.spot.line < m) h.sights (seen ∷ []) (higher_sights l m h.sights (omega arith) h.low_sights) (omega arith, tt);
        all_spots = h.all_spots ∙ pushed h.spots (loop_spots (loops m (k + 1) (o + 1) cs (last bs))) at;
        all_sights = h.all_sights ∙ ap (λ ss. h.sights ++ (ss ++ [])) (one_sight h.names l k o b cs (last bs)) ∙ pushed h.sights (sights_in_block place.Loop (h.names ++ o ∷ []) (loops m (k + 1) (o + 1) cs (last bs)) ++ []) seen;
        all_objects = h.all_objects ∙ pushed h.objects (loop_objects m (k + 1) cs) object;
        count = length_push h.objects object ∙ ap (λ n. n + 1) h.count;
        line = omega (arith, here);
      }

  -- ---- the k-th loop

  pub loop_place : (l k o b : ℕ) (cs : List ℕ) → IsSuffix l k o (b ∷ cs) → place_at p place.Loop (7 * k - 2) (Some 3) ≡ Some (looped_at (l + 1) k b 0)
  loop_place l k o b cs h =
      let at = looped_at (l + 1) k b 0 in
      let here = h.line in
      let line : 7 * k - 2 ≡ l + 1 = omega (arith, here) in
      let more = loop_spots (loops (l + 1 + 1 + 1 + 1 + 1 + 1 + 1) (k + 1) (o + 1) cs (last bs)) in
      let low : AllByRecursion (λ (s : Spot). s.line < l + 1) h.spots = higher l (l + 1) h.spots (omega arith) h.low_spots in
      ap (λ n. place_at p place.Loop n (Some 3)) line
      ∙ ap (λ xs. leftmost (filter (is_named (l + 1) (Some 3)) xs)) h.all_spots
      ∙ ap leftmost (none_before (l + 1) 3 h.spots (at ∷ more) low)
      ∙ ap (λ b. leftmost (cond (b && true) (at ∷ filter (is_named (l + 1) (Some 3)) more) (filter (is_named (l + 1) (Some 3)) more))) (same (l + 1))
      ∙ ap (λ xs. leftmost (at ∷ xs)) (none_behind (l + 1) 3 (l + 1 + 1 + 1 + 1 + 1 + 1 + 1) (k + 1) (o + 1) cs bs (omega arith))

  pub loop_names : (l k o b : ℕ) (cs : List ℕ) (h : IsSuffix l k o (b ∷ cs)) → names_at p place.Loop (looped_at (l + 1) k b 0) ≡ h.names ++ o ∷ []
  loop_names l k o b cs h =
      let at = looped_at (l + 1) k b 0 in
      let seen = sight at (h.names ++ o ∷ []) in
      let more = sights_in_block place.Loop (h.names ++ o ∷ []) (loops (l + 1 + 1 + 1 + 1 + 1 + 1 + 1) (k + 1) (o + 1) cs (last bs)) ++ [] in
      let low : AllByRecursion (λ (s : Sight). s.spot.line < l + 1) h.sights = higher_sights l (l + 1) h.sights (omega arith) h.low_sights in
      ap (λ xs. names_or xs (seen_from at (sights_in_functions place.Loop xs p.functions))) (no_static 0 4 1 at bs)
      ∙ ap (λ ss. names_or [] (seen_from at ss)) h.all_sights
      ∙ ap (λ ss. names_or [] (seen_from at (h.sights ++ (ss ++ [])))) (one_sight h.names l k o b cs (last bs))
      ∙ ap (names_or []) (unseen_before at h.sights (seen ∷ more) low)
      ∙ ap (λ b. names_or [] (cond b (Some (h.names ++ o ∷ [])) (seen_from at more))) (ap (λ b. b && nat_eq at.column at.column) (same (l + 1)) ∙ same at.column)

  -- the names that it sees end with its own
  pub loop_entries : (l k o b : ℕ) (cs : List ℕ) (h : IsSuffix l k o (b ∷ cs)) → entries p.objects (h.names ++ o ∷ []) ≡ entries p.objects h.names ++ variable (name k) o ∷ []
  loop_entries l k o b cs h =
      let object = local (name k) (declared_at l k 1) in
      let there : slice_get p.objects o ≡ Some object =
      ap (λ n. slice_get p.objects n) (sym h.count) ∙ ap (λ xs. slice_get xs (length h.objects)) h.all_objects ∙ at_seam h.objects (loop_objects (l + 1 + 1 + 1 + 1 + 1 + 1 + 1) (k + 1) cs) object in
      flat_map-append (λ n. entry_at n (slice_get p.objects n)) h.names (o ∷ []) ∙ ap (λ x. entries p.objects h.names ++ (entry_at o x ++ [])) there
