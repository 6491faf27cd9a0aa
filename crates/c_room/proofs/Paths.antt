-- Along a path of calls without recursion all objects together have room.
use Rattle.std.proofs.Common.{◌≡◌, ◌≤◌, ◌<◌, ◌+◌, ℕ, zero, suc, ℤ, Bool, true, false, cond, ◌||◌, nat_eq, nat_le, List, [], ◌∷◌, ◌++◌, length, Option, Some, None, slice_get, refl, sym, ap, ◌∙◌, subst, inl, inr, ⊎_elim, arith, true≢false, length-append}
use Rattle.std.specs.List.{sum_by}
use Rattle.std.proofs.lemmas.Bool.{or_cases, cases_Bool}
use Rattle.std.proofs.lemmas.Bool.Decides.{nat_tests}
use Rattle.std.proofs.lemmas.List.Sums.{sum_by-cons}
use Rattle.std.proofs.lemmas.Option.{slice_get_past}
use Rattle.c_core.specs.Parts.{names_in, objects_of}
use Rattle.c_core.specs.Program.{IsProgram, most_declared_cells}
use Rattle.c_core.specs.Scope.{times_in, is_fixed_object, owned_by}
use Rattle.c_core.specs.Tree.{Function, Program}
use Rattle.c_core.specs.declared.tree.Object.{Object}
use Rattle.c_core.specs.declared.tree.Start.{Start}
use Rattle.c_meaning.specs.Cells.{cells_from}
use Rattle.c_meaning.specs.Objects.{size_in, size_of_object}
use Rattle.c_meaning.specs.Parts.{is_in, declared_in, fulls_of_function}
use Rattle.c_meaning.specs.Run.{start_values, static_cells, first_cells}
use Rattle.c_calls.specs.Calling.{IsCalledIn, IsReached, IsFirstRecursion, directly, further}
use Rattle.c_calls.proofs.DepthLaws.{Distinct, IsPath}
use Rattle.c_frames.proofs.Bodies.{declared_same, owned_most}
use Rattle.c_frames.proofs.CellLaws.{same_number}
use Rattle.c_frames.proofs.Refitting.{times-append, most}
use Rattle.c_room.proofs.Rooms.{sizes}
use Rattle.c_room.proofs.Sums.{copies, sum_of, sum_few, sum_bound, sum_list, sum_slice}

-- a function's parameters and the objects that its body declares
abbrev pub owned_if : Option Function → List ℕ
owned_if None = []
owned_if (Some fn) = fn.params ++ declared_in fn.body

abbrev pub owned : Program → ℕ → List ℕ
owned p f = owned_if (slice_get p.functions f)

abbrev pub all_owned : Program → List ℕ → List ℕ
all_owned p [] = []
all_owned p (f ∷ path) = owned p f ++ all_owned p path

-- the cells of static objects and of these functions' objects
abbrev pub limit : Program → List ℕ → ℕ
limit p path = length (first_cells p) + sizes p (all_owned p path)

uncounted : (x : ℕ) (xs : List ℕ) → is_in x xs ≡ false → times_in x xs ≡ 0
uncounted x [] e = refl
uncounted x (y ∷ xs) e = by (nat_eq x y) e (uncounted x xs)
  where
    by : (b : Bool) → (b || is_in x xs) ≡ false → (is_in x xs ≡ false → times_in x xs ≡ 0) → cond b (suc (times_in x xs)) (times_in x xs) ≡ 0
    by true e f = absurd (true≢false e)
    by false e f = f e

distinct_once : (x : ℕ) (xs : List ℕ) → Distinct xs → times_in x xs ≤ 1
distinct_once x [] d = omega arith
distinct_once x (y ∷ xs) d = by (nat_eq x y) refl (distinct_once x xs d.1)
  where
    by : (b : Bool) → nat_eq x y ≡ b → times_in x xs ≤ 1 → cond b (suc (times_in x xs)) (times_in x xs) ≤ 1
    by true e l = let z = uncounted x xs (subst (λ n. is_in n xs ≡ false) (sym (same_number x y e)) d.0) in omega (arith, z)
    by false e l = l

length_from : (o i n : ℕ) (vs : List ℤ) → length (cells_from o i n vs) ≡ n
length_from o i zero vs = refl
length_from o i (suc n) [] = ap suc (length_from o (suc i) n [])
length_from o i (suc n) (v ∷ vs) = ap suc (length_from o (suc i) n vs)

-- of static storage, and not
abbrev fixed_size : Option Object → ℕ
fixed_size o = cond (is_fixed_object o) (size_in o) 0

abbrev other_size : Option Object → ℕ
other_size o = copies (cond (is_fixed_object o) 0 1) (size_in o)

statics_length : (starts : List Start) (k : ℕ) (xs : List Object) → length (static_cells starts k xs) ≡ sum_list fixed_size xs
statics_length starts k [] = refl
statics_length starts k (x ∷ xs) =
    let e = length-append (cond x.fixed (cells_from k 0 x.cells (start_values k starts)) []) (static_cells starts (suc k) xs) in
    let r = statics_length starts (suc k) xs in
    let s = each x.fixed in
    omega (arith, e, r, s)
  where
    each : (b : Bool) → length (cond b (cells_from k 0 x.cells (start_values k starts)) []) ≡ cond b x.cells 0
    each true = length_from k 0 x.cells (start_values k starts)
    each false = refl

both_sizes : (xs : List Object) → sum_list fixed_size xs + sum_list other_size xs ≡ sum_by (λ o. o.cells) xs
both_sizes [] = refl
both_sizes (x ∷ xs) = let s = each x.fixed in let r = both_sizes xs in let c = sum_by-cons (λ (o : Object). o.cells) x xs in omega (arith, s, r, c)
  where
    each : (b : Bool) → cond b x.cells 0 + copies (cond b 0 1) x.cells ≡ x.cells
    each true = omega arith
    each false = omega arith

module _ (p : Program) where
  sizes_sum : (os : List ℕ) → sizes p os ≡ sum_of (λ o. size_of_object p o) os
  sizes_sum [] = refl
  sizes_sum (o ∷ os) = ap (λ n. size_of_object p o + n) (sizes_sum os)

  owned_sum : (x : ℕ) (path : List ℕ) → times_in x (all_owned p path) ≡ sum_of (λ f. times_in x (owned p f)) path
  owned_sum x [] = refl
  owned_sum x (f ∷ path) = times-append x (owned p f) (all_owned p path) ∙ ap (λ n. times_in x (owned p f) + n) (owned_sum x path)

  functions_sum : (x : ℕ) (fs : List Function) → sum_list (λ o. times_in x (owned_if o)) fs ≡ times_in x (owned_by fs)
  functions_sum x [] = refl
  functions_sum x (f ∷ fs) =
      let a = times-append x (f.params ++ objects_of (names_in f.body)) (owned_by fs) in
      let b = times-append x f.params (declared_in f.body) in
      let c = times-append x f.params (objects_of (names_in f.body)) in
      let d = ap (times_in x) (declared_same f.body) in
      let r = functions_sum x fs in
      omega (arith, a, b, c, d, r)

  module _ (h : IsProgram p) where
    path_most : (path : List ℕ) → Distinct path → (x : ℕ) → times_in x (all_owned p path) ≤ most p x
    path_most path d x =
        let n = length p.functions in
        let g = λ (f : ℕ). times_in x (owned p f) in
        let a = owned_sum x path in
        let b = sum_bound g (λ i. 1) n (λ f l. ap (λ o. times_in x (owned_if o)) (slice_get_past p.functions f l)) path (λ f. distinct_once f path d) in
        let c = sum_few (λ i. copies 1 (g i)) g n (λ i. omega arith) in
        let e = sum_slice (λ o. times_in x (owned_if o)) p.functions in
        let f = functions_sum x p.functions in
        let m = owned_most p h x in
        omega (arith, a, b, c, e, f, m)

    pub path_fits : (path : List ℕ) → Distinct path → limit p path ≤ most_declared_cells
    path_fits path d =
        let n = length p.objects in
        let a = sizes_sum (all_owned p path) in
        let b = sum_bound (λ o. size_of_object p o) (most p) n (λ o l. ap size_in (slice_get_past p.objects o l)) (all_owned p path) (path_most path d) in
        let c = sum_slice other_size p.objects in
        let e = statics_length p.starts 0 p.objects in
        let s = both_sizes p.objects in
        let t : sum_by (λ o. o.cells) p.objects ≤ most_declared_cells = within h.cells in
        omega (arith, a, b, c, e, s, t)
      where
        within : nat_le (sum_by (λ o. o.cells) p.objects) most_declared_cells ≡ true → sum_by (λ o. o.cells) p.objects ≤ most_declared_cells
        within e = grind (arith, nat_tests)

  module _ (none : IsFirstRecursion p None) where
    reached_next : (f g : ℕ) → IsReached p f → IsCalledIn p (fulls_of_function p f) g → IsReached p g
    reached_next f g r c = inr (⊎_elim (λ e. directly g (subst (λ x. IsCalledIn p (fulls_of_function p x) g) e c)) (λ q. further f g q c) r)

    new_there : (f g : ℕ) (path : List ℕ) → IsPath p f path → IsCalledIn p (fulls_of_function p f) g → is_in g path ≡ false
    new_there f g path is c =
        ⊎_elim (λ t. absurd (none g (record { reached = reached_next f g is.reached c; cycle = ⊎_elim (λ e. directly g (subst (λ x. IsCalledIn p (fulls_of_function p x) g) (sym e) c)) (λ r. further f g r c) (is.lead g t) })))
        (λ e. e) (cases_Bool (is_in g path))

    -- a call more
    pub path_on : (f g : ℕ) (path : List ℕ) → IsPath p f path → IsCalledIn p (fulls_of_function p f) g → IsPath p g (g ∷ path)
    path_on f g path is c = record {
      reached = reached_next f g is.reached c;
      distinct = (new_there f g path is c, is.distinct);
      within = λ x m. ⊎_elim (λ e. subst (λ n. n < length p.functions) (sym (same_number x g e)) c.0) (is.within x) (or_cases (nat_eq x g) (is_in x path) m);
      lead = λ x m. ⊎_elim (λ e. inl (same_number x g e)) (λ n. inr (⊎_elim (λ e. directly g (subst (λ y. IsCalledIn p (fulls_of_function p y) g) (sym e) c)) (λ r. further f g r c) (is.lead x n))) (or_cases (nat_eq x g) (is_in x path) m);
    }
