-- What cells of checked programs hold is kept by what is done to them.
use Rattle.std.proofs.Common.{◌≡◌, ◌<◌, ◌≤◌, ◌+◌, ◌-◌, ◌^◌, ℕ, zero, suc, ℤ, pos, Bool as Test, true, false, cond, ◌&&◌, ◌||◌, nat_eq, IsTrue, List, [], ◌∷◌, ◌++◌, length, take, Option, Some, None, slice_get, refl, sym, ap, ◌∙◌, subst, arith}
use Rattle.std.proofs.lemmas.Bool.{lt-ltb}
use Rattle.std.proofs.lemmas.Bool.Decides.{nat_tests}
use Rattle.std.proofs.lemmas.Nat.{pow_pos}
use Rattle.std.proofs.lemmas.List.{map-append}
use Rattle.std.proofs.lemmas.List.Folds.{list_any-append}
use Rattle.std.proofs.lemmas.List.Elements.{All-nil, All-cons, All-head, All-tail, All-append, All-take}
use Rattle.std.specs.List.{list_all}
use Rattle.c_core.specs.Types.{width_of, is_signed, is_zero, number_of, fits_signed, fits_unsigned, in_range, fit}
use Rattle.c_core.specs.Operators.{apply_of, apply_one_of, is_count}
use Rattle.c_core.specs.Program.{IsProgram, start_fits}
use Rattle.c_core.specs.Scope.{is_in, is_fixed, is_fixed_object, is_reached}
use Rattle.c_core.specs.Typing.{same_type, is_constant}
use Rattle.c_core.specs.Types.{promote_of}
use Rattle.c_core.specs.Tree.{Program}
use Rattle.c_core.specs.declared.number.IntType.{IntType}
use Rattle.c_core.specs.declared.number.IntType.TheVariants.{Int}
use Rattle.c_core.specs.declared.number.DataModel.{DataModel}
use Rattle.c_core.specs.declared.number.BinOp.{BinOp}
use Rattle.c_core.specs.declared.number.BinOp.TheVariants.{Add, Sub, Mul, Div, Rem, Shl, Shr, And, Xor, Or, Lt, Le, Gt, Ge, Eq, Ne}
use Rattle.c_core.specs.declared.number.UnOp.{UnOp}
use Rattle.c_core.specs.declared.number.UnOp.TheVariants.{Plus, Neg, BitNot, Not}
use Rattle.c_core.specs.declared.number.Done.{Done}
use Rattle.c_core.specs.declared.number.Done.TheVariants.{Value, Overflow, Undefined}
use Rattle.c_core.specs.declared.tree.Object.{Object}
use Rattle.c_core.specs.declared.tree.Start.{Start}
use Rattle.c_core.proofs.Fits.{fit_in_range}
use Rattle.c_meaning.specs.Cells.{Key, Cell, same_key, live, read, put, cells_from}
use Rattle.c_meaning.specs.Objects.{type_in, size_in, type_of_object, size_of_object}
use Rattle.c_meaning.specs.Fitting.{keys, Grows, IsOf, IsFittingCell, FitCells, AreLive}
use Rattle.c_meaning.specs.Related.{given_by, given_by_one}
use Rattle.c_meaning.specs.Run.{start_values, static_cells, first_cells}
use Rattle.c_meaning.proofs.Checked.{Agreeing}
use Rattle.c_meaning.proofs.Stateful.{IsDone}
use Rattle.c_meaning.proofs.TypeFacts.{both, neither, some_same}

same_number : (a b : ℕ) → IsTrue (nat_eq a b) → a ≡ b
same_number a b h = grind (arith, nat_tests)

-- ---- values

pub retyped_value : (m : DataModel) (a b : Option IntType) (v : ℤ) → Agreeing a b → IsOf m a v → IsOf m b v
retyped_value m a None v e q = tt
retyped_value m a (Some ty) v e q = subst (λ x. IsOf m x v) e q

pub constant_value : (m : DataModel) (ty : Option IntType) (v : ℤ) → IsTrue (is_constant m ty v) → IsOf m ty v
constant_value m None v h = tt
constant_value m (Some ty) v h = (both (same_type ty (promote_of ty)) (in_range m ty v) h).1

nought_by_sign : (s : Test) (w : ℕ) → IsTrue (cond s (fits_signed w (pos 0)) (fits_unsigned w (pos 0)))
nought_by_sign true w = lt-ltb 0 (2 ^ (w - 1)) (pow_pos (w - 1))
nought_by_sign false w = lt-ltb 0 (2 ^ w) (pow_pos w)

pub nought_fits : (m : DataModel) (ty : IntType) → IsTrue (in_range m ty (pos 0))
nought_fits m ty = nought_by_sign (is_signed ty) (width_of m ty)

pub nought_value : (m : DataModel) (ty : Option IntType) → IsOf m ty (pos 0)
nought_value m None = tt
nought_value m (Some ty) = nought_fits m ty

pub digit_value : (m : DataModel) (b : Test) → IsTrue (in_range m Int (number_of b))
digit_value m true = refl
digit_value m false = refl

module _ (m : DataModel) where
  abbrev Is : Option IntType → ℤ → Type 0
  Is ty v = IsOf m ty v

  judged_value : (ty : IntType) (b : Test) (r : ℤ) → IsDone Is ty (cond b (Overflow (fit m ty r)) (Value (fit m ty r)))
  judged_value ty true r = fit_in_range m ty r
  judged_value ty false r = fit_in_range m ty r

  unless_value : (ty : IntType) (b : Test) (d : Done) → IsDone Is ty d → IsDone Is ty (cond b Undefined d)
  unless_value ty true d h = tt
  unless_value ty false d h = h

  if_value : (ty : IntType) (b : Test) (d : Done) → IsDone Is ty d → IsDone Is ty (cond b d Undefined)
  if_value ty true d h = h
  if_value ty false d h = tt

  pub answered_value : (op : BinOp) (ty : IntType) (x y : ℤ) → IsDone Is (given_by op ty) (apply_of m op ty x y)
  answered_value Add ty x y = judged_value ty _ _
  answered_value Sub ty x y = judged_value ty _ _
  answered_value Mul ty x y = judged_value ty _ _
  answered_value Div ty x y = unless_value ty (is_zero y) _ (judged_value ty _ _)
  answered_value Rem ty x y = unless_value ty (is_zero y) _ (judged_value ty _ _)
  answered_value Shl ty x y = if_value ty (is_count m ty y) _ (judged_value ty _ _)
  answered_value Shr ty x y = if_value ty (is_count m ty y) _ (fit_in_range m ty _)
  answered_value And ty x y = fit_in_range m ty _
  answered_value Xor ty x y = fit_in_range m ty _
  answered_value Or ty x y = fit_in_range m ty _
  answered_value Lt ty x y = digit_value m _
  answered_value Le ty x y = digit_value m _
  answered_value Gt ty x y = digit_value m _
  answered_value Ge ty x y = digit_value m _
  answered_value Eq ty x y = digit_value m _
  answered_value Ne ty x y = digit_value m _

  pub answered_one_value : (op : UnOp) (ty : IntType) (x : ℤ) → IsTrue (in_range m ty x) → IsDone Is (given_by_one op ty) (apply_one_of m op ty x)
  answered_one_value Plus ty x h = h
  answered_one_value Neg ty x h = judged_value ty _ _
  answered_one_value BitNot ty x h = fit_in_range m ty _
  answered_one_value Not ty x h = digit_value m _

-- ---- cells

module _ (p : Program) where
  abbrev FitAt : ℕ → ℤ → Type 0
  FitAt o v = IsTrue (in_range p.model (type_of_object p o) v)

  read_if : (b d : Test) (x c : ℤ) (o : ℕ) → FitAt o x → (IsTrue d → FitAt o c) → FitAt o (cond b x (cond d c (pos 0)))
  read_if true d x c o h f = h
  read_if false true x c o h f = f refl
  read_if false false x c o h f = nought_fits p.model (type_of_object p o)

  of_key : (c : Cell) (k : Key) → IsFittingCell p c → IsTrue (same_key c.key k) → FitAt k.object c.value
  of_key c k h e = subst (λ o. FitAt o c.value) (same_number c.key.object k.object (both (nat_eq c.key.object k.object) (nat_eq c.key.index k.index) e).0) h

  pub read_fits : (k : Key) (cs : List Cell) → FitCells p cs → FitAt k.object (read k cs)
  read_fits k [] h = nought_fits p.model (type_of_object p k.object)
  read_fits k (c ∷ cs) h = read_if (live k cs) (same_key c.key k) (read k cs) c.value k.object (read_fits k cs (All-tail (IsFittingCell p) c cs h)) (λ e. of_key c k (All-head (IsFittingCell p) c cs h) e)

  put_if : (b d : Test) (xs cs : List Cell) (c : Cell) (v : ℤ) → FitCells p xs → FitCells p (c ∷ cs) → (IsTrue d → FitAt c.key.object v) → FitCells p (cond b (c ∷ xs) (cond d (record { key = c.key; value = v }) c ∷ cs))
  put_if true d xs cs c v f h g = All-cons (IsFittingCell p) c xs (All-head (IsFittingCell p) c cs h) f
  put_if false true xs cs c v f h g = All-cons (IsFittingCell p) (record { key = c.key; value = v }) cs (g refl) (All-tail (IsFittingCell p) c cs h)
  put_if false false xs cs c v f h g = h

  written_key : (c : Cell) (k : Key) (v : ℤ) → FitAt k.object v → IsTrue (same_key c.key k) → FitAt c.key.object v
  written_key c k v h e = subst (λ o. FitAt o v) (sym (same_number c.key.object k.object (both (nat_eq c.key.object k.object) (nat_eq c.key.index k.index) e).0)) h

  pub put_fits : (k : Key) (v : ℤ) (cs : List Cell) → FitAt k.object v → FitCells p cs → FitCells p (put k v cs)
  put_fits k v [] q h = h
  put_fits k v (c ∷ cs) q h = put_if (live k cs) (same_key c.key k) (put k v cs) cs c v (put_fits k v cs q (All-tail (IsFittingCell p) c cs h)) h (λ e. written_key c k v q e)

  -- values that fit an object, or none of them
  pub cells_from_fit : (o i n : ℕ) (vs : List ℤ) → IsTrue (list_all (in_range p.model (type_of_object p o)) vs) → FitCells p (cells_from o i n vs)
  cells_from_fit o i zero vs h = All-nil (IsFittingCell p)
  cells_from_fit o i (suc n) [] h = All-cons (IsFittingCell p) _ _ (nought_fits p.model (type_of_object p o)) (cells_from_fit o (suc i) n [] refl)
  cells_from_fit o i (suc n) (v ∷ vs) h =
      let b = both (in_range p.model (type_of_object p o) v) (list_all (in_range p.model (type_of_object p o)) vs) h in
      All-cons (IsFittingCell p) _ _ b.0 (cells_from_fit o (suc i) n vs b.1)

  pub declared_fits : (o n : ℕ) (cs : List Cell) → FitCells p cs → FitCells p (cs ++ cells_from o 0 n [])
  declared_fits o n cs h = All-append (IsFittingCell p) cs (cells_from o 0 n []) h (cells_from_fit o 0 n [] refl)

  pub cut_fits : (n : ℕ) (cs : List Cell) → FitCells p cs → FitCells p (take n cs)
  cut_fits n cs h = All-take (IsFittingCell p) n cs h

-- ---- live cells

abbrev among : Key → List Key → Test
among k [] = false
among k (x ∷ xs) = same_key x k || among k xs

live_among : (k : Key) (cs : List Cell) → live k cs ≡ among k (keys cs)
live_among k [] = refl
live_among k (c ∷ cs) = ap (λ b. same_key c.key k || b) (live_among k cs)

pub either_left : (a b : Test) → IsTrue a → IsTrue (a || b)
either_left true b h = refl
either_left false b h = neither h

pub either_right : (a b : Test) → IsTrue b → IsTrue (a || b)
either_right true b h = refl
either_right false b h = h

among_more : (k : Key) (xs ys : List Key) → IsTrue (among k xs) → IsTrue (among k (xs ++ ys))
among_more k [] ys h = neither h
among_more k (x ∷ xs) ys h = by (same_key x k) h (among_more k xs ys)
  where
    by : (b : Test) → IsTrue (b || among k xs) → (IsTrue (among k xs) → IsTrue (among k (xs ++ ys))) → IsTrue (b || among k (xs ++ ys))
    by true h f = refl
    by false h f = f h

among_later : (k : Key) (xs ys : List Key) → IsTrue (among k ys) → IsTrue (among k (xs ++ ys))
among_later k [] ys h = h
among_later k (x ∷ xs) ys h = either_right (same_key x k) (among k (xs ++ ys)) (among_later k xs ys h)

pub live_on : (k : Key) (cs ds : List Cell) → Grows cs ds → IsTrue (live k cs) → IsTrue (live k ds)
live_on k cs ds g h = live_among k ds ∙ ap (among k) g.1 ∙ among_more k (keys cs) g.0 (sym (live_among k cs) ∙ h)

live_later : (k : Key) (cs ds : List Cell) → IsTrue (live k ds) → IsTrue (live k (cs ++ ds))
live_later k cs ds h = live_among k (cs ++ ds) ∙ ap (among k) (map-append (λ c. c.key) cs ds) ∙ among_later k (keys cs) (keys ds) (sym (live_among k ds) ∙ h)

live_sooner : (k : Key) (cs ds : List Cell) → IsTrue (live k cs) → IsTrue (live k (cs ++ ds))
live_sooner k cs ds h = live_on k cs (cs ++ ds) (keys ds, map-append (λ c. c.key) cs ds) h

same_itself : (n : ℕ) → IsTrue (nat_eq n n)
same_itself n = grind (arith, nat_tests)

both_true : (a b : Test) → IsTrue a → IsTrue b → IsTrue (a && b)
both_true true b h g = g
both_true false b h g = neither h

live_first : (o i j : ℕ) (cs : List Cell) → i ≤ j → (suc i ≤ j → IsTrue (live (record { object = o; index = j }) cs)) → IsTrue ((nat_eq o o && nat_eq i j) || live (record { object = o; index = j }) cs)
live_first o i j cs l f = by (nat_eq i j) refl
  where
    by : (b : Test) → nat_eq i j ≡ b → IsTrue ((nat_eq o o && nat_eq i j) || live (record { object = o; index = j }) cs)
    by true e = either_left _ _ (both_true _ _ (same_itself o) e)
    by false e = either_right _ _ (f (grind (arith, nat_tests)))

live_from : (o i n j : ℕ) (vs : List ℤ) → i ≤ j → j < i + n → IsTrue (live (record { object = o; index = j }) (cells_from o i n vs))
live_from o i zero j vs l u = absurd (omega (arith, l, u))
live_from o i (suc n) j [] l u = live_first o i j (cells_from o (suc i) n []) l (λ m. live_from o (suc i) n j [] m (omega (arith, u)))
live_from o i (suc n) j (v ∷ vs) l u = live_first o i j (cells_from o (suc i) n vs) l (λ m. live_from o (suc i) n j vs m (omega (arith, u)))

pub either_cases : (a b : Test) {A : Type 0} → IsTrue (a || b) → (IsTrue a → A) → (IsTrue b → A) → A
either_cases true b h f g = f refl
either_cases false b h f g = g h

module _ (p : Program) where
  pub lives_on : (L : List ℕ) (cs ds : List Cell) → Grows cs ds → AreLive p L cs → AreLive p L ds
  lives_on L cs ds g f o i r l = live_on (record { object = o; index = i }) cs ds g (f o i r l)

  pub lives_fewer : (L : List ℕ) (cs : List Cell) → AreLive p L cs → AreLive p [] cs
  lives_fewer L cs f o i r l = f o i (either_cases (is_fixed p o) false r (λ h. either_left _ _ h) (λ h. neither h)) l

  pub lives_declared : (L : List ℕ) (cs : List Cell) (o n : ℕ) → n ≡ size_of_object p o → AreLive p L cs → AreLive p (L ++ o ∷ []) (cs ++ cells_from o 0 n [])
  lives_declared L cs o n e f x i r l =
      either_cases (is_fixed p x) (is_in x (L ++ o ∷ [])) r (λ h. before (either_left _ _ h))
      (λ h. either_cases (is_in x L) (is_in x (o ∷ [])) (sym (list_any-append (nat_eq x) L (o ∷ [])) ∙ h) (λ z. before (either_right (is_fixed p x) _ z)) (λ z. either_cases (nat_eq x o) false z (λ w. new (same_number x o w)) (λ w. neither w)))
    where
      before : IsTrue (is_reached p L x) → IsTrue (live (record { object = x; index = i }) (cs ++ cells_from o 0 n []))
      before h = live_sooner (record { object = x; index = i }) cs (cells_from o 0 n []) (f x i h l)

      new : x ≡ o → IsTrue (live (record { object = x; index = i }) (cs ++ cells_from o 0 n []))
      new q =
          live_later (record { object = x; index = i }) cs (cells_from o 0 n [])
          (subst (λ y. IsTrue (live (record { object = y; index = i }) (cells_from o 0 n []))) (sym q) (live_from o 0 n i [] (omega arith) (omega (arith, e, l, ap (size_of_object p) q))))

  start_fits_all : (o : ℕ) (x : Start) (ob : Option Object) → IsTrue (start_fits p.model x ob) → slice_get p.objects o ≡ ob → IsTrue (list_all (in_range p.model (type_of_object p o)) x.values)
  start_fits_all o x None h e = neither h
  start_fits_all o x (Some ob) h e =
      let a = both ob.fixed (nat_eq (length x.values) ob.cells && list_all (in_range p.model ob.ty) x.values) h in
      let b = both (nat_eq (length x.values) ob.cells) (list_all (in_range p.model ob.ty) x.values) a.1 in
      subst (λ ty. IsTrue (list_all (in_range p.model ty) x.values)) (sym (ap type_in e)) b.1

  start_values_fit : (o : ℕ) (xs : List Start) → IsTrue (list_all (λ s. start_fits p.model s (slice_get p.objects s.object)) xs) → IsTrue (list_all (in_range p.model (type_of_object p o)) (start_values o xs))
  start_values_fit o [] h = refl
  start_values_fit o (x ∷ xs) h =
      let a = both (start_fits p.model x (slice_get p.objects x.object)) (list_all (λ s. start_fits p.model s (slice_get p.objects s.object)) xs) h in
      by (nat_eq x.object o) (λ e. start_fits_all o x (slice_get p.objects o) (subst (λ z. IsTrue (start_fits p.model x (slice_get p.objects z))) (same_number x.object o e) a.0) refl) (start_values_fit o xs a.1)
    where
      by : (b : Test) → (IsTrue b → IsTrue (list_all (in_range p.model (type_of_object p o)) x.values)) → IsTrue (list_all (in_range p.model (type_of_object p o)) (start_values o xs)) → IsTrue (list_all (in_range p.model (type_of_object p o)) (cond b x.values (start_values o xs)))
      by true f g = f refl
      by false f g = g

  some_fit : (b : Test) (cs : List Cell) → FitCells p cs → FitCells p (cond b cs [])
  some_fit true cs h = h
  some_fit false cs h = All-nil (IsFittingCell p)

  module _ (h : IsProgram p) where
    static_fit : (k : ℕ) (xs : List Object) → FitCells p (static_cells p.starts k xs)
    static_fit k [] = All-nil (IsFittingCell p)
    static_fit k (x ∷ xs) = All-append (IsFittingCell p) _ _ (some_fit x.fixed _ (cells_from_fit p k 0 x.cells (start_values k p.starts) (start_values_fit k p.starts h.starts))) (static_fit (suc k) xs)

    pub first_fit : FitCells p (first_cells p)
    first_fit = static_fit 0 p.objects

  fixed_at : (o : ℕ) (x : Object) → slice_get p.objects o ≡ Some x → IsTrue (is_fixed p o) → IsTrue x.fixed
  fixed_at o x e f = sym (ap is_fixed_object e) ∙ f

  static_live : (k j i : ℕ) (xs : List Object) (x : Object) → slice_get xs j ≡ Some x → IsTrue x.fixed → i < x.cells → IsTrue (live (record { object = k + j; index = i }) (static_cells p.starts k xs))
  static_live k j i [] x e f l = absurd (cc)
  static_live k zero i (y ∷ xs) x e f l =
      let same : k + 0 ≡ k = omega arith in
      subst (λ o. IsTrue (live (record { object = o; index = i }) (static_cells p.starts k (y ∷ xs)))) (sym same)
      (live_sooner (record { object = k; index = i }) (cond y.fixed (cells_from k 0 y.cells (start_values k p.starts)) []) (static_cells p.starts (suc k) xs)
      (subst (λ z. IsTrue (live (record { object = k; index = i }) (cond z.fixed (cells_from k 0 z.cells (start_values k p.starts)) []))) (sym (some_same e)) (fixed_live x.fixed f (live_from k 0 x.cells i (start_values k p.starts) (omega arith) (omega (arith, l))))))
    where
      fixed_live : (b : Test) → IsTrue b → IsTrue (live (record { object = k; index = i }) (cells_from k 0 x.cells (start_values k p.starts))) → IsTrue (live (record { object = k; index = i }) (cond b (cells_from k 0 x.cells (start_values k p.starts)) []))
      fixed_live true z g = g
      fixed_live false z g = neither z
  static_live k (suc j) i (y ∷ xs) x e f l =
      let same : suc k + j ≡ k + suc j = omega arith in
      live_later (record { object = k + suc j; index = i }) (cond y.fixed (cells_from k 0 y.cells (start_values k p.starts)) []) (static_cells p.starts (suc k) xs)
      (subst (λ o. IsTrue (live (record { object = o; index = i }) (static_cells p.starts (suc k) xs))) same (static_live (suc k) j i xs x e f l))

  pub first_live : AreLive p [] (first_cells p)
  first_live o i r l = by (slice_get p.objects o) refl
    where
      by : (x : Option Object) → slice_get p.objects o ≡ x → IsTrue (live (record { object = o; index = i }) (first_cells p))
      by None e = absurd (omega (arith, l, ap size_in e))
      by (Some x) e =
          let same : 0 + o ≡ o = omega arith in
          subst (λ z. IsTrue (live (record { object = z; index = i }) (first_cells p))) same
          (static_live 0 o i p.objects x e (fixed_at o x e (either_cases (is_fixed p o) false r (λ h. h) (λ h. neither h))) (omega (arith, l, ap size_in e)))
