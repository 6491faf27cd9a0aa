-- Initializers of static storage fit their objects, and no object has two.
use Rattle.std.proofs.Common.{◌≡◌, ℕ, zero, suc, ◌+◌, ◌*◌, ◌-◌, ◌<◌, ◌≤◌, Bool, true, false, cond, not, ◌||◌, List, [], ◌∷◌, ◌++◌, length, replicate, ℤ, pos, refl, sym, subst, ap, ◌∙◌, Some, arith, length-append, eqb-true, eq-eqb, nat_eq, nat_le, nat_lt, add-one}
use Rattle.std.proofs.lemmas.Bool.{false≢true}
use Rattle.std.proofs.lemmas.Bool.Decides.{nat_tests}
use Rattle.std.proofs.Math.Nat.{suc-mul, zero-mul, add_comm}
use Rattle.std.proofs.lemmas.List.{length-replicate}
use Rattle.std.specs.List.{slice_get, list_all}
use Rattle.c_core.specs.Types.{in_range}
use Rattle.c_core.specs.Tree as t
use Rattle.c_core.specs.Scope.{is_in}
use Rattle.c_core.specs.Program.{start_fits, started_objects, are_distinct, most_declared_cells}
use Rattle.c_core.proofs.Fits.{fit_in_range}
use Rattle.c_core.specs.declared.number.IntType.{IntType}
use Rattle.c_core.specs.declared.number.DataModel.{DataModel}
use Rattle.c_core.specs.declared.tree.Object.{Object}
use Rattle.c_core.specs.declared.tree.Start.{Start}
use Rattle.c_parser.specs.Tree as raw
use Rattle.c_parser.specs.Tree.{Exp, Expr, Exps, NoExp, MoreExp, exps}
use Rattle.check_rules.specs.declared.sizes.Sizes.{Sizes}
use Rattle.check_rules.specs.declared.sizes.Sizes.TheVariants.{Scalar}
use Rattle.check_rules.specs.Names.{Entry}
use Rattle.check_rules.specs.Scopes.{Scope, seen, cells_in, dims_of, sizes_of, cells_of, columns_of, object_of, after_name, after_names, after_item, after_items}
use Rattle.check_rules.specs.Parts.{Part, parts_of_name, parts_of_names, parts_of_item, parts_of_items, bodies_of, parts_of}
use Rattle.check_rules.specs.Codes.{cells_of_all, count, is_over_limit, is_wrong_init, is_wrong_size, passes_limit}
use Rattle.check_rules.specs.Checked.{padded, filled_sizes, filled_for, start_values, row_values, start_of_init, start_of_name, starts_of_names, starts_of}
use Rattle.check_wellformed.proofs.Lists.{AllOf, both, left, right, all_front, all_behind, all_weaker}
use Rattle.check_wellformed.proofs.Ranges.{zero_in_range}
use Rattle.check_wellformed.proofs.Threads.{declared, Leads, item_leads}
use Rattle.check_wellformed.proofs.Fair.{IsFair}
use Rattle.check_wellformed.proofs.Good.{IsGood}
use Rattle.check_wellformed.proofs.Objects.{cells_below, one_more}
use Rattle.check_wellformed.proofs.TypedStatements.{all_pass_then, list_right, rows_right}

one_row_more : (columns rows : ℕ) → columns + rows * columns ≡ suc rows * columns
one_row_more columns rows = add_comm columns (rows * columns) ∙ sym (suc-mul rows columns)

filled : (n cells : ℕ) → nat_le n cells ≡ true → n + (cells - n) ≡ cells
filled n cells h = grind (arith, nat_tests)

last_chosen : (a b : Bool) (one other : Sizes) → a ≡ false → b ≡ false → cond (a || b) one other ≡ other
last_chosen false false one other h k = refl
last_chosen false true one other h k = absurd (false≢true (sym k))
last_chosen true b one other h k = absurd (false≢true (sym h))

not_over : (before : ℕ) → before ≤ most_declared_cells → nat_lt most_declared_cells before ≡ false
not_over before h = grind (arith, nat_tests)

neither : (a b : Bool) → a ≡ false → b ≡ false → (a || b) ≡ false
neither false b h k = k
neither true b h k = absurd (false≢true (sym h))

-- what isn't refused is filled
all_filled : (before : ℕ) (i : raw.Init) (sizes : Sizes) → before ≤ most_declared_cells → is_wrong_size sizes i ≡ false → passes_limit before (cells_in sizes) ≡ false
    → filled_sizes before i sizes ≡ sizes
all_filled before i sizes h k p =
    last_chosen (is_wrong_size sizes i) (is_over_limit before (cells_in sizes)) Scalar sizes k
    (neither (nat_lt most_declared_cells before) (passes_limit before (cells_in sizes)) (not_over before h) p)

module _ (p : t.Program) (items : List raw.Item) (entries : List Entry) where
  abbrev Goods : List Part → Type 0
  Goods ps = AllOf (IsGood p items entries) ps

  abbrev Fits : Start → Bool
  Fits s = start_fits p.model s (slice_get p.objects s.object)

  zeros_in_range : (ty : IntType) (n : ℕ) → list_all (in_range p.model ty) (replicate n (pos 0)) ≡ true
  zeros_in_range ty zero = refl
  zeros_in_range ty (suc n) = both (zero_in_range p.model ty) (zeros_in_range ty n)

  value_count : (es : List Entry) (ty : IntType) (gs : Exps) → length (start_values p.model (bodies_of items) es ty gs) ≡ count gs
  value_count es ty NoExp = refl
  value_count es ty (MoreExp e gs) = ap (λ n. suc n) (value_count es ty gs) ∙ sym (add-one (count gs))

  values_in_range : (es : List Entry) (ty : IntType) (gs : Exps) → list_all (in_range p.model ty) (start_values p.model (bodies_of items) es ty gs) ≡ true
  values_in_range es ty NoExp = refl
  values_in_range es ty (MoreExp e gs) = both (fit_in_range p.model ty _) (values_in_range es ty gs)

  -- zeros fill the cells that values leave
  padded_fills : (cells : ℕ) (values : List ℤ) → nat_le (length values) cells ≡ true → nat_eq (length (padded cells values)) cells ≡ true
  padded_fills cells values h =
      let left_over = cells - length values in
      eq-eqb _ _ (length-append values (replicate left_over (pos 0)) ∙ ap (λ n. length values + n) (length-replicate left_over (pos 0)) ∙ filled (length values) cells h)

  padded_in_range : (ty : IntType) (cells : ℕ) (values : List ℤ) → list_all (in_range p.model ty) values ≡ true → list_all (in_range p.model ty) (padded cells values) ≡ true
  padded_in_range ty cells values h = all_pass_then (in_range p.model ty) values (replicate (cells - length values) (pos 0)) h (zeros_in_range ty (cells - length values))

  one_cell : (es : List Entry) (sizes : List Exp) → not (nat_eq (dims_of sizes) 0) ≡ false → nat_eq 1 (cells_of p.model (bodies_of items) es sizes) ≡ true
  one_cell es [] h = refl
  one_cell es (e ∷ []) h = absurd (false≢true (sym h))
  one_cell es (e ∷ f ∷ more) h = absurd (false≢true (sym h))

  -- each row of values fills all its columns
  rows_fill : (es : List Entry) (ty : IntType) (columns : ℕ) (rows : List Exps) → list_all (λ row. nat_le (count row) columns) rows ≡ true
      → length (row_values p.model (bodies_of items) es ty columns rows) ≡ length rows * columns
  rows_fill es ty columns [] h = sym (zero-mul columns)
  rows_fill es ty columns (row ∷ rows) h =
      let values = start_values p.model (bodies_of items) es ty row in
      let room : nat_le (length values) columns ≡ true = rw (value_count es ty row) (left (nat_le (count row) columns) _ h) in
      length-append (padded columns values) (row_values p.model (bodies_of items) es ty columns rows)
      ∙ ap (λ n. n + length (row_values p.model (bodies_of items) es ty columns rows)) (eqb-true _ _ (padded_fills columns values room))
      ∙ ap (λ n. columns + n) (rows_fill es ty columns rows (right (nat_le (count row) columns) _ h)) ∙ one_row_more columns (length rows)

  rows_in_range : (es : List Entry) (ty : IntType) (columns : ℕ) (rows : List Exps) → list_all (in_range p.model ty) (row_values p.model (bodies_of items) es ty columns rows) ≡ true
  rows_in_range es ty columns [] = refl
  rows_in_range es ty columns (row ∷ rows) =
      let values = start_values p.model (bodies_of items) es ty row in
      all_pass_then (in_range p.model ty) (padded columns values) _ (padded_in_range ty columns values (values_in_range es ty row)) (rows_in_range es ty columns rows)

  init_fits : (s : Scope) (es : List Entry) (d : raw.Declared) (i : raw.Init) → slice_get p.objects (length s.objects) ≡ Some (object_of p.model (bodies_of items) true (seen s) d) → is_wrong_init (dims_of d.sizes) i ≡ false → is_wrong_size (sizes_of p.model (bodies_of items) (seen s) d.sizes) i ≡ false → list_all Fits (start_of_init p.model (bodies_of items) es (length s.objects) d.ty (sizes_of p.model (bodies_of items) (seen s) d.sizes) i) ≡ true
  init_fits s es d raw.Absent e h k = refl
  init_fits s es d (raw.One v) e h k = rw e (both (both (one_cell (seen s) d.sizes h) (both (fit_in_range p.model d.ty _) refl)) refl)
  init_fits s es d (raw.Many gs) e h k =
      let cells = cells_of p.model (bodies_of items) (seen s) d.sizes in
      let values = start_values p.model (bodies_of items) es d.ty gs in
      let room : nat_le (length values) cells ≡ true = rw (value_count es d.ty gs) (list_right p items entries (seen s) d.sizes gs h k) in
      rw e (both (both (padded_fills cells values room) (padded_in_range d.ty cells values (values_in_range es d.ty gs))) refl)
  init_fits s es d (raw.Rows rows) e h k =
      let cells = cells_of p.model (bodies_of items) (seen s) d.sizes in
      let columns = columns_of p.model (bodies_of items) (seen s) d.sizes in
      let values = row_values p.model (bodies_of items) es d.ty columns rows in
      let fits = rows_right p items entries (seen s) d.sizes rows h k in
      let room : nat_le (length values) cells ≡ true = rw (rows_fill es d.ty columns rows fits.each) fits.all in
      rw e (both (both (padded_fills cells values room) (padded_in_range d.ty cells values (rows_in_range es d.ty columns rows))) refl)

  abbrev IsWithin : List Object → Type 0
  IsWithin os = cells_of_all os ≤ most_declared_cells

  names_fit : (s : Scope) (ds : List raw.Declared) → IsWithin s.objects → Goods (parts_of_names p.model (bodies_of items) true s ds) → list_all Fits (starts_of_names p.model (bodies_of items) s ds) ≡ true
  names_fit s [] few g = refl
  names_fit s (d ∷ ds) few g =
      let s' = after_name p.model (bodies_of items) true s d in
      let pd = parts_of_name p.model (bodies_of items) true s d in
      let here = all_behind (IsGood p items entries) (parts_of (seen s) (exps d.sizes)) _ (all_front (IsGood p items entries) pd _ g) in
      let o = object_of p.model (bodies_of items) true (seen s) d in
      let sizes = sizes_of p.model (bodies_of items) (seen s) d.sizes in
      let whole : filled_for p.model (bodies_of items) s d ≡ sizes = all_filled (cells_of_all s.objects) d.init sizes few here.0.fair.sized here.0.fair.fits in
      all_pass_then Fits (start_of_name p.model (bodies_of items) s d) _
      (subst (λ z. list_all Fits (start_of_init p.model (bodies_of items) (seen s') (length s.objects) d.ty z d.init) ≡ true) (sym whole)
      (init_fits s (seen s') d d.init here.0.placed here.0.fair.typed here.0.fair.sized))
      (names_fit s' ds (one_more p.model items s.objects o few here.0.fair.fits) (all_behind (IsGood p items entries) pd _ g))

  within_behind : (s : Scope) (x : raw.Item) → IsWithin s.objects → Goods (parts_of_item p.model (bodies_of items) s x) → IsWithin (after_item p.model (bodies_of items) s x).objects
  within_behind s x few g =
      let l = item_leads p.model (bodies_of items) s x in
      let px = parts_of_item p.model (bodies_of items) s x in
      let fair = all_weaker (IsGood p items entries) (IsFair p.model items) (λ part h. h.fair) px g in
      subst IsWithin (sym l.are) (cells_below p.model items s.objects px fair l.behind few)

  pub starts_are : (s : Scope) (xs : List raw.Item) → IsWithin s.objects → Goods (parts_of_items p.model (bodies_of items) s xs) → list_all Fits (starts_of p.model (bodies_of items) s xs) ≡ true
  starts_are s [] few g = refl
  starts_are s (raw.Global ds ∷ xs) few g =
      let px = parts_of_names p.model (bodies_of items) true s ds in
      let here = all_front (IsGood p items entries) px _ g in
      all_pass_then Fits (starts_of_names p.model (bodies_of items) s ds) _ (names_fit s ds few here)
      (starts_are (after_item p.model (bodies_of items) s (raw.Global ds)) xs (within_behind s (raw.Global ds) few here) (all_behind (IsGood p items entries) px _ g))
  starts_are s (raw.Function q name result ys body ∷ xs) few g =
      let x = raw.Function q name result ys body in
      let px = parts_of_item p.model (bodies_of items) s x in
      starts_are (after_item p.model (bodies_of items) s x) xs (within_behind s x few (all_front (IsGood p items entries) px _ g)) (all_behind (IsGood p items entries) px _ g)
  starts_are s (raw.Prototype q name result types ∷ xs) few g = starts_are (after_item p.model (bodies_of items) s (raw.Prototype q name result types)) xs few g.1
  starts_are s (raw.Closed q name ∷ xs) few g = starts_are (after_item p.model (bodies_of items) s (raw.Closed q name)) xs few g

-- ---- the objects that are started rise

-- from n on and below b
abbrev pub IsRising : ℕ → List Start → ℕ → Type 0
IsRising n [] b = n ≤ b
IsRising n (s ∷ ss) b = (n ≤ s.object) × IsRising (s.object + 1) ss b

from_lower : (k n b : ℕ) (ss : List Start) → k ≤ n → IsRising n ss b → IsRising k ss b
from_lower k n b [] h r = omega arith
from_lower k n b (s ∷ ss) h r = (omega arith, r.1)

rising_then : (n b c : ℕ) (ss us : List Start) → IsRising n ss b → IsRising b us c → IsRising n (ss ++ us) c
rising_then n b c [] us r q = from_lower n b c us r q
rising_then n b c (s ∷ ss) us r q = (r.0, rising_then (s.object + 1) b c ss us r.1 q)

unlike : (o n : ℕ) → o < n → nat_eq o n ≡ false
unlike o n h = grind (arith, nat_tests)

not_among : (o n b : ℕ) (ss : List Start) → o < n → IsRising n ss b → is_in o (started_objects ss) ≡ false
not_among o n b [] h r = refl
not_among o n b (s ∷ ss) h r = rw (unlike o s.object (omega arith)) (not_among o (s.object + 1) b ss (omega arith) r.1)

pub distinct : (n b : ℕ) (ss : List Start) → IsRising n ss b → are_distinct (started_objects ss) ≡ true
distinct n b [] r = refl
distinct n b (s ∷ ss) r = both (ap not (not_among s.object (s.object + 1) b ss (omega arith) r.1)) (distinct (s.object + 1) b ss r.1)

module _ (m : DataModel) (bodies : List (List ℕ)) where
  next_number : (os : List Object) (o : Object) → length (os ++ o ∷ []) ≡ length os + 1
  next_number os o = length-append os (o ∷ [])

  init_rises : (es : List Entry) (n k : ℕ) (ty : IntType) (sizes : Sizes) (i : raw.Init) → k ≡ n + 1 → IsRising n (start_of_init m bodies es n ty sizes i) k
  init_rises es n k ty sizes raw.Absent e = omega arith
  init_rises es n k ty sizes (raw.One v) e = (omega arith, omega arith)
  init_rises es n k ty sizes (raw.Many gs) e = (omega arith, omega arith)
  init_rises es n k ty sizes (raw.Rows rows) e = (omega arith, omega arith)

  names_rise : (s : Scope) (ds : List raw.Declared) → IsRising (length s.objects) (starts_of_names m bodies s ds) (length (after_names m bodies true s ds).objects)
  names_rise s [] = omega arith
  names_rise s (d ∷ ds) =
      let s' = after_name m bodies true s d in
      rising_then (length s.objects) (length s'.objects) _ (start_of_name m bodies s d) _
      (init_rises (seen s') (length s.objects) (length s'.objects) d.ty (filled_for m bodies s d) d.init (next_number s.objects (object_of m bodies true (seen s) d))) (names_rise s' ds)

  grown : (a b : List Object) (ps : List Part) → Leads m bodies a b ps → length a ≤ length b
  grown a b ps l = let e = ap length l.are ∙ length-append a (declared m bodies ps) in omega arith

  -- how many objects there are in the end
  abbrev pub last : Scope → List raw.Item → ℕ
  last s xs = length (after_items m bodies s xs).objects

  pub starts_rise : (s : Scope) (xs : List raw.Item) → IsRising (length s.objects) (starts_of m bodies s xs) (last s xs)
  starts_rise s [] = omega arith
  starts_rise s (raw.Global ds ∷ xs) =
      let s' = after_item m bodies s (raw.Global ds) in
      rising_then (length s.objects) (length s'.objects) (last s' xs) (starts_of_names m bodies s ds) (starts_of m bodies s' xs) (names_rise s ds) (starts_rise s' xs)
  starts_rise s (raw.Function q name result ys body ∷ xs) =
      let x = raw.Function q name result ys body in
      let s' = after_item m bodies s x in
      from_lower (length s.objects) (length s'.objects) (last s' xs) (starts_of m bodies s' xs) (grown s.objects s'.objects (parts_of_item m bodies s x) (item_leads m bodies s x)) (starts_rise s' xs)
  starts_rise s (raw.Prototype q name result types ∷ xs) = starts_rise (after_item m bodies s (raw.Prototype q name result types)) xs
  starts_rise s (raw.Closed q name ∷ xs) = starts_rise (after_item m bodies s (raw.Closed q name)) xs
