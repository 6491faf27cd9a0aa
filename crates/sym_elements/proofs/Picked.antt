-- Elements are read: a tree of choices by the digits of an index.
use Rattle.std.proofs.Common.{◌≡◌, ℕ, zero, suc, ◌+◌, ◌-◌, ◌*◌, ◌^◌, ◌<◌, ◌≤◌, Bool, true, false, cond, nat_lt, List, [], length, get_or, take, map, min, refl, sym, ◌∙◌, ap, ap₂, subst, arith, Some}
use Rattle.std.proofs.Math.Nat.{mul-le-mul_left}
use Rattle.std.proofs.lemmas.Bool.{lt-ltb, le-ltb}
use Rattle.std.proofs.lemmas.Nat.{pow_pos}
use Rattle.std.proofs.lemmas.List.Elements.{All-take}
use Rattle.c_core.specs.Tree.{Program}
use Rattle.c_core.specs.Types.{width_of}
use Rattle.c_core.specs.declared.number.IntType.{IntType}
use Rattle.c_meaning.specs.Cells.{read}
use Rattle.c_meaning.specs.Objects.{type_of_object, size_of_object}
use Rattle.sym_meaning.specs.Mode.{Mode}
use Rattle.circuits.specs.declared.net.Bit.{Bit}
use Rattle.circuits.specs.Net.{holds, IsIn}
use Rattle.circuits.specs.Numbers.{number, digit, typed, AreIn, Reads}
use Rattle.sym_state.specs.declared.state.Sym.{Sym}
use Rattle.sym_state.specs.Places.{key}
use Rattle.sym_state.specs.Standing.{stand, IsState}
use Rattle.sym_state.proofs.Nets.{unchanged, added_then, longer_by, holds_added, number_added, typed_added}
use Rattle.sym_state.proofs.Composed.{turned_follows}
use Rattle.sym_values.specs.Valuing.{Reckoned, Gives}
use Rattle.sym_elements.specs.declared.placing.Places.{Places}
use Rattle.sym_elements.specs.Marks.{HasOne}
use Rattle.sym_elements.specs.Placing.{cell_number, told_by}
use Rattle.sym_elements.specs.Elements.{ArePlaces, width_of_element, picked_cost, read_cost, read_in, IsPicked}
use Rattle.sym_elements.proofs.Spelling.{column_less, cell_apart, cell_below, cell_of_none, cell_added}
use Rattle.sym_elements.proofs.Kept.{first_is}

-- where the highest digit isn't needed it is 0
not_needed : (m n q count : ℕ) (t : Bool) → m ≡ n + q * digit t → m < count → count ≤ q → n ≡ m
not_needed m n q count true e h few = absurd (omega (arith, e, h, few))
not_needed m n q count false e h few = omega (arith, e)

-- half is what the digits tell apart where more cells than it are left; else the cells left are no more than they tell apart
pub more_told : (q half count : ℕ) → half ≡ min q (2 ^ 32 - 1) → half < count → count < 2 ^ 32 → half ≡ q
more_told q half count e h few = omega (arith, e, h, few)

pub no_more_told : (q half count : ℕ) → half ≡ min q (2 ^ 32 - 1) → count ≤ half → count ≤ q
no_more_told q half count e h = omega (arith, e, h)

suc_less : (n : ℕ) → suc n - 1 ≡ n
suc_less n = omega arith

-- trees of h and of m cells, with the choice between them, take no more than a tree of h + m
choices : (h m w : ℕ) → 0 < h → 0 < m → (m - 1) * w + ((h - 1) * w + w) ≤ (h + m - 1) * w
choices zero m w a b = absurd (omega (arith, a))
choices (suc h) zero w a b = absurd (omega (arith, b))
choices (suc h) (suc m) w a b =
    let e : suc h + suc m - 1 ≡ h + m + 1 = omega arith in
    rw (e, suc_less h, suc_less m) (omega arith)

split_count : (count half : ℕ) → half < count → half + (count - half) ≡ count
split_count count half h = omega (arith, h)

-- by digits of a column alone, and by all of its digits and some of a row
pub told_column : (inner columns k : ℕ) → k < inner → told_by inner columns k ≡ 2 ^ k
told_column inner columns k h = ap (λ t. cond t (2 ^ k) (columns * 2 ^ (k - inner))) (lt-ltb k inner h)

pub told_rows : (inner columns k : ℕ) → inner ≤ k → told_by inner columns k ≡ columns * 2 ^ (k - inner)
told_rows inner columns k h = ap (λ t. cond t (2 ^ k) (columns * 2 ^ (k - inner))) (le-ltb k inner h)

-- within 32 bits
pub few_told : (columns n m : ℕ) → n ≡ min m (2 ^ 32 - 1) → columns * n < 2 ^ 32 - 1 → columns * n ≡ min (columns * m) (2 ^ 32 - 1)
few_told zero n m e h = omega arith
few_told (suc c) n m e h =
    let few : n ≤ suc c * n = omega arith in
    let same : n ≡ m = omega (arith, e, few, h) in
    let q : suc c * m < 2 ^ 32 - 1 = subst (λ z. suc c * z < 2 ^ 32 - 1) same h in
    ap (λ z. suc c * z) same ∙ (let r : suc c * m ≡ min (suc c * m) (2 ^ 32 - 1) = omega (arith, q) in r)

pub many_told : (columns n m : ℕ) → n ≡ min m (2 ^ 32 - 1) → 2 ^ 32 - 1 ≤ columns * n → 2 ^ 32 - 1 ≡ min (columns * m) (2 ^ 32 - 1)
many_told columns n m e h =
    let more : columns * n ≤ columns * m = mul-le-mul_left columns (omega (arith, e)) in
    omega (arith, more, h)

-- some cells are told apart
pub some_told : (inner columns k : ℕ) → 0 < columns → 0 < told_by inner columns k
some_told inner columns k h = by_case (nat_lt k inner)
  where
    by_case : (t : Bool) → 0 < cond t (2 ^ k) (columns * 2 ^ (k - inner))
    by_case true = pow_pos k
    by_case false = product columns (2 ^ (k - inner)) h (pow_pos (k - inner))
      where
        product : (a b : ℕ) → 0 < a → 0 < b → 0 < a * b
        product zero b x y = absurd (omega (arith, x))
        product (suc a) b x y = omega (arith, y)

module _ (p : Program) (o inner columns : ℕ) where
  -- no digit is left: the cell itself
  pub picked_cell : {s : Sym} {ty : IntType} {digits bits : List Bit} (low count : ℕ) → IsState p s → ty ≡ type_of_object p o → digits ≡ [] → Reads p.model ty s.net bits (λ v. read (key o low) (stand p v s).cells)
      → IsPicked p o inner columns low count digits s s bits
  picked_cell {s} {ty} {digits} {bits} low count h same e r =
      let q : Reads p.model (type_of_object p o) s.net bits (λ v. read (key o low) (stand p v s).cells) = subst (λ t. Reads p.model t s.net bits (λ v. read (key o low) (stand p v s).cells)) same r in
      record {
        turned = record { fits = h; added = unchanged _ s.net; level = refl; result = refl; is = λ v. refl };
        bits_in = q.bits_in;
        is = λ v few lt. q.is v ∙ ap (λ k. read (key o k) (stand p v s).cells) (omega (arith, cell_of_none v s.net inner columns digits e));
      }

  -- no cell needs the highest digit
  pub picked_lower : {s n : Sym} {digits lower bits : List Bit} {low count : ℕ} (k : ℕ) (d : Bit) → length digits ≡ k + 1 → lower ≡ take k digits → count ≤ told_by inner columns k → IsPicked p o inner columns low count lower s n bits
      → IsPicked p o inner columns low count digits s n bits
  picked_lower {s} {n} {digits} {lower} {bits} {low} {count} k d e l few x =
      let same : (v : ℕ → Bool) → cell_number v s.net inner columns digits < count → cell_number v s.net inner columns lower ≡ cell_number v s.net inner columns digits =
      λ v lt.
      ap (cell_number v s.net inner columns) l
      ∙ not_needed (cell_number v s.net inner columns digits) (cell_number v s.net inner columns (take k digits)) (told_by inner columns k) count (holds v s.net (get_or digits k d)) (cell_apart v s.net inner columns k digits d e) lt few in
      record {
        turned = x.turned;
        bits_in = x.bits_in;
        is = λ v h lt.
            x.is v (omega (arith, h, column_less v s.net inner k digits, ap (λ ds. number v s.net (take inner ds)) l)) (omega (arith, same v lt, lt))
            ∙ ap (λ m. read (key o (low + m)) (stand p v s).cells) (same v lt);
      }

  -- room for the second tree, and for the choice
  pub room_below : {s a : Sym} {lower above : List Bit} {from : ℕ} (half count : ℕ) → 0 < half → half < count → length s.net + picked_cost p o count < 2 ^ 28 → IsPicked p o inner columns from (count - half) lower s a above
      → length a.net + picked_cost p o half < 2 ^ 28
  room_below half count some many room x =
      omega (arith, (longer_by x.turned.added).1, choices half (count - half) (4 * width_of_element p o) some (omega (arith, many)), ap (λ m. (m - 1) * (4 * width_of_element p o)) (split_count count half many), room)

  pub room_choice : {s a b : Sym} {lower above below : List Bit} {from low : ℕ} (half count : ℕ) → 0 < half → half < count → length s.net + picked_cost p o count < 2 ^ 28 → IsPicked p o inner columns from (count - half) lower s a above
      → IsPicked p o inner columns low half lower a b below → length b.net < 2 ^ 28
  room_choice half count some many room x y = omega (arith, (longer_by y.turned.added).1, room_below half count some many room x)

  abbrev ty : IntType
  ty = type_of_object p o

  -- the highest digit chooses between two trees
  module _ {s a b : Sym} {above below : List Bit} (digits lower : List Bit) (low count half k : ℕ) (top d : Bit) (here : IsIn s.net top) (digits_in : AreIn s.net digits) (wide : length digits ≡ k + 1) (l : lower ≡ take k digits)
      (e : top ≡ get_or digits k d) (h : half ≡ told_by inner columns k) (some : 0 < half) (many : half < count) (x : IsPicked p o inner columns (low + half) (count - half) lower s a above) (y : IsPicked p o inner columns low half lower a b below) where
    lower_in : AreIn s.net lower
    lower_in = subst (AreIn s.net) (sym l) (All-take (λ b. IsIn s.net b) k digits digits_in)

    column_fits : (v : ℕ → Bool) → number v s.net (take inner digits) < columns → number v s.net (take inner lower) < columns
    column_fits v few = omega (arith, few, column_less v s.net inner k digits, ap (λ ds. number v s.net (take inner ds)) l)

    split : (v : ℕ → Bool) (t : Bool) → holds v s.net top ≡ t → cell_number v s.net inner columns digits ≡ cell_number v s.net inner columns lower + half * digit t
    split v t q =
        cell_apart v s.net inner columns k digits d wide
        ∙ ap₂ (λ m b. cell_number v s.net inner columns m + told_by inner columns k * digit (holds v s.net b)) (sym l) (sym e)
        ∙ ap₂ (λ m b. cell_number v s.net inner columns lower + m * digit b) (sym h) q

    lower_less : (v : ℕ → Bool) → number v s.net (take inner digits) < columns → cell_number v s.net inner columns lower < half
    lower_less v few = omega (arith, cell_below v s.net inner columns k digits wide few, ap (cell_number v s.net inner columns) l, h)

    kept_cell : (v : ℕ → Bool) → cell_number v a.net inner columns lower ≡ cell_number v s.net inner columns lower
    kept_cell v = cell_added v inner columns lower x.turned.added lower_in

    kept_column : (v : ℕ → Bool) → number v a.net (take inner lower) ≡ number v s.net (take inner lower)
    kept_column v = number_added x.turned.added v (take inner lower) (All-take (λ b. IsIn s.net b) inner lower lower_in)

    chosen : (v : ℕ → Bool) (t : Bool) → holds v s.net top ≡ t → number v s.net (take inner digits) < columns → cell_number v s.net inner columns digits < count
        → cond t (typed p.model ty v b.net above) (typed p.model ty v b.net below) ≡ read (key o (low + cell_number v s.net inner columns digits)) (stand p v s).cells
    chosen v true q few lt =
        typed_added y.turned.added p.model ty v above x.bits_in ∙ x.is v (column_fits v few) (omega (arith, split v true q, lt))
        ∙ ap (λ m. read (key o m) (stand p v s).cells) (omega (arith, split v true q))
    chosen v false q few lt =
        y.is v (omega (arith, kept_column v, column_fits v few)) (omega (arith, kept_cell v, lower_less v few))
        ∙ ap₂ (λ m c. read (key o m) c.cells) (omega (arith, kept_cell v, split v false q)) (x.turned.is v)

    abbrev Chosen : IntType → Sym → List Bit → Type 0
    Chosen t n bits = Reckoned p (4 * width_of p.model t) b n t bits (λ v. cond (holds v b.net top) (typed p.model t v b.net above) (typed p.model t v b.net below))

    pub picked_choice : {n : Sym} {bits : List Bit} (t : IntType) → t ≡ ty → Chosen t n bits → IsPicked p o inner columns low count digits s n bits
    picked_choice {n} {bits} t same c =
        let r : Chosen ty n bits = subst (λ t. Chosen t n bits) same c in
        let both = added_then (picked_cost p o (count - half) + picked_cost p o half) 0 x.turned.added y.turned.added (omega arith) (omega arith) in
        record {
          turned = record {
            fits = r.turned.fits;
            added = added_then (picked_cost p o count) 0 both r.turned.added (omega (arith, choices half (count - half) (4 * width_of_element p o) some (omega (arith, many)), ap (λ m. (m - 1) * (4 * width_of_element p o)) (split_count count half many))) (omega arith);
            level = r.turned.level ∙ y.turned.level ∙ x.turned.level;
            result = r.turned.result ∙ y.turned.result ∙ x.turned.result;
            is = λ v. r.turned.is v ∙ y.turned.is v ∙ x.turned.is v;
          };
          bits_in = r.bits_in;
          is = λ v few lt. r.is v ∙ ap (λ t. cond t (typed p.model ty v b.net above) (typed p.model ty v b.net below)) (holds_added both v top here) ∙ chosen v (holds v s.net top) refl few lt;
        }

module _ (p : Program) (o : ℕ) where
  -- the tree of all digits, of a run that is here
  pub picked_all : {s n : Sym} {ty : IntType} {bits : List Bit} {count : ℕ} (W : Mode) (places : Places) → ty ≡ type_of_object p o → count ≡ length places.bits → ArePlaces p s o places
      → IsPicked p o places.inner places.columns 0 count places.digits s n bits → Gives p W (read_cost p o) 0 s n (Some ty) bits (read_in p W o places.bits s)
  picked_all {s} {n} {ty} {bits} {count} W places same e x r =
      subst (λ t. Gives p W (read_cost p o) 0 s n (Some t) bits (read_in p W o places.bits s)) (sym same) (record {
        bits_in = r.bits_in;
        follows = turned_follows p W.duties (λ v z. z)
            (record {
              fits = r.turned.fits;
              added = added_then (read_cost p o) 0 (unchanged 0 s.net) r.turned.added (less count (size_of_object p o) (4 * width_of_element p o) (omega (arith, e, x.few))) (omega arith);
              level = r.turned.level;
              result = r.turned.result;
              is = r.turned.is;
            })
            (λ v. refl) (λ v d. refl)
            (λ v here rest.
            let one : HasOne (length places.bits) (map (holds v s.net) places.bits) = x.one v here.live in
            let told = x.told v here.live in (
              here,
              refl,
              sym (r.is v told.column (omega (arith, told.is, first_is one, one.1, e)) ∙ ap (λ m. read (key o m) (stand p v s).cells) (omega (arith, told.is))),
            ));
      })
    where
      less : (m n w : ℕ) → m ≤ n → 0 + (m - 1) * w ≤ n * w
      less m n w h =
          let q : w * (m - 1) ≤ w * n = mul-le-mul_left w (omega (arith, h)) in
          omega (arith, q)
