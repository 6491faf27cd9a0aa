-- The places of an index, and of a row and a column.
use Rattle.std.proofs.Common.{◌≡◌, ℕ, suc, ◌+◌, ◌-◌, ◌*◌, ◌/◌, ◌^◌, ◌<◌, ◌≤◌, Bool, true, false, cond, not, ◌&&◌, nat_lt, ℤ, pos, negsuc, List, ◌++◌, length, map, take, drop, refl, sym, ◌∙◌, ap, ap₂, subst, arith, Option, Some, None}
use Rattle.std.proofs.Math.Nat.{mul-le-mul_left, div-le_self, div-mul-le_self}
use Rattle.std.proofs.lemmas.Bool.{ltb-true, ltb-false}
use Rattle.std.proofs.lemmas.List.{take_at, drop_at}
use Rattle.std.proofs.lemmas.List.Elements.{All-append}
use Rattle.c_core.specs.Types.{signed_of}
use Rattle.c_meaning.specs.Run.{index_below, in_row}
use Rattle.c_meaning.proofs.Indexes.{below_is}
use Rattle.circuits.specs.declared.net.Bit.{Bit}
use Rattle.circuits.specs.declared.net.NetNode.{NetNode}
use Rattle.circuits.specs.Gates.{negative}
use Rattle.circuits.specs.Net.{holds, IsIn, Grown, Means}
use Rattle.circuits.specs.Numbers.{number, read, AreIn}
use Rattle.circuits.proofs.Nets.{grown_then, wider, means_by, stays}
use Rattle.circuits.proofs.Counting.{number_stays, are_in_later}
use Rattle.sym_state.specs.Standing.{marks}
use Rattle.sym_elements.specs.declared.placing.Places.{Places}
use Rattle.sym_elements.specs.Marks.{IsDecoded, AreCrossed, crossing}
use Rattle.sym_elements.specs.Placing.{MaybeCell, mark_of, Spells, ArePlaced, index_of, index_where, row_where, index_cost, crossed_cost, row_cost}
use Rattle.sym_elements.proofs.Marking.{marks_outside}
use Rattle.sym_elements.proofs.Decoding.{all_stay}
use Rattle.sym_elements.proofs.Crossing.{crossing_marks}

-- an index of a type, read from its digits, is below a number
below_by_sign : (n m : ℕ) (k : ℕ) (t : Bool) → index_below n (cond t (pos m) (negsuc k)) ≡ cond (not (not t) && nat_lt m n) (Some m) None
below_by_sign n m k true = refl
below_by_sign n m k false = refl

below_read : (n w m : ℕ) (s : Bool) → index_below n (read w s m) ≡ cond (not (negative w s m) && nat_lt m n) (Some m) None
unfolding signed_of
below_read n w m false = refl
below_read n w m true = below_by_sign n m (2 ^ w - suc m) (nat_lt m (2 ^ (w - 1)))

-- it is the digits' number
given_number : (t : Bool) (m k : ℕ) → cond t (Some m) None ≡ Some k → m ≡ k
given_number true m k e = cc
given_number false m k e = absurd (cc)

number_is : (n w m : ℕ) (s : Bool) (k : ℕ) → index_below n (read w s m) ≡ Some k → m ≡ k
number_is n w m s k e = given_number (not (negative w s m) && nat_lt m n) m k (sym (below_read n w m s) ∙ e)

-- where a bit is true
where_is : (h : Bool) (o : Option ℕ) (k : ℕ) → cond h o None ≡ Some k → o ≡ Some k
where_is true o k e = e
where_is false o k e = absurd (cc)

-- the sign's bit of a type that has none
pub unsigned_yes : {net : List NetNode} {b : Bit} (w : ℕ) (n : (ℕ → Bool) → ℕ) (s : Bool) → s ≡ false → Means net b (λ v. true) → Means net b (λ v. not (negative w s (n v)))
unsigned_yes {net} {b} w n s e m = means_by net b (λ v. true) (λ v. not (negative w s (n v))) m (λ v. ap (λ t. not (t && not (nat_lt (n v) (2 ^ (w - 1))))) (sym e))

-- ---- an index
-- the mark of a number that is there, and of the cell that it means
same_mark : (h q : Bool) (m n : ℕ) → marks (cond (h && q) (suc m) 0) n ≡ marks (mark_of (cond h (cond (q && nat_lt m n) (Some m) None) None)) n
same_mark false q m n = refl
same_mark true false m n = refl
same_mark true true m n = by_case (nat_lt m n) refl
  where
    by_case : (t : Bool) → nat_lt m n ≡ t → marks (suc m) n ≡ marks (mark_of (cond t (Some m) None)) n
    by_case true e = refl
    by_case false e = marks_outside m n (ltb-false m n e)

module _ (net one two : List NetNode) (here inside there : Bit) (bits index : List Bit) (s : Bool) (n : ℕ) (index_in : AreIn net index) (sign : Means net inside (λ v. not (negative (length index) s (number v net index)))) (g : Grown 1 net one)
    (m : Means one there (λ v. holds v net here && holds v net inside)) (made : IsDecoded one two there index n bits) where
  abbrev value : (ℕ → Bool) → ℕ
  value v = number v net index

  placed_grown : Grown (index_cost n (length index)) net two
  placed_grown = grown_then 1 (2 * (n + length index)) (index_cost n (length index)) net one two g made.grown (omega arith)

  spelled : (v : ℕ → Bool) (k : ℕ) → value v ≡ k → Spells v two (record { bits = bits; digits = index; inner = 0; columns = 1 }) k
  unfolding number
  spelled v k e = let same = number_stays v (index_cost n (length index)) net two index placed_grown index_in in record { column = omega arith; is = omega (arith, same, e) }

  pub index_placed : ArePlaced net two (index_cost n (length index)) n (index_where net here n s index) (record { bits = bits; digits = index; inner = 0; columns = 1 })
  index_placed = record {
    grown = placed_grown;
    inside = made.marks_of.inside;
    wide = made.marks_of.wide;
    digits_in = are_in_later (index_cost n (length index)) net two index placed_grown index_in;
    some = omega arith;
    is = λ v.
        made.marks_of.is v
        ∙ ap₂ (λ t k. marks (cond t (suc k) 0) n) (m.is v ∙ ap (λ q. holds v net here && q) (sign.is v)) (number_stays v 1 net one index g index_in)
        ∙ same_mark (holds v net here) (not (negative (length index) s (value v))) (value v) n
        ∙ ap (λ o. marks (mark_of (cond (holds v net here) o None)) n) (sym (below_read n (length index) (value v) s));
    below = λ v k e. below_is n (read (length index) s (value v)) k (where_is (holds v net here) (index_of net n s index v) k e);
    told = λ v k e. spelled v k (number_is n (length index) (value v) s k (where_is (holds v net here) (index_of net n s index v) k e));
  }

-- ---- a row and a column
record Parts (c : ℕ) (a b : Option ℕ) (k : ℕ) : Type 0 where
  pub row : ℕ
  pub column : ℕ
  pub row_is : a ≡ Some row
  pub column_is : b ≡ Some column
  pub is : row * c + column ≡ k

parts_of : (c : ℕ) (a b : Option ℕ) (k : ℕ) → in_row c a b ≡ Some k → Parts c a b k
parts_of c None b k e = absurd (cc)
parts_of c (Some i) None k e = absurd (cc)
parts_of c (Some i) (Some j) k e = record { row = i; column = j; row_is = refl; column_is = refl; is = cc }

both_where : (h : Bool) (c : ℕ) (x y : Option ℕ) → in_row c (cond h x None) (cond h y None) ≡ cond h (in_row c x y) None
both_where true c x y = refl
both_where false c x y = refl

below_rows : (i j r c : ℕ) → i < r → j < c → i * c + j < r * c
below_rows i j r c h l =
    let m : c * suc i ≤ c * r = mul-le-mul_left c (omega (arith, h)) in
    omega (arith, m, l)

module _ (net one two three : List NetNode) (here : Bit) (bits row column digits : List Bit) (first last : Places) (sr sc : Bool) (r c inner : ℕ) (here_in : IsIn net here) (row_in : AreIn net row) (column_in : AreIn net column) (some : 0 < c)
    (a : ArePlaced net one (index_cost r (length row)) r (index_where net here r sr row) first) (b : ArePlaced one two (index_cost c (length column)) c (index_where one here c sc column) last)
    (x : AreCrossed two three first.bits last.bits (length first.bits * length last.bits) bits) (e : digits ≡ column ++ row) (w : inner ≡ length column) where
  abbrev column_cell : (ℕ → Bool) → Option ℕ
  column_cell v = index_where net here c sc column v

  abbrev cell : (ℕ → Bool) → Option ℕ
  cell v = row_where net here r c sr row sc column v

  abbrev placed : Places
  placed = record { bits = bits; digits = digits; inner = inner; columns = c }

  many : length first.bits * length last.bits ≡ r * c
  many = ap₂ (λ m n. m * n) a.wide b.wide

  row_grown : Grown (crossed_cost r c (length row) (length column)) net three
  row_grown = grown_then _ _ (crossed_cost r c (length row) (length column)) net two three (grown_then _ _ (index_cost r (length row) + index_cost c (length column)) net one two a.grown b.grown (omega arith)) x.grown (omega (arith, many))

  column_same : (v : ℕ → Bool) → index_where one here c sc column v ≡ column_cell v
  column_same v = ap₂ (λ h n. cond h (index_below c (read (length column) sc n)) None) (stays v _ net one here a.grown here_in) (number_stays v _ net one column a.grown column_in)

  below_column : (v : ℕ → Bool) (j : ℕ) → column_cell v ≡ Some j → j < c
  below_column v j q = b.below v j (column_same v ∙ q)

  by_parts : (v : ℕ → Bool) (k : ℕ) → cell v ≡ Some k → Parts c (index_where net here r sr row v) (column_cell v) k
  by_parts v k q = parts_of c (index_where net here r sr row v) (column_cell v) k (both_where (holds v net here) c (index_of net r sr row v) (index_of net c sc column v) ∙ q)

  number_of_row : (v : ℕ → Bool) (i : ℕ) → index_where net here r sr row v ≡ Some i → number v three row ≡ i
  number_of_row v i q = number_stays v _ net three row row_grown row_in ∙ number_is r (length row) (number v net row) sr i (where_is (holds v net here) (index_of net r sr row v) i q)

  number_of_column : (v : ℕ → Bool) (j : ℕ) → column_cell v ≡ Some j → number v three column ≡ j
  number_of_column v j q = number_stays v _ net three column row_grown column_in ∙ number_is c (length column) (number v net column) sc j (where_is (holds v net here) (index_of net c sc column v) j q)

  spelled_row : (v : ℕ → Bool) (k : ℕ) → Parts c (index_where net here r sr row v) (column_cell v) k → Spells v three placed k
  spelled_row v k q =
      let low : number v three (take inner digits) ≡ q.column = ap₂ (λ n ds. number v three (take n ds)) w e ∙ ap (number v three) (take_at column row (length column) refl) ∙ number_of_column v q.column q.column_is in
      let high : number v three (drop inner digits) ≡ q.row = ap₂ (λ n ds. number v three (drop n ds)) w e ∙ ap (number v three) (drop_at column row (length column) refl) ∙ number_of_row v q.row q.row_is in
      record {
        column = omega (arith, low, below_column v q.column q.column_is);
        is = ap₂ (λ m n. m + c * n) low high ∙ (let f : q.column + c * q.row ≡ q.row * c + q.column = omega arith in f) ∙ q.is;
      }

  pub row_placed : ArePlaced net three (crossed_cost r c (length row) (length column)) (r * c) cell placed
  row_placed = record {
    grown = row_grown;
    inside = x.inside;
    wide = x.wide ∙ many;
    digits_in = rw e (All-append (λ b. IsIn three b) column row (are_in_later _ net three column row_grown column_in) (are_in_later _ net three row row_grown row_in));
    some = some;
    is = λ v.
        x.is v
        ∙ ap₂ (λ bs n. crossing bs (map (holds v two) last.bits) (length last.bits) n) (all_stay v first.bits b.grown a.inside ∙ a.is v) many
        ∙ ap₂ (λ bs n. crossing (marks (mark_of (index_where net here r sr row v)) r) bs n (r * c)) (b.is v ∙ ap (λ o. marks (mark_of o) c) (column_same v)) b.wide
        ∙ crossing_marks (index_where net here r sr row v) (column_cell v) r c (a.below v) (below_column v) (r * c)
        ∙ ap (λ o. marks (mark_of o) (r * c)) (both_where (holds v net here) c (index_of net r sr row v) (index_of net c sc column v));
    below = λ v k q.
        let f = by_parts v k q in
        let g : f.row * c + f.column < r * c = below_rows f.row f.column r c (a.below v f.row f.row_is) (below_column v f.column f.column_is) in
        omega (arith, g, f.is);
    told = λ v k q. spelled_row v k (by_parts v k q);
  }

-- within what an object's cells may cost
pub placed_within : {r c : ℕ} {old new : List NetNode} {cell : MaybeCell} {places : Places} (i j cells : ℕ) → r ≡ cells / c → c ≤ cells → ArePlaced old new (crossed_cost r c i j) (r * c) cell places → ArePlaced old new (row_cost cells i j) (r * c) cell places
placed_within {r} {c} i j cells e few x = record {
  grown = wider x.grown (omega (arith, few, few_rows, cells_within));
  inside = x.inside;
  wide = x.wide;
  digits_in = x.digits_in;
  some = x.some;
  is = x.is;
  below = x.below;
  told = x.told;
}
  where
    few_rows : r ≤ cells
    few_rows = omega (arith, e, div-le_self cells c)

    cells_within : r * c ≤ cells
    cells_within = subst (λ z. z * c ≤ cells) (sym e) (div-mul-le_self cells c)
