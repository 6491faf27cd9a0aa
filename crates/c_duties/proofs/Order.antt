-- The order of duties, as an order of triples of numbers.
use Rattle.std.proofs.Common.{◌≡◌, ℕ, refl, subst, Bool, true, false, cond, nat_eq, nat_lt, ◌&&◌, ◌||◌}
use Rattle.std.specs.Cmp.{IsTotalOrder, IsStrictWeakOrder, nat_cmp_total, on_total, then_total}
use Rattle.std.specs.Ordering.{is_lt, nat_cmp, ordering_then}
use Rattle.std.specs.declared.cmp.Ordering.{Ordering}
use Rattle.std.specs.declared.cmp.Ordering.TheVariants.{Less, Equal, Greater}
use Rattle.std.proofs.lemmas.List.Sorted.{ranks_by}
use Rattle.c_meaning.specs.declared.run.Duty.{Duty}
use Rattle.c_meaning.specs.Duties.{is_less, kind_rank}

abbrev pub Triple : Type 0
Triple = ℕ × ℕ × ℕ

abbrev pub key : Duty → Triple
key d = (d.spot.line, d.spot.column, kind_rank d.kind)

abbrev pub triple_cmp : Triple → Triple → Ordering
triple_cmp x y = ordering_then (ordering_then (nat_cmp x.0 y.0) (nat_cmp x.1 y.1)) (nat_cmp x.2 y.2)

abbrev cmp_by : Bool → Bool → Ordering
cmp_by less same = cond less Less (cond same Equal Greater)

before_by : (l m n e f g : Bool) → is_lt (ordering_then (ordering_then (cmp_by l e) (cmp_by m f)) (cmp_by n g)) ≡ l || (e && (m || (f && n)))
before_by true m n e f g = refl
before_by false m n false f g = refl
before_by false true n true f g = refl
before_by false false n true false g = refl
before_by false false true true true g = refl
before_by false false false true true true = refl
before_by false false false true true false = refl

abbrev Test : Type 0
Test = Duty → Duty → Bool

abbrev pub less : Duty → Duty → Bool
less a b = is_less a b

abbrev pub before : Duty → Duty → Bool
before a b = is_lt (triple_cmp (key a) (key b))

pub before_is_less : ◌≡◌ {A = Test} before less
before_is_less i a b =
    before_by (nat_lt a.spot.line b.spot.line) (nat_lt a.spot.column b.spot.column) (nat_lt (kind_rank a.kind) (kind_rank b.kind)) (nat_eq a.spot.line b.spot.line) (nat_eq a.spot.column b.spot.column) (nat_eq (kind_rank a.kind) (kind_rank b.kind)) i

triple_total : IsTotalOrder triple_cmp
triple_total = then_total (then_total (on_total (λ (x : Triple). x.0) nat_cmp_total) (on_total (λ (x : Triple). x.1) nat_cmp_total)) (on_total (λ (x : Triple). x.2) nat_cmp_total)

pub duties_ordered : IsStrictWeakOrder is_less
duties_ordered = subst IsStrictWeakOrder before_is_less (ranks_by triple_total key)
