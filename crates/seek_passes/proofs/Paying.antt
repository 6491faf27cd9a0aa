-- What events cost is paid by the toll of their place.
use Rattle.std.proofs.Common.{◌≡◌, ℕ, ◌+◌, ◌*◌, ◌≤◌, Bool, true, false, cond, List, [], ◌∷◌, ◌++◌, length, refl, arith, length-append}
use Rattle.c_core.specs.Tree.{Program}
use Rattle.c_core.specs.declared.number.Spot.{Spot}
use Rattle.way_match.specs.Points.{Point, BoundSegment}
use Rattle.seek_weight.specs.Tolls.{Happening, AStatement, ACall, points_of, constraint_weight, is_placed, placed_weight}
use Rattle.seek_passes.specs.declared.event.SymEvent.{SymEvent}
use Rattle.seek_passes.specs.declared.event.SymEvent.TheVariants.{At, Enter, Return, Branch, Select}
use Rattle.seek_passes.specs.Charges.{placed_cost, point_weight, any_weight, told_weight, IsPaid}

one_paid : (b : Bool) (n : ℕ) → cond b (65 + n) 0 ≤ 1 + cond b (64 + n) 0
one_paid true n = omega arith
one_paid false n = omega arith

module _ (p : Program) where
  module _ (h : Happening) (at : Spot) where
    placed_append : (xs ys : List Point) → placed_weight p h at (xs ++ ys) ≡ placed_weight p h at xs + placed_weight p h at ys
    placed_append [] ys = omega arith
    placed_append (x ∷ xs) ys = omega (arith, placed_append xs ys)

    module _ (e : SymEvent) (same : (x : Point) → point_weight p e x ≡ placed_cost p h at x) where
      any_paid : (xs : List Point) → any_weight p e xs ≤ 2 * length xs + placed_weight p h at xs
      any_paid [] = omega arith
      any_paid (x ∷ xs) = omega (arith, any_paid xs, same x, one_paid (is_placed p h at x) (constraint_weight p x))

      pub placed_paid : (ss : List BoundSegment) → told_weight p e ss ≤ 9 * length (points_of ss) + placed_weight p h at (points_of ss)
      placed_paid [] = omega arith
      placed_paid (s ∷ ss) =
          omega (arith, placed_paid ss, any_paid s.avoids, same s.follow, one_paid (is_placed p h at s.follow) (constraint_weight p s.follow), length-append s.avoids (s.follow ∷ points_of ss), placed_append s.avoids (s.follow ∷ points_of ss))

  module _ (e : SymEvent) (free : (x : Point) → point_weight p e x ≡ 0) where
    any_free : (xs : List Point) → any_weight p e xs ≤ length xs
    any_free [] = omega arith
    any_free (x ∷ xs) = omega (arith, any_free xs, free x)

    pub free_paid : (ss : List BoundSegment) → told_weight p e ss ≤ 9 * length (points_of ss)
    free_paid [] = omega arith
    free_paid (s ∷ ss) = omega (arith, free_paid ss, any_free s.avoids, free s.follow, length-append s.avoids (s.follow ∷ points_of ss))

pub paid : (p : Program) (ss : List BoundSegment) → IsPaid p ss
paid p ss = record {
  statement = λ spot. omega (arith, placed_paid p AStatement spot (At spot) (λ x. refl) ss);
  test = λ spot truth. omega (arith, free_paid p (Branch spot truth) (λ x. refl) ss);
  switch = λ spot ty value arms cases none. omega (arith, free_paid p (Select spot ty value arms cases none) (λ x. refl) ss);
  call = λ close ty bits gave. omega (arith, free_paid p (Enter close) (λ x. refl) ss, placed_paid p ACall close (Return close ty bits gave) (λ x. refl) ss);
}
