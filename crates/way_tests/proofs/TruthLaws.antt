-- Truth of chains of `&&` and `||`.
use Rattle.std.proofs.Common.{◌≡◌, ℤ, pos, List, Bool, true, false, not, cond, Option, Some, None, refl, sym, ap}
use Rattle.c_core.specs.Types.{is_zero, number_of}
use Rattle.c_core.specs.Tree.{Program, Exp}
use Rattle.c_meaning.specs.Cells.{Cell}
use Rattle.c_meaning.specs.Value.{and_then, of_logic, truth_of, value_of, is_true}
use Rattle.way_tests.specs.Truth.{truth_in}

truth_number : (b : Bool) → not (is_zero (number_of b)) ≡ b
truth_number true = refl
truth_number false = refl

-- what a chain says, by what its sides say
abbrev by_sides : Bool → Option Bool → Option Bool → Option Bool
by_sides both x y = and_then x (λ t. cond both (cond t y (Some false)) (cond t (Some true) y))

pub undefined_left : (both : Bool) (x y : Option Bool) → x ≡ None → None ≡ by_sides both x y
undefined_left both x y h = sym (ap (λ o. by_sides both o y) h)

pub true_left : (x y : Option Bool) → x ≡ Some true → y ≡ by_sides true x y
true_left x y h = sym (ap (λ o. by_sides true o y) h)

pub false_left : (x y : Option Bool) → x ≡ Some false → Some false ≡ by_sides true x y
false_left x y h = sym (ap (λ o. by_sides true o y) h)

pub true_decides : (x y : Option Bool) → x ≡ Some true → Some true ≡ by_sides false x y
true_decides x y h = sym (ap (λ o. by_sides false o y) h)

pub false_passes : (x y : Option Bool) → x ≡ Some false → y ≡ by_sides false x y
false_passes x y h = sym (ap (λ o. by_sides false o y) h)

pub holds_some : (v : Option ℤ) (b : Bool) → truth_in v ≡ Some b → b ≡ is_true v
holds_some None b h = absurd (cc)
holds_some (Some x) b h = cc

pub holds_none : (v : Option ℤ) → truth_in v ≡ None → false ≡ is_true v
holds_none None h = refl
holds_none (Some x) h = absurd (cc)

module _ (p : Program) (a b : Exp) (cs : List Cell) where
  truth_of_truth : (v : Option ℤ) → truth_in (and_then v (λ x. Some (number_of (not (is_zero x))))) ≡ truth_in v
  truth_of_truth None = refl
  truth_of_truth (Some x) = ap (λ t. Some t) (truth_number (not (is_zero x)))

  pub logic_truth : (both : Bool) → truth_in (of_logic p both a b cs) ≡ by_sides both (truth_in (value_of p a cs)) (truth_in (value_of p b cs))
  logic_truth true = by (value_of p a cs)
    where
      by_zero : (z : Bool) → truth_in (cond z (Some (pos 0)) (truth_of p b cs)) ≡ cond (not z) (truth_in (value_of p b cs)) (Some false)
      by_zero true = refl
      by_zero false = truth_of_truth (value_of p b cs)

      by : (v : Option ℤ) → truth_in (and_then v (λ x. cond (is_zero x) (Some (pos 0)) (truth_of p b cs))) ≡ by_sides true (truth_in v) (truth_in (value_of p b cs))
      by None = refl
      by (Some x) = by_zero (is_zero x)
  logic_truth false = by (value_of p a cs)
    where
      by_zero : (z : Bool) → truth_in (cond z (truth_of p b cs) (Some (pos 1))) ≡ cond (not z) (Some true) (truth_in (value_of p b cs))
      by_zero true = truth_of_truth (value_of p b cs)
      by_zero false = refl

      by : (v : Option ℤ) → truth_in (and_then v (λ x. cond (is_zero x) (truth_of p b cs) (Some (pos 1)))) ≡ by_sides false (truth_in v) (truth_in (value_of p b cs))
      by None = refl
      by (Some x) = by_zero (is_zero x)
