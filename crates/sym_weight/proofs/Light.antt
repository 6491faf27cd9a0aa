-- A program draws no more bits than it weighs; a call weighs more than the body of its function.
use Rattle.std.proofs.Common.{ℕ, zero, suc, ◌<◌, ◌≤◌, List, Option, arith}
use Rattle.c_core.specs.Tree.{Expr, Call, Exps, Program}
use Rattle.c_core.specs.declared.number.IntType.{IntType}
use Rattle.c_core.specs.declared.number.Spot.{Spot}
use Rattle.c_core.specs.declared.tree.Callee.TheVariants.{Defined}
use Rattle.c_meaning.specs.Duties.{Placed}
use Rattle.sym_weight.specs.Sum.{expression}
use Rattle.sym_weight.specs.Weight.{weighing, drawing, nowhere, placed_weight, weight_in, bits_in}
use Rattle.sym_weight.proofs.Relating.{Relates, related_function}

light_relates : (bits weight : ℕ → ℕ) → ((f : ℕ) → bits f ≤ weight f) → Relates (drawing bits) (weighing weight) (λ b w. b ≤ w)
light_relates bits weight h = record {
  none = omega arith;
  both = λ a b c d k l. omega (arith, k, l);
  part = λ w b l. l;
  body = h;
}

pub bits_are_light : (p : Program) (I : List Placed) (n f : ℕ) → bits_in p n f ≤ weight_in p I n f
bits_are_light p I zero f = omega arith
bits_are_light p I (suc n) f =
    related_function p (drawing (bits_in p n)) (weighing (weight_in p I n)) (λ b w. b ≤ w) (light_relates (bits_in p n) (weight_in p I n) (bits_are_light p I n))
    nowhere (placed_weight p I) (λ at. omega arith) (λ at bits. omega arith) f

pub call_outweighs : (p : Program) (I : List Placed) (n f : ℕ) (spot close : Spot) (ty : Option IntType) (es : Exps)
    → weight_in p I n f < expression p (weighing (weight_in p I n)) (Expr spot ty (Call (Defined f) es close))
call_outweighs p I n f spot close ty es = omega arith
