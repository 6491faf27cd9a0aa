-- The scale of obligations: invariants are tested at statements and at the heads of loops, what a loop changes is
-- drawn, and one turn stands for all.
use Rattle.std.specs.Prelude.{◌≡◌, ℕ, ◌+◌, ◌*◌, false, true, List}
use Rattle.c_core.specs.Tree.{Program}
use Rattle.c_meaning.specs.Duties.{Placed}
use Rattle.sym_weight.specs.Table.{bits_of_objects}
use Rattle.sym_weight.specs.Weight as weights
use Rattle.sym_weight.specs.Weight.{placed_weight, weight_in}
use Rattle.sym_scale.specs.Scale.{Scale}
use Rattle.sym_scale.specs.Cost.{nodes_in, bits_in}

abbrev pub obliged : Program → List Placed → Scale
obliged p I = record {
  statement = placed_weight p I false;
  test = λ at. 0;
  enters = λ close. 0;
  returns = λ close. 0;
  body = 0;
  risk = 0;
  head = λ at changed. 3 * placed_weight p I true at + 4 * bits_of_objects p changed;
  drawn = bits_of_objects p;
  turn = 0;
  turns = λ test rest. test + rest;
  deep = λ weight. weight;
}

-- by it a call costs what its parameters and its function's body weigh, and draws the same bits
pub record CostsItsWeight (p : Program) (I : List Placed) (n : ℕ) : Type 0 where
  pub nodes : (weight f : ℕ) → nodes_in p (obliged p I) n weight f ≡ weight + weight_in p I n f
  pub bits : (f : ℕ) → bits_in p (obliged p I) n f ≡ weights.bits_in p n f
