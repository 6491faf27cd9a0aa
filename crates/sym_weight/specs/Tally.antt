-- What a function's body weighs and draws by itself, and which functions it calls, as often as it does.
use Rattle.std.specs.Prelude.{◌≡◌, ◌≤◌, ℕ, ◌+◌, ◌-◌, ◌^◌, min, Bool, true, false, IsTrue, List, [], ◌∷◌, ◌++◌, Option, None, Some, map, slice_get}
use Rattle.std.specs.BTreeMap.{BTreeMap, get_by}
use Rattle.std.specs.Option.{unwrap_or}
use Rattle.std.specs.Ordering.{nat_cmp, ordering_then}
use Rattle.c_core.specs.Tree.{Function, Program}
use Rattle.c_core.specs.declared.number.Spot.{Spot}
use Rattle.sym_weight.specs.declared.cost.Cost.{Cost}
use Rattle.sym_weight.specs.declared.cost.Tally as rust
use Rattle.sym_weight.specs.declared.statements.Weigher.{Weigher}
use Rattle.sym_weight.specs.Sum.{Sum, function_of}

-- a sum beyond the type's end counts as its end
abbrev pub capped : ℕ → ℕ
capped n = min n (2 ^ 64 - 1)

abbrev pub cost : ℕ → ℕ → Cost
cost weight bits = record { weight = capped weight; bits = capped bits }

abbrev pub plus : Cost → Cost → Cost
plus a b = cost (a.weight + b.weight) (a.bits + b.bits)

pub record Tally : Type 0 where
  pub cost : Cost
  pub calls : List ℕ

abbrev pub tallying : Sum
tallying = record {
  Amount = Tally;
  none = record { cost = cost 0 0; calls = [] };
  both = λ a b. record { cost = plus a.cost b.cost; calls = a.calls ++ b.calls };
  part = λ weight bits. record { cost = cost weight bits; calls = [] };
  body = λ f. record { cost = cost 0 0; calls = f ∷ [] };
}

abbrev pub tally_view : rust.Tally → Tally
tally_view t = record { cost = t.cost; calls = t.calls }

abbrev pub tallies_view : List rust.Tally → List Tally
tallies_view ts = map tally_view ts

-- of each of these functions
abbrev pub tallies_of : Program → (Bool → Spot → ℕ) → List Function → List Tally
tallies_of p at_place fs = map (λ f. function_of p tallying at_place (Some f)) fs

abbrev pub all_tallies : Program → (Bool → Spot → ℕ) → List Tally
all_tallies p at_place = tallies_of p at_place p.functions

-- what was counted of a cost: with the heads of loops all of it, and without them no more than it
pub record IsCounted (heads : Bool) (counted whole : Cost) : Type 0 where
  pub all : IsTrue heads → counted ≡ whole
  pub below : counted.weight ≤ whole.weight

-- what was counted of a tally; its calls are all there
pub record IsTallied (heads : Bool) (counted whole : Tally) : Type 0 where
  pub cost : IsCounted heads counted.cost whole.cost
  pub calls : counted.calls ≡ whole.calls

abbrev pub IsTalliedIf : Bool → Option Tally → Option Tally → Type 0
IsTalliedIf heads None None = Unit {0}
IsTalliedIf heads (Some t) (Some whole) = IsTallied heads t whole
IsTalliedIf heads _ _ = ⊥

-- function by function; heads of loops are counted in those that pass the test
abbrev pub AreTallied : (ℕ → Bool) → List Tally → List Tally → Type 0
AreTallied heads counted whole = (f : ℕ) → IsTalliedIf (heads f) (slice_get counted f) (slice_get whole f)

-- weights by place
abbrev pub weight_at : BTreeMap (ℕ × ℕ) ℕ → Spot → ℕ
weight_at m spot = unwrap_or (get_by (λ k. ordering_then (nat_cmp spot.line k.0) (nat_cmp spot.column k.1)) m) 0

-- the weights of the invariants of loops and of statements, by place
abbrev pub placed_by : BTreeMap (ℕ × ℕ) ℕ → BTreeMap (ℕ × ℕ) ℕ → Bool → Spot → ℕ
placed_by loops statements true spot = weight_at loops spot
placed_by loops statements false spot = weight_at statements spot

abbrev pub placed_of : Weigher → Bool → Spot → ℕ
placed_of w = placed_by w.at_loops.now w.at_statements.now
