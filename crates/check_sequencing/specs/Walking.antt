-- What the walk over typed expressions gives.
use Rattle.std.specs.Prelude.{◌≡◌, ℕ, Bool, false, List, ◌++◌, Option}
use Rattle.c_core.specs.Tree.{Exp, Exps, Node}
use Rattle.c_core.specs.declared.number.Spot.{Spot}
use Rattle.check_sequencing.specs.declared.effect.Effect.{Effect}
use Rattle.check_sequencing.specs.declared.clash.Source.{Source}
use Rattle.check_sequencing.specs.declared.walk.Walk.{Walk}
use Rattle.check_sequencing.specs.Deciding.{IsKnown, IsSameSource, bodies_of, count_of, objects_of}
use Rattle.check_sequencing.specs.Effects.{AreUnsequenced, SomePair}
use Rattle.check_sequencing.specs.Typed.{ChangedBeside, ChangedInIndex, IsUnorderedIn, Listed, Test, arguments, below, effects, left_side, target}

-- the words of typed expressions, by what a source declares
abbrev pub effects_by : Source → Exp → List Effect
effects_by s e = effects (objects_of s) (count_of s) false e

abbrev pub below_by : Source → Exp → List Effect
below_by s e = below (objects_of s) (count_of s) e

abbrev pub left_side_by : Source → Exp → List Effect
left_side_by s e = left_side (objects_of s) (count_of s) e

abbrev pub target_by : Source → Exp → Option ℕ
target_by s e = target (objects_of s) (count_of s) e

abbrev pub AreUnsequencedBy : Source → List Effect → List Effect → Type 0
AreUnsequencedBy s es fs = AreUnsequenced (bodies_of s) (objects_of s) es fs

abbrev pub SomePairBy : Source → List (List Effect) → Type 0
SomePairBy s operands = SomePair (bodies_of s) (objects_of s) operands

abbrev pub arguments_by : Source → Exps → List (List Effect)
arguments_by s es = arguments (objects_of s) (count_of s) es

abbrev pub ChangedInIndexBy : Source → Exp → Type 0
ChangedInIndexBy s a = ChangedInIndex (objects_of s) (count_of s) (bodies_of s) (target_by s a) a

abbrev pub ChangedBesideBy : Source → Exp → Exp → Type 0
ChangedBesideBy s a b = ChangedBeside (objects_of s) (count_of s) (bodies_of s) (target_by s a) a b

abbrev pub IsUnorderedBy : Source → Node → Type 0
IsUnorderedBy s n = IsUnorderedIn (objects_of s) (count_of s) (bodies_of s) n

-- the marks that are kept are right
abbrev pub IsReady : Walk → Type 0
IsReady w = IsKnown w.source

abbrev pub IsSameWalk : Walk → Walk → Type 0
IsSameWalk old new = IsSameSource old.source new.source

-- the places of those of these tests that find something were added
pub record IsGone (old new : Walk) (tests : List Test) : Type 0 where
  pub spots : List Spot
  pub listed : Listed (objects_of old.source) (count_of old.source) (bodies_of old.source) tests spots
  pub added : new.unordered.items ≡ old.unordered.items ++ spots
