-- Values given by place, where a run has drawn them.
use Rattle.std.specs.Prelude.{◌≡◌, ℕ, ℤ, pos, Bool, true, false, cond, not, ◌&&◌, List, [], ◌∷◌, count_by, filter}
use Rattle.std.specs.List.{All}
use Rattle.c_core.specs.Tree.{Program}
use Rattle.c_core.specs.declared.number.Spot.{Spot}
use Rattle.c_core.specs.Parts.{same_spot}
use Rattle.c_meaning.specs.Replay.{values_of}
use Rattle.c_meaning.specs.Run.{Run, Moments}
use Rattle.c_meaning.specs.declared.run.Choices.{Choices}
use Rattle.c_meaning.specs.declared.run.Draw.{Draw}
use Rattle.c_meaning.specs.declared.run.DrawKind.{DrawKind}
use Rattle.c_meaning.specs.declared.run.DrawKind.TheVariants.{Input, Cell, Havoc}
use Rattle.c_meaning.specs.declared.run.Given.{Given as GivenAt}

-- it is drawn by an input call
abbrev pub is_input : DrawKind → Bool
is_input Input = true
is_input Cell = false
is_input Havoc = false

-- an input call at this place drew it
abbrev pub is_input_at : Spot → Draw → Bool
is_input_at spot d = is_input d.from && same_spot d.spot spot

-- the values that the inputs of a place drew, in order
abbrev pub input_values_at : Spot → List Draw → List ℤ
input_values_at spot ds = values_of (filter (is_input_at spot) ds)

-- the values given at a place: those of its first entry
abbrev pub values_given_at : Spot → List GivenAt → List ℤ
values_given_at spot [] = []
values_given_at spot (g ∷ gs) = cond (same_spot g.spot spot) g.values (values_given_at spot gs)

-- some input of this place drew
abbrev pub HasInputAt : Spot → List Draw → Type 0
HasInputAt spot ds = input_values_at spot ds ≡ [] → ⊥

-- at each place at which inputs drew, exactly the values are given that they drew there, in order
abbrev pub GivesDraws : List GivenAt → List Draw → Type 0
GivesDraws gs ds = (spot : Spot) → HasInputAt spot ds → values_given_at spot gs ≡ input_values_at spot ds

-- what isn't drawn by an input call is 0
abbrev pub IsZeroUnlessInput : DrawKind → ℤ → Type 0
IsZeroUnlessInput Input v = Unit {0}
IsZeroUnlessInput Cell v = v ≡ pos 0
IsZeroUnlessInput Havoc v = v ≡ pos 0

-- every draw that isn't from an input drew 0
abbrev pub OthersDrewZero : List Draw → Type 0
OthersDrewZero ds = All (λ d. IsZeroUnlessInput d.from d.value) ds

-- how many draws aren't from inputs
abbrev pub others_among : List Draw → ℕ
others_among ds = count_by (λ d. not (is_input d.from)) ds

-- other choices give the same run, step by step and event by event; only inputs take values of them
pub record IsSameRun (p : Program) (before now : Choices) (N : ℕ) : Type 0 where
  pub run : Run p now N ≡ record (Run p before N) { unfixed = others_among (Run p before N).draws }
  pub moments : Moments p now N ≡ Moments p before N
