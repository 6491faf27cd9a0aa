-- What the evaluator promises of a program's obligations as a net.
use Rattle.std.specs.Prelude.{◌≡◌, ℕ, ◌+◌, ◌≤◌, ◌<◌, ◌^◌, ◌↔◌, Bool, true, ℤ, List, length, slice_get, Some}
use Rattle.std.specs.List.{All}
use Rattle.c_core.specs.Tree.{Program}
use Rattle.c_draws.specs.Drawing.{place, IsDrawn}
use Rattle.c_meaning.specs.declared.run.HavocEnd.TheVariants.{Failed}
use Rattle.c_meaning.specs.Duties.{Placed, Duties}
use Rattle.c_meaning.specs.Havoc.{Havoc}
use Rattle.c_meaning.specs.Replay.{values_of}
use Rattle.circuits.specs.declared.net.Bit.{Bit}
use Rattle.circuits.specs.Net.{holds, count_ands, count_inputs}
use Rattle.circuits.specs.Numbers.{AreIn}
use Rattle.sym_state.specs.Standing.{draws_at, AreSites}
use Rattle.sym_state.specs.declared.state.DrawSite.{DrawSite}
use Rattle.sym_duties.specs.declared.obligations.Obligations.{Obligations}

-- under the inputs v, the net tells the havoc run that draws from w: it draws at the live sites, and nowhere else, what their bits
-- say; and it ends at an obligation, which are numbered from 1, exactly where the failing bit of the obligation is true
pub record Tells (p : Program) (I : List Placed) (o : Obligations) (v : ℕ → Bool) (w : List ℤ) : Type 0 where
  pub draws : (Havoc p I w).draws ≡ draws_at p v o.net o.sites
  pub ends : (i : ℕ) (b : Bit) → slice_get o.failing i ≡ Some b → (holds v o.net b ≡ true) ↔ ((Havoc p I w).end ≡ Failed (i + 1))

-- a site stands for an input call, a cell of an automatic object without initializer or a cell of an object that a loop changes, in
-- main or in a function that main reaches
abbrev pub StandsFor : Program → DrawSite → Type 0
StandsFor p d = IsDrawn p (place d.spot d.ty d.from)

-- the obligations as a net of a weight, which draws this many bits
pub record AreObligations (p : Program) (I : List Placed) (weight bits : ℕ) (o : Obligations) : Type 0 where
  -- by place, kind and witness order; their numbers have 32 bits
  pub list : o.list ≡ Duties p I
  pub numbered : length o.list < 2 ^ 32
  -- a failing bit for each, and all bits are the net's; the digits of the sites' values are the net's inputs in order
  pub many : length o.failing ≡ length o.list
  pub failing_in : AreIn o.net o.failing
  pub sites_in : AreSites p.model o.net 0 o.sites (count_inputs o.net)
  -- each site stands for something, also one at which no run is
  pub stand : All (StandsFor p) o.sites
  -- all inputs tell the run that draws what they say, and each run is described by some inputs
  pub each : (v : ℕ → Bool) → Tells p I o v (values_of (draws_at p v o.net o.sites))
  pub all : (w : List ℤ) → (v : ℕ → Bool) × Tells p I o v w
  -- the net is small
  pub gates : count_ands o.net ≤ weight
  pub feeds : count_inputs o.net ≤ bits
  pub drawn : bits ≤ weight
  pub light : weight ≤ 2000000

-- these are the obligations of a program that isn't too big
abbrev pub ArePromised : Program → List Placed → Obligations → Type 0
ArePromised p I o = (weight : ℕ) × (bits : ℕ) × AreObligations p I weight bits o

-- at most one failing bit is true, whatever the inputs
abbrev pub OneFails : Type 0
OneFails = (p : Program) (I : List Placed) (o : Obligations) → ArePromised p I o → (v : ℕ → Bool) (i j : ℕ) (a b : Bit) → slice_get o.failing i ≡ Some a → slice_get o.failing j ≡ Some b
    → holds v o.net a ≡ true → holds v o.net b ≡ true → i ≡ j
