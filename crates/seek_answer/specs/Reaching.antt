-- What is promised of a net with one bit for the hit of all runs that seek within a bound.
use Rattle.std.specs.Prelude.{◌≡◌, ◌≤◌, ◌↔◌, ℕ, Bool, true, ℤ, List}
use Rattle.std.specs.List.{All}
use Rattle.c_core.specs.Tree.{Program}
use Rattle.c_draws.specs.Drawing.{place, IsDrawn}
use Rattle.c_draws.specs.declared.places.DrawPlace.{DrawPlace}
use Rattle.c_meaning.specs.declared.run.Choices.TheVariants.{InTurn}
use Rattle.c_meaning.specs.declared.run.DrawKind.TheVariants.{Havoc}
use Rattle.c_meaning.specs.Replay.{values_of}
use Rattle.c_meaning.specs.Run.{Run}
use Rattle.circuits.specs.Net.{holds, IsIn, count_ands, count_inputs}
use Rattle.seek_answer.specs.declared.reach.Reach.{Reach}
use Rattle.seek_meaning.specs.Bounded.{HasRoom}
use Rattle.seek_meaning.specs.Seeking.{SeekRun, hits, draws_sought}
use Rattle.seek_meaning.specs.Sought.{Seeks, AreSought}
use Rattle.sym_state.specs.Standing.{draws_at, AreSites}
use Rattle.sym_state.specs.declared.state.DrawSite.{DrawSite}
use Rattle.way_match.specs.Points.{BoundSegment}

-- main, or a function that main reaches, has an input call there, or an automatic object without initializer; what a
-- loop changes isn't meant
pub record IsOpen (p : Program) (x : DrawPlace) : Type 0 where
  pub drawn : IsDrawn p x
  pub unchanged : x.from ≡ Havoc → ⊥

-- a site stands for such a part
abbrev pub StandsFor : Program → DrawSite → Type 0
StandsFor p d = IsOpen p (place d.spot d.ty d.from)

-- the values of the sites that are live under the inputs v, in order
abbrev pub values_under : Program → (ℕ → Bool) → Reach → List ℤ
values_under p v r = values_of (draws_at p v r.net r.sites)

-- under the inputs v, the net tells of the run that seeks on the values w: it draws at the live sites, and nowhere else,
-- what their bits say; and it hits exactly where the bit is true
pub record Tells (p : Program) (ss : List BoundSegment) (k : ℕ) (r : Reach) (v : ℕ → Bool) (w : List ℤ) : Type 0 where
  pub draws : draws_sought (SeekRun p ss k w) ≡ draws_at p v r.net r.sites
  pub hits : holds v r.net r.reach ≡ hits (SeekRun p ss k w)

-- the hit of all runs within the bound k as a bit of a net of a weight, which draws this many bits
pub record IsReach (p : Program) (ss : List BoundSegment) (k weight bits : ℕ) (r : Reach) : Type 0 where
  -- the bit is the net's; the digits of the sites' values are the net's inputs in order
  pub reach_in : IsIn r.net r.reach
  pub sites_in : AreSites p.model r.net 0 r.sites (count_inputs r.net)
  -- each site stands for something, also one at which no run is
  pub stand : All (StandsFor p) r.sites
  -- all inputs tell of the run that draws what they say, and of each run some inputs tell
  pub each : (v : ℕ → Bool) → Tells p ss k r v (values_under p v r)
  pub all : (w : List ℤ) → (v : ℕ → Bool) × Tells p ss k r v w
  -- the net is small
  pub gates : count_ands r.net ≤ weight
  pub feeds : count_inputs r.net ≤ bits
  pub drawn : bits ≤ weight
  pub light : weight ≤ 2000000

-- this is the hit of all runs of a program that isn't too big
abbrev pub IsPromised : Program → List BoundSegment → ℕ → Reach → Type 0
IsPromised p ss k r = (weight : ℕ) × (bits : ℕ) × IsReach p ss k weight bits r

-- ---- what follows of the values that are sought

-- no run within the bound needs more live cells than runs may have
abbrev pub HaveRoom : Program → ℕ → Type 0
HaveRoom p k = (w : List ℤ) → HasRoom p k w

-- of the values that are sought
pub record TellsSought (p : Program) (ss : List BoundSegment) (k : ℕ) (r : Reach) : Type 0 where
  -- under every input the bit is true exactly where the values of the live sites in order are sought
  pub exact : (v : ℕ → Bool) → (holds v r.net r.reach ≡ true) ↔ AreSought p ss k (values_under p v r)
  -- and then they are the draws of the run that is sought
  pub drawn : (v : ℕ → Bool) (positions : List ℕ) (found : Seeks p ss k (values_under p v r) positions)
      → (Run p (InTurn (values_under p v r)) found.bounded.budget).draws ≡ draws_at p v r.net r.sites
  -- for values that are sought some inputs make the bit true, and their live sites give that run's draws
  pub all : (w : List ℤ) (positions : List ℕ) (found : Seeks p ss k w positions) → (v : ℕ → Bool)
      × (holds v r.net r.reach ≡ true) × ((Run p (InTurn w) found.bounded.budget).draws ≡ draws_at p v r.net r.sites)
