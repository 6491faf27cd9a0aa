-- Where a judged run stands under inputs: what a symbolic state is there.
--
-- A symbolic state is a net, and bits of it that tell of each judged run where it is. Under the inputs v it stands for one run:
-- `stand p v s`. The run is here where `live` is true. It is on its way out of a loop's body, a loop or a function where `again`,
-- `broken` or `gave` is. It failed at the obligation whose failing bit is true. Elsewhere it ended and failed nothing.
-- Which cells there are doesn't depend on the inputs, so no cell is merged where ways join: a write chooses by `live`.
use Rattle.std.specs.Prelude.{◌≡◌, ℕ, zero, suc, ◌+◌, ◌≤◌, Bool, true, false, cond, not, ◌&&◌, ◌||◌, ℤ, List, [], ◌∷◌, ◌++◌, length, map}
use Rattle.std.specs.List.{All}
use Rattle.c_core.specs.Tree.{Program}
use Rattle.c_core.specs.Types.{width_of}
use Rattle.c_core.specs.declared.number.DataModel.{DataModel}
use Rattle.c_meaning.specs.declared.run.Draw.{Draw}
use Rattle.c_meaning.specs.declared.run.Duty.{Duty}
use Rattle.c_meaning.specs.Cells.{Key, Cell, put}
use Rattle.c_meaning.specs.Objects.{type_of_object}
use Rattle.c_meaning.specs.Havoc.{Stopped, Passes, Dismisses, Fails}
use Rattle.c_meaning.specs.Duties.{number_among}
use Rattle.circuits.specs.declared.net.NetNode.{NetNode}
use Rattle.circuits.specs.Net.{holds, IsIn, count_ands, count_inputs}
use Rattle.circuits.specs.Numbers.{typed, drawn, AreIn, AreTyped, Counts}
use Rattle.sym_state.specs.declared.state.Sym.{Sym}
use Rattle.sym_state.specs.declared.state.SymCell.{SymCell}
use Rattle.sym_state.specs.declared.state.DrawSite.{DrawSite}

-- one run: where it is, the value that its function gave, at which obligations it failed, its cells and its draws
pub record Stand : Type 0 where
  pub live : Bool
  pub broken : Bool
  pub again : Bool
  pub gave : Bool
  pub given : ℤ
  pub failing : List Bool
  pub completed : List Bool
  pub cells : List Cell
  pub draws : List Draw

abbrev pub key_of : SymCell → Key
key_of c = record { object = c.object; index = c.index }

module _ (p : Program) (v : ℕ → Bool) (net : List NetNode) where
  abbrev pub cell_at : SymCell → Cell
  cell_at c = record { key = key_of c; value = typed p.model (type_of_object p c.object) v net c.bits.bits }

  -- a site as a draw: its place, its type and its value under the inputs
  abbrev pub draw_at : DrawSite → Draw
  draw_at d = record { spot = d.spot; ty = d.ty; value = typed p.model d.ty v net d.bits.bits; from = d.from }

  -- a run draws where it is at a site
  abbrev pub draws_at : List DrawSite → List Draw
  draws_at [] = []
  draws_at (d ∷ ds) = cond (holds v net d.live) (draw_at d ∷ draws_at ds) (draws_at ds)

abbrev pub stand : Program → (ℕ → Bool) → Sym → Stand
stand p v s = record {
  live = holds v s.net s.live;
  broken = holds v s.net s.broken;
  again = holds v s.net s.again;
  gave = holds v s.net s.gave;
  given = typed p.model s.result v s.net s.given.bits;
  failing = map (holds v s.net) s.failing.items;
  completed = map (holds v s.net) s.completed.items;
  cells = map (cell_at p v s.net) s.cells.items;
  draws = draws_at p v s.net s.sites.items;
}

-- a site's bits are the inputs from a number on, and whether a run is there was known before them
pub record IsSite (m : DataModel) (net : List NetNode) (base : ℕ) (d : DrawSite) : Type 0 where
  pub before : List NetNode
  pub after : List NetNode
  pub is : net ≡ before ++ after
  pub live : IsIn before d.live
  pub inputs : count_inputs before ≡ base
  pub bits : Counts net d.bits.bits (width_of m d.ty) (λ v. drawn v base (width_of m d.ty))

-- sites one after the other: their bits are the inputs from a number on up to another
abbrev pub AreSites : DataModel → List NetNode → ℕ → List DrawSite → ℕ → Type 0
AreSites m net base [] top = base ≡ top
AreSites m net base (d ∷ ds) top = IsSite m net base d × AreSites m net (base + width_of m d.ty) ds top

abbrev pub IsCell : Program → List NetNode → SymCell → Type 0
IsCell p net c = AreTyped p.model (type_of_object p c.object) net c.bits.bits

-- all bits are the net's, and each of its inputs is a site's
pub record IsState (p : Program) (s : Sym) : Type 0 where
  pub live : IsIn s.net s.live
  pub broken : IsIn s.net s.broken
  pub again : IsIn s.net s.again
  pub gave : IsIn s.net s.gave
  pub given : AreTyped p.model s.result s.net s.given.bits
  pub failing : AreIn s.net s.failing.items
  pub completed : AreIn s.net s.completed.items
  pub cells : All (IsCell p s.net) s.cells.items
  pub sites : AreSites p.model s.net 0 s.sites.items (count_inputs s.net)

-- at most this many and-nodes and inputs were added, after all others
pub record Added (ands inputs : ℕ) (old new : List NetNode) : Type 0 where
  pub more : List NetNode
  pub is : new ≡ old ++ more
  pub gates : count_ands more ≤ ands
  pub feeds : count_inputs more ≤ inputs
  pub few : length more ≤ ands + inputs

-- a run that isn't here stays as it was; what is declared meanwhile stands after its cells
pub record Kept (old new : Stand) : Type 0 where
  pub live : new.live ≡ old.live
  pub broken : new.broken ≡ old.broken
  pub again : new.again ≡ old.again
  pub gave : new.gave ≡ old.gave
  pub given : new.given ≡ old.given
  pub failing : new.failing ≡ old.failing
  pub completed : new.completed ≡ old.completed
  pub draws : new.draws ≡ old.draws
  pub junk : List Cell
  pub cells : new.cells ≡ old.cells ++ junk

-- what was drawn is after what was drawn before; a run that isn't here draws nothing and stays as it is
pub record Moves (old new : Stand) : Type 0 where
  pub more : List Draw
  pub draws : new.draws ≡ old.draws ++ more
  pub still : old.live ≡ false → Kept old new

-- of n obligations the one of number k from 1 on, or none where k is 0 or above n
abbrev pub marks : ℕ → ℕ → List Bool
marks k zero = []
marks zero (suc n) = false ∷ marks zero n
marks (suc zero) (suc n) = true ∷ marks zero n
marks (suc (suc k)) (suc n) = false ∷ marks (suc k) n

-- the run is here, and failed nothing
pub record IsHere (n : ℕ) (s : Stand) : Type 0 where
  pub live : s.live ≡ true
  pub broken : s.broken ≡ false
  pub again : s.again ≡ false
  pub gave : s.gave ≡ false
  pub failing : s.failing ≡ marks 0 n

-- the number of the obligation at which a run ended, or 0
abbrev pub number_of_end : List Duty → Stopped → ℕ
number_of_end ds Passes = 0
number_of_end ds Dismisses = 0
number_of_end ds (Fails d) = number_among d ds

-- the run is over, and failed the obligation at which it ended
pub record IsOver (ds : List Duty) (e : Stopped) (s : Stand) : Type 0 where
  pub live : s.live ≡ false
  pub broken : s.broken ≡ false
  pub again : s.again ≡ false
  pub gave : s.gave ≡ false
  pub failing : s.failing ≡ marks (number_of_end ds e) (length ds)

-- ---- what calls of the code do to a state
-- a run that is here ends where b holds
abbrev pub stopped : Bool → Stand → Stand
stopped b s = record s { live = s.live && not b }

-- the k-th of these, from 0 on, is true where b is
abbrev pub marked : ℕ → Bool → List Bool → List Bool
marked k b [] = []
marked zero b (f ∷ fs) = (f || b) ∷ fs
marked (suc k) b (f ∷ fs) = f ∷ marked k b fs

-- the failing bit of number k, from 0 on, is true where b is
abbrev pub marking : ℕ → Bool → Stand → Stand
marking k b s = record s { failing = marked k b s.failing }

-- a run that is here fails the obligation of number k, from 0 on, where b holds
abbrev pub failed : ℕ → Bool → Stand → Stand
failed k b s = record s { live = s.live && not b; failing = marked k (s.live && b) s.failing }

-- the same, where the failure counts where c holds; the run ends all the same
abbrev pub violated : ℕ → Bool → Bool → Stand → Stand
violated k b c s = record s { live = s.live && not b; failing = marked k (s.live && (b && c)) s.failing }

-- the run is here as b says
abbrev pub with_live : Bool → Stand → Stand
with_live b s = record s { live = b }

-- a value is written where b holds
abbrev pub stored : Bool → Key → ℤ → Stand → Stand
stored b k z s = record s { cells = cond b (put k z s.cells) s.cells }

-- a run that is here draws
abbrev pub drawing : Draw → Stand → Stand
drawing d s = record s { draws = s.draws ++ cond s.live (d ∷ []) [] }

-- what a state becomes under each input, with at most this many and-nodes and inputs
pub record Turned (p : Program) (ands inputs : ℕ) (old new : Sym) (f : (ℕ → Bool) → Stand → Stand) : Type 0 where
  pub fits : IsState p new
  pub added : Added ands inputs old.net new.net
  pub level : length new.cells.items ≡ length old.cells.items
  pub result : new.result ≡ old.result
  pub is : (v : ℕ → Bool) → stand p v new ≡ f v (stand p v old)
