-- Targets of assignments and steps: the cell that is meant under each input, what is read from it and stored in it.
use Rattle.std.specs.Prelude.{◌≡◌, ℕ, ◌+◌, ◌<◌, ◌^◌, Bool, ℤ, List, length, IsTrue}
use Rattle.c_core.specs.Tree.{Program, Exp}
use Rattle.c_core.specs.Typing.{is_target, is_typed}
use Rattle.c_core.specs.declared.number.IntType.{IntType}
use Rattle.c_meaning.specs.Cells.{Key}
use Rattle.c_meaning.specs.Eval as meaning
use Rattle.c_meaning.specs.Fitting.{calls_in}
use Rattle.c_meaning.specs.Havoc.{Stopped}
use Rattle.sym_meaning.specs.Mode.{Mode, cells_judged, with_cells_judged, JudgedState}
use Rattle.sym_meaning.specs.Judged.{judged}
use Rattle.c_meaning.specs.Acts.{look}
use Rattle.circuits.specs.declared.net.Bit.{Bit}
use Rattle.circuits.specs.Numbers.{typed}
use Rattle.sym_state.specs.declared.state.Sym.{Sym}
use Rattle.sym_state.specs.declared.state.Around.{Around}
use Rattle.sym_state.specs.Standing.{IsState}
use Rattle.sym_state.specs.Following.{Deed, Follows}
use Rattle.sym_values.specs.Valuing.{where_of, IsDutyAt}
use Rattle.sym_scale.specs.Cost.{target, nodes, bits}

-- the cell under each input
abbrev pub Keys : Type 0
Keys = (ℕ → Bool) → Key

module _ (p : Program) (W : Mode) where
  -- the cell is read
  abbrev pub looked_at : Keys → Deed ℤ
  looked_at keys v s = look Stopped JudgedState cells_judged with_cells_judged (keys v) s

  -- a value is stored in the cell
  abbrev pub stored_at : Keys → IntType → IntType → List Bit → Sym → Deed ℤ
  stored_at keys from to y old v s = meaning.store p (judged p W) (keys v) from to (typed p.model from v old.net y) s

  -- calls at most n deep
  module _ (n : ℕ) where
    abbrev pub weight_of_target : Exp → ℕ
    weight_of_target a = target p (nodes p W.scale n) a

    abbrev pub bits_of_target : Exp → ℕ
    bits_of_target a = target p (bits p W.scale n) a

    abbrev pub targeted : Around → Exp → Deed Key
    targeted at a v s = meaning.target p (judged p W) (calls_in p (judged p W) n) (where_of at) a s

    -- a target was evaluated to the cell that it means, with this many and-nodes besides its weight
    pub record Targets (at : Around) (cost : ℕ) (a : Exp) (keys : Keys) (old new : Sym) : Type 0 where
      pub follows : Follows W.duties p (weight_of_target a + cost) (bits_of_target a) old new (λ v k. k ≡ keys v) (targeted at a)

    -- a target can be evaluated from a state, at this many and-nodes besides its weight
    pub record TargetReady (at : Around) (cost : ℕ) (s : Sym) (a : Exp) : Type 0 where
      pub fits : IsState p s
      pub target : IsTrue (is_target a)
      pub types : IsTrue (is_typed p a)
      pub duty : IsDutyAt p W at
      pub room : length s.net + (weight_of_target a + cost + bits_of_target a) < 2 ^ 27
