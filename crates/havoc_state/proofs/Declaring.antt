-- Cells that draw their values, one by one.
use Rattle.std.proofs.Common.{◌≡◌, ℕ, suc, ◌-◌, ◌<◌, ℤ, List, Err, sym, ap, subst, ◌∙◌, arith}
use Rattle.c_core.specs.Tree.{Program}
use Rattle.c_core.specs.declared.number.Spot.{Spot}
use Rattle.c_meaning.specs.declared.run.DrawKind.TheVariants.{Cell as CellDraw}
use Rattle.c_meaning.specs.Cells.{put}
use Rattle.c_meaning.specs.Objects.{type_of_object}
use Rattle.c_meaning.specs.Acts.{Res, Go, bind}
use Rattle.c_meaning.specs.Duties.{Placed}
use Rattle.c_meaning.specs.Havoc as h
use Rattle.c_meaning.specs.Havoc.{Stopped, Left, with_cells_left}
use Rattle.run_state.specs.Interpreting.{same}
use Rattle.run_state.proofs.Giving.{bind_on}
use Rattle.havoc_state.specs.Havocking.{Gives, cell_drawn, cells_drawn_from}
use Rattle.havoc_state.specs.declared.machine.Halt.{Halt}
use Rattle.havoc_state.proofs.Giving.{halted}

module _ (p : Program) (I : List Placed) where
  -- writes the value of a cell
  abbrev pub writing : ℕ → ℕ → ℤ → Left → Res Stopped Left (Unit {0})
  writing o i v x = Go tt (with_cells_left (put (record { object = o; index = i }) v x.cells) x)

  module _ (spot : Spot) (o : ℕ) where
    module _ (n size i : ℕ) (inside : i < size) (s u : Left) (whole : Res Stopped Left (Unit {0})) (rest : cells_drawn_from p I n spot o i (size - i) s ≡ whole) where
      next_cell : bind (cell_drawn p I spot o i s) (λ _. cells_drawn_from p I n spot o (suc i) (size - suc i)) ≡ whole
      next_cell =
          let d : size - i ≡ suc (size - suc i) = omega arith in
          bind_on (h.draw p I CellDraw spot (type_of_object p o) s) (writing o i) (λ _. cells_drawn_from p I n spot o (suc i) (size - suc i))
          ∙ ap (λ k. cells_drawn_from p I n spot o i k s) (sym d) ∙ rest

      pub cells_halted : (h : Halt) → Gives same (Err h) u (cell_drawn p I spot o i s) → Gives same (Err h) u whole
      cells_halted h g = subst (Gives same (Err h) u) next_cell (halted same same h u (cell_drawn p I spot o i s) (λ _. cells_drawn_from p I n spot o (suc i) (size - suc i)) g)

      pub cells_on : cell_drawn p I spot o i s ≡ Go tt u → cells_drawn_from p I n spot o (suc i) (size - suc i) u ≡ whole
      cells_on g = ap (λ q. bind q (λ _. cells_drawn_from p I n spot o (suc i) (size - suc i))) (sym g) ∙ next_cell

    pub cells_done : (n size i : ℕ) (s : Left) (whole : Res Stopped Left (Unit {0})) → i ≡ size
        → cells_drawn_from p I n spot o i (size - i) s ≡ whole → whole ≡ Go tt s
    cells_done n size i s whole e r =
        let d : size - i ≡ 0 = omega arith in
        sym r ∙ ap (λ k. cells_drawn_from p I n spot o i k s) d
