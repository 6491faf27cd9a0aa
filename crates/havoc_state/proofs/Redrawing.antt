-- Cells and objects that a loop changes draw values, one by one.
use Rattle.std.proofs.Common.{◌≡◌, ℕ, suc, ◌-◌, ◌<◌, List, ◌∷◌, drop, Err, sym, ap, subst, ◌∙◌, arith}
use Rattle.c_core.specs.Tree.{Program}
use Rattle.c_core.specs.declared.number.Spot.{Spot}
use Rattle.c_meaning.specs.declared.run.DrawKind.TheVariants.{Havoc as HavocDraw}
use Rattle.c_meaning.specs.Objects.{type_of_object}
use Rattle.c_meaning.specs.Acts.{Res, Go, bind}
use Rattle.c_meaning.specs.Duties.{Placed}
use Rattle.c_meaning.specs.Havoc as h
use Rattle.c_meaning.specs.Havoc.{Stopped, Left}
use Rattle.run_state.specs.Interpreting.{same}
use Rattle.run_state.proofs.Giving.{bind_on}
use Rattle.havoc_state.specs.Havocking.{Gives, cell_redrawn, object_redrawn}
use Rattle.havoc_state.specs.declared.machine.Halt.{Halt}
use Rattle.havoc_state.proofs.Giving.{halted}
use Rattle.havoc_state.proofs.Declaring.{writing}

module _ (p : Program) (I : List Placed) (spot : Spot) where
  module _ (o size i : ℕ) (inside : i < size) (s u : Left) (whole : Res Stopped Left (Unit {0})) (rest : h.redraw_cells p I spot o i (size - i) s ≡ whole) where
    next_cell : bind (cell_redrawn p I spot o i s) (λ _. h.redraw_cells p I spot o (suc i) (size - suc i)) ≡ whole
    next_cell =
        let d : size - i ≡ suc (size - suc i) = omega arith in
        bind_on (h.draw p I HavocDraw spot (type_of_object p o) s) (writing p I o i) (λ _. h.redraw_cells p I spot o (suc i) (size - suc i))
        ∙ ap (λ k. h.redraw_cells p I spot o i k s) (sym d) ∙ rest

    pub cells_halted : (h : Halt) → Gives same (Err h) u (cell_redrawn p I spot o i s) → Gives same (Err h) u whole
    cells_halted halt g = subst (Gives same (Err halt) u) next_cell (halted same same halt u (cell_redrawn p I spot o i s) (λ _. h.redraw_cells p I spot o (suc i) (size - suc i)) g)

    pub cells_on : cell_redrawn p I spot o i s ≡ Go tt u → h.redraw_cells p I spot o (suc i) (size - suc i) u ≡ whole
    cells_on g = ap (λ q. bind q (λ _. h.redraw_cells p I spot o (suc i) (size - suc i))) (sym g) ∙ next_cell

  pub cells_done : (o size i : ℕ) (s : Left) (whole : Res Stopped Left (Unit {0})) → i ≡ size → h.redraw_cells p I spot o i (size - i) s ≡ whole → whole ≡ Go tt s
  cells_done o size i s whole e r =
      let d : size - i ≡ 0 = omega arith in
      sym r ∙ ap (λ k. h.redraw_cells p I spot o i k s) d

  -- objects in turn
  module _ (os : List ℕ) (i o : ℕ) (s u : Left) (whole : Res Stopped Left (Unit {0})) (behind : drop i os ≡ o ∷ drop (suc i) os) (rest : h.redraw p I spot (drop i os) s ≡ whole) where
    next_object : bind (object_redrawn p I spot o s) (λ _. h.redraw p I spot (drop (suc i) os)) ≡ whole
    next_object = ap (λ xs. h.redraw p I spot xs s) (sym behind) ∙ rest

    pub objects_halted : (h : Halt) → Gives same (Err h) u (object_redrawn p I spot o s) → Gives same (Err h) u whole
    objects_halted halt g = subst (Gives same (Err halt) u) next_object (halted same same halt u (object_redrawn p I spot o s) (λ _. h.redraw p I spot (drop (suc i) os)) g)

    pub objects_on : object_redrawn p I spot o s ≡ Go tt u → h.redraw p I spot (drop (suc i) os) u ≡ whole
    objects_on g = ap (λ q. bind q (λ _. h.redraw p I spot (drop (suc i) os))) (sym g) ∙ next_object
