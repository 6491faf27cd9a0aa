-- Cells that draw in turn.
use Rattle.std.proofs.Common.{◌≡◌, ℕ, suc, ◌+◌, ◌-◌, ◌<◌, ◌≤◌, ℤ, Bool, true, false, List, [], ◌++◌, Result, subst, refl, ap, sym, ◌∙◌, arith}
use Rattle.c_core.specs.declared.number.IntType.{IntType}
use Rattle.c_core.specs.declared.number.Spot.{Spot}
use Rattle.c_meaning.specs.declared.run.DrawKind.TheVariants.{Cell as CellDraw}
use Rattle.c_meaning.specs.declared.run.End.{End}
use Rattle.c_meaning.specs.declared.run.Event.{Event}
use Rattle.c_meaning.specs.Acts.{Res, Go, bind}
use Rattle.c_meaning.specs.Cells.{Cell, put, cells_from}
use Rattle.c_meaning.specs.Run.{State, with_cells}
use Rattle.c_meaning.specs.Run as runs
use Rattle.c_meaning.specs.Watching.{seen_by}
use Rattle.flow_code.specs.declared.code.Code.{Code}
use Rattle.flow_laws.specs.Acting.{program_in, cell, cells_drawn, declared}
use Rattle.flow_machine.specs.Views.{Gives}
use Rattle.run_state.specs.Interpreting.{same}
use Rattle.run_state.specs.declared.machine.Halt.{Halt}

module _ (c : Code) (S : Type 0) (after : Event → List Cell → S → S) (spot : Spot) (o : ℕ) (ty : IntType) where
  -- a cell draws
  abbrev pub drawing : State S → Res End (State S) ℤ
  drawing s = runs.draw (program_in c) S (seen_by after) CellDraw spot ty s

  -- it gets its value, and the cells behind it draw
  abbrev pub others : ℕ → ℕ → ℤ → State S → Res End (State S) (Unit {0})
  others i n v u = cells_drawn c S after spot o ty (suc i) n (with_cells (put (cell o i) v u.cells) u)

  -- the next cell
  pub next_drawn : (i n : ℕ) → i < n → (s : State S) → cells_drawn c S after spot o ty i (n - i) s ≡ bind (drawing s) (others i (n - suc i))
  next_drawn i n h s = let e : n - i ≡ suc (n - suc i) = omega arith in rw e refl

  -- what is left behind a cell that drew
  pub drawn_on : (i n : ℕ) → i < n → (s u : State S) (v : ℤ) (cs : List Cell) (whole : Res End (State S) (Unit {0})) → cells_drawn c S after spot o ty i (n - i) s ≡ whole
      → drawing s ≡ Go v u → cs ≡ put (cell o i) v u.cells → cells_drawn c S after spot o ty (i + 1) (n - (i + 1)) (with_cells cs u) ≡ whole
  drawn_on i n h s u v cs whole w d p =
      let e : i + 1 ≡ suc i = omega arith in
      rw (e, p) (sym (ap (λ r. bind r (others i (n - suc i))) d) ∙ sym (next_drawn i n h s) ∙ w)

  -- nothing is left
  pub drawn_out : (i n : ℕ) → n ≤ i → (s : State S) → cells_drawn c S after spot o ty i (n - i) s ≡ Go tt s
  drawn_out i n h s = let e : n - i ≡ 0 = omega arith in rw e refl

  -- they draw
  pub declared_drawn : (n : ℕ) (draws : Bool) (s u : State S) (cs : List Cell) (q : Result (Unit {0}) Halt) → draws ≡ true → cs ≡ s.cells ++ cells_from o 0 n []
      → runs.room (program_in c) S (seen_by after) n s ≡ Go tt s → Gives same q u (cells_drawn c S after spot o ty 0 n (with_cells cs s)) → Gives same q u (declared c S after spot o n ty draws s)
  declared_drawn n draws s u cs q d e r g =
      rw d
      (subst (λ (x : Res End (State S) (Unit {0})). Gives same q u (bind x (λ _ v. cells_drawn c S after spot o ty 0 n (with_cells (v.cells ++ cells_from o 0 n []) v)))) (sym r)
      (subst (λ ds. Gives same q u (cells_drawn c S after spot o ty 0 n (with_cells ds s))) e g))

  -- they hold 0
  pub declared_plain : (n : ℕ) (draws : Bool) (s : State S) (cs : List Cell) → draws ≡ false → cs ≡ s.cells ++ cells_from o 0 n []
      → runs.room (program_in c) S (seen_by after) n s ≡ Go tt s → declared c S after spot o n ty draws s ≡ Go tt (with_cells cs s)
  declared_plain n draws s cs d e r = rw (d, r, e) refl
