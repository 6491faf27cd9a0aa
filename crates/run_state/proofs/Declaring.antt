-- Cells that draw their values, and values of initializers, one by one.
use Rattle.std.proofs.Common.{◌≡◌, ℕ, suc, ◌+◌, ◌-◌, ◌<◌, ℤ, List, ◌∷◌, drop, Ok, Err, refl, sym, ap, subst, ◌∙◌, arith}
use Rattle.c_core.specs.Tree.{Program, Exp, Expr as AnExp}
use Rattle.c_core.specs.View.{expr_view, exprs_view, rows_view}
use Rattle.c_core.specs.Types.{fit}
use Rattle.c_core.specs.declared.number.IntType.{IntType}
use Rattle.c_core.specs.declared.number.Spot.{Spot}
use Rattle.c_core.specs.declared.tree.Expr.{Expr}
use Rattle.c_core.specs.declared.tree.Row.{Row}
use Rattle.c_meaning.specs.declared.run.Event.{Event}
use Rattle.c_meaning.specs.declared.run.DrawKind.TheVariants.{Cell as CellDraw}
use Rattle.c_meaning.specs.Cells.{Cell, put}
use Rattle.c_meaning.specs.Meaning.{Used}
use Rattle.c_meaning.specs.Objects.{type_of_object, columns_of_object}
use Rattle.c_meaning.specs.Run.{State, with_cells}
use Rattle.run_state.specs.Interpreting.{Gives, same, done, drawing, fulled, cell_drawn, cells_drawn_from, initialised_one, initialised_by, initialised_rows}
use Rattle.run_state.specs.declared.machine.Halt.{Halt}
use Rattle.run_state.specs.declared.machine.Halt.TheVariants.{NoMemory}
use Rattle.run_state.proofs.Giving.{Behind, halted, went, starts, left_behind, gives_behind, halted_behind, bound_on}
use Rattle.run_state.specs.Ways.{Ran, IsOn, here, bound}

module _ (p : Program) (S : Type 0) (after : Event → List Cell → S → S) where
  -- writes the value of a cell
  abbrev writing : ℕ → ℕ → ℤ → State S → Ran S (Unit {0})
  writing o i v x = done p S after tt (with_cells (put (record { object = o; index = i }) v x.cells) x)

  module _ (spot : Spot) (o : ℕ) where
    pub cell_halted : (i : ℕ) (ty : IntType) (s u : State S) (h : Halt) → ty ≡ type_of_object p o
        → Gives same (Err h) u (drawing p S after CellDraw spot ty s) → Gives same (Err h) u (cell_drawn p S after spot o i s)
    cell_halted i ty s u h e g =
        halted same same h u (drawing p S after CellDraw spot (type_of_object p o) s) (writing o i)
        (subst (λ k. Gives same (Err h) u (drawing p S after CellDraw spot k s)) e g)

    pub cell_on : (i : ℕ) (ty : IntType) (v : ℤ) (s u : State S) → ty ≡ type_of_object p o
        → Gives same (Ok v) u (drawing p S after CellDraw spot ty s)
        → Gives same (Ok tt) (with_cells (put (record { object = o; index = i }) v u.cells) u) (cell_drawn p S after spot o i s)
    cell_on i ty v s u e g =
        went v u (drawing p S after CellDraw spot (type_of_object p o) s).result (λ w x. (writing o i w x).result) _
        (subst (λ k. Gives same (Ok v) u (drawing p S after CellDraw spot k s)) e g) refl

    module _ (n size i : ℕ) (inside : i < size) (s u : State S) (whole : Ran S (Unit {0})) (rest : Behind (cells_drawn_from p S after n spot o i (size - i) s) whole) where
      next_cell : Behind (bound (cell_drawn p S after spot o i s) (λ _. cells_drawn_from p S after n spot o (suc i) (size - suc i))) whole
      next_cell =
          let d : size - i ≡ suc (size - suc i) = omega arith in
          starts _ _ whole
          (bound_on (drawing p S after CellDraw spot (type_of_object p o) s) (writing o i) (λ _. cells_drawn_from p S after n spot o (suc i) (size - suc i))
          ∙ ap (λ k. cells_drawn_from p S after n spot o i k s) (sym d)) rest

      pub cells_halted : (h : Halt) → Gives same (Err h) u (cell_drawn p S after spot o i s) → Gives same (Err h) u whole
      cells_halted h g = halted_behind same same h u (cell_drawn p S after spot o i s) (λ _. cells_drawn_from p S after n spot o (suc i) (size - suc i)) whole next_cell g

      pub cells_on : Gives same (Ok tt) u (cell_drawn p S after spot o i s) → Behind (cells_drawn_from p S after n spot o (suc i) (size - suc i) u) whole
      cells_on g = left_behind same tt u (cell_drawn p S after spot o i s) (λ _. cells_drawn_from p S after n spot o (suc i) (size - suc i)) whole g next_cell

    pub cells_done : (n size i : ℕ) (s : State S) (whole : Ran S (Unit {0})) → i ≡ size
        → Behind (cells_drawn_from p S after n spot o i (size - i) s) whole → Gives same (Ok tt) s whole
    cells_done n size i s whole e r =
        let d : size - i ≡ 0 = omega arith in
        gives_behind same (Ok tt) s (done p S after tt s) whole (starts _ _ whole (ap (λ k. cells_drawn_from p S after n spot o i k s) (sym d)) r) refl

  -- what was seen before a value of an initializer is on its way
  full_from : (n : ℕ) (at : Spot) (o i : ℕ) (e : Exp) (k : Unit {0} → State S → Ran S (Unit {0})) (s : State S) → IsOn s.seen (bound (initialised_one p S after n at o i e s) k).way
  full_from n at o i (AnExp spot ty x) k s = here _

  -- values of an initializer in turn, from a cell on
  module _ (n : ℕ) (at : Spot) (o j : ℕ) (es : List Expr) (i : ℕ) (e : Expr) (behind : drop i es ≡ e ∷ drop (suc i) es) (s u : State S) (whole : Ran S (Unit {0}))
      (rest : Behind (initialised_by p S after n at o j (exprs_view (drop i es)) s) whole) where
    abbrev values_left : State S → Ran S (Unit {0})
    values_left = initialised_by p S after n at o (suc j) (exprs_view (drop (suc i) es))

    next_value : Behind (bound (initialised_one p S after n at o j (expr_view e) s) (λ _. values_left)) whole
    next_value =
        starts _ _ whole
        (bound_on (fulled p S after n at Used (expr_view e) s) (λ v x. writing o j (fit p.model (type_of_object p o) v) x) (λ _. values_left)
        ∙ ap (λ b. initialised_by p S after n at o j (exprs_view b) s) (sym behind)) rest

    pub values_halted : (h : Halt) → Gives same (Err h) u (initialised_one p S after n at o j (expr_view e) s) → Gives same (Err h) u whole
    values_halted h g = halted_behind same same h u (initialised_one p S after n at o j (expr_view e) s) (λ _. values_left) whole next_value g

    -- no number for a cell
    pub values_full : Gives same (Err NoMemory) s whole
    values_full = next_value.way s.seen (full_from n at o j (expr_view e) (λ _. values_left) s)

    pub values_on : Gives same (Ok tt) u (initialised_one p S after n at o j (expr_view e) s) → Behind (values_left u) whole
    values_on g = left_behind same tt u (initialised_one p S after n at o j (expr_view e) s) (λ _. values_left) whole g next_value

  -- rows of values in turn, from a cell on
  module _ (n : ℕ) (at : Spot) (o j : ℕ) (rows : List Row) (i : ℕ) (row : Row) (behind : drop i rows ≡ row ∷ drop (suc i) rows) (s u : State S) (whole : Ran S (Unit {0}))
      (rest : Behind (initialised_rows p S after n at o j (rows_view (drop i rows)) s) whole) where
    abbrev rows_left : State S → Ran S (Unit {0})
    rows_left = initialised_rows p S after n at o (j + columns_of_object p o) (rows_view (drop (suc i) rows))

    next_row : Behind (bound (initialised_by p S after n at o j (exprs_view row.values) s) (λ _. rows_left)) whole
    next_row = starts _ _ whole (ap (λ b. initialised_rows p S after n at o j (rows_view b) s) (sym behind)) rest

    pub rows_halted : (h : Halt) → Gives same (Err h) u (initialised_by p S after n at o j (exprs_view row.values) s) → Gives same (Err h) u whole
    rows_halted h g = halted_behind same same h u (initialised_by p S after n at o j (exprs_view row.values) s) (λ _. rows_left) whole next_row g

    pub rows_on : Gives same (Ok tt) u (initialised_by p S after n at o j (exprs_view row.values) s) → Behind (rows_left u) whole
    rows_on g = left_behind same tt u (initialised_by p S after n at o j (exprs_view row.values) s) (λ _. rows_left) whole g next_row
