-- Declared names: their cells, which draw or hold 0, and their initializers.
use Rattle.std.proofs.Common.{◌≡◌, ◌≤◌, ℕ, zero, suc, ◌+◌, ℤ, false, List, [], ◌∷◌, ◌++◌, Option, refl, sym, ap, ◌∙◌, subst, arith}
use Rattle.c_core.specs.Types.{fit}
use Rattle.c_core.specs.Tree.{Program, Exp, Expr, Exps, NoExp, MoreExp, Init, Absent, One, Many, Rows, Names, NoName, MoreName}
use Rattle.c_core.specs.declared.number.IntType.{IntType}
use Rattle.c_core.specs.declared.number.Spot.{Spot}
use Rattle.c_meaning.specs.declared.run.DrawKind.TheVariants.{Cell as CellDraw}
use Rattle.c_meaning.specs.declared.run.End.{End}
use Rattle.c_meaning.specs.declared.run.Event.{Event}
use Rattle.c_meaning.specs.Acts.{Res, Go, bind}
use Rattle.c_meaning.specs.Cells.{Cell, put, cells_from}
use Rattle.c_meaning.specs.Eval.{eval}
use Rattle.c_meaning.specs.Exec.{ticks, draw_cells, initials, row_initials, initial, declare}
use Rattle.c_meaning.specs.Meaning.{ACell, AStatement, Used, Meaning, Calls}
use Rattle.c_meaning.specs.Objects.{type_of_object, size_of_object, columns_of_object}
use Rattle.c_meaning.specs.Run.{State, with_cells}
use Rattle.c_meaning.specs.Run as run
use Rattle.c_meaning.specs.Watching.{seen_by}
use Rattle.run_state.specs.Interpreting.{where_of}
use Rattle.flow_code.specs.declared.code.Action.TheVariants.{Declare as DeclareOf}
use Rattle.flow_code.specs.declared.code.Code.{Code}
use Rattle.flow_code.specs.declared.code.Place.TheVariants.{Fixed}
use Rattle.flow_code.specs.declared.code.Then.TheVariants.{Drop}
use Rattle.flow_code.specs.declared.statements.Inside.{Inside}
use Rattle.flow_code.specs.Preparing.{stored_in}
use Rattle.flow_code.specs.Sizes.{size_stored, size_of_values, size_of_rows, size_of_init, size_of_names}
use Rattle.flow_code.specs.Statements.{full_of, draws, initial_code, initials_code, rows_code, init_code, name_code, names_code}
use Rattle.flow_code.specs.Words.{native}
use Rattle.flow_laws.specs.Machines.{Control, Machine}
use Rattle.flow_laws.specs.Acting.{program_in, cell, cells_drawn, drawn_if, declared}
use Rattle.flow_laws.specs.Stepping.{Does}
use Rattle.flow_laws.specs.inside.Simulating.{HasCode, control_at, meaning, calls, paying, Finishes, LeavesAs}
use Rattle.flow_laws.proofs.Reaching.{reaches_itself}
use Rattle.flow_laws.proofs.Known.{Known}
use Rattle.flow_laws.proofs.Leaving.{Part, steps_there, other_end}
use Rattle.flow_laws.proofs.Operations.{bind_behind, bind_alike, standing}
use Rattle.flow_laws.proofs.Sized.{initial_size, initials_size, name_size}
use Rattle.flow_laws.proofs.Values.{fit_native}
use Rattle.flow_laws.proofs.Standing.{has_followed, does_on, does_made, op_stays, ticks_alike}

module _ (p : Program) (c : Code) (S : Type 0) (after : Event → List Cell → S → S) (n : ℕ) (known : Known p c S after n) (result : Option IntType) where
  abbrev M : Meaning
  M = meaning p c S after

  -- calls at most n deep
  abbrev call : Calls M
  call = calls p c S after n

  -- cells draw alike
  drawn_alike : (spot : Spot) (o i m : ℕ) (s : State S)
      → draw_cells p M call spot o i m s ≡ cells_drawn c S after spot o (type_of_object p o) i m s
  drawn_alike spot o i zero s = refl
  drawn_alike spot o i (suc m) s =
      let next = λ (v : ℤ) (u : State S). draw_cells p M call spot o (suc i) m (with_cells (put (cell o i) v u.cells) u) in
      let other = λ (v : ℤ) (u : State S). cells_drawn c S after spot o (type_of_object p o) (suc i) m (with_cells (put (cell o i) v u.cells) u) in
      ap (λ q. bind (run.draw (record (program_in c) { model = q }) S (seen_by after) CellDraw spot (type_of_object p o) s) next) (sym known.model)
      ∙ bind_alike (run.draw (program_in c) S (seen_by after) CellDraw spot (type_of_object p o) s) next other
      (λ v u. drawn_alike spot o (suc i) m (with_cells (put (cell o i) v u.cells) u))

  -- what an initializer does behind its object's cells
  abbrev given_to : Spot → Spot → ℕ → Init → State S → Res End (State S) (Unit {0})
  given_to at spot o Absent s = Go tt s
  given_to at spot o (One e) s = initials p M call at o 0 (MoreExp e NoExp) s
  given_to at spot o (Many es) s = initials p M call at o 0 es s
  given_to at spot o (Rows rows) s = row_initials p M call at o 0 rows s

  -- cells draw by the operation that makes them; every other initializer comes behind it
  initial_split : (at spot : Spot) (o : ℕ) (j : Init) (s : State S) (rest : Part p c S after n known result)
      → bind (initial p M call at spot o j s) (λ _ u. rest u)
      ≡ bind (drawn_if c S after (draws j) spot o (type_of_object p o) (size_of_object p o) s) (λ _ u. bind (given_to at spot o j u) (λ _ v. rest v))
  initial_split at spot o Absent s rest = ap (λ r. bind r (λ _ u. rest u)) (drawn_alike spot o 0 (size_of_object p o) s)
  initial_split at spot o (One e) s rest = refl
  initial_split at spot o (Many es) s rest = refl
  initial_split at spot o (Rows rows) s rest = refl

  -- a name's cells are declared by one operation
  declared_first : (at spot : Spot) (o : ℕ) (j : Init) (ns : Names) (s : State S)
      → declare p M call at (MoreName spot o j ns) s
      ≡ bind (paying p c S after (size_of_object p o) (declared c S after spot o (size_of_object p o) (type_of_object p o) (draws j)) s)
      (λ _ u. bind (given_to at spot o j u) (λ _ v. declare p M call at ns v))
  declared_first at spot o j ns s =
      let z = size_of_object p o in
      let rest = declare p M call at ns in
      let made = λ (u : State S). with_cells (u.cells ++ cells_from o 0 z []) u in
      let whole = λ (t : Unit {0}) (u : State S). bind (run.room p S (seen_by after) z u) (λ _ v. bind (initial p M call at spot o j (made v)) (λ _ x. rest x)) in
      let first = λ (t : Unit {0}) (u : State S). declared c S after spot o z (type_of_object p o) (draws j) u in
      let last = λ (t : Unit {0}) (u : State S). bind (given_to at spot o j u) (λ _ v. rest v) in
      ap (λ r. bind r whole) (ticks_alike c S after p ACell AStatement z s)
      ∙ bind_alike (ticks p M AStatement z s) whole (λ t u. bind (first t u) last)
      (λ t u. bind_alike (run.room p S (seen_by after) z u) (λ _ v. bind (initial p M call at spot o j (made v)) (λ _ x. rest x))
      (λ _ v. bind (drawn_if c S after (draws j) spot o (type_of_object p o) z (made v)) last) (λ _ v. initial_split at spot o j (made v) rest)
      ∙ sym (bind_behind (run.room p S (seen_by after) z u) (λ _ v. drawn_if c S after (draws j) spot o (type_of_object p o) z (made v)) last))
      ∙ sym (bind_behind (ticks p M AStatement z s) first last)

  -- a value that is stored in a cell, and what comes behind it
  value_stored : {A : Type 0} (at : Spot) (o x : ℕ) (e : Exp) (i j : ℕ) (k : Control) (s : State S) (part : State S → Res End (State S) A) (L : A → State S → Machine S → Type 0)
      → i + size_stored e ≡ j → HasCode c i (initial_code p i at o x e) → s.steps ≤ n
      → ((u : State S) → u.steps ≤ s.steps → Does c S after (standing k j u) (part u) L)
      → Does c S after (standing k i s) (bind (eval p M call (where_of (full_of at e)) Used e s)
      (λ v u. part (with_cells (put (cell o x) (fit p.model (type_of_object p o) v) u.cells) u))) L
  value_stored at o x (Expr spot ty node) i j k s part L g h b d =
      let e = Expr spot ty node in
      does_on c S after (standing k i s) (eval p M call (where_of (full_of at e)) Used e s)
      (λ v u. part (with_cells (put (cell o x) (fit p.model (type_of_object p o) v) u.cells) u))
      (Finishes p c S after (control_at k i) (i + size_stored e) (stored_in (Fixed o x) (native p.model (type_of_object p o)) false Drop)) L
      (known.stored e (full_of at e) i 0 (Fixed o x) (native p.model (type_of_object p o)) Drop (standing k i s) h (record { at = refl; paid = refl }) b)
      (λ v u y f r z.
      let t = with_cells (put (cell o x) (fit p.model (type_of_object p o) v) u.cells) u in
      let same = ap (λ w. with_cells (put (cell o x) w u.cells) u) (fit_native p.model (type_of_object p o) v) in
      let l : y.control ≡ control_at k (i + size_stored e) = cc in
      let q : y.run ≡ t = cc in
      does_made c S after y (control_at k j) t (part t) L q (l ∙ ap (control_at k) g) (d t (steps_there p c S after n known result (standing k i s) y t s.steps r q (omega arith))))

  -- behind so many operations
  abbrev Behind : Control → ℕ → Unit {0} → State S → Machine S → Type 0
  Behind k j t u y = (y.run ≡ u) × (y.control ≡ control_at k j)

  -- the values of a list
  initials_run : (es : Exps) (at : Spot) (o x i : ℕ) (k : Control) (s : State S) → HasCode c i (initials_code p i at o x es) → s.steps ≤ n
      → Does c S after (standing k i s) (initials p M call at o x es s) (Behind k (i + size_of_values es))
  initials_run NoExp at o x i k s h b = let a : i ≡ i + 0 = omega arith in (standing k i s, reaches_itself c S after (standing k i s), (refl, ap (control_at k) a))
  initials_run (MoreExp e es) at o x i k s h b =
      let z = size_stored e in
      let q = has_followed c i z (initial_code p i at o x e) (λ l. initials_code p l at o (x + 1) es) (initial_size p i at o x e) h in
      let a : x + 1 ≡ suc x = omega arith in
      let more = subst (λ l. HasCode c (i + z) (initials_code p (i + z) at o l es)) a q.1 in
      let end : i + z + size_of_values es ≡ i + (z + size_of_values es) = omega arith in
      let rest = initials p M call at o (suc x) es in
      value_stored at o x e i (i + z) k s rest (Behind k (i + (z + size_of_values es))) refl q.0 b
      (λ u l. subst (λ j. Does c S after (standing k (i + z) u) (rest u) (Behind k j)) end (initials_run es at o (suc x) (i + z) k u more (omega (arith, l, b))))

  -- the values of rows, each row from its own cell on
  rows_run : (rows : List Exps) (at : Spot) (o x i : ℕ) (k : Control) (s : State S) → HasCode c i (rows_code p i at o x rows) → s.steps ≤ n
      → Does c S after (standing k i s) (row_initials p M call at o x rows s) (Behind k (i + size_of_rows rows))
  rows_run [] at o x i k s h b = let a : i ≡ i + 0 = omega arith in (standing k i s, reaches_itself c S after (standing k i s), (refl, ap (control_at k) a))
  rows_run (es ∷ rows) at o x i k s h b =
      let z = size_of_values es in
      let next = x + columns_of_object p o in
      let q = has_followed c i z (initials_code p i at o x es) (λ l. rows_code p l at o next rows) (initials_size p i at o x es) h in
      let end : i + z + size_of_rows rows ≡ i + (z + size_of_rows rows) = omega arith in
      let rest = row_initials p M call at o next rows in
      does_on c S after (standing k i s) (initials p M call at o x es s) (λ _ u. rest u) (Behind k (i + z)) (Behind k (i + (z + size_of_rows rows)))
      (initials_run es at o x i k s q.0 b)
      (λ t u y g r m. does_made c S after y (control_at k (i + z)) u (rest u) (Behind k (i + (z + size_of_rows rows))) m.0 m.1
      (subst (λ j. Does c S after (standing k (i + z) u) (rest u) (Behind k j)) end (rows_run rows at o next (i + z) k u q.1 (steps_there p c S after n known result (standing k i s) y u n r m.0 b))))

  -- an initializer
  given_run : (j : Init) (at spot : Spot) (o i : ℕ) (k : Control) (s : State S) → HasCode c i (init_code p i at o j) → s.steps ≤ n
      → Does c S after (standing k i s) (given_to at spot o j s) (Behind k (i + size_of_init j))
  given_run Absent at spot o i k s h b = let a : i ≡ i + 0 = omega arith in (standing k i s, reaches_itself c S after (standing k i s), (refl, ap (control_at k) a))
  given_run (One e) at spot o i k s h b =
      let rest = λ (u : State S). initials p M call at o 1 NoExp u in
      value_stored at o 0 e i (i + size_stored e) k s rest (Behind k (i + size_stored e)) refl h b
      (λ u l. (standing k (i + size_stored e) u, reaches_itself c S after (standing k (i + size_stored e) u), (refl, refl)))
  given_run (Many es) at spot o i k s h b = initials_run es at o 0 i k s h b
  given_run (Rows rows) at spot o i k s h b = rows_run rows at o 0 i k s h b

  -- declared names
  pub names_run : (ns : Names) (at : Spot) (i : ℕ) (w : Inside) (k : Control) (s : State S) → HasCode c i (names_code p i at ns) → s.steps ≤ n
      → Does c S after (standing k i s) (declare p M call at ns s) (LeavesAs p c S after w k (i + size_of_names ns))
  names_run NoName at i w k s h b = let a : i ≡ i + 0 = omega arith in (standing k i s, reaches_itself c S after (standing k i s), (refl, ap (control_at k) a))
  names_run (MoreName spot o j ns) at i w k s h b =
      let z = size_of_object p o in
      let x = size_of_init j in
      let last = size_of_names ns in
      let sized = name_size p i at spot o j ∙ (let y : 1 + x ≡ x + 1 = omega arith in y) in
      let q = has_followed c i (x + 1) (name_code p i at spot o j) (λ l. names_code p l at ns) sized h in
      let first = q.0.0 in
      let a : i + 1 ≡ suc i = omega arith in
      let init = subst (λ l. HasCode c (suc i) (init_code p l at o j)) a q.0.1 in
      let end : i + (x + 1) + last ≡ i + (x + 1 + last) = omega arith in
      let e : suc i + x ≡ i + (x + 1) = omega arith in
      let part = declared c S after spot o z (type_of_object p o) (draws j) in
      let rest = declare p M call at ns in
      let L = LeavesAs p c S after w k (i + (x + 1 + last)) in
      let all = does_on c S after (standing k i s) (paying p c S after z part s) (λ _ u. bind (given_to at spot o j u) (λ _ v. rest v))
      (λ _ u y. (y.run ≡ u) × (y.control ≡ control_at k (suc i))) L
      (op_stays c S after p i z k s (DeclareOf spot o z (type_of_object p o) (draws j)) part first (λ l u. refl))
      (λ t u y g r m.
      let less = steps_there p c S after n known result (standing k i s) y u n r m.0 b in
      does_made c S after y (control_at k (suc i)) u (bind (given_to at spot o j u) (λ _ v. rest v)) L m.0 m.1
      (does_on c S after (standing k (suc i) u) (given_to at spot o j u) (λ _ v. rest v) (Behind k (suc i + x)) L (given_run j at spot o (suc i) k u init less)
      (λ done v z gone reached there.
      let fewer = steps_there p c S after n known result (standing k (suc i) u) z v n reached there.0 less in
      does_made c S after z (control_at k (i + (x + 1))) v (rest v) L there.0 (there.1 ∙ ap (control_at k) e)
      (other_end p c S after n known result (standing k (i + (x + 1)) v) (rest v) w k (i + (x + 1) + last) (i + (x + 1 + last)) end
      (names_run ns at (i + (x + 1)) w k v q.1 fewer))))) in
      subst (λ r. Does c S after (standing k i s) r L) (sym (declared_first at spot o j ns s)) all
