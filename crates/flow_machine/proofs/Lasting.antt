-- What a machine takes of the room that there is.
use Rattle.std.proofs.Common.{◌≡◌, ◌≤◌, ◌<◌, ℕ, zero, suc, ◌+◌, ◌-◌, ℤ, Bool, true, false, cond, nat_le, List, [], ◌∷◌, ◌++◌, length, drop, Option, Some, None, slice_get, refl, sym, ap, ◌∙◌, subst, arith, length-append}
use Rattle.std.specs.Prelude.{vec_capacity}
use Rattle.c_core.specs.Types.{fit}
use Rattle.c_core.specs.declared.number.DataModel.TheVariants.{Lp64}
use Rattle.c_core.specs.declared.number.IntType.{IntType}
use Rattle.c_core.specs.declared.number.Spot.{Spot}
use Rattle.c_meaning.specs.declared.run.Draw.{Draw}
use Rattle.c_meaning.specs.declared.run.DrawKind.{DrawKind}
use Rattle.c_meaning.specs.declared.run.DrawKind.TheVariants.{Input as InputDraw, Cell as CellDraw}
use Rattle.c_meaning.specs.declared.run.End.{End}
use Rattle.c_meaning.specs.declared.run.Event.{Event}
use Rattle.c_meaning.specs.declared.run.Event.TheVariants.{Return as Returned}
use Rattle.c_meaning.specs.Acts.{Res, Go, Stop, bind}
use Rattle.c_meaning.specs.Cells.{Key, Cell, live, same_key, put, cells_from}
use Rattle.c_meaning.specs.Run.{State, with_cells}
use Rattle.c_meaning.specs.Run as runs
use Rattle.c_meaning.specs.Watching.{seen_by}
use Rattle.run_state.proofs.Taking.{length_more}
use Rattle.run_state.specs.declared.machine.CallSite.{CallSite}
use Rattle.flow_code.specs.declared.code.Action.TheVariants.{Input}
use Rattle.flow_code.specs.declared.code.Body.{Body}
use Rattle.flow_code.specs.declared.code.Code.{Code}
use Rattle.flow_code.specs.declared.code.Into.{Into}
use Rattle.flow_code.specs.declared.code.Op.{Op}
use Rattle.flow_code.specs.declared.code.Parameter.{Parameter}
use Rattle.flow_code.specs.declared.code.Store.{Store}
use Rattle.flow_code.specs.declared.code.Then.{Then}
use Rattle.flow_code.specs.declared.code.Then.TheVariants.{Push, Drop, Skip, Branch}
use Rattle.flow_laws.specs.Machines.{Control, Machine}
use Rattle.flow_laws.specs.Acting.{program_in, cell, arguments, with_parameters, kept_value, key_at, stack_at, passed_on, stored, cells_drawn, drawn_if, declared, called, acted}
use Rattle.flow_laws.specs.Stepping.{Short, moved, due, paid_all, behind, done_if, step}
use Rattle.flow_machine.specs.Rooms.{HasSpare, IsCounted, KeepsStacks, KeepsRooms, GoesWithin, TurnsWithin, GoesInRoom, TurnsInRoom}
use Rattle.flow_machine.specs.Views.{control_of, state_of, machine_of}
use Rattle.flow_machine.specs.declared.control.Control.{Control as Here}
use Rattle.flow_machine.specs.declared.control.Running.{Running}

-- room that is kept, and kept again
pub stacks_kept : (k l m : Here) → KeepsStacks k l → KeepsStacks l m → KeepsStacks k m
stacks_kept k l m g h = (omega (arith, g.0, h.0), omega (arith, g.1, h.1), omega (arith, g.2, h.2))

pub rooms_kept : (r t u : Running) → KeepsRooms r t → KeepsRooms t u → KeepsRooms r u
rooms_kept r t u g h = (omega (arith, g.0, h.0), omega (arith, g.1, h.1))

pub same_stacks : (k l : Here) → l ≡ k → KeepsStacks k l
same_stacks k l e = rw e (omega arith, omega arith, omega arith)

-- a write leaves as many cells
length_put : (k : Key) (v : ℤ) (cs : List Cell) → length (put k v cs) ≡ length cs
length_put k v [] = refl
length_put k v (x ∷ xs) = one_put (live k xs) (cond (same_key x.key k) (record { key = x.key; value = v }) x) x (put k v xs) xs (length_put k v xs)
  where
    one_put : (b : Bool) (y z : Cell) (ys zs : List Cell) → length ys ≡ length zs → length (cond b (z ∷ ys) (y ∷ zs)) ≡ length (z ∷ zs)
    one_put true y z ys zs e = ap suc e
    one_put false y z ys zs e = refl

-- a cell more
pub one_longer : (cs ds : List Cell) (x : Cell) → ds ≡ cs ++ x ∷ [] → length ds ≡ length cs + 1
one_longer cs ds x e = ap length e ∙ length-append cs (x ∷ [])

-- each parameter has a cell
parameters_long : (os : List Parameter) (vs : List ℤ) (cs : List Cell) → length (with_parameters os vs cs) ≡ length cs + length os
parameters_long [] vs cs = omega arith
parameters_long (o ∷ os) [] cs =
    let more = parameters_long os [] (cs ++ cells_from o.object 0 1 []) in
    omega (arith, more, length-append cs (cells_from o.object 0 1 []))
parameters_long (o ∷ os) (v ∷ vs) cs =
    let more = parameters_long os vs (cs ++ cells_from o.object 0 1 (fit Lp64 o.ty v ∷ [])) in
    omega (arith, more, length-append cs (cells_from o.object 0 1 (fit Lp64 o.ty v ∷ [])))

module _ (c : Code) (S : Type 0) (after : Event → List Cell → S → S) (a b : ℕ) where
  passed_within : (v : ℤ) (then : Then) (k : Control) (s : State S) → GoesWithin a b (passed_on c S after v then k s) → length s.draws ≤ b
  passed_within v Push k s h = h.1
  passed_within v Drop k s h = h.1
  passed_within v (Skip way to) k s h = h.1
  passed_within v (Branch at way to) k s h = h.1

  stored_within : (y : Option Store) (old v : ℤ) (then : Then) (k : Control) (s : State S) → GoesWithin a b (stored c S after y old v then k s) → length s.draws ≤ b
  stored_within None old v then k s h = passed_within v then k s h
  stored_within (Some y) old v then k s h =
      let w = fit Lp64 y.ty v in
      passed_within (kept_value y old w) then (record k { stack = stack_at y.place k.stack }) (with_cells (put (key_at y.place k.stack) w s.cells) s) h

  -- a draw as it is noted, and the state behind it
  abbrev drawn_as : DrawKind → Spot → IntType → State S → Draw
  drawn_as kind spot ty s = record { spot = spot; ty = ty; value = fit c.model ty (runs.or_zero (runs.chosen kind spot s.choices)); from = kind }

  abbrev behind_draw : DrawKind → Spot → IntType → State S → State S
  behind_draw kind spot ty s = record s {
    choices = runs.after_draw kind spot s.choices;
    draws = s.draws ++ drawn_as kind spot ty s ∷ [];
    unfixed = s.unfixed + runs.one_if_none (runs.chosen kind spot s.choices);
  }

  -- a value from outside is a draw
  pub input_within : (spot close : Spot) (ty : IntType) (x : Into) (k : Control) (s : State S) → GoesWithin a b (acted c S after (Input spot close ty x) k s) → length s.draws < b
  input_within spot close ty x k s h =
      let d = drawn_as InputDraw spot ty s in
      let u = behind_draw InputDraw spot ty s in
      let w : State S = record u { seen = after (Returned close (Some d.value)) s.cells s.seen } in
      let more = stored_within x.store d.value d.value x.then k w h in
      omega (arith, more, length-append s.draws (d ∷ []))

  -- so are n cells
  drawn_within : (spot : Spot) (o : ℕ) (ty : IntType) (i n : ℕ) (s : State S) → GoesWithin a b (cells_drawn c S after spot o ty i n s) → (length s.cells ≤ a) × (length s.draws + n ≤ b)
  drawn_within spot o ty i zero s h = (h.0, omega (arith, h.1))
  drawn_within spot o ty i (suc n) s h =
      let d = drawn_as CellDraw spot ty s in
      let u = behind_draw CellDraw spot ty s in
      let more = drawn_within spot o ty (suc i) n (with_cells (put (cell o i) d.value u.cells) u) h in
      (omega (arith, more.0, length_put (cell o i) d.value s.cells), omega (arith, more.1, length-append s.draws (d ∷ [])))

  laid_within : (spot : Spot) (o : ℕ) (ty : IntType) (n : ℕ) (s : State S) (draws : Bool) → GoesWithin a b (drawn_if c S after draws spot o ty n (with_cells (s.cells ++ cells_from o 0 n []) s))
      → (length s.cells + n ≤ a) × (draws ≡ true → length s.draws + n ≤ b)
  laid_within spot o ty n s true h =
      let long = length_more s.cells (s.cells ++ cells_from o 0 n []) o n [] refl in
      let more = drawn_within spot o ty 0 n (with_cells (s.cells ++ cells_from o 0 n []) s) h in
      (omega (arith, more.0, long), λ e. more.1)
  laid_within spot o ty n s false h =
      let long = length_more s.cells (s.cells ++ cells_from o 0 n []) o n [] refl in
      (omega (arith, h.0, long), λ e. absurd (cc))

  -- declared cells live, and perhaps they draw
  pub declared_within : (spot : Spot) (o n : ℕ) (ty : IntType) (draws : Bool) (s : State S) → runs.room (program_in c) S (seen_by after) n s ≡ Go tt s
      → GoesWithin a b (declared c S after spot o n ty draws s) → (length s.cells + n ≤ a) × (draws ≡ true → length s.draws + n ≤ b)
  declared_within spot o n ty draws s room h =
      laid_within spot o ty n s draws
      (subst (λ (r : Res End (State S) (Unit {0})). GoesWithin a b (bind r (λ _ u. drawn_if c S after draws spot o ty n (with_cells (u.cells ++ cells_from o 0 n []) u)))) room h)

  -- a call has a cell for each parameter
  pub called_within : (body : Body) (n : ℕ) (site : CallSite) (k : Control) (s : State S) (m l : ℕ) → m ≡ suc l → l ≡ length body.parameters → runs.room (program_in c) S (seen_by after) m s ≡ Go tt s
      → GoesWithin a b (called c S after (Some body) n site k s) → length s.cells + length body.parameters ≤ a
  called_within body n site k s m l em el room h =
      let r = rw (em, el) at room in
      let more = subst (λ (q : Res End (State S) (Unit {0})). GoesWithin a b (bind q (λ _ u.
      Go (record k { at = body.entry; stack = drop n k.stack; frames = record { back = k.at; cells = length u.cells; site = site } ∷ k.frames })
      (record u { active = suc u.active; cells = with_parameters body.parameters (arguments n k.stack) u.cells })))) r h in
      omega (arith, more.0, parameters_long body.parameters (arguments n k.stack) s.cells)

  -- what only goes on behind a part
  pub first_within : {A : Type 0} (r : Res End (State S) A) (k : Control) → GoesWithin a b (bind r (λ _ u. Go k u)) → GoesWithin a b r
  first_within (Go x u) k h = h
  first_within (Stop e u) k h = tt

  moved_within : (r : Res End (State S) Control) → TurnsWithin a b (moved r) → GoesWithin a b r
  moved_within (Go k s) h = h
  moved_within (Stop e s) h = tt

  op_within : (m : Machine S) (o : Op) (q : Option Op) → q ≡ Some o → nat_le (due m o) m.run.steps ≡ true → TurnsWithin a b (done_if c S after m q)
      → GoesWithin a b (acted c S after o.action (behind m.control) (record m.run { steps = m.run.steps - due m o }))
  op_within m o q e t h =
      let r = acted c S after o.action (behind m.control) (record m.run { steps = m.run.steps - due m o }) in
      let d = subst (λ (x : Option Op). TurnsWithin a b (done_if c S after m x)) e h in
      moved_within r (subst (λ (x : Bool). TurnsWithin a b (cond x (moved r) (Short (paid_all m)))) t d)

-- an action of an operation that is paid, where the operation has room
pub step_in_room : (c : Code) (S : Type 0) (after : Event → List Cell → S → S) (k l : Here) (r t : Running) (x : S) (o : Op) (q : Bool) → Some o ≡ slice_get c.ops k.at
    → q ≡ nat_le (o.steps - k.paid) r.steps → q ≡ true → l ≡ record k { paid = 0 } → t ≡ record r { steps = r.steps - (o.steps - k.paid) }
    → TurnsInRoom r (step c S after (machine_of k r x)) → GoesInRoom t (acted c S after o.action (control_of (record l { at = l.at + 1 })) (state_of t x))
step_in_room c S after k l r t x o q item enough full el et h =
    rw (el, et) (op_within c S after r.memory.room (vec_capacity r.draws) (machine_of k r x) o (slice_get c.ops k.at) (sym item) (sym enough ∙ full) h)

-- behind an operation that is paid there is as much to spare
pub spare_paid : (k l : Here) → l ≡ record k { paid = 0 } → HasSpare k → HasSpare (record l { at = l.at + 1 })
spare_paid k l e h = rw e (record { stack = h.stack; scopes = h.scopes; frames = h.frames })

pub counted_paid : (r t : Running) (n : ℕ) → t ≡ record r { steps = n } → IsCounted r → IsCounted t
counted_paid r t n e h = rw e h
