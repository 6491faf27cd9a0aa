-- A machine that has reserved room stays within it.
use Rattle.std.proofs.Common.{◌≡◌, ◌≤◌, ◌⊎◌, inl, inr, ℕ, suc, ◌+◌, List, length, Option, refl, sym, ap, ◌∙◌, subst, arith}
use Rattle.std.specs.Prelude.{vec_capacity, Bool, true}
use Rattle.std.proofs.lemmas.List.{length-reverse}
use Rattle.c_core.specs.Tree.{Program}
use Rattle.c_meaning.specs.declared.run.Choices.{Choices}
use Rattle.c_meaning.specs.declared.run.End.{End}
use Rattle.c_meaning.specs.declared.run.End.TheVariants.{Spent}
use Rattle.c_meaning.specs.declared.run.Event.{Event}
use Rattle.c_meaning.specs.Cells.{Cell}
use Rattle.c_meaning.specs.Run.{State}
use Rattle.flow_code.specs.declared.code.Code.{Code}
use Rattle.flow_laws.specs.Machines.{Control, Machine}
use Rattle.flow_laws.specs.Runs.{Sight, noted}
use Rattle.flow_laws.specs.Stepping.{Turn, On, Short, Over, step, steps}
use Rattle.flow_laws.proofs.Budgets.{fewer}
use Rattle.flow_laws.proofs.Resting.{never_spent}
use Rattle.flow_laws.proofs.Seeing.{machine_as, turn_as, steps_as}
use Rattle.flow_rooms.specs.Rooms.{HasRoom, HasRooms, HoldsAtMost, unseen}
use Rattle.flow_rooms.proofs.Rooms.{come_on}
use Rattle.run_state.specs.declared.machine.Halt.TheVariants.{Ends as HaltEnds}
use Rattle.flow_machine.specs.Rooms.{HasSpare, IsCounted, KeepsStacks, KeepsRooms, IsWithin, TurnsWithin, TurnsInRoom, HoldsWithin, StaysWithin, IsReserved, IsReached, NeedsAtMost}
use Rattle.flow_rooms.specs.Paces.{IsInOrder}
use Rattle.flow_machine.specs.Runs.{Halts, Waits, Rests, IsSound}
use Rattle.flow_machine.specs.Views.{control_of, state_of, machine_of}
use Rattle.flow_machine.proofs.Counting.{TurnCounts, steps_count}
use Rattle.flow_machine.proofs.Going.{one_more}
use Rattle.flow_machine.specs.declared.control.Control.{Control as Here}
use Rattle.flow_machine.specs.declared.control.Running.{Running}

-- room for a control is room for what one action may push where a machine of Rust stands there
spare_there : (k l : Here) → KeepsStacks k l → HoldsWithin k (control_of l) → HasSpare l
spare_there k l e h = record {
  stack = omega (arith, h.stack, e.0, l.stack.ok.0, length-reverse l.stack.items);
  scopes = omega (arith, h.scopes, e.1, l.scopes.ok.0, length-reverse l.scopes.items);
  frames = omega (arith, h.frames, e.2, l.frames.ok.0, length-reverse l.frames.items);
}

-- a machine of Rust with as much room as before
pub still_reserved : (c : Code) (k l : Here) → KeepsStacks k l → IsReserved c k → IsReserved c l
still_reserved c k l e h = record { stack = omega (arith, h.stack, e.0); scopes = omega (arith, h.scopes, e.1); frames = omega (arith, h.frames, e.2) }

module _ (c : Code) (S : Type 0) (after : Event → List Cell → S → S) where
  -- where the operation behind n others has room
  turns_within : (n a b i j : ℕ) (m x : Machine S) (t : Turn S) → a ≤ i → b ≤ j → steps c S after n m ≡ On x → ((y : Machine S) → steps c S after (suc n) m ≡ On y → IsWithin a b y.run)
      → step c S after x ≡ t → TurnsWithin i j t
  turns_within n a b i j m x (On y) h k e within g =
      let s : n + 1 ≡ suc n = omega arith in
      let w = within y (subst (λ z. steps c S after z m ≡ On y) s (one_more c S after n m x (On y) e g)) in
      (omega (arith, w.0, h), omega (arith, w.1, k))
  turns_within n a b i j m x (Short y) h k e within g = tt
  turns_within n a b i j m x (Over d s) h k e within g = tt

  -- what an operation needs behind n others
  pub lasts_there : (k l : Here) (r t : Running) (x y : S) (n : ℕ) → steps c S after n (machine_of k r x) ≡ On (machine_of l t y) → KeepsStacks k l → KeepsRooms r t
      → StaysWithin k r (λ n. steps c S after n (machine_of k r x)) → HasSpare l × IsCounted t × TurnsInRoom t (step c S after (machine_of l t y))
  lasts_there k l r t x y n e stacks rooms within =
      let few = within.counted n (machine_of l t y) e in (
        spare_there k l stacks (within.stacks n (machine_of l t y) e),
        omega (arith, few, t.draws.ok.0),
        turns_within n r.memory.room (vec_capacity r.draws) t.memory.room (vec_capacity t.draws) (machine_of k r x) (machine_of l t y) (step c S after (machine_of l t y)) rooms.0 rooms.1 e (within.rooms n) refl,
      )

  unseen_as : (n : ℕ) (m : Machine S) → steps c (Unit {0}) unseen n (machine_as {T = Unit {0}} (λ _. tt) m) ≡ turn_as {T = Unit {0}} (λ _. tt) (steps c S after n m)
  unseen_as n m = steps_as S (Unit {0}) after unseen (λ _. tt) (λ e cs x. refl) c n m

  -- operations lead from where machines come to where they come
  pub reached_on : (n : ℕ) (m y : Machine S) → IsReached c m.control → (steps c S after n m ≡ On y) ⊎ (steps c S after n m ≡ Short y) → IsReached c y.control
  reached_on n m y q (inl e) = come_on c (Unit {0}) unseen n q.0 (machine_as {T = Unit {0}} (λ _. tt) m) (machine_as {T = Unit {0}} (λ _. tt) y) q.1 (inl (unseen_as n m ∙ ap (turn_as {T = Unit {0}} (λ _. tt)) e))
  reached_on n m y q (inr e) = come_on c (Unit {0}) unseen n q.0 (machine_as {T = Unit {0}} (λ _. tt) m) (machine_as {T = Unit {0}} (λ _. tt) y) q.1 (inr (unseen_as n m ∙ ap (turn_as {T = Unit {0}} (λ _. tt)) e))

  -- a machine that notes events, with what another has of a state
  record Noted (n : ℕ) (m y : Machine S) (told : List Sight) : Type 0 where
    machine : Machine (List Sight)
    is : steps c (List Sight) noted n (machine_as (λ _. told) m) ≡ On machine
    cells : machine.run.cells ≡ y.run.cells
    draws : machine.run.draws ≡ y.run.draws
    steps : machine.run.steps ≡ y.run.steps

  noted_if : (n : ℕ) (m y : Machine S) (told : List Sight) (t : Turn (List Sight)) → steps c (List Sight) noted n (machine_as (λ _. told) m) ≡ t
      → turn_as {T = Unit {0}} (λ _. tt) t ≡ On (machine_as {T = Unit {0}} (λ _. tt) y) → Noted n m y told
  noted_if n m y told (On z) e h =
      let same : machine_as {T = Unit {0}} (λ _. tt) z ≡ machine_as {T = Unit {0}} (λ _. tt) y = cc in
      record { machine = z; is = e; cells = ap (λ (w : Machine (Unit {0})). w.run.cells) same; draws = ap (λ (w : Machine (Unit {0})). w.run.draws) same; steps = ap (λ (w : Machine (Unit {0})). w.run.steps) same }
  noted_if n m y told (Short z) e h = absurd (cc)
  noted_if n m y told (Over d s) e h = absurd (cc)

  -- who notes events goes the same way
  noted_too : (n : ℕ) (m y : Machine S) (told : List Sight) → steps c S after n m ≡ On y → Noted n m y told
  noted_too n m y told e =
      let z : Machine (List Sight) = machine_as (λ _. told) m in
      noted_if n m y told (steps c (List Sight) noted n z) refl
      (sym (steps_as (List Sight) (Unit {0}) noted unseen (λ _. tt) (λ e cs x. refl) c n z) ∙ unseen_as n m ∙ ap (turn_as {T = Unit {0}} (λ _. tt)) e)

  -- where a run goes on, a machine that has reserved room stays within it
  pub stays_within : (p : Program) → HasRooms p c → ((l : Control) → HasRoom p l → HoldsAtMost c l) → (choices : Choices) (sum taken b : ℕ) (told : List Sight) (k : Here) (r : Running) (x : S)
      → Waits c choices sum taken (machine_of k r told) → IsReached c (control_of k) → r.unfixed ≤ length r.draws.items → IsReserved c k
      → NeedsAtMost c choices (sum + b) b r.memory.room (vec_capacity r.draws) → StaysWithin k (record r { steps = b }) (λ n. steps c S after n (machine_of k (record r { steps = b }) x))
  stays_within p rooms most choices sum taken b told k r x waits come few reserved needs =
      let start : Machine S = machine_of k (record r { steps = b }) x in
      let l = waits.goes_on b in
      record {
        stacks = λ n m e.
            let q = reached_on n start m come (inl e) in
            let h = most m.control (rooms q.0 m.control q.1) in
            record { stack = omega (arith, h.stack, reserved.stack); scopes = omega (arith, h.scopes, reserved.scopes); frames = omega (arith, h.frames, reserved.frames) };
        counted = λ n m e. subst (λ (t : Turn S). TurnCounts t) e (steps_count c S after n start few);
        rooms = λ n m e.
            let t = noted_too (suc n) start m told e in
            let few : m.run.steps ≤ b = fewer c S after start m (record { count = suc n; is = e }) in
            let w = needs (l.count + suc n) t.machine (l.alike n ∙ t.is) (omega (arith, few, t.steps)) in
            let i = ap length t.cells in
            let j = ap length t.draws in
            (omega (arith, w.0, i), omega (arith, w.1, j));
      }

  module _ (b : ℕ) (k k' : Here) (r r' : Running) (old new : S) where
    -- where its steps are spent machines come there too
    pub spent_reached : (e : End) → e ≡ Spent → IsReached c (control_of k) → Halts (HaltEnds e) (machine_of k' r' new) (λ n. steps c S after n (machine_of k (record r { steps = b }) old)) → IsReached c (control_of k')
    spent_reached e is come (n, inl h) = reached_on n (machine_of k (record r { steps = b }) old) (machine_of k' r' new) come (inr h.0)
    spent_reached e is come (n, inr h) =
        absurd (never_spent c S after n (machine_of k (record r { steps = b }) old) (machine_of k' r' new).run (subst (λ d. steps c S after n (machine_of k (record r { steps = b }) old) ≡ Over d (machine_of k' r' new).run) is h))

    -- and its draws are counted
    pub spent_counted : (e : End) → e ≡ Spent → r.unfixed ≤ length r.draws.items → Halts (HaltEnds e) (machine_of k' r' new) (λ n. steps c S after n (machine_of k (record r { steps = b }) old)) → r'.unfixed ≤ length r'.draws.items
    spent_counted e is few (n, inl h) = subst (λ (t : Turn S). TurnCounts t) h.0 (steps_count c S after n (machine_of k (record r { steps = b }) old) few)
    spent_counted e is few (n, inr h) =
        absurd (never_spent c S after n (machine_of k (record r { steps = b }) old) (machine_of k' r' new).run (subst (λ d. steps c S after n (machine_of k (record r { steps = b }) old) ≡ Over d (machine_of k' r' new).run) is h))

-- a machine that holds the same in at least as much room is as sound
pub sound_roomier : (c : Code) (choices : Choices) (sum taken : ℕ) (ended : Option End) (before now whole : Bool) (k l : Here) (r t : Running) → control_of l ≡ control_of k
    → ((x : List Sight) → state_of t x ≡ state_of r x) → state_of {S = Unit {0}} t tt ≡ state_of r tt → (now ≡ true → IsReserved c l)
    → IsSound c choices sum taken ended before whole k r → IsSound c choices sum taken ended now whole l t
sound_roomier c choices sum taken ended before now whole k l r t e f g room h =
    let plain : machine_of {S = Unit {0}} l t tt ≡ machine_of k r tt = ap (λ (n : Control). record { control = n; run = state_of {S = Unit {0}} t tt }) e ∙ ap (λ (s : State (Unit {0})). record { control = control_of k; run = s }) g in
    record {
      paced = h.paced;
      at_rest = λ w.
          let i = h.at_rest w in
          let same : machine_of l t i.told ≡ machine_of k r i.told = ap (λ (n : Control). record { control = n; run = state_of t i.told }) e ∙ ap (λ (s : State (List Sight)). record { control = control_of k; run = s }) (f i.told) in
          record { told = i.told; rests = subst (λ (m : Machine (List Sight)). Rests c choices sum taken ended m) (sym same) i.rests };
      in_order = λ w n. subst (λ (m : Machine (Unit {0})). IsInOrder c m) (sym plain) (h.in_order w n);
      reached = λ w n. subst (λ (m : Control). IsReached c m) (sym e) (h.reached w n);
      counted = λ w n.
          let few = h.counted w n in
          let u = ap (λ (s : State (Unit {0})). s.unfixed) g in
          let d = ap (λ (s : State (Unit {0})). length s.draws) g in
          omega (arith, few, u, d);
      room = room;
    }
