-- What a watcher has seen where memory ran out: of an action, of an operation, of some operations.
use Rattle.std.proofs.Common.{◌≡◌, ℕ, suc, ◌+◌, ◌-◌, ℤ, pos, nat_le, Bool, true, false, cond, not, List, [], ◌∷◌, ◌++◌, take, Option, Some, None, slice_get, Result, Ok, Err, refl, sym, ap, ◌∙◌, append_assoc, arith}
use Rattle.std.specs.Prelude.{OnErr}
use Rattle.std.proofs.lemmas.List.{append-nil}
use Rattle.c_core.specs.Types.{fit, is_zero}
use Rattle.c_core.specs.declared.number.DataModel.TheVariants.{Lp64}
use Rattle.c_core.specs.declared.number.IntType.{IntType}
use Rattle.c_core.specs.declared.number.Spot.{Spot}
use Rattle.c_meaning.specs.declared.run.Draw.{Draw}
use Rattle.c_meaning.specs.declared.run.DrawKind.TheVariants.{Input as InputDraw}
use Rattle.c_meaning.specs.declared.run.End.{End}
use Rattle.c_meaning.specs.declared.run.End.TheVariants.{Undefined}
use Rattle.c_meaning.specs.declared.run.Event.{Event}
use Rattle.c_meaning.specs.declared.run.Event.TheVariants.{Branch as Branched, Return as Returned}
use Rattle.c_meaning.specs.declared.run.Way.TheVariants.{Truth as ByTruth}
use Rattle.c_meaning.specs.Acts.{Res, Go, Stop, bind}
use Rattle.c_meaning.specs.Cells.{Cell, put}
use Rattle.c_meaning.specs.Run.{Moment, Told, State, with_cells}
use Rattle.c_meaning.specs.Run as run
use Rattle.c_meaning.specs.Watching.{seen_by, seen_after}
use Rattle.run_state.specs.Fronts.{SawFront}
use Rattle.run_state.specs.declared.machine.Halt.{Halt}
use Rattle.run_state.specs.declared.machine.Halt.TheVariants.{Ends, NoMemory}
use Rattle.flow_code.specs.declared.code.Action.TheVariants.{Input, Return}
use Rattle.flow_code.specs.declared.code.Code.{Code}
use Rattle.flow_code.specs.declared.code.Into.{Into}
use Rattle.flow_code.specs.declared.code.Op.{Op}
use Rattle.flow_code.specs.declared.code.Store.{Store}
use Rattle.flow_code.specs.declared.code.Then.{Then}
use Rattle.flow_code.specs.declared.code.Then.TheVariants.{Push, Drop, Skip, Branch}
use Rattle.flow_laws.specs.declared.frame.Frame.{Frame}
use Rattle.flow_laws.specs.Machines.{Control, Machine}
use Rattle.flow_laws.specs.Acting.{acted, top, below, converted, input_given, kept_value, key_at, stack_at, passed_on, stored}
use Rattle.flow_laws.specs.Stepping.{Turn, On, Short, Over, moved, due, paid_all, behind, done_if, step, steps}
use Rattle.flow_laws.proofs.Seeing.{machine_as, turn_as, step_as, steps_as}
use Rattle.flow_machine.specs.Fronts.{IfBroken, OnBroken, kept, kept_by, kept_in, events_of, events_leaving, events_next, events_in, SawSome}
use Rattle.flow_machine.specs.Views.{control_of, state_of, machine_of}
use Rattle.flow_machine.proofs.Going.{one_more}
use Rattle.flow_machine.specs.declared.control.Control.{Control as Here}
use Rattle.flow_machine.specs.declared.control.Running.{Running}

-- what is so anyway is so where memory ran out
pub if_broken : {P : Type 0} (h : Halt) → P → IfBroken h P
if_broken (Ends e) p = tt
if_broken NoMemory p = p

pub on_broken : {A P : Type 0} (r : Result A Halt) → P → OnBroken r P
on_broken (Ok a) p = tt
on_broken (Err h) p = if_broken h p

-- what follows from that
pub then_broken : {P Q : Type 0} (h : Halt) → (P → Q) → IfBroken h P → IfBroken h Q
then_broken (Ends e) f p = tt
then_broken NoMemory f p = f p

pub then_on_broken : {A P Q : Type 0} (r : Result A Halt) → (P → Q) → OnBroken r P → OnBroken r Q
then_on_broken (Ok a) f p = tt
then_on_broken (Err h) f p = then_broken h f p

pub on_err : {A E P : Type 0} (r : Result A E) → P → OnErr r P
on_err (Ok a) p = tt
on_err (Err e) p = p

module _ {S : Type 0} (after : Event → List Cell → S → S) where
  -- nothing was seen
  pub saw_none : (ms : List Moment) (x y : S) → y ≡ x → SawFront after ms x y
  saw_none ms x y e = record { front = []; rest = ms; split = refl; saw = e }

  pub none_broken : {A : Type 0} (r : Result A Halt) (ms : List Moment) (x y : S) → OnBroken r (y ≡ x) → OnBroken r (SawFront after ms x y)
  none_broken r ms x y h = then_on_broken r (saw_none ms x y) h

  -- the first event was seen
  pub saw_one : (ms rest : List Moment) (e : Event) (cs : List Cell) (x y : S) → ms ≡ Told e cs ∷ rest → y ≡ after e cs x → SawFront after ms x y
  saw_one ms rest e cs x y h g = record { front = Told e cs ∷ []; rest = rest; split = h; saw = g }

module _ (c : Code) where
  -- the events of an action come after those that were kept
  passed_after : (v : ℤ) (then : Then) (k : Control) (s : State (List Moment)) → (more : List Moment) × (kept_by (passed_on c (List Moment) kept v then k s) ≡ s.seen ++ more)
  passed_after v Push k s = ([], sym (append-nil s.seen))
  passed_after v Drop k s = ([], sym (append-nil s.seen))
  passed_after v (Skip way to) k s = ([], sym (append-nil s.seen))
  passed_after v (Branch at way to) k s = (Told (Branched at (ByTruth (not (is_zero v)))) s.cells ∷ [], refl)

  stored_after : (y : Option Store) (old v : ℤ) (then : Then) (k : Control) (s : State (List Moment)) → (more : List Moment) × (kept_by (stored c (List Moment) kept y old v then k s) ≡ s.seen ++ more)
  stored_after None old v then k s = passed_after v then k s
  stored_after (Some y) old v then k s =
      let w = fit Lp64 y.ty v in
      passed_after (kept_value y old w) then (record k { stack = stack_at y.place k.stack }) (with_cells (put (key_at y.place k.stack) w s.cells) s)

  given_or_not : (b : Bool) (spot : Spot) (f : Frame) (fs : List Frame) (k : Control) (s : State (List Moment))
      → kept_by (bind (cond {A = State (List Moment) → Res End (State (List Moment)) ℤ} b (λ (u : State (List Moment)). Stop (Undefined spot) u) (λ u. Go (pos 0) u) s) (λ w u. Go (record k { at = f.back; stack = w ∷ k.stack; frames = fs }) u)) ≡ s.seen
  given_or_not true spot f fs k s = refl
  given_or_not false spot f fs k s = refl

  -- a function is left with one event
  leaving_tells : (f : Frame) (fs : List Frame) (v : Option ℤ) (k : Control) (s : State (List Moment)) → events_leaving c (f ∷ fs) v k s ≡ s.seen ++ Told (Returned f.site.close v) (take f.cells s.cells) ∷ []
  leaving_tells f fs (Some v) k s = refl
  leaving_tells f fs None k s =
      given_or_not f.site.needed f.site.spot f fs k
      (record s { cells = take f.cells s.cells; active = s.active - 1; seen = s.seen ++ Told (Returned f.site.close None) (take f.cells s.cells) ∷ [] })

  module _ {S : Type 0} (after : Event → List Cell → S → S) where
    same_converted : (ty : Option IntType) (v : ℤ) → converted c S after ty v ≡ converted c (List Moment) kept ty v
    same_converted None v = refl
    same_converted (Some t) v = refl

    -- the events of a way out with the value on top of the stack
    pub returned_events : (ty : Option IntType) (k l : Control) (s : State (List Moment)) (v w : ℤ) → v ≡ top k.stack → l ≡ record k { stack = below k.stack } → w ≡ converted c S after ty v
        → events_leaving c l.frames (Some w) l s ≡ events_of c (Return ty) k s
    returned_events ty k l s v w ev el ew =
        let e : w ≡ converted c (List Moment) kept ty v = ew ∙ same_converted ty v in
        rw (e, ev, el) refl

    -- memory ran out after the event of an input call
    pub input_broken : (spot close : Spot) (ty : IntType) (x : Into) (k : Control) (r : Running) (v : ℤ) (u : State S) (old new : S) → input_given c S after spot close ty (state_of r old) ≡ Go v u → new ≡ u.seen
        → SawFront after (events_of c (Input spot close ty x) k (state_of r [])) old new
    input_broken spot close ty x k r v u old new g e =
        let s : State (List Moment) = state_of r [] in
        let d : Draw = record { spot = spot; ty = ty; value = fit c.model ty (run.or_zero (run.chosen InputDraw spot s.choices)); from = InputDraw } in
        let t : State (List Moment) = record s {
          choices = run.after_draw InputDraw spot s.choices;
          draws = s.draws ++ d ∷ [];
          unfixed = s.unfixed + run.one_if_none (run.chosen InputDraw spot s.choices);
          seen = Told (Returned close (Some d.value)) s.cells ∷ [];
        } in
        let more = stored_after x.store d.value d.value x.then k t in
        saw_one after (events_of c (Input spot close ty x) k s) more.0 (Returned close (Some d.value)) s.cells old new more.1 (e ∙ sym (ap (λ (q : Res End (State S) ℤ). (run.state_of q).seen) g))

    -- memory ran out after the event of the way out of a function
    pub leaving_broken : (f : Frame) (fs frames : List Frame) (v : Option ℤ) (k : Control) (r : Running) (cs : List Cell) (old new : S) → frames ≡ f ∷ fs → cs ≡ take f.cells r.memory.cells
        → new ≡ after (Returned f.site.close v) cs old → SawFront after (events_leaving c frames v k (state_of r [])) old new
    leaving_broken f fs frames v k r cs old new e g h =
        saw_one after (events_leaving c frames v k (state_of r [])) [] (Returned f.site.close v) (take f.cells r.memory.cells) old new
        (ap (λ l. events_leaving c l v k (state_of r [])) e ∙ leaving_tells f fs v k (state_of r [])) (h ∙ ap (λ l. after (Returned f.site.close v) l old) g)

  moved_keeps : (r : Res End (State (List Moment)) Control) → kept_in (moved r) ≡ kept_by r
  moved_keeps (Go k s) = refl
  moved_keeps (Stop e s) = refl

  -- the events of an operation that is paid are those of its action
  pub paid_events : (k l : Here) (r t : Running) (o : Op) (q : Bool) → Some o ≡ slice_get c.ops k.at → q ≡ nat_le (o.steps - k.paid) r.steps → q ≡ true → l ≡ record k { paid = 0 }
      → t ≡ record r { steps = r.steps - (o.steps - k.paid) } → events_of c o.action (control_of (record l { at = l.at + 1 })) (state_of t []) ≡ events_next c (machine_of k r [])
  paid_events k l r t o q item enough full el et =
      let m : Machine (List Moment) = machine_of k r [] in
      let a = acted c (List Moment) kept o.action (behind m.control) (record m.run { steps = m.run.steps - due m o }) in
      rw (el, et) (sym (moved_keeps a) ∙ ap (λ b. kept_in (cond b (moved a) (Short (paid_all m)))) (sym full ∙ enough) ∙ ap (λ i. kept_in (done_if c (List Moment) kept m i)) item)

  kept_before : (t : Turn (List Moment)) (ms : List Moment) → kept_in (turn_as (λ ns. ms ++ ns) t) ≡ ms ++ kept_in t
  kept_before (On m) ms = refl
  kept_before (Short m) ms = refl
  kept_before (Over e s) ms = refl

  -- the events of an operation come after those that were kept
  next_after : (m : Machine (List Moment)) → kept_in (step c (List Moment) kept m) ≡ m.run.seen ++ events_next c (machine_as (λ _. []) m)
  next_after m =
      let z : Machine (List Moment) = machine_as (λ _. []) m in
      ap (λ ms. kept_in (step c (List Moment) kept (machine_as (λ _. ms) m))) (sym (append-nil m.run.seen))
      ∙ ap kept_in (step_as (List Moment) (List Moment) kept kept (λ ns. m.run.seen ++ ns) (λ e cs ns. sym (append_assoc m.run.seen ns (Told e cs ∷ []))) c z)
      ∙ kept_before (step c (List Moment) kept z) m.run.seen

  module _ (S : Type 0) (after : Event → List Cell → S → S) where
    seen_last : (x : S) (ms : List Moment) (e : Event) (cs : List Cell) → seen_after after x (ms ++ Told e cs ∷ []) ≡ after e cs (seen_after after x ms)
    seen_last x [] e cs = refl
    seen_last x (m ∷ ms) e cs = seen_last (seen_by after m x) ms e cs

    seen_both : (x : S) (ms ns : List Moment) → seen_after after x (ms ++ ns) ≡ seen_after after (seen_after after x ms) ns
    seen_both x [] ns = refl
    seen_both x (m ∷ ms) ns = seen_both (seen_by after m x) ms ns

    -- the same machine, before a watcher that keeps all events
    abbrev pub keeping : Machine S → Machine (List Moment)
    keeping m = machine_as (λ _. []) m

    -- n operations lead it to a machine with what another has, but for what is seen
    record Kept (n : ℕ) (m y : Machine S) : Type 0 where
      machine : Machine (List Moment)
      is : steps c (List Moment) kept n (keeping m) ≡ On machine
      same : machine_as (seen_after after m.run.seen) machine ≡ y

    kept_if : (n : ℕ) (m y : Machine S) (t : Turn (List Moment)) → steps c (List Moment) kept n (keeping m) ≡ t → turn_as (seen_after after m.run.seen) t ≡ On y → Kept n m y
    kept_if n m y (On z) e h = record { machine = z; is = e; same = cc }
    kept_if n m y (Short z) e h = absurd (cc)
    kept_if n m y (Over d s) e h = absurd (cc)

    kept_too : (n : ℕ) (m y : Machine S) → steps c S after n m ≡ On y → Kept n m y
    kept_too n m y e =
        kept_if n m y (steps c (List Moment) kept n (keeping m)) refl
        (sym (steps_as (List Moment) S kept after (seen_after after m.run.seen) (λ e cs ms. seen_last m.run.seen ms e cs) c n (keeping m)) ∙ e)

    -- where the operation after n others ran out of memory, a front of the events of all of them was seen
    pub saw_some : (n : ℕ) (m y : Machine S) (new : S) → steps c S after n m ≡ On y → SawFront after (events_next c (keeping y)) y.run.seen new → SawSome after (events_in c (keeping m)) m.run.seen new
    saw_some n m y new e f =
        let q = kept_too n m y e in
        let z = q.machine in
        let s : suc n ≡ n + 1 = omega arith in
        let next : events_in c (keeping m) (suc n) ≡ kept_in (step c (List Moment) kept z) =
        ap (λ i. events_in c (keeping m) i) s ∙ ap kept_in (one_more c (List Moment) kept n (keeping m) z (step c (List Moment) kept z) q.is refl) in
        let all : events_in c (keeping m) (suc n) ≡ z.run.seen ++ (f.front ++ f.rest) =
        next ∙ next_after z ∙ ap (λ (w : Machine S). z.run.seen ++ events_next c (keeping w)) q.same ∙ ap (λ ms. z.run.seen ++ ms) f.split in (
          n,
          record {
            front = z.run.seen ++ f.front;
            rest = f.rest;
            split = all ∙ sym (append_assoc z.run.seen f.front f.rest);
            saw = f.saw ∙ ap (λ x. seen_after after x f.front) (sym (ap (λ (w : Machine S). w.run.seen) q.same)) ∙ sym (seen_both m.run.seen z.run.seen f.front);
          },
        )
