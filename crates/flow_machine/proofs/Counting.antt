-- No more draws take no choice than are made.
use Rattle.std.proofs.Common.{◌≤◌, ℕ, zero, suc, ◌+◌, ◌-◌, ℤ, pos, nat_le, Bool, true, false, cond, not, List, [], ◌∷◌, ◌++◌, length, take, drop, Option, Some, None, slice_get, arith, length-append}
use Rattle.c_core.specs.Types.{fit, is_zero, number_of}
use Rattle.c_core.specs.Operators.{apply_of, apply_one_of}
use Rattle.c_core.specs.declared.number.DataModel.TheVariants.{Lp64}
use Rattle.c_core.specs.declared.number.Done.{Done}
use Rattle.c_core.specs.declared.number.Done.TheVariants.{Value, Overflow, Undefined as NoValue}
use Rattle.c_core.specs.declared.number.IntType.{IntType}
use Rattle.c_core.specs.declared.number.Property.{Property}
use Rattle.c_core.specs.declared.number.Property.TheVariants.{UnreachCall, NoOverflow}
use Rattle.c_core.specs.declared.number.Spot.{Spot}
use Rattle.c_core.specs.Tree.{Program}
use Rattle.c_meaning.specs.declared.run.Draw.{Draw}
use Rattle.c_meaning.specs.declared.run.DrawKind.{DrawKind}
use Rattle.c_meaning.specs.declared.run.DrawKind.TheVariants.{Input as InputDraw, Cell as CellDraw}
use Rattle.c_meaning.specs.declared.run.End.{End}
use Rattle.c_meaning.specs.declared.run.End.TheVariants.{Undefined, Deep}
use Rattle.c_meaning.specs.declared.run.Event.{Event}
use Rattle.c_meaning.specs.declared.run.Event.TheVariants.{Return as Returned}
use Rattle.c_meaning.specs.Acts.{Res, Go, Stop, bind}
use Rattle.c_meaning.specs.Cells.{Cell, put, read, cells_from}
use Rattle.c_meaning.specs.Meaning.{Site, Where}
use Rattle.c_meaning.specs.Run.{State, with_cells, index_below, in_row, most_cells}
use Rattle.c_meaning.specs.Run as run
use Rattle.c_meaning.specs.Watching.{seen_by}
use Rattle.run_state.specs.Interpreting.{where_of, site_of}
use Rattle.run_state.specs.declared.machine.CallSite.{CallSite}
use Rattle.flow_code.specs.Words.{type_of_word}
use Rattle.flow_code.specs.declared.code.Action.{Action}
use Rattle.flow_code.specs.declared.code.Action.TheVariants.{Rest, Arrive, Give, Truth, Convert, Look, Aim, Row, Operate, OperateOne, Jump, Select, Open, Close, Declare, Enter, Call, Input, Reach, End as EndHere, Leave, Return}
use Rattle.flow_code.specs.declared.code.Body.{Body}
use Rattle.flow_code.specs.declared.code.Code.{Code}
use Rattle.flow_code.specs.declared.code.Into.{Into}
use Rattle.flow_code.specs.declared.code.Op.{Op}
use Rattle.flow_code.specs.declared.code.Store.{Store}
use Rattle.flow_code.specs.declared.code.Then.{Then}
use Rattle.flow_code.specs.declared.code.Then.TheVariants.{Push, Drop, Skip, Branch}
use Rattle.flow_laws.specs.declared.frame.Frame.{Frame}
use Rattle.flow_laws.specs.Machines.{Control, Machine}
use Rattle.flow_laws.specs.Acting.{program_in, cell, right_of, top, below, value_of, stack_of, key_at, stack_at, kept_value, arguments, with_parameters, passed_on, stored, finished, cells_drawn, drawn_if, declared, input_given, called, left_by, aimed, reached_at, converted, acted, scope_closed}
use Rattle.flow_laws.specs.Stepping.{Turn, On, Short, Over, onward, moved, due, paid_all, behind, done_if, step, steps}

-- no more draws took no choice than were made
abbrev pub Few : {S : Type 0} → State S → Type 0
Few s = s.unfixed ≤ length s.draws

-- the same where a part goes on
abbrev pub Counts : {S A : Type 0} → Res End (State S) A → Type 0
Counts (Go a s) = Few s
Counts (Stop e s) = Unit {0}

-- the same of a turn that doesn't end the run
abbrev pub TurnCounts : {S : Type 0} → Turn S → Type 0
TurnCounts (On m) = Few m.run
TurnCounts (Short m) = Few m.run
TurnCounts (Over e s) = Unit {0}

-- a part that leaves it so
abbrev pub Fair : {S A : Type 0} → (State S → Res End (State S) A) → Type 0
Fair {S = S} f = (s : State S) → Few s → Counts (f s)

counts_then : {S A B : Type 0} (r : Res End (State S) A) (f : A → State S → Res End (State S) B) → Counts r → ((a : A) (s : State S) → Few s → Counts (f a s)) → Counts (bind r f)
counts_then (Go a s) f h g = g a s h
counts_then (Stop e s) f h g = tt

one_at_most : (v : Option ℤ) → run.one_if_none v ≤ 1
one_at_most None = omega arith
one_at_most (Some v) = omega arith

-- a draw is one of them at most
one_drawn : (ds : List Draw) (d : Draw) (n : ℕ) (v : Option ℤ) → n ≤ length ds → n + run.one_if_none v ≤ length (ds ++ d ∷ [])
one_drawn ds d n v h = let one = one_at_most v in omega (arith, h, one, length-append ds (d ∷ []))

module _ (p : Program) (S : Type 0) (see : run.Moment → S → S) where
  counts_room : (b : Bool) (s : State S) → Few s → Counts {A = Unit {0}} (cond b (Go tt s) (Stop Deep s))
  counts_room true s h = h
  counts_room false s h = tt

  counts_draw : (kind : DrawKind) (spot : Spot) (ty : IntType) (s : State S) → Few s → Counts (run.draw p S see kind spot ty s)
  counts_draw kind spot ty s h =
      one_drawn s.draws (record { spot = spot; ty = ty; value = fit p.model ty (run.or_zero (run.chosen kind spot s.choices)); from = kind }) s.unfixed (run.chosen kind spot s.choices) h

  counts_overflowed : (q : Property) (at : Where) (spot : Spot) (v : ℤ) (s : State S) → Few s → Counts (run.overflowed p S see q at spot v s)
  counts_overflowed NoOverflow at spot v s h = tt
  counts_overflowed UnreachCall at spot v s h = h

  counts_answered : (at : Where) (spot : Spot) (d : Done) (s : State S) → Few s → Counts (run.answered p S see at spot d s)
  counts_answered at spot (Value v) s h = h
  counts_answered at spot (Overflow v) s h = counts_overflowed p.property at spot v s h
  counts_answered at spot NoValue s h = tt

  counts_key : (spot : Spot) (o : ℕ) (i : Option ℕ) (s : State S) → Few s → Counts (run.key_of p S see spot o i s)
  counts_key spot o None s h = tt
  counts_key spot o (Some i) s h = h

  counts_reached : (q : Property) (at : Where) (site : Site) (s : State S) → Few s → Counts (run.reached p S see q at site s)
  counts_reached UnreachCall at site s h = tt
  counts_reached NoOverflow at site s h = tt

  given_or_not : (b : Bool) (spot : Spot) → Fair {S = S} {A = ℤ} (cond b (λ s. Stop (Undefined spot) s) (λ s. Go (pos 0) s))
  given_or_not true spot s h = tt
  given_or_not false spot s h = h

  counts_returned : (site : Site) (v : Option ℤ) (s : State S) → Few s → Counts (run.returned p S see site v s)
  counts_returned site (Some v) s h = h
  counts_returned site None s h = given_or_not site.needed site.spot (record s { seen = see (run.Told (Returned site.close None) s.cells) s.seen }) h

module _ (c : Code) (S : Type 0) (after : Event → List Cell → S → S) where
  counts_passed : (v : ℤ) (then : Then) (k : Control) (s : State S) → Few s → Counts (passed_on c S after v then k s)
  counts_passed v Push k s h = h
  counts_passed v Drop k s h = h
  counts_passed v (Skip way to) k s h = h
  counts_passed v (Branch at way to) k s h = h

  counts_stored : (y : Option Store) (old v : ℤ) (then : Then) (k : Control) (s : State S) → Few s → Counts (stored c S after y old v then k s)
  counts_stored None old v then k s h = counts_passed v then k s h
  counts_stored (Some y) old v then k s h =
      let w = fit Lp64 y.ty v in
      counts_passed (kept_value y old w) then (record k { stack = stack_at y.place k.stack }) (with_cells (put (key_at y.place k.stack) w s.cells) s) h

  counts_finished : (old v : ℤ) (x : Into) (k : Control) (s : State S) → Few s → Counts (finished c S after old v x k s)
  counts_finished old v x k s h = counts_stored x.store old v x.then k s h

  counts_drawn : (spot : Spot) (o : ℕ) (ty : IntType) (i n : ℕ) (s : State S) → Few s → Counts (cells_drawn c S after spot o ty i n s)
  counts_drawn spot o ty i zero s h = h
  counts_drawn spot o ty i (suc n) s h =
      counts_then (run.draw (program_in c) S (seen_by after) CellDraw spot ty s) (λ v u. cells_drawn c S after spot o ty (suc i) n (with_cells (put (cell o i) v u.cells) u))
      (counts_draw (program_in c) S (seen_by after) CellDraw spot ty s h) (λ v u g. counts_drawn spot o ty (suc i) n (with_cells (put (cell o i) v u.cells) u) g)

  counts_drawn_if : (b : Bool) (spot : Spot) (o : ℕ) (ty : IntType) (n : ℕ) (s : State S) → Few s → Counts (drawn_if c S after b spot o ty n s)
  counts_drawn_if true spot o ty n s h = counts_drawn spot o ty 0 n s h
  counts_drawn_if false spot o ty n s h = h

  counts_declared : (spot : Spot) (o n : ℕ) (ty : IntType) (draws : Bool) (s : State S) → Few s → Counts (declared c S after spot o n ty draws s)
  counts_declared spot o n ty draws s h =
      counts_then (run.room (program_in c) S (seen_by after) n s) (λ _ u. drawn_if c S after draws spot o ty n (with_cells (u.cells ++ cells_from o 0 n []) u))
      (counts_room (program_in c) S (seen_by after) (nat_le (length s.cells + s.active + n) most_cells) s h)
      (λ _ u g. counts_drawn_if draws spot o ty n (with_cells (u.cells ++ cells_from o 0 n []) u) g)

  counts_input : (spot close : Spot) (ty : IntType) (s : State S) → Few s → Counts (input_given c S after spot close ty s)
  counts_input spot close ty s h = counts_draw (program_in c) S (seen_by after) InputDraw spot ty s h

  counts_called : (o : Option Body) (n : ℕ) (site : CallSite) (k : Control) (s : State S) → Few s → Counts (called c S after o n site k s)
  counts_called None n site k s h = tt
  counts_called (Some b) n site k s h =
      counts_then (run.room (program_in c) S (seen_by after) (suc (length b.parameters)) s)
      (λ _ u. Go (record k { at = b.entry; stack = drop n k.stack; frames = record { back = k.at; cells = length u.cells; site = site } ∷ k.frames })
      (record u { active = suc u.active; cells = with_parameters b.parameters (arguments n k.stack) u.cells }))
      (counts_room (program_in c) S (seen_by after) (nat_le (length s.cells + s.active + suc (length b.parameters)) most_cells) s h) (λ _ u g. g)

  counts_left : (fs : List Frame) (v : Option ℤ) (k : Control) (s : State S) → Few s → Counts (left_by c S after fs v k s)
  counts_left [] v k s h = tt
  counts_left (f ∷ fs) v k s h =
      let u : State S = record s { cells = take f.cells s.cells; active = s.active - 1 } in
      counts_then (run.returned (program_in c) S (seen_by after) (site_of f.site) v u) (λ w t. Go (record k { at = f.back; stack = w ∷ k.stack; frames = fs }) t)
      (counts_returned (program_in c) S (seen_by after) (site_of f.site) v u h) (λ w t g. g)

  counts_closed : (ns : List ℕ) (k : Control) (s : State S) → Few s → Counts (scope_closed ns k s)
  counts_closed [] k s h = h
  counts_closed (n ∷ ns) k s h = h

  -- each action leaves it so
  counts_acted : (a : Action) (k : Control) (s : State S) → Few s → Counts (acted c S after a k s)
  counts_acted Rest k s h = h
  counts_acted (Arrive at) k s h = h
  counts_acted (Give y x) k s h = let v = value_of y k.stack s.cells in counts_finished v v x (record k { stack = stack_of y k.stack }) s h
  counts_acted (Truth y x) k s h = let v = number_of (not (is_zero (value_of y k.stack s.cells))) in counts_finished v v x (record k { stack = stack_of y k.stack }) s h
  counts_acted (Convert ty y x) k s h = let v = fit Lp64 ty (value_of y k.stack s.cells) in counts_finished v v x (record k { stack = stack_of y k.stack }) s h
  counts_acted (Look o n y spot x) k s h =
      counts_then (run.key_of (program_in c) S (seen_by after) spot o (index_below n (value_of y k.stack s.cells)) s)
      (λ i u. finished c S after (read i u.cells) (read i u.cells) x (record k { stack = stack_of y k.stack }) u)
      (counts_key (program_in c) S (seen_by after) spot o (index_below n (value_of y k.stack s.cells)) s h)
      (λ i u g. counts_finished (read i u.cells) (read i u.cells) x (record k { stack = stack_of y k.stack }) u g)
  counts_acted (Aim o n y spot reads) k s h =
      counts_then (run.key_of (program_in c) S (seen_by after) spot o (index_below n (value_of y k.stack s.cells)) s) (λ i u. aimed c S after reads i (stack_of y k.stack) k u)
      (counts_key (program_in c) S (seen_by after) spot o (index_below n (value_of y k.stack s.cells)) s h) (λ i u g. g)
  counts_acted (Row rows columns a b spot) k s h =
      let w = value_of b k.stack s.cells in
      let vs = stack_of b k.stack in
      let i = in_row columns (index_below rows (value_of a vs s.cells)) (index_below columns w) in
      counts_then (run.key_of (program_in c) S (seen_by after) spot 0 i s) (λ j u. Go (record k { stack = pos j.index ∷ stack_of a vs }) u)
      (counts_key (program_in c) S (seen_by after) spot 0 i s h) (λ j u g. g)
  counts_acted (Operate o word count a b from x) k s h =
      let w = value_of b k.stack s.cells in
      let vs = stack_of b k.stack in
      let v = value_of a vs s.cells in
      let z = apply_of Lp64 o (type_of_word word) (fit Lp64 (type_of_word word) v) (right_of o word count w) in
      counts_then (run.answered (program_in c) S (seen_by after) (where_of from.around) from.spot z s) (λ q u. finished c S after v q x (record k { stack = stack_of a vs }) u)
      (counts_answered (program_in c) S (seen_by after) (where_of from.around) from.spot z s h) (λ q u g. counts_finished v q x (record k { stack = stack_of a vs }) u g)
  counts_acted (OperateOne o word a from x) k s h =
      let v = value_of a k.stack s.cells in
      let z = apply_one_of Lp64 o (type_of_word word) (fit Lp64 (type_of_word word) v) in
      counts_then (run.answered (program_in c) S (seen_by after) (where_of from.around) from.spot z s) (λ q u. finished c S after v q x (record k { stack = stack_of a k.stack }) u)
      (counts_answered (program_in c) S (seen_by after) (where_of from.around) from.spot z s h) (λ q u g. counts_finished v q x (record k { stack = stack_of a k.stack }) u g)
  counts_acted (Jump to) k s h = h
  counts_acted (Select at cases other) k s h = h
  counts_acted Open k s h = h
  counts_acted Close k s h = counts_closed k.scopes k s h
  counts_acted (Declare spot o n ty draws) k s h = counts_then (declared c S after spot o n ty draws s) (λ _ u. Go k u) (counts_declared spot o n ty draws s h) (λ _ u g. g)
  counts_acted (Enter close) k s h = h
  counts_acted (Call f n site) k s h = counts_called (slice_get c.functions f) n site k s h
  counts_acted (Input spot close ty x) k s h =
      counts_then (input_given c S after spot close ty s) (λ v u. finished c S after v v x k u) (counts_input spot close ty s h) (λ v u g. counts_finished v v x k u g)
  counts_acted (Reach at spot) k s h =
      counts_then (reached_at c S after at spot s) (λ _ u. Go k u)
      (counts_reached (program_in c) S (seen_by after) c.property (where_of at) (record { spot = spot; close = spot; needed = false }) s h) (λ _ u g. g)
  counts_acted EndHere k s h = tt
  counts_acted Leave k s h = counts_left k.frames None k s h
  counts_acted (Return ty) k s h = counts_left k.frames (Some (converted c S after ty (top k.stack))) (record k { stack = below k.stack }) s h

  counts_moved : (r : Res End (State S) Control) → Counts r → TurnCounts (moved r)
  counts_moved (Go k s) h = h
  counts_moved (Stop e s) h = tt

  counts_paid : (b : Bool) (r : Res End (State S) Control) (m : Machine S) → Counts r → Few m.run → TurnCounts (cond b (moved r) (Short m))
  counts_paid true r m h g = counts_moved r h
  counts_paid false r m h g = g

  counts_done : (m : Machine S) (o : Option Op) → Few m.run → TurnCounts (done_if c S after m o)
  counts_done m None h = tt
  counts_done m (Some o) h =
      let s : State S = record m.run { steps = m.run.steps - due m o } in
      counts_paid (nat_le (due m o) m.run.steps) (acted c S after o.action (behind m.control) s) (paid_all m) (counts_acted o.action (behind m.control) s h) h

  counts_onward : (t : Turn S) (f : Machine S → Turn S) → TurnCounts t → ((m : Machine S) → Few m.run → TurnCounts (f m)) → TurnCounts (onward t f)
  counts_onward (On m) f h g = g m h
  counts_onward (Short m) f h g = h
  counts_onward (Over e s) f h g = tt

  -- so do operations
  pub steps_count : (n : ℕ) (m : Machine S) → Few m.run → TurnCounts (steps c S after n m)
  steps_count zero m h = h
  steps_count (suc n) m h = counts_onward (step c S after m) (steps c S after n) (counts_done m (slice_get c.ops m.control.at) h) (λ z g. steps_count n z g)
