-- Where an action leads.
use Rattle.std.proofs.Common.{◌≡◌, ◌≤◌, ℕ, zero, suc, ◌+◌, ◌-◌, ℤ, pos, nat_le, Bool, true, false, cond, not, List, [], ◌∷◌, ◌++◌, length, take, drop, Option, Some, None, slice_get, leb-true, refl, subst, arith}
use Rattle.c_core.specs.Types.{fit, is_zero, number_of}
use Rattle.c_core.specs.Operators.{apply_of, apply_one_of}
use Rattle.c_core.specs.declared.number.DataModel.TheVariants.{Lp64}
use Rattle.c_core.specs.declared.number.Done.{Done}
use Rattle.c_core.specs.declared.number.Done.TheVariants.{Value, Overflow, Undefined as NoValue}
use Rattle.c_core.specs.declared.number.IntType.{IntType}
use Rattle.c_core.specs.declared.number.Property.{Property}
use Rattle.c_core.specs.declared.number.Property.TheVariants.{UnreachCall, NoOverflow}
use Rattle.c_core.specs.declared.number.Spot.{Spot}
use Rattle.c_core.specs.Tree.{Program}
use Rattle.c_meaning.specs.declared.run.DrawKind.TheVariants.{Cell as CellDraw}
use Rattle.c_meaning.specs.declared.run.End.{End}
use Rattle.c_meaning.specs.declared.run.End.TheVariants.{Undefined, Deep}
use Rattle.c_meaning.specs.declared.run.Event.{Event}
use Rattle.c_meaning.specs.declared.run.Event.TheVariants.{Branch as Branched, Return as Returned}
use Rattle.c_meaning.specs.declared.run.Way.TheVariants.{Truth as ByTruth}
use Rattle.c_meaning.specs.Acts.{Res, Go, Stop, bind}
use Rattle.c_meaning.specs.Cells.{Cell, put, read, cells_from}
use Rattle.c_meaning.specs.Meaning.{Site, Where}
use Rattle.c_meaning.specs.Run.{State, with_cells, index_below, in_row, most_cells}
use Rattle.c_meaning.specs.Run as run
use Rattle.c_meaning.specs.Watching.{seen_by}
use Rattle.run_state.specs.Interpreting.{where_of, site_of}
use Rattle.run_state.specs.declared.machine.CallSite.{CallSite}
use Rattle.flow_code.specs.Words.{type_of_word}
use Rattle.flow_code.specs.declared.code.Action.{Action}
use Rattle.flow_code.specs.declared.code.Action.TheVariants.{Rest, Arrive, Give, Truth, Convert, Look, Aim, Row, Operate, OperateOne, Jump, Select, Open, Close, Declare, Enter, Call, Input, Reach, End as EndHere, Leave, Return}
use Rattle.flow_code.specs.declared.code.Body.{Body}
use Rattle.flow_code.specs.declared.code.Code.{Code}
use Rattle.flow_code.specs.declared.code.Into.{Into}
use Rattle.flow_code.specs.declared.code.Store.{Store}
use Rattle.flow_code.specs.declared.code.Then.{Then}
use Rattle.flow_code.specs.declared.code.Then.TheVariants.{Push, Drop, Skip, Branch}
use Rattle.flow_laws.specs.declared.frame.Frame.{Frame}
use Rattle.flow_laws.specs.Machines.{Control}
use Rattle.flow_laws.specs.Acting.{program_in, cell, right_of, top, below, value_of, stack_of, key_at, stack_at, kept_value, arguments, with_parameters, passed_on, stored, finished, cells_drawn, drawn_if, declared, input_given, called, left_by, aimed, reached_at, converted, acted, scope_closed}
use Rattle.flow_rooms.specs.Paces.{target_in, target_of, opens}

-- from an address, with so many calls noted and so many active, to another: on, or to an address of the same function, or into a function, or out of one
pub data Move (c : Code) (scope : Bool) (target : Option ℕ) (at noted active at' noted' active' : ℕ) : Type 0 where
  Along : at' ≡ at → noted' ≡ noted → active' ≡ active → Move c scope target at noted active at' noted' active'
  Led : scope ≡ false → target ≡ Some at' → noted' ≡ noted → active' ≡ active → Move c scope target at noted active at' noted' active'
  Entered : (f : ℕ) (b : Body) → scope ≡ false → slice_get c.functions f ≡ Some b → at' ≡ b.entry → noted' ≡ suc noted → active' ≡ suc active → suc active ≤ most_cells → Move c scope target at noted active at' noted' active'
  Left : scope ≡ false → noted ≡ suc noted' → active' ≡ active - 1 → Move c scope target at noted active at' noted' active'

-- what a part leaves of the active calls
abbrev pub Active : {S A : Type 0} → ℕ → Res End (State S) A → Type 0
Active n (Go a s) = s.active ≡ n
Active n (Stop e s) = Unit {0}

-- a part that neither begins nor ends a call
abbrev pub Calm : {S A : Type 0} → (State S → Res End (State S) A) → Type 0
Calm {S = S} f = (s : State S) → Active s.active (f s)

-- where a part leads
abbrev pub Moves : {S : Type 0} → Code → Bool → Option ℕ → ℕ → ℕ → ℕ → ℕ → Res End (State S) Control → Type 0
Moves c scope target at paid noted active (Go k s) = (k.paid ≡ paid) × Move c scope target at noted active k.at (length k.frames) s.active
Moves c scope target at paid noted active (Stop e s) = Unit {0}

-- a part that neither begins nor ends a call, and one behind it
calm_then : {S A B : Type 0} (n : ℕ) (r : Res End (State S) A) (f : A → State S → Res End (State S) B) → Active n r → ((a : A) → Calm (f a)) → Active n (bind r f)
calm_then n (Go a s) f h g = subst (λ m. Active m (f a s)) h (g a s)
calm_then n (Stop e s) f h g = tt

-- the same before a part that leads somewhere
moves_then : {S A : Type 0} (c : Code) (scope : Bool) (target : Option ℕ) (at paid noted n : ℕ) (r : Res End (State S) A) (f : A → State S → Res End (State S) Control)
    → Active n r → ((a : A) (s : State S) → Moves c scope target at paid noted s.active (f a s)) → Moves c scope target at paid noted n (bind r f)
moves_then c scope target at paid noted n (Go a s) f h g = subst (λ m. Moves c scope target at paid noted m (f a s)) h (g a s)
moves_then c scope target at paid noted n (Stop e s) f h g = tt

-- room, if there is any
abbrev room_if : {S : Type 0} → Bool → State S → Res End (State S) (Unit {0})
room_if b s = cond b (Go tt s) (Stop Deep s)

module _ (p : Program) (S : Type 0) (see : run.Moment → S → S) where
  calm_room : (b : Bool) (s : State S) → Active s.active (room_if b s)
  calm_room true s = refl
  calm_room false s = tt

  calm_overflowed : (q : Property) (at : Where) (spot : Spot) (v : ℤ) → Calm (run.overflowed p S see q at spot v)
  calm_overflowed NoOverflow at spot v s = tt
  calm_overflowed UnreachCall at spot v s = refl

  calm_answered : (at : Where) (spot : Spot) (d : Done) → Calm (run.answered p S see at spot d)
  calm_answered at spot (Value v) s = refl
  calm_answered at spot (Overflow v) s = calm_overflowed p.property at spot v s
  calm_answered at spot NoValue s = tt

  calm_key : (spot : Spot) (o : ℕ) (i : Option ℕ) → Calm (run.key_of p S see spot o i)
  calm_key spot o None s = tt
  calm_key spot o (Some i) s = refl

  calm_reached : (q : Property) (at : Where) (site : Site) → Calm (run.reached p S see q at site)
  calm_reached UnreachCall at site s = tt
  calm_reached NoOverflow at site s = tt

  given_or_not : (b : Bool) (spot : Spot) → Calm {S = S} {A = ℤ} (cond b (λ s. Stop (Undefined spot) s) (λ s. Go (pos 0) s))
  given_or_not true spot s = tt
  given_or_not false spot s = refl

  calm_returned : (site : Site) (v : Option ℤ) → Calm (run.returned p S see site v)
  calm_returned site (Some v) s = refl
  calm_returned site None s = given_or_not site.needed site.spot (record s { seen = see (run.Told (Returned site.close None) s.cells) s.seen })

module _ (c : Code) (S : Type 0) (after : Event → List Cell → S → S) where
  -- on at an address where a value's truth is so
  skipped_moves : (b : Bool) (to : ℕ) (k : Control) (s : State S) → Moves c false (Some to) k.at k.paid (length k.frames) s.active (Go (cond b (record k { at = to }) k) s)
  skipped_moves true to k s = (refl, Led refl refl refl refl)
  skipped_moves false to k s = (refl, Along refl refl refl)

  passed_moves : (v : ℤ) (then : Then) (k : Control) (s : State S) → Moves c false (target_in then) k.at k.paid (length k.frames) s.active (passed_on c S after v then k s)
  passed_moves v Push k s = (refl, Along refl refl refl)
  passed_moves v Drop k s = (refl, Along refl refl refl)
  passed_moves v (Skip way to) k s = let t = not (is_zero v) in skipped_moves (cond way t (not t)) to k s
  passed_moves v (Branch at way to) k s = let t = not (is_zero v) in skipped_moves (cond way t (not t)) to k (record s { seen = after (Branched at (ByTruth t)) s.cells s.seen })

  stored_moves : (y : Option Store) (old v : ℤ) (then : Then) (k : Control) (s : State S) → Moves c false (target_in then) k.at k.paid (length k.frames) s.active (stored c S after y old v then k s)
  stored_moves None old v then k s = passed_moves v then k s
  stored_moves (Some y) old v then k s =
      let w = fit Lp64 y.ty v in
      passed_moves (kept_value y old w) then (record k { stack = stack_at y.place k.stack }) (with_cells (put (key_at y.place k.stack) w s.cells) s)

  finished_moves : (old v : ℤ) (x : Into) (k : Control) (s : State S) → Moves c false (target_in x.then) k.at k.paid (length k.frames) s.active (finished c S after old v x k s)
  finished_moves old v x k s = stored_moves x.store old v x.then k s

  calm_drawn : (spot : Spot) (o : ℕ) (ty : IntType) (i n : ℕ) → Calm (cells_drawn c S after spot o ty i n)
  calm_drawn spot o ty i zero s = refl
  calm_drawn spot o ty i (suc n) s =
      calm_then s.active (run.draw (program_in c) S (seen_by after) CellDraw spot ty s) (λ v u. cells_drawn c S after spot o ty (suc i) n (with_cells (put (cell o i) v u.cells) u))
      refl (λ v u. calm_drawn spot o ty (suc i) n (with_cells (put (cell o i) v u.cells) u))

  calm_drawn_if : (b : Bool) (spot : Spot) (o : ℕ) (ty : IntType) (n : ℕ) → Calm (drawn_if c S after b spot o ty n)
  calm_drawn_if true spot o ty n s = calm_drawn spot o ty 0 n s
  calm_drawn_if false spot o ty n s = refl

  calm_declared : (spot : Spot) (o n : ℕ) (ty : IntType) (draws : Bool) → Calm (declared c S after spot o n ty draws)
  calm_declared spot o n ty draws s =
      calm_then s.active (run.room (program_in c) S (seen_by after) n s) (λ _ u. drawn_if c S after draws spot o ty n (with_cells (u.cells ++ cells_from o 0 n []) u))
      (calm_room (program_in c) S (seen_by after) (nat_le (length s.cells + s.active + n) most_cells) s) (λ _ u. calm_drawn_if draws spot o ty n (with_cells (u.cells ++ cells_from o 0 n []) u))

  -- there was room for the call and its parameters
  entered : (f : ℕ) (b : Body) (t : Bool) (k : Control) (l : State S → Control) (s : State S) (u : State S → State S) → slice_get c.functions f ≡ Some b
      → nat_le (length s.cells + s.active + suc (length b.parameters)) most_cells ≡ t
      → (l s).at ≡ b.entry → (l s).paid ≡ k.paid → length (l s).frames ≡ suc (length k.frames) → (u s).active ≡ suc s.active
      → Moves c false None k.at k.paid (length k.frames) s.active (bind (room_if t s) (λ _ w. Go (l w) (u w)))
  entered f b true k l s u h g a q e r = let room = leb-true (length s.cells + s.active + suc (length b.parameters)) most_cells g in (q, Entered f b refl h a e r (omega (arith, room)))
  entered f b false k l s u h g a q e r = tt

  called_moves : (f : ℕ) (o : Option Body) (n : ℕ) (site : CallSite) (k : Control) (s : State S) → slice_get c.functions f ≡ o
      → Moves c false None k.at k.paid (length k.frames) s.active (called c S after o n site k s)
  called_moves f None n site k s h = tt
  called_moves f (Some b) n site k s h =
      entered f b (nat_le (length s.cells + s.active + suc (length b.parameters)) most_cells) k
      (λ w. record k { at = b.entry; stack = drop n k.stack; frames = record { back = k.at; cells = length w.cells; site = site } ∷ k.frames })
      s (λ w. record w { active = suc w.active; cells = with_parameters b.parameters (arguments n k.stack) w.cells }) h refl refl refl refl refl

  -- behind a function's end
  out_of : (f : Frame) (fs : List Frame) (k : Control) (n : ℕ) (r : Res End (State S) ℤ) → Active (n - 1) r → length k.frames ≡ suc (length fs)
      → Moves c false None k.at k.paid (length k.frames) n (bind r (λ w u. Go (record k { at = f.back; stack = w ∷ k.stack; frames = fs }) u))
  out_of f fs k n (Go w u) h e = (refl, Left refl e h)
  out_of f fs k n (Stop x u) h e = tt

  left_moves : (fs : List Frame) (v : Option ℤ) (k : Control) (s : State S) → length k.frames ≡ length fs → Moves c false None k.at k.paid (length k.frames) s.active (left_by c S after fs v k s)
  left_moves [] v k s e = tt
  left_moves (f ∷ fs) v k s e =
      let u : State S = record s { cells = take f.cells s.cells; active = s.active - 1 } in
      out_of f fs k s.active (run.returned (program_in c) S (seen_by after) (site_of f.site) v u) (calm_returned (program_in c) S (seen_by after) (site_of f.site) v u) e

  closed_moves : (ns : List ℕ) (k : Control) (s : State S) → Moves c false None k.at k.paid (length k.frames) s.active (scope_closed ns k s)
  closed_moves [] k s = (refl, Along refl refl refl)
  closed_moves (n ∷ ns) k s = (refl, Along refl refl refl)

  -- each action leads along, to its target, into a function that it calls, or out of its own
  pub acted_moves : (a : Action) (k : Control) (s : State S) → Moves c (opens a) (target_of a (top k.stack)) k.at k.paid (length k.frames) s.active (acted c S after a k s)
  acted_moves Rest k s = (refl, Along refl refl refl)
  acted_moves (Arrive at) k s = (refl, Along refl refl refl)
  acted_moves (Give y x) k s = let v = value_of y k.stack s.cells in finished_moves v v x (record k { stack = stack_of y k.stack }) s
  acted_moves (Truth y x) k s = let v = number_of (not (is_zero (value_of y k.stack s.cells))) in finished_moves v v x (record k { stack = stack_of y k.stack }) s
  acted_moves (Convert ty y x) k s = let v = fit Lp64 ty (value_of y k.stack s.cells) in finished_moves v v x (record k { stack = stack_of y k.stack }) s
  acted_moves (Look o n y spot x) k s =
      moves_then c false (target_in x.then) k.at k.paid (length k.frames) s.active (run.key_of (program_in c) S (seen_by after) spot o (index_below n (value_of y k.stack s.cells)) s)
      (λ i u. finished c S after (read i u.cells) (read i u.cells) x (record k { stack = stack_of y k.stack }) u)
      (calm_key (program_in c) S (seen_by after) spot o (index_below n (value_of y k.stack s.cells)) s)
      (λ i u. finished_moves (read i u.cells) (read i u.cells) x (record k { stack = stack_of y k.stack }) u)
  acted_moves (Aim o n y spot reads) k s =
      moves_then c false None k.at k.paid (length k.frames) s.active (run.key_of (program_in c) S (seen_by after) spot o (index_below n (value_of y k.stack s.cells)) s)
      (λ i u. aimed c S after reads i (stack_of y k.stack) k u)
      (calm_key (program_in c) S (seen_by after) spot o (index_below n (value_of y k.stack s.cells)) s)
      (λ i u. (refl, Along refl refl refl))
  acted_moves (Row rows columns a b spot) k s =
      let vs = stack_of b k.stack in
      let i = in_row columns (index_below rows (value_of a vs s.cells)) (index_below columns (value_of b k.stack s.cells)) in
      moves_then c false None k.at k.paid (length k.frames) s.active (run.key_of (program_in c) S (seen_by after) spot 0 i s) (λ i u. Go (record k { stack = pos i.index ∷ stack_of a vs }) u)
      (calm_key (program_in c) S (seen_by after) spot 0 i s) (λ i u. (refl, Along refl refl refl))
  acted_moves (Operate o word count a b from x) k s =
      let w = value_of b k.stack s.cells in
      let vs = stack_of b k.stack in
      let v = value_of a vs s.cells in
      let z = apply_of Lp64 o (type_of_word word) (fit Lp64 (type_of_word word) v) (right_of o word count w) in
      moves_then c false (target_in x.then) k.at k.paid (length k.frames) s.active (run.answered (program_in c) S (seen_by after) (where_of from.around) from.spot z s)
      (λ q u. finished c S after v q x (record k { stack = stack_of a vs }) u)
      (calm_answered (program_in c) S (seen_by after) (where_of from.around) from.spot z s)
      (λ q u. finished_moves v q x (record k { stack = stack_of a vs }) u)
  acted_moves (OperateOne o word a from x) k s =
      let v = value_of a k.stack s.cells in
      let z = apply_one_of Lp64 o (type_of_word word) (fit Lp64 (type_of_word word) v) in
      moves_then c false (target_in x.then) k.at k.paid (length k.frames) s.active (run.answered (program_in c) S (seen_by after) (where_of from.around) from.spot z s)
      (λ q u. finished c S after v q x (record k { stack = stack_of a k.stack }) u)
      (calm_answered (program_in c) S (seen_by after) (where_of from.around) from.spot z s)
      (λ q u. finished_moves v q x (record k { stack = stack_of a k.stack }) u)
  acted_moves (Jump to) k s = (refl, Led refl refl refl refl)
  acted_moves (Select at cases other) k s = (refl, Led refl refl refl refl)
  acted_moves Open k s = (refl, Along refl refl refl)
  acted_moves Close k s = closed_moves k.scopes k s
  acted_moves (Declare spot o n ty draws) k s =
      moves_then c false None k.at k.paid (length k.frames) s.active (declared c S after spot o n ty draws s) (λ _ u. Go k u) (calm_declared spot o n ty draws s) (λ _ u. (refl, Along refl refl refl))
  acted_moves (Enter close) k s = (refl, Along refl refl refl)
  acted_moves (Call f n site) k s = called_moves f (slice_get c.functions f) n site k s refl
  acted_moves (Input spot close ty x) k s =
      moves_then c false (target_in x.then) k.at k.paid (length k.frames) s.active (input_given c S after spot close ty s) (λ v u. finished c S after v v x k u) refl (λ v u. finished_moves v v x k u)
  acted_moves (Reach at spot) k s =
      moves_then c false None k.at k.paid (length k.frames) s.active (reached_at c S after at spot s) (λ _ u. Go k u)
      (calm_reached (program_in c) S (seen_by after) c.property (where_of at) (record { spot = spot; close = spot; needed = false }) s) (λ _ u. (refl, Along refl refl refl))
  acted_moves EndHere k s = tt
  acted_moves Leave k s = left_moves k.frames None k s refl
  acted_moves (Return ty) k s = left_moves k.frames (Some (converted c S after ty (top k.stack))) (record k { stack = below k.stack }) s refl
