-- What each action does: it changes where the machine stands and the state of its run, or ends the run.
use Rattle.std.specs.Prelude.{ℕ, zero, suc, ◌-◌, ℤ, pos, negsuc, Bool, false, cond, not, nat_lt, List, [], ◌∷◌, ◌++◌, length, take, drop, reverse, Option, Some, None, slice_get}
use Rattle.c_core.specs.Types.{fit, is_zero, number_of}
use Rattle.c_core.specs.Operators.{is_shift, apply_of, apply_one_of}
use Rattle.c_core.specs.declared.number.BinOp.{BinOp}
use Rattle.c_core.specs.declared.number.DataModel.TheVariants.{Lp64}
use Rattle.flow_code.specs.declared.code.Word.{Word}
use Rattle.flow_code.specs.Words.{type_of_word}
use Rattle.c_core.specs.Tree.{Program}
use Rattle.c_core.specs.declared.number.IntType.{IntType}
use Rattle.c_core.specs.declared.number.Spot.{Spot}
use Rattle.c_meaning.specs.declared.run.End.{End}
use Rattle.c_meaning.specs.declared.run.End.TheVariants.{Ended}
use Rattle.c_meaning.specs.declared.run.Event.{Event}
use Rattle.c_meaning.specs.declared.run.Event.TheVariants.{At, Branch as Branched, Enter as Entered, Return as Returned}
use Rattle.c_meaning.specs.declared.run.Way.{Way}
use Rattle.c_meaning.specs.declared.run.Way.TheVariants.{Truth as ByTruth, Case as ByCase, Default as ByDefault}
use Rattle.c_meaning.specs.declared.run.DrawKind.TheVariants.{Input as InputDraw, Cell as CellDraw}
use Rattle.c_meaning.specs.Cells.{Key, Cell, read, put, cells_from}
use Rattle.c_meaning.specs.Acts.{Res, Go, Stop, bind}
use Rattle.c_meaning.specs.Run.{State, index_below, in_row, with_cells}
use Rattle.c_meaning.specs.Run as run
use Rattle.c_meaning.specs.Watching.{seen_by}
use Rattle.run_state.specs.Interpreting.{where_of, site_of}
use Rattle.run_state.specs.declared.machine.Around.{Around}
use Rattle.run_state.specs.declared.machine.CallSite.{CallSite}
use Rattle.flow_code.specs.declared.code.Operand.{Operand}
use Rattle.flow_code.specs.declared.code.Operand.TheVariants.{Top, Cell as InCell, Number}
use Rattle.flow_code.specs.declared.code.Place.{Place}
use Rattle.flow_code.specs.declared.code.Place.TheVariants.{Fixed, Element}
use Rattle.flow_code.specs.declared.code.Store.{Store}
use Rattle.flow_code.specs.declared.code.Then.{Then}
use Rattle.flow_code.specs.declared.code.Then.TheVariants.{Push, Drop, Skip, Branch}
use Rattle.flow_code.specs.declared.code.Into.{Into}
use Rattle.flow_code.specs.declared.code.Action.{Action}
use Rattle.flow_code.specs.declared.code.Action.TheVariants.{Rest, Arrive, Give, Truth, Convert, Look, Aim, Row, Operate, OperateOne, Jump, Select, Open, Close, Declare, Enter, Call, Input, Reach, End as EndHere, Leave, Return}
use Rattle.flow_code.specs.declared.code.Parameter.{Parameter}
use Rattle.flow_code.specs.declared.code.Body.{Body}
use Rattle.flow_code.specs.declared.code.Code.{Code}
use Rattle.flow_code.specs.Tables.{address_in, address_or}
use Rattle.flow_laws.specs.declared.frame.Frame.{Frame}
use Rattle.flow_laws.specs.Machines.{Control}

-- the model and the property of a code, as the definition of runs asks for them: a program of nothing else
abbrev pub program_in : Code → Program
program_in c = record { model = c.model; property = c.property; objects = []; starts = []; functions = []; main = 0 }

abbrev pub cell : ℕ → ℕ → Key
cell o i = record { object = o; index = i }

-- the right side of an operator: the count of a shift has a type of its own
abbrev pub right_of : BinOp → Word → Word → ℤ → ℤ
right_of o word count v = cond (is_shift o) (fit Lp64 (type_of_word count) v) (fit Lp64 (type_of_word word) v)

-- the stack's first value, if any, and the values below it
abbrev pub top : List ℤ → ℤ
top [] = pos 0
top (v ∷ vs) = v

abbrev pub below : List ℤ → List ℤ
below [] = []
below (v ∷ vs) = vs

-- the value of an operand, and the stack behind it
abbrev pub value_of : Operand → List ℤ → List Cell → ℤ
value_of Top vs cs = top vs
value_of (InCell o) vs cs = read (cell o 0) cs
value_of (Number v) vs cs = v

abbrev pub stack_of : Operand → List ℤ → List ℤ
stack_of Top vs = below vs
stack_of _ vs = vs

-- an index that was found, from the stack: a number of 32 bits
abbrev pub index_of : ℤ → ℕ
index_of (pos i) = cond (nat_lt i 4294967296) i 0
index_of (negsuc i) = 0

abbrev pub key_at : Place → List ℤ → Key
key_at (Fixed o i) vs = cell o i
key_at (Element o) vs = cell o (index_of (top vs))

abbrev pub stack_at : Place → List ℤ → List ℤ
stack_at (Fixed o i) vs = vs
stack_at (Element o) vs = below vs

-- what comes behind a store
abbrev pub kept_value : Store → ℤ → ℤ → ℤ
kept_value x old new = cond x.old old new

-- on at an address where a value's truth is `way`
abbrev pub skipped : Bool → Bool → ℕ → Control → Control
skipped t way to c = cond (cond way t (not t)) (record c { at = to }) c

-- a value goes on
abbrev pub passed : ℤ → Then → Control → Control
passed v Push c = record c { stack = v ∷ c.stack }
passed v Drop c = c
passed v (Skip way to) c = skipped (not (is_zero v)) way to c
passed v (Branch at way to) c = skipped (not (is_zero v)) way to c

-- behind so many values of a call's arguments, the last on top
abbrev pub arguments : ℕ → List ℤ → List ℤ
arguments n vs = reverse (take n vs)

-- parameters get the values of arguments, or 0 where there are none
abbrev pub with_parameters : List Parameter → List ℤ → List Cell → List Cell
with_parameters [] vs cs = cs
with_parameters (o ∷ os) [] cs = with_parameters os [] (cs ++ cells_from o.object 0 1 [])
with_parameters (o ∷ os) (v ∷ vs) cs = with_parameters os vs (cs ++ cells_from o.object 0 1 (fit Lp64 o.ty v ∷ []))

-- the way of a value by its address in a table
abbrev pub way_by : Option ℕ → ℤ → Way
way_by None v = ByDefault
way_by (Some to) v = ByCase v

-- the innermost scope ends
abbrev pub scope_closed : {S : Type 0} → List ℕ → Control → State S → Res End (State S) Control
scope_closed [] k s = Go k s
scope_closed (n ∷ ns) k s = Go (record k { scopes = ns }) (with_cells (take n s.cells) s)

module _ (c : Code) (S : Type 0) (after : Event → List Cell → S → S) where
  -- a part of an action
  abbrev pub Act : Type 0 → Type 0
  Act A = State S → Res End (State S) A

  abbrev pub tell : Event → Act (Unit {0})
  tell e = run.tell (program_in c) S (seen_by after) e

  -- a branching is told
  abbrev pub told : ℤ → Then → Act (Unit {0})
  told v (Branch at way to) = tell (Branched at (ByTruth (not (is_zero v))))
  told v _ = λ s. Go tt s

  -- a value goes on
  abbrev pub passed_on : ℤ → Then → Control → Act Control
  passed_on v then k s = bind (told v then s) (λ _ u. Go (passed v then k) u)

  -- it is stored where that is said
  abbrev pub stored : Option Store → ℤ → ℤ → Then → Control → Act Control
  stored None old v then k s = passed_on v then k s
  stored (Some y) old v then k s =
      passed_on (kept_value y old (fit Lp64 y.ty v)) then (record k { stack = stack_at y.place k.stack })
      (with_cells (put (key_at y.place k.stack) (fit Lp64 y.ty v) s.cells) s)

  -- a value, beside that of the left operand
  abbrev pub finished : ℤ → ℤ → Into → Control → Act Control
  finished old v x k s = stored x.store old v x.then k s

  -- so many cells of an object from an index on draw in turn
  abbrev pub cells_drawn : Spot → ℕ → IntType → ℕ → ℕ → Act (Unit {0})
  cells_drawn spot o ty i zero s = Go tt s
  cells_drawn spot o ty i (suc n) s =
      bind (run.draw (program_in c) S (seen_by after) CellDraw spot ty s) (λ v u. cells_drawn spot o ty (suc i) n (with_cells (put (cell o i) v u.cells) u))

  abbrev pub drawn_if : Bool → Spot → ℕ → IntType → ℕ → Act (Unit {0})
  drawn_if b spot o ty n s = cond b (cells_drawn spot o ty 0 n s) (Go tt s)

  -- an object's cells, which draw their values or hold 0
  abbrev pub declared : Spot → ℕ → ℕ → IntType → Bool → Act (Unit {0})
  declared spot o n ty draws s =
      bind (run.room (program_in c) S (seen_by after) n s) (λ _ u. drawn_if draws spot o ty n (with_cells (u.cells ++ cells_from o 0 n []) u))

  -- the call of an input function
  abbrev pub input_given : Spot → Spot → IntType → Act ℤ
  input_given spot close ty s =
      bind (run.draw (program_in c) S (seen_by after) InputDraw spot ty s) (λ v u. bind (tell (Returned close (Some v)) u) (λ _ w. Go v w))

  -- a function is called, with so many values on the stack
  abbrev pub called : Option Body → ℕ → CallSite → Control → Act Control
  -- no code calls it
  called None n site k s = Stop Ended s
  called (Some b) n site k s =
      bind (run.room (program_in c) S (seen_by after) (suc (length b.parameters)) s) (λ _ u.
      Go (record k { at = b.entry; stack = drop n k.stack; frames = record { back = k.at; cells = length u.cells; site = site } ∷ k.frames })
      (record u { active = suc u.active; cells = with_parameters b.parameters (arguments n k.stack) u.cells }))

  -- a function is left, with its value or without one; the end of `main` ends the run
  abbrev pub left_by : List Frame → Option ℤ → Control → Act Control
  left_by [] v k s = Stop Ended s
  left_by (f ∷ fs) v k s =
      bind (run.returned (program_in c) S (seen_by after) (site_of f.site) v (record s { cells = take f.cells s.cells; active = s.active - 1 })) (λ w u.
      Go (record k { at = f.back; stack = w ∷ k.stack; frames = fs }) u)

  -- the index of an element, and its value where it is read
  abbrev pub aimed : Bool → Key → List ℤ → Control → Act Control
  aimed reads i vs k s = Go (record k { stack = cond reads (read i s.cells ∷ pos i.index ∷ vs) (pos i.index ∷ vs) }) s

  abbrev pub aimed_at : ℕ → ℕ → Operand → Spot → Bool → Control → Act Control
  aimed_at o n y spot reads k s =
      bind (run.key_of (program_in c) S (seen_by after) spot o (index_below n (value_of y k.stack s.cells)) s) (λ i u. aimed reads i (stack_of y k.stack) k u)

  -- the cell of a row and a column, by the values of both
  abbrev pub in_row_at : ℕ → ℕ → ℤ → ℤ → Spot → List ℤ → Control → Act Control
  in_row_at rows columns v w spot vs k s =
      bind (run.key_of (program_in c) S (seen_by after) spot 0 (in_row columns (index_below rows v) (index_below columns w)) s) (λ i u.
      Go (record k { stack = pos i.index ∷ vs }) u)

  -- a `switch` takes its value off the stack, reports the way, and goes on at an address
  abbrev pub sent : Spot → Way → ℕ → Control → Act Control
  sent at way to k s = bind (tell (Branched at way) s) (λ _ u. Go (record k { at = to; stack = below k.stack }) u)

  -- a call of `reach_error`
  abbrev pub reached_at : Around → Spot → Act ℤ
  reached_at at spot s = run.reached (program_in c) S (seen_by after) c.property (where_of at) (record { spot = spot; close = spot; needed = false }) s

  abbrev pub converted : Option IntType → ℤ → ℤ
  converted None v = v
  converted (Some ty) v = fit Lp64 ty v

  -- an action of a machine that already stands behind it
  abbrev pub acted : Action → Control → Act Control
  acted Rest k s = Go k s
  acted (Arrive at) k s = bind (tell (At at) s) (λ _ u. Go k u)
  acted (Give y x) k s = finished (value_of y k.stack s.cells) (value_of y k.stack s.cells) x (record k { stack = stack_of y k.stack }) s
  acted (Truth y x) k s =
      let v = number_of (not (is_zero (value_of y k.stack s.cells))) in
      finished v v x (record k { stack = stack_of y k.stack }) s
  acted (Convert ty y x) k s =
      let v = fit Lp64 ty (value_of y k.stack s.cells) in
      finished v v x (record k { stack = stack_of y k.stack }) s
  acted (Look o n y spot x) k s =
      bind (run.key_of (program_in c) S (seen_by after) spot o (index_below n (value_of y k.stack s.cells)) s) (λ i u.
      finished (read i u.cells) (read i u.cells) x (record k { stack = stack_of y k.stack }) u)
  acted (Aim o n y spot reads) k s = aimed_at o n y spot reads k s
  acted (Row rows columns a b spot) k s =
      let w = value_of b k.stack s.cells in
      let vs = stack_of b k.stack in
      in_row_at rows columns (value_of a vs s.cells) w spot (stack_of a vs) k s
  acted (Operate o word count a b from x) k s =
      let w = value_of b k.stack s.cells in
      let vs = stack_of b k.stack in
      let v = value_of a vs s.cells in
      bind (run.answered (program_in c) S (seen_by after) (where_of from.around) from.spot (apply_of Lp64 o (type_of_word word) (fit Lp64 (type_of_word word) v) (right_of o word count w)) s) (λ z u.
      finished v z x (record k { stack = stack_of a vs }) u)
  acted (OperateOne o word a from x) k s =
      let v = value_of a k.stack s.cells in
      bind (run.answered (program_in c) S (seen_by after) (where_of from.around) from.spot (apply_one_of Lp64 o (type_of_word word) (fit Lp64 (type_of_word word) v)) s) (λ z u.
      finished v z x (record k { stack = stack_of a k.stack }) u)
  acted (Jump to) k s = Go (record k { at = to }) s
  acted (Select at cases other) k s = sent at (way_by (address_in cases (top k.stack)) (top k.stack)) (address_or cases other (top k.stack)) k s
  acted Open k s = Go (record k { scopes = length s.cells ∷ k.scopes }) s
  acted Close k s = scope_closed k.scopes k s
  acted (Declare spot o n ty draws) k s = bind (declared spot o n ty draws s) (λ _ u. Go k u)
  acted (Enter close) k s = bind (tell (Entered close) s) (λ _ u. Go k u)
  acted (Call f n site) k s = called (slice_get c.functions f) n site k s
  acted (Input spot close ty x) k s = bind (input_given spot close ty s) (λ v u. finished v v x k u)
  acted (Reach at spot) k s = bind (reached_at at spot s) (λ _ u. Go k u)
  acted EndHere k s = Stop Ended s
  acted Leave k s = left_by k.frames None k s
  acted (Return ty) k s = left_by k.frames (Some (converted ty (top k.stack))) (record k { stack = below k.stack }) s
