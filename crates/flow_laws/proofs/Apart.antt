-- An action looks neither at the steps that are left nor at what was seen, and ends no run as spent.
use Rattle.std.proofs.Common.{◌≡◌, ℕ, zero, suc, ◌+◌, ◌-◌, ℤ, pos, Bool, true, false, cond, not, List, [], ◌∷◌, ◌++◌, length, take, drop, Option, Some, None, slice_get, nat_le, refl, sym, ap, ◌∙◌}
use Rattle.c_core.specs.Types.{fit, is_zero, number_of}
use Rattle.c_core.specs.Operators.{apply_of, apply_one_of}
use Rattle.c_core.specs.declared.number.DataModel.TheVariants.{Lp64}
use Rattle.c_core.specs.declared.number.Done.{Done}
use Rattle.c_core.specs.declared.number.Done.TheVariants.{Value, Overflow, Undefined as NoValue}
use Rattle.c_core.specs.declared.number.IntType.{IntType}
use Rattle.c_core.specs.declared.number.Property.{Property}
use Rattle.c_core.specs.declared.number.Property.TheVariants.{UnreachCall, NoOverflow}
use Rattle.c_core.specs.declared.number.Spot.{Spot}
use Rattle.c_core.specs.Tree.{Program}
use Rattle.c_meaning.specs.declared.run.DrawKind.TheVariants.{Input as InputDraw, Cell as CellDraw}
use Rattle.c_meaning.specs.declared.run.End.{End}
use Rattle.c_meaning.specs.declared.run.End.TheVariants.{Spent, Undefined, Violated, Deep}
use Rattle.c_meaning.specs.declared.run.Event.{Event}
use Rattle.c_meaning.specs.declared.run.Event.TheVariants.{At, Branch as Branched, Enter as Entered, Return as Returned, Fail}
use Rattle.c_meaning.specs.declared.run.Way.{Way}
use Rattle.c_meaning.specs.Acts.{Res, Go, Stop, bind}
use Rattle.c_meaning.specs.Cells.{Cell, Key, put, read, cells_from}
use Rattle.c_meaning.specs.Meaning.{Site, Where}
use Rattle.c_meaning.specs.Run.{State, with_cells, index_below, in_row}
use Rattle.c_meaning.specs.Run as run
use Rattle.c_meaning.specs.Watching.{seen_by}
use Rattle.run_state.specs.declared.machine.CallSite.{CallSite}
use Rattle.run_state.specs.Interpreting.{where_of, site_of}
use Rattle.flow_code.specs.declared.code.Action.{Action}
use Rattle.flow_code.specs.declared.code.Action.TheVariants.{Rest, Arrive, Give, Truth, Convert, Look, Aim, Row, Operate, OperateOne, Jump, Select, Open, Close, Declare, Enter, Call, Input, Reach, End as EndHere, Leave, Return}
use Rattle.flow_code.specs.declared.code.Body.{Body}
use Rattle.flow_code.specs.declared.code.Code.{Code}
use Rattle.flow_code.specs.declared.code.Into.{Into}
use Rattle.flow_code.specs.declared.code.Operand.{Operand}
use Rattle.flow_code.specs.declared.code.Store.{Store}
use Rattle.flow_code.specs.declared.code.Then.{Then}
use Rattle.flow_code.specs.declared.code.Then.TheVariants.{Push, Drop, Skip, Branch}
use Rattle.flow_code.specs.Words.{type_of_word}
use Rattle.flow_code.specs.Tables.{address_in, address_or}
use Rattle.flow_laws.specs.declared.frame.Frame.{Frame}
use Rattle.flow_laws.specs.Machines.{Control}
use Rattle.flow_laws.specs.Acting.{program_in, cell, right_of, top, below, value_of, stack_of, key_at, stack_at, kept_value, arguments, with_parameters, told, passed_on, stored, finished, cells_drawn, drawn_if, declared, input_given, called, left_by, aimed, way_by, sent, reached_at, converted, acted, scope_closed}

-- a state with other steps left and another sight
abbrev pub state_by : {S T : Type 0} → (S → T) → ℕ → State S → State T
state_by h n s = record { steps = n; cells = s.cells; active = s.active; choices = s.choices; draws = s.draws; unfixed = s.unfixed; seen = h s.seen }

-- an outcome with other steps left and another sight
abbrev pub result_by : {S T A : Type 0} → (S → T) → ℕ → Res End (State S) A → Res End (State T) A
result_by h n (Go a s) = Go a (state_by h n s)
result_by h n (Stop e s) = Stop e (state_by h n s)

-- the run goes on, or ends otherwise than spent
abbrev pub Spares : {S A : Type 0} → Res End (State S) A → Type 0
Spares (Go a s) = Unit {0}
Spares (Stop e s) = e ≡ Spent → ⊥

module _ (S T : Type 0) (after : Event → List Cell → S → S) (later : Event → List Cell → T → T) (h : S → T) (follows : (e : Event) (cs : List Cell) (x : S) → h (after e cs x) ≡ later e cs (h x)) (n : ℕ) where
  -- the outcome with other steps left and another sight
  abbrev Alike : {A : Type 0} → Res End (State S) A → Res End (State T) A → Type 0
  Alike r q = (q ≡ result_by h n r) × Spares r

  -- a part that doesn't look at them
  abbrev Apart : {A : Type 0} → (State S → Res End (State S) A) → (State T → Res End (State T) A) → Type 0
  Apart f g = (s : State S) → Alike (f s) (g (state_by h n s))

  alike_then : {A B : Type 0} (r : Res End (State S) A) (q : Res End (State T) A) (k : A → State S → Res End (State S) B) (l : A → State T → Res End (State T) B)
      → Alike r q → ((a : A) → Apart (k a) (l a)) → Alike (bind r k) (bind q l)
  alike_then (Go a s) q k l g f = (ap (λ x. bind x l) g.0 ∙ (f a s).0, (f a s).1)
  alike_then (Stop e s) q k l g f = (ap (λ x. bind x l) g.0, g.1)

  -- one part, and what comes behind it
  apart_then : {A B : Type 0} (f : State S → Res End (State S) A) (g : State T → Res End (State T) A) (k : A → State S → Res End (State S) B) (l : A → State T → Res End (State T) B)
      → Apart f g → ((a : A) → Apart (k a) (l a)) → Apart (λ s. bind (f s) k) (λ s. bind (g s) l)
  apart_then f g k l e i s = alike_then (f s) (g (state_by h n s)) k l (e s) i

  alike_if : {A : Type 0} (b : Bool) (r q : Res End (State S) A) (u v : Res End (State T) A) → Alike r u → Alike q v → Alike (cond b r q) (cond b u v)
  alike_if true r q u v e i = e
  alike_if false r q u v e i = i

  module _ (p : Program) where
    apart_tell : (e : Event) → Apart (run.tell p S (seen_by after) e) (run.tell p T (seen_by later) e)
    apart_tell e s = (ap (λ x. Go tt (record { steps = n; cells = s.cells; active = s.active; choices = s.choices; draws = s.draws; unfixed = s.unfixed; seen = x })) (sym (follows e s.cells s.seen)), tt)

    apart_room : (k : ℕ) → Apart (run.room p S (seen_by after) k) (run.room p T (seen_by later) k)
    apart_room k s = alike_if (nat_le (length s.cells + s.active + k) run.most_cells) (Go tt s) (Stop Deep s) (Go tt (state_by h n s)) (Stop Deep (state_by h n s)) (refl, tt) (refl, λ e. cc)

    -- an event, and what follows
    apart_after : {A : Type 0} (e : Event) (k : State S → Res End (State S) A) (l : State T → Res End (State T) A) → Apart k l
        → Apart (λ s. bind (run.tell p S (seen_by after) e s) (λ _. k)) (λ s. bind (run.tell p T (seen_by later) e s) (λ _. l))
    apart_after e k l f = apart_then (run.tell p S (seen_by after) e) (run.tell p T (seen_by later) e) (λ _. k) (λ _. l) (apart_tell e) (λ _. f)

    apart_violated : {A : Type 0} (at : Where) (spot : Spot) (call : Option Spot) → Apart (run.violated p S (seen_by after) {A = A} at spot call) (run.violated p T (seen_by later) {A = A} at spot call)
    apart_violated at spot call = apart_after (Fail at.statement at.full call) (Stop (Violated spot)) (Stop (Violated spot)) (λ s. (refl, λ e. cc))

    apart_overflowed : (q : Property) (at : Where) (spot : Spot) (v : ℤ) → Apart (run.overflowed p S (seen_by after) q at spot v) (run.overflowed p T (seen_by later) q at spot v)
    apart_overflowed NoOverflow at spot v s = apart_violated at spot None s
    apart_overflowed UnreachCall at spot v s = (refl, tt)

    apart_answered : (at : Where) (spot : Spot) (d : Done) → Apart (run.answered p S (seen_by after) at spot d) (run.answered p T (seen_by later) at spot d)
    apart_answered at spot (Value v) s = (refl, tt)
    apart_answered at spot (Overflow v) s = apart_overflowed p.property at spot v s
    apart_answered at spot NoValue s = (refl, λ e. cc)

    apart_key : (spot : Spot) (o : ℕ) (i : Option ℕ) → Apart (run.key_of p S (seen_by after) spot o i) (run.key_of p T (seen_by later) spot o i)
    apart_key spot o None s = (refl, λ e. cc)
    apart_key spot o (Some i) s = (refl, tt)

    apart_reached : (q : Property) (at : Where) (site : Site) → Apart (run.reached p S (seen_by after) q at site) (run.reached p T (seen_by later) q at site)
    apart_reached UnreachCall at site s = apart_violated at site.spot (Some site.spot) s
    apart_reached NoOverflow at site s = (refl, λ e. cc)

    given_or_not : (b : Bool) (spot : Spot) → Apart {A = ℤ} (cond b (λ s. Stop (Undefined spot) s) (λ s. Go (pos 0) s)) (cond b (λ s. Stop (Undefined spot) s) (λ s. Go (pos 0) s))
    given_or_not true spot s = (refl, λ e. cc)
    given_or_not false spot s = (refl, tt)

    apart_returned : (site : Site) (v : Option ℤ) → Apart (run.returned p S (seen_by after) site v) (run.returned p T (seen_by later) site v)
    apart_returned site (Some v) = apart_after (Returned site.close (Some v)) (Go v) (Go v) (λ s. (refl, tt))
    apart_returned site None =
        apart_after (Returned site.close None) (cond site.needed (Stop (Undefined site.spot)) (Go (pos 0))) (cond site.needed (Stop (Undefined site.spot)) (Go (pos 0)))
        (given_or_not site.needed site.spot)

  module _ (c : Code) where
    apart_told : (v : ℤ) (then : Then) → Apart (told c S after v then) (told c T later v then)
    apart_told v Push s = (refl, tt)
    apart_told v Drop s = (refl, tt)
    apart_told v (Skip way to) s = (refl, tt)
    apart_told v (Branch at way to) s = apart_tell (program_in c) (Branched at _) s

    apart_passed : (v : ℤ) (then : Then) (k : Control) → Apart (passed_on c S after v then k) (passed_on c T later v then k)
    apart_passed v then k = apart_then (told c S after v then) (told c T later v then) _ _ (apart_told v then) (λ _ u. (refl, tt))

    apart_stored : (x : Option Store) (old v : ℤ) (then : Then) (k : Control) → Apart (stored c S after x old v then k) (stored c T later x old v then k)
    apart_stored None old v then k s = apart_passed v then k s
    apart_stored (Some y) old v then k s =
        let w = fit Lp64 y.ty v in
        apart_passed (kept_value y old w) then (record k { stack = stack_at y.place k.stack }) (with_cells (put (key_at y.place k.stack) w s.cells) s)

    apart_finished : (old v : ℤ) (x : Into) (k : Control) → Apart (finished c S after old v x k) (finished c T later old v x k)
    apart_finished old v x k s = apart_stored x.store old v x.then k s

    apart_drawn : (spot : Spot) (o : ℕ) (ty : IntType) (i m : ℕ) → Apart (cells_drawn c S after spot o ty i m) (cells_drawn c T later spot o ty i m)
    apart_drawn spot o ty i zero s = (refl, tt)
    apart_drawn spot o ty i (suc m) s =
        apart_then (run.draw (program_in c) S (seen_by after) CellDraw spot ty) (run.draw (program_in c) T (seen_by later) CellDraw spot ty)
        (λ v u. cells_drawn c S after spot o ty (suc i) m (with_cells (put (cell o i) v u.cells) u)) (λ v u. cells_drawn c T later spot o ty (suc i) m (with_cells (put (cell o i) v u.cells) u))
        (λ u. (refl, tt)) (λ v u. apart_drawn spot o ty (suc i) m (with_cells (put (cell o i) v u.cells) u)) s

    apart_drawn_if : (b : Bool) (spot : Spot) (o : ℕ) (ty : IntType) (m : ℕ) → Apart (drawn_if c S after b spot o ty m) (drawn_if c T later b spot o ty m)
    apart_drawn_if true spot o ty m s = apart_drawn spot o ty 0 m s
    apart_drawn_if false spot o ty m s = (refl, tt)

    apart_declared : (spot : Spot) (o m : ℕ) (ty : IntType) (draws : Bool) → Apart (declared c S after spot o m ty draws) (declared c T later spot o m ty draws)
    apart_declared spot o m ty draws s =
        apart_then (run.room (program_in c) S (seen_by after) m) (run.room (program_in c) T (seen_by later) m)
        (λ _ u. drawn_if c S after draws spot o ty m (with_cells (u.cells ++ cells_from o 0 m []) u)) (λ _ u. drawn_if c T later draws spot o ty m (with_cells (u.cells ++ cells_from o 0 m []) u))
        (apart_room (program_in c) m) (λ _ u. apart_drawn_if draws spot o ty m (with_cells (u.cells ++ cells_from o 0 m []) u)) s

    apart_input : (spot close : Spot) (ty : IntType) → Apart (input_given c S after spot close ty) (input_given c T later spot close ty)
    apart_input spot close ty s =
        apart_then (run.draw (program_in c) S (seen_by after) InputDraw spot ty) (run.draw (program_in c) T (seen_by later) InputDraw spot ty)
        (λ v u. bind (run.tell (program_in c) S (seen_by after) (Returned close (Some v)) u) (λ _ w. Go v w)) (λ v u. bind (run.tell (program_in c) T (seen_by later) (Returned close (Some v)) u) (λ _ w. Go v w))
        (λ u. (refl, tt)) (λ v u. apart_after (program_in c) (Returned close (Some v)) (Go v) (Go v) (λ w. (refl, tt)) u) s

    apart_called : (b : Option Body) (m : ℕ) (site : CallSite) (k : Control) → Apart (called c S after b m site k) (called c T later b m site k)
    apart_called None m site k s = (refl, λ e. cc)
    apart_called (Some b) m site k s =
        apart_then (run.room (program_in c) S (seen_by after) (suc (length b.parameters))) (run.room (program_in c) T (seen_by later) (suc (length b.parameters)))
        (λ _ u. Go (record k { at = b.entry; stack = drop m k.stack; frames = record { back = k.at; cells = length u.cells; site = site } ∷ k.frames })
        (record u { active = suc u.active; cells = with_parameters b.parameters (arguments m k.stack) u.cells }))
        (λ _ u. Go (record k { at = b.entry; stack = drop m k.stack; frames = record { back = k.at; cells = length u.cells; site = site } ∷ k.frames })
        (record u { active = suc u.active; cells = with_parameters b.parameters (arguments m k.stack) u.cells }))
        (apart_room (program_in c) (suc (length b.parameters))) (λ _ u. (refl, tt)) s

    apart_left : (fs : List Frame) (v : Option ℤ) (k : Control) → Apart (left_by c S after fs v k) (left_by c T later fs v k)
    apart_left [] v k s = (refl, λ e. cc)
    apart_left (f ∷ fs) v k s =
        apart_then (run.returned (program_in c) S (seen_by after) (site_of f.site) v) (run.returned (program_in c) T (seen_by later) (site_of f.site) v)
        (λ w u. Go (record k { at = f.back; stack = w ∷ k.stack; frames = fs }) u) (λ w u. Go (record k { at = f.back; stack = w ∷ k.stack; frames = fs }) u)
        (apart_returned (program_in c) (site_of f.site) v) (λ w u. (refl, tt)) (record s { cells = take f.cells s.cells; active = s.active - 1 })

    apart_scope : (ns : List ℕ) (k : Control) → Apart (scope_closed ns k) (scope_closed ns k)
    apart_scope [] k s = (refl, tt)
    apart_scope (m ∷ ms) k s = (refl, tt)

    -- an index that is found, and what follows
    apart_at : {A : Type 0} (spot : Spot) (o m : ℕ) (y : Operand) (vs : List ℤ) (k : Key → State S → Res End (State S) A) (l : Key → State T → Res End (State T) A) → ((i : Key) → Apart (k i) (l i))
        → Apart (λ s. bind (run.key_of (program_in c) S (seen_by after) spot o (index_below m (value_of y vs s.cells)) s) k) (λ s. bind (run.key_of (program_in c) T (seen_by later) spot o (index_below m (value_of y vs s.cells)) s) l)
    apart_at spot o m y vs k l f =
        apart_then (λ u. run.key_of (program_in c) S (seen_by after) spot o (index_below m (value_of y vs u.cells)) u) (λ u. run.key_of (program_in c) T (seen_by later) spot o (index_below m (value_of y vs u.cells)) u) k l
        (λ u. apart_key (program_in c) spot o (index_below m (value_of y vs u.cells)) u) f

    apart_sent : (at : Spot) (way : Way) (to : ℕ) (k : Control) → Apart (sent c S after at way to k) (sent c T later at way to k)
    apart_sent at way to k s =
        let l = record k { at = to; stack = below k.stack } in
        apart_after (program_in c) (Branched at way) (Go l) (Go l) (λ u. (refl, tt)) s

    -- no action looks at them
    pub apart_acted : (a : Action) (k : Control) → Apart (acted c S after a k) (acted c T later a k)
    apart_acted Rest k s = (refl, tt)
    apart_acted (Arrive at) k s = apart_after (program_in c) (At at) (Go k) (Go k) (λ u. (refl, tt)) s
    apart_acted (Give y x) k s = let v = value_of y k.stack s.cells in apart_finished v v x (record k { stack = stack_of y k.stack }) s
    apart_acted (Truth y x) k s = let v = number_of (not (is_zero (value_of y k.stack s.cells))) in apart_finished v v x (record k { stack = stack_of y k.stack }) s
    apart_acted (Convert ty y x) k s = let v = fit Lp64 ty (value_of y k.stack s.cells) in apart_finished v v x (record k { stack = stack_of y k.stack }) s
    apart_acted (Look o m y spot x) k s =
        apart_at spot o m y k.stack (λ i u. finished c S after (read i u.cells) (read i u.cells) x (record k { stack = stack_of y k.stack }) u)
        (λ i u. finished c T later (read i u.cells) (read i u.cells) x (record k { stack = stack_of y k.stack }) u)
        (λ i u. apart_finished (read i u.cells) (read i u.cells) x (record k { stack = stack_of y k.stack }) u) s
    apart_acted (Aim o m y spot reads) k s =
        apart_at spot o m y k.stack (λ i u. aimed c S after reads i (stack_of y k.stack) k u) (λ i u. aimed c T later reads i (stack_of y k.stack) k u) (λ i u. (refl, tt)) s
    apart_acted (Row rows columns a b spot) k s =
        let vs = stack_of b k.stack in
        let i = in_row columns (index_below rows (value_of a vs s.cells)) (index_below columns (value_of b k.stack s.cells)) in
        apart_then (run.key_of (program_in c) S (seen_by after) spot 0 i) (run.key_of (program_in c) T (seen_by later) spot 0 i) (λ i u. Go (record k { stack = pos i.index ∷ stack_of a vs }) u)
        (λ i u. Go (record k { stack = pos i.index ∷ stack_of a vs }) u) (apart_key (program_in c) spot 0 i) (λ i u. (refl, tt)) s
    apart_acted (Operate o word count a b from x) k s =
        let vs = stack_of b k.stack in
        let old = value_of a vs s.cells in
        let z = apply_of Lp64 o (type_of_word word) (fit Lp64 (type_of_word word) old) (right_of o word count (value_of b k.stack s.cells)) in
        apart_then (run.answered (program_in c) S (seen_by after) (where_of from.around) from.spot z) (run.answered (program_in c) T (seen_by later) (where_of from.around) from.spot z)
        (λ w u. finished c S after old w x (record k { stack = stack_of a vs }) u) (λ w u. finished c T later old w x (record k { stack = stack_of a vs }) u)
        (apart_answered (program_in c) (where_of from.around) from.spot z) (λ w u. apart_finished old w x (record k { stack = stack_of a vs }) u) s
    apart_acted (OperateOne o word a from x) k s =
        let old = value_of a k.stack s.cells in
        let z = apply_one_of Lp64 o (type_of_word word) (fit Lp64 (type_of_word word) old) in
        apart_then (run.answered (program_in c) S (seen_by after) (where_of from.around) from.spot z) (run.answered (program_in c) T (seen_by later) (where_of from.around) from.spot z)
        (λ w u. finished c S after old w x (record k { stack = stack_of a k.stack }) u) (λ w u. finished c T later old w x (record k { stack = stack_of a k.stack }) u)
        (apart_answered (program_in c) (where_of from.around) from.spot z) (λ w u. apart_finished old w x (record k { stack = stack_of a k.stack }) u) s
    apart_acted (Jump to) k s = (refl, tt)
    apart_acted (Select at cases other) k s = apart_sent at (way_by (address_in cases (top k.stack)) (top k.stack)) (address_or cases other (top k.stack)) k s
    apart_acted Open k s = (refl, tt)
    apart_acted Close k s = apart_scope k.scopes k s
    apart_acted (Declare spot o m ty draws) k s =
        apart_then (declared c S after spot o m ty draws) (declared c T later spot o m ty draws) (λ _ u. Go k u) (λ _ u. Go k u) (apart_declared spot o m ty draws) (λ _ u. (refl, tt)) s
    apart_acted (Enter close) k s = apart_after (program_in c) (Entered close) (Go k) (Go k) (λ u. (refl, tt)) s
    apart_acted (Call f m site) k s = apart_called (slice_get c.functions f) m site k s
    apart_acted (Input spot close ty x) k s =
        apart_then (input_given c S after spot close ty) (input_given c T later spot close ty) (λ v u. finished c S after v v x k u) (λ v u. finished c T later v v x k u)
        (apart_input spot close ty) (λ v u. apart_finished v v x k u) s
    apart_acted (Reach at spot) k s =
        apart_then (reached_at c S after at spot) (reached_at c T later at spot) (λ _ u. Go k u) (λ _ u. Go k u)
        (apart_reached (program_in c) c.property (where_of at) (record { spot = spot; close = spot; needed = false })) (λ _ u. (refl, tt)) s
    apart_acted EndHere k s = (refl, λ e. cc)
    apart_acted Leave k s = apart_left k.frames None k s
    apart_acted (Return ty) k s = apart_left k.frames (Some (converted c S after ty (top k.stack))) (record k { stack = below k.stack }) s
