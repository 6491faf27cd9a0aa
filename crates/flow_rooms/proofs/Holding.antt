-- A machine's stacks are no higher than its shapes say, and stay so by each action.
use Rattle.std.proofs.Common.{◌≡◌, ◌≤◌, ℕ, zero, suc, ◌+◌, ◌-◌, ℤ, pos, Bool, true, false, cond, not, List, [], ◌∷◌, length, take, drop, Option, Some, None, slice_get, refl, ap, subst, arith}
use Rattle.c_core.specs.Types.{fit, is_zero, number_of}
use Rattle.c_core.specs.Operators.{apply_of, apply_one_of}
use Rattle.c_core.specs.Tree.{Program}
use Rattle.c_core.specs.declared.number.DataModel.TheVariants.{Lp64}
use Rattle.c_core.specs.declared.number.Property.{Property}
use Rattle.c_core.specs.declared.number.Property.TheVariants.{UnreachCall, NoOverflow}
use Rattle.c_core.specs.declared.number.Spot.{Spot}
use Rattle.c_meaning.specs.declared.run.End.{End}
use Rattle.c_meaning.specs.declared.run.Event.{Event}
use Rattle.c_meaning.specs.declared.run.Event.TheVariants.{At, Branch as Branched, Enter as Entering}
use Rattle.c_meaning.specs.declared.run.Way.{Way}
use Rattle.c_meaning.specs.Acts.{Res, Go, Stop, bind}
use Rattle.c_meaning.specs.Cells.{Key, Cell, read, put}
use Rattle.c_meaning.specs.Run.{State, index_below, in_row, with_cells}
use Rattle.c_meaning.specs.Run as run
use Rattle.c_meaning.specs.Watching.{seen_by}
use Rattle.run_state.specs.Interpreting.{where_of, site_of}
use Rattle.run_state.specs.declared.machine.Around.{Around}
use Rattle.run_state.specs.declared.machine.CallSite.{CallSite}
use Rattle.flow_code.specs.declared.code.Action.{Action}
use Rattle.flow_code.specs.declared.code.Action.TheVariants.{Rest, Arrive, Give, Truth, Convert, Look, Aim, Row, Operate, OperateOne, Jump, Select, Open, Close, Declare, Enter, Call, Input, Reach, End as EndHere, Leave, Return}
use Rattle.flow_code.specs.declared.code.Body.{Body}
use Rattle.flow_code.specs.declared.code.Code.{Code}
use Rattle.flow_code.specs.declared.code.Into.{Into}
use Rattle.flow_code.specs.declared.code.Operand.{Operand}
use Rattle.flow_code.specs.declared.code.Operand.TheVariants.{Top, Cell as InCell, Number}
use Rattle.flow_code.specs.declared.code.Place.{Place}
use Rattle.flow_code.specs.declared.code.Place.TheVariants.{Fixed, Element}
use Rattle.flow_code.specs.declared.code.Store.{Store}
use Rattle.flow_code.specs.declared.code.Then.{Then}
use Rattle.flow_code.specs.declared.code.Then.TheVariants.{Push, Drop, Skip, Branch}
use Rattle.flow_code.specs.Words.{type_of_word}
use Rattle.flow_code.specs.Tables.{address_in, address_or}
use Rattle.flow_laws.specs.declared.frame.Frame.{Frame}
use Rattle.flow_laws.specs.Machines.{Control}
use Rattle.flow_laws.specs.Acting.{program_in, right_of, top, below, value_of, stack_of, key_at, stack_at, kept_value, arguments, with_parameters, scope_closed, tell, told, passed_on, finished, input_given, called, left_by, way_by, sent, converted, acted}
use Rattle.flow_laws.specs.Acting as acting
use Rattle.flow_rooms.specs.Shapes.{Shape, lower, lowered, pushed, popped, all_popped, opened, closed, taken, placed, stored, passed, flat, Has, Leads, Settles, aimed, Keeps}
use Rattle.flow_rooms.specs.Rooms.{IsCalledIn}

-- where a part of a run goes on, something holds
abbrev pub Holds : {S A : Type 0} → (A → Type 0) → Res End (State S) A → Type 0
Holds P (Go a s) = P a
Holds P (Stop e s) = Unit {0}

-- behind a part of which nothing is known
holds_then : {S A B : Type 0} (P : B → Type 0) (r : Res End (State S) A) (f : A → State S → Res End (State S) B) → ((a : A) (s : State S) → Holds P (f a s)) → Holds P (bind r f)
holds_then P (Go a s) f h = h a s
holds_then P (Stop e s) f h = tt

-- the frames below a function hold so many values and scopes at most: at each frame's address stands the shape behind its call
abbrev pub Below : Program → List Shape → ℕ → List Frame → ℕ → ℕ → Type 0
Below p ts f [] h n = (f ≡ p.main) × (h ≡ 0) × (n ≡ 0)
Below p ts f (fr ∷ frs) h n =
    (y : Shape) × (l : ℕ) × (m : ℕ) × (Has ts fr.back (pushed y)) × (IsCalledIn p y.function f) × (h ≡ y.height + l) × (n ≡ y.scopes + m) × Below p ts y.function frs l m

-- the stacks are no higher than a shape says, and the frames' shapes
pub record Stands (p : Program) (ts : List Shape) (x : Shape) (k : Control) : Type 0 where
  pub height : ℕ
  pub scoped : ℕ
  pub below : Below p ts x.function k.frames height scoped
  pub stack : length k.stack ≤ x.height + height
  pub scopes : length k.scopes ≤ x.scopes + scoped

-- the same at the address where a machine stands
pub record Good (p : Program) (ts : List Shape) (k : Control) : Type 0 where
  pub shape : Shape
  pub has : Has ts k.at shape
  pub stands : Stands p ts shape k

below_lower : (vs : List ℤ) (h l : ℕ) → length vs ≤ h + l → length (below vs) ≤ lower h + l
below_lower [] h l e = omega arith
below_lower (v ∷ vs) zero l e = omega (arith, e)
below_lower (v ∷ vs) (suc h) l e = omega (arith, e)

drop_lowered : (n : ℕ) (vs : List ℤ) (h l : ℕ) → length vs ≤ h + l → length (drop n vs) ≤ lowered n h + l
drop_lowered zero vs h l e = e
drop_lowered (suc n) [] h l e = omega arith
drop_lowered (suc n) (v ∷ vs) h l e = drop_lowered n vs (lower h) l (below_lower (v ∷ vs) h l e)

module _ (p : Program) (ts : List Shape) where
  is_pushed : (x : Shape) (k : Control) (v : ℤ) → Stands p ts x k → Stands p ts (pushed x) (record k { stack = v ∷ k.stack })
  is_pushed x k v h = record { height = h.height; scoped = h.scoped; below = h.below; stack = omega (arith, h.stack); scopes = h.scopes }

  is_popped : (x : Shape) (k : Control) → Stands p ts x k → Stands p ts (popped x) (record k { stack = below k.stack })
  is_popped x k h = record { height = h.height; scoped = h.scoped; below = h.below; stack = below_lower k.stack x.height h.height h.stack; scopes = h.scopes }

  is_taken : (y : Operand) (x : Shape) (k : Control) → Stands p ts x k → Stands p ts (taken y x) (record k { stack = stack_of y k.stack })
  is_taken Top x k h = is_popped x k h
  is_taken (InCell o) x k h = h
  is_taken (Number v) x k h = h

  is_placed : (y : Place) (x : Shape) (k : Control) → Stands p ts x k → Stands p ts (placed y x) (record k { stack = stack_at y k.stack })
  is_placed (Fixed o i) x k h = h
  is_placed (Element o) x k h = is_popped x k h

  -- the same at another address
  is_at : (i : ℕ) (x : Shape) (k : Control) → Stands p ts x k → Stands p ts x (record k { at = i })
  is_at i x k h = record { height = h.height; scoped = h.scoped; below = h.below; stack = h.stack; scopes = h.scopes }

  way_taken : (b : Bool) (to : ℕ) (x : Shape) (k : Control) → Has ts k.at x → Has ts to x → Stands p ts x k → Good p ts (cond b (record k { at = to }) k)
  way_taken true to x k here there h = record { shape = x; has = there; stands = is_at to x k h }
  way_taken false to x k here there h = record { shape = x; has = here; stands = h }

  -- a value goes on
  is_passed : (then : Then) (v : ℤ) (x : Shape) (k : Control) → Has ts k.at (passed then x) → Leads ts then x → Stands p ts x k → Good p ts (acting.passed v then k)
  is_passed Push v x k here there h = record { shape = pushed x; has = here; stands = is_pushed x k v h }
  is_passed Drop v x k here there h = record { shape = x; has = here; stands = h }
  is_passed (Skip way to) v x k here there h = way_taken (cond way (not (is_zero v)) (not (not (is_zero v)))) to x k here there h
  is_passed (Branch at way to) v x k here there h = way_taken (cond way (not (is_zero v)) (not (not (is_zero v)))) to x k here there h

  module _ (c : Code) (S : Type 0) (after : Event → List Cell → S → S) where
    passed_good : (then : Then) (v : ℤ) (x : Shape) (k : Control) (s : State S) → Has ts k.at (passed then x) → Leads ts then x → Stands p ts x k → Holds (Good p ts) (passed_on c S after v then k s)
    passed_good then v x k s here there h = holds_then (Good p ts) (told c S after v then s) (λ _ u. Go (acting.passed v then k) u) (λ _ u. is_passed then v x k here there h)

    stored_good : (y : Option Store) (then : Then) (old v : ℤ) (x : Shape) (k : Control) (s : State S) → Has ts k.at (passed then (stored y x)) → Leads ts then (stored y x) → Stands p ts x k
        → Holds (Good p ts) (acting.stored c S after y old v then k s)
    stored_good None then old v x k s here there h = passed_good then v x k s here there h
    stored_good (Some y) then old v x k s here there h = passed_good then (kept_value y old (fit Lp64 y.ty v)) (placed y.place x) (record k { stack = stack_at y.place k.stack }) (with_cells (put (key_at y.place k.stack) (fit Lp64 y.ty v) s.cells) s) here there (is_placed y.place x k h)

    -- a value is stored and goes on
    finished_good : (into : Into) (old v : ℤ) (x : Shape) (k : Control) (s : State S) → Settles ts k.at into x → Stands p ts x k → Holds (Good p ts) (finished c S after old v into k s)
    finished_good into old v x k s here h = stored_good into.store into.then old v x k s here.0 here.1 h

    stays : (x : Shape) (k : Control) → Has ts k.at x → Stands p ts x k → Good p ts k
    stays x k here h = record { shape = x; has = here; stands = h }

    aimed_good : (reads : Bool) (i : Key) (x : Shape) (k : Control) (vs : List ℤ) (s : State S) → Has ts k.at (aimed reads x) → Stands p ts x (record k { stack = vs }) → Holds (Good p ts) (acting.aimed c S after reads i vs k s)
    aimed_good true i x k vs s here h = stays (pushed (pushed x)) _ here (is_pushed (pushed x) _ _ (is_pushed x (record k { stack = vs }) _ h))
    aimed_good false i x k vs s here h = stays (pushed x) _ here (is_pushed x (record k { stack = vs }) _ h)

    close_good : (ns : List ℕ) (x : Shape) (k : Control) (s : State S) → k.scopes ≡ ns → Has ts k.at (closed x) → Stands p ts x k → Holds (Good p ts) (scope_closed ns k s)
    close_good [] x k s e here h =
        let empty : length k.scopes ≡ 0 = ap length e in
        record { shape = closed x; has = here; stands = record { height = h.height; scoped = h.scoped; below = h.below; stack = h.stack; scopes = omega (arith, empty) } }
    close_good (n ∷ ns) x k s e here h =
        let some : length k.scopes ≡ suc (length ns) = ap length e in
        record { shape = closed x; has = here; stands = record { height = h.height; scoped = h.scoped; below = h.below; stack = h.stack; scopes = one_less x.scopes (omega (arith, some, h.scopes)) } }
      where
        one_less : (m : ℕ) → suc (length ns) ≤ m + h.scoped → length ns ≤ lower m + h.scoped
        one_less zero e = omega (arith, e)
        one_less (suc m) e = omega (arith, e)

    -- where functions begin, with nothing of their own
    abbrev pub Entered : Type 0
    Entered = (f : ℕ) (b : Body) → slice_get c.functions f ≡ Some b → Has ts b.entry (flat f 0)

    call_good : (o : Option Body) (f n : ℕ) (site : CallSite) (x : Shape) (k : Control) (s : State S) → slice_get c.functions f ≡ o → Entered → IsCalledIn p x.function f → Has ts k.at (pushed (all_popped n x)) → Stands p ts x k
        → Holds (Good p ts) (called c S after o n site k s)
    call_good None f n site x k s e enter is here h = tt
    call_good (Some b) f n site x k s e enter is here h =
        holds_then (Good p ts) (run.room (program_in c) S (seen_by after) (suc (length b.parameters)) s)
        (λ _ u. Go (record k { at = b.entry; stack = drop n k.stack; frames = record { back = k.at; cells = length u.cells; site = site } ∷ k.frames })
        (record u { active = suc u.active; cells = with_parameters b.parameters (arguments n k.stack) u.cells }))
        (λ _ u. record {
          shape = flat f 0;
          has = enter f b e;
          stands = record {
            height = lowered n x.height + h.height;
            scoped = x.scopes + h.scoped;
            below = (all_popped n x, h.height, h.scoped, here, is, refl, refl, h.below);
            stack = let z = drop_lowered n k.stack x.height h.height h.stack in omega (arith, z);
            scopes = omega (arith, h.scopes);
          };
        })

    left_good : (frs : List Frame) (v : Option ℤ) (x : Shape) (k : Control) (s : State S) → k.frames ≡ frs → x.height ≡ 0 → x.scopes ≡ 0 → Stands p ts x k → Holds (Good p ts) (left_by c S after frs v k s)
    left_good [] v x k s e height scopes h = tt
    left_good (fr ∷ frs) v x k s e height scopes h =
        let b = subst (λ fs. Below p ts x.function fs h.height h.scoped) e h.below in
        holds_then (Good p ts) (run.returned (program_in c) S (seen_by after) (site_of fr.site) v (record s { cells = take fr.cells s.cells; active = s.active - 1 }))
        (λ w u. Go (record k { at = fr.back; stack = w ∷ k.stack; frames = frs }) u)
        (λ w u. record {
          shape = pushed b.0;
          has = b.3;
          stands = record {
            height = b.1;
            scoped = b.2;
            below = b.7;
            stack = omega (arith, h.stack, b.5, height);
            scopes = omega (arith, h.scopes, b.6, scopes);
          };
        })

    -- no run goes on behind a call of `reach_error`
    reach_ends : (q : Property) (at : Around) (spot : Spot) (k : Control) (s : State S)
        → Holds (Good p ts) (bind (run.reached (program_in c) S (seen_by after) q (where_of at) (record { spot = spot; close = spot; needed = false }) s) (λ _ u. Go k u))
    reach_ends UnreachCall at spot k s = tt
    reach_ends NoOverflow at spot k s = tt

    -- on at an arm, or at the next constant
    sent_good : (at : Spot) (way : Way) (to : ℕ) (x : Shape) (k : Control) (s : State S) → Has ts to (popped x) → Stands p ts x k → Holds (Good p ts) (sent c S after at way to k s)
    sent_good at way to x k s there h =
        let l = record k { at = to; stack = below k.stack } in
        holds_then (Good p ts) (tell c S after (Branched at way) s) (λ _ u. Go l u) (λ _ u. stays (popped x) l there (is_at to (popped x) (record k { stack = below k.stack }) (is_popped x k h)))

    -- an action, of a machine that already stands behind it
    pub acted_good : (a : Action) (x : Shape) (k : Control) (s : State S) → Entered → ((f n : ℕ) (site : CallSite) → a ≡ Call f n site → IsCalledIn p x.function f) → Keeps ts k.at a x → Stands p ts x k
        → Holds (Good p ts) (acted c S after a k s)
    acted_good Rest x k s enter calls here h = stays x k here h
    acted_good (Arrive at) x k s enter calls here h = holds_then (Good p ts) (tell c S after (At at) s) (λ _ u. Go k u) (λ _ u. stays x k here h)
    acted_good (Give y into) x k s enter calls here h = finished_good into (value_of y k.stack s.cells) (value_of y k.stack s.cells) (taken y x) (record k { stack = stack_of y k.stack }) s here (is_taken y x k h)
    acted_good (Truth y into) x k s enter calls here h =
        let v = number_of (not (is_zero (value_of y k.stack s.cells))) in
        finished_good into v v (taken y x) (record k { stack = stack_of y k.stack }) s here (is_taken y x k h)
    acted_good (Convert ty y into) x k s enter calls here h =
        let v = fit Lp64 ty (value_of y k.stack s.cells) in
        finished_good into v v (taken y x) (record k { stack = stack_of y k.stack }) s here (is_taken y x k h)
    acted_good (Look o n y spot into) x k s enter calls here h = holds_then (Good p ts) (run.key_of (program_in c) S (seen_by after) spot o (index_below n (value_of y k.stack s.cells)) s) (λ i u. finished c S after (read i u.cells) (read i u.cells) into (record k { stack = stack_of y k.stack }) u) (λ i u. finished_good into (read i u.cells) (read i u.cells) (taken y x) (record k { stack = stack_of y k.stack }) u here (is_taken y x k h))
    acted_good (Aim o n y spot reads) x k s enter calls here h = holds_then (Good p ts) (run.key_of (program_in c) S (seen_by after) spot o (index_below n (value_of y k.stack s.cells)) s) (λ i u. acting.aimed c S after reads i (stack_of y k.stack) k u) (λ i u. aimed_good reads i (taken y x) k (stack_of y k.stack) u here (is_taken y x k h))
    acted_good (Row rows columns a b spot) x k s enter calls here h =
        let vs = stack_of b k.stack in
        let i = in_row columns (index_below rows (value_of a vs s.cells)) (index_below columns (value_of b k.stack s.cells)) in
        holds_then (Good p ts) (run.key_of (program_in c) S (seen_by after) spot 0 i s) (λ i u. Go (record k { stack = pos i.index ∷ stack_of a vs }) u)
        (λ i u. stays (pushed (taken a (taken b x))) (record k { stack = pos i.index ∷ stack_of a vs }) here
        (is_pushed (taken a (taken b x)) (record k { stack = stack_of a vs }) (pos i.index) (is_taken a (taken b x) (record k { stack = vs }) (is_taken b x k h))))
    acted_good (Operate o word count a b from into) x k s enter calls here h =
        let w = value_of b k.stack s.cells in
        let vs = stack_of b k.stack in
        let v = value_of a vs s.cells in
        holds_then (Good p ts) (run.answered (program_in c) S (seen_by after) (where_of from.around) from.spot (apply_of Lp64 o (type_of_word word) (fit Lp64 (type_of_word word) v) (right_of o word count w)) s)
        (λ z u. finished c S after v z into (record k { stack = stack_of a vs }) u)
        (λ z u. finished_good into v z (taken a (taken b x)) (record k { stack = stack_of a (stack_of b k.stack) }) u here (is_taken a (taken b x) (record k { stack = stack_of b k.stack }) (is_taken b x k h)))
    acted_good (OperateOne o word a from into) x k s enter calls here h =
        let v = value_of a k.stack s.cells in
        holds_then (Good p ts) (run.answered (program_in c) S (seen_by after) (where_of from.around) from.spot (apply_one_of Lp64 o (type_of_word word) (fit Lp64 (type_of_word word) v)) s)
        (λ z u. finished c S after v z into (record k { stack = stack_of a k.stack }) u)
        (λ z u. finished_good into v z (taken a x) (record k { stack = stack_of a k.stack }) u here (is_taken a x k h))
    acted_good (Jump to) x k s enter calls here h = stays x (record k { at = to }) here (is_at to x k h)
    acted_good (Select at cases other) x k s enter calls here h = sent_good at (way_by (address_in cases (top k.stack)) (top k.stack)) (address_or cases other (top k.stack)) x k s (here (top k.stack)) h
    acted_good Open x k s enter calls here h =
        stays (opened x) (record k { scopes = length s.cells ∷ k.scopes }) here (record { height = h.height; scoped = h.scoped; below = h.below; stack = h.stack; scopes = omega (arith, h.scopes) })
    acted_good Close x k s enter calls here h = close_good k.scopes x k s refl here h
    acted_good (Declare spot o n ty draws) x k s enter calls here h = holds_then (Good p ts) (acting.declared c S after spot o n ty draws s) (λ _ u. Go k u) (λ _ u. stays x k here h)
    acted_good (Enter close) x k s enter calls here h = holds_then (Good p ts) (tell c S after (Entering close) s) (λ _ u. Go k u) (λ _ u. stays x k here h)
    acted_good (Call f n site) x k s enter calls here h = call_good (slice_get c.functions f) f n site x k s refl enter (calls f n site refl) here h
    acted_good (Input spot close ty into) x k s enter calls here h = holds_then (Good p ts) (input_given c S after spot close ty s) (λ v u. finished c S after v v into k u) (λ v u. finished_good into v v x k u here h)
    acted_good (Reach at spot) x k s enter calls here h = reach_ends c.property at spot k s
    acted_good EndHere x k s enter calls here h = tt
    acted_good Leave x k s enter calls here h = left_good k.frames None x k s refl here.0 here.1 h
    acted_good (Return ty) x k s enter calls here h = left_good k.frames (Some (converted c S after ty (top k.stack))) (popped x) (record k { stack = below k.stack }) s refl here.0 here.1 (is_popped x k h)
