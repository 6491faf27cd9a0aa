-- Runs with a bound on the turns of loops and on calls: a meaning.
--
-- It is the meaning of runs but for two things. On one arrival at a loop its body is begun k times at most, and at most
-- k calls of defined functions are active: where a run would begin one body or one call more, it ends beyond its bound.
use Rattle.std.specs.Prelude.{◌≡◌, ℕ, zero, suc, ℤ, Bool, true, false, cond, List, [], ◌∷◌}
use Rattle.c_core.specs.Tree.{Program}
use Rattle.c_core.specs.declared.number.Spot.{Spot}
use Rattle.c_meaning.specs.declared.run.End.{End}
use Rattle.c_meaning.specs.declared.run.End.TheVariants.{Ended, Violated, Deep}
use Rattle.c_meaning.specs.declared.run.Event.TheVariants.{Branch}
use Rattle.c_meaning.specs.declared.run.Way.TheVariants.{Truth}
use Rattle.c_meaning.specs.declared.run.Choices.{Choices}
use Rattle.c_meaning.specs.declared.run.Choices.TheVariants.{InTurn}
use Rattle.c_meaning.specs.Cells.{Cell, Key}
use Rattle.c_meaning.specs.Meaning.{Site, Loop, Meaning}
use Rattle.c_meaning.specs.Acts.{Res, Go, Stop, Flow, Next, Broken, Again, Gave, bind, go_on, turned, given}
use Rattle.c_meaning.specs.Acts as acts
use Rattle.c_meaning.specs.Exec.{run_main}
use Rattle.c_meaning.specs.Run as run
use Rattle.c_meaning.specs.Run.{State, Moment, Head, real, cells_of, with_cells, first_state, Run}

-- a run ends as runs do, or goes beyond its bound
pub data BoundedEnd : Type 0 where
  Within : End → BoundedEnd
  Beyond : BoundedEnd

-- what a run does is within its bound
abbrev pub within : {T A : Type 0} → Res End T A → Res BoundedEnd T A
within (Go a s) = Go a s
within (Stop e s) = Stop (Within e) s

-- see: what the sight of a moment makes of what was seen; k: the bound
module _ (p : Program) (S : Type 0) (see : Moment → S → S) (k : ℕ) where
  -- what a part does from a state: a result and a state, or an end
  abbrev pub Act : Type 0 → Type 0
  Act A = State S → Res BoundedEnd (State S) A

  -- a statement; where it is the turn of a loop it is told whether it may begin the loop's body, and no other is asked
  abbrev pub Turn : Type 0
  Turn = Bool → Act Flow

  infixr 20 ◌>>=◌
  infixr 20 ◌>>◌
  -- one part, then the one that its result calls for
  abbrev ◌>>=◌ : {A B : Type 0} → Act A → (A → Act B) → Act B
  ◌>>=◌ m f = λ s. bind (m s) f

  -- one part, then another
  abbrev ◌>>◌ : {A B : Type 0} → Act A → Act B → Act B
  ◌>>◌ m f = λ s. bind (m s) (λ _. f)

  -- as a run does it
  abbrev pub as_run : {A : Type 0} → (State S → Res End (State S) A) → Act A
  as_run m = λ s. within (m s)

  -- a bound would be passed
  abbrev pub beyond : Act Flow
  beyond = λ s. Stop Beyond s

  -- a loop's body is begun once more, where that is allowed
  abbrev pub body_of : Bool → Turn → Act Flow
  body_of true m = acts.continued BoundedEnd (State S) cells_of with_cells (m true)
  body_of false m = beyond

  -- the turns of a loop that was reached with these cells, of which r may begin the body; the one after them may still
  -- be its last test
  abbrev pub turns : ℕ → Spot → Loop → List Cell → Turn → Act Flow
  turns zero at l arrived turn = λ s.
      bind (as_run (run.note p S see (Head at l arrived s.cells)) s) (λ _. turn false >>= turned beyond)
  turns (suc r) at l arrived turn = λ s.
      bind (as_run (run.note p S see (Head at l arrived s.cells)) s) (λ _. turn true >>= turned (turns r at l arrived turn))

  -- a controlling expression gave this truth value: its event, then that way
  abbrev pub branched : {A : Type 0} → Spot → Bool → Act A → Act A → Act A
  branched spot t a b = as_run (run.tell p S see (Branch spot (Truth t))) >> cond t a b

  -- a body in a call of its own, whose cells go with it; then the call's value
  abbrev pub called : Site → Act Flow → Act ℤ
  called site body = do
    as_run (run.deeper p S see)
    flow ← acts.scoped BoundedEnd (State S) cells_of with_cells body
    as_run (run.shallower p S see)
    as_run (run.returned p S see site (given flow))

  -- a run with a bound as a meaning of the one traversal
  abbrev pub bounded : Meaning
  bounded = record {
    Value = ℤ;
    Truth = Bool;
    Target = Key;
    Act = Act;
    Done = Turn;
    ret = λ a s. Go a s;
    bind = λ m f. m >>= f;
    using = λ m f may. m >>= (λ a. f a may);
    tick = λ t. as_run ((real p S see).tick t);
    room = λ n. as_run ((real p S see).room n);
    const = λ ty v. v;
    convert = λ from to v. as_run ((real p S see).convert from to v);
    test = λ ty v. as_run ((real p S see).test ty v);
    truth = (real p S see).truth;
    draw = λ kind spot ty. as_run ((real p S see).draw kind spot ty);
    cell = λ o i. record { object = o; index = i };
    element = λ spot o n c js. as_run ((real p S see).element spot o n c js);
    look = λ x. as_run ((real p S see).look x);
    write = λ x v. as_run ((real p S see).write x v);
    answer = λ at spot op ty a right b. as_run ((real p S see).answer at spot op ty a right b);
    answer_one = λ at spot op ty a. as_run ((real p S see).answer_one at spot op ty a);
    choose = λ t a b. cond t a b;
    pick = λ mark t a b. branched mark t a b;
    enter = λ site. as_run ((real p S see).enter site);
    came_back = λ site v. as_run ((real p S see).came_back site v);
    reach = λ at site. as_run ((real p S see).reach at site);
    ending = as_run (real p S see).ending;
    called = λ site body. called site (body true);
    missing = as_run (real p S see).missing;
    here = λ spot. as_run ((real p S see).here spot);
    declare = λ o n may. as_run ((real p S see).declare o n);
    branch = λ spot t a b may. branched spot t (a may) (b may);
    select = λ spot ty v ls. as_run ((real p S see).select spot ty v ls);
    next = λ may s. Go Next s;
    leave = λ may s. Go Broken s;
    again = λ may s. Go Again s;
    give = λ v may s. Go (Gave v) s;
    seq = λ a b may. a may >>= go_on (b may);
    scoped = λ a may. acts.scoped BoundedEnd (State S) cells_of with_cells (a may);
    continued = λ a may. body_of may a;
    breaks = λ a may. acts.breaks BoundedEnd (State S) cells_of with_cells (a may);
    loop = λ spot l turn may. acts.scoped BoundedEnd (State S) cells_of with_cells (λ s. turns k spot l s.cells turn s);
    deep = λ may. beyond;
  }

-- how a part ends; a part that has a result has come to the end of `main`
abbrev pub bounded_end : {T A : Type 0} → Res BoundedEnd T A → BoundedEnd
bounded_end (Go a s) = Within Ended
bounded_end (Stop e s) = e

-- the run with all its moments and a bound: main isn't one of the k calls
abbrev pub WholeBounded : Program → ℕ → Choices → ℕ → Res BoundedEnd (State (List Moment)) Flow
WholeBounded p k c N =
    run_main p (bounded p (List Moment) (λ x xs. x ∷ xs) k) (suc k) true (first_state p (List Moment) [] c N)

-- on each arrival at a loop at most k turns of its body are begun, and at no time are more than k calls of defined
-- functions active besides main
abbrev pub StaysWithin : Program → ℕ → Choices → ℕ → Type 0
StaysWithin p k c N = bounded_end (WholeBounded p k c N) ≡ Beyond → ⊥

-- with the values taken in turn, within the bound k, some run violates the property
pub record IsBounded (p : Program) (k : ℕ) (w : List ℤ) : Type 0 where
  pub budget : ℕ
  pub violated : (spot : Spot) × ((Run p (InTurn w) budget).end ≡ Violated spot)
  pub stays : StaysWithin p k (InTurn w) budget

-- no run within the bound needs more live cells than runs may have
abbrev pub HasRoom : Program → ℕ → List ℤ → Type 0
HasRoom p k w = (N : ℕ) → bounded_end (WholeBounded p k (InTurn w) N) ≡ Within Deep → ⊥
