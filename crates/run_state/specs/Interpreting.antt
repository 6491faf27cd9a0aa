-- What a state of the interpreter means, and what its parts give.
use Rattle.std.specs.Prelude.{◌≡◌, ℕ, ℤ, Bool, true, false, not, List, [], ◌∷◌, ◌++◌, reverse, Option, Some, None, slice_get, Result, Ok, Err, pos, cond, ◌<◌, zero, suc}
use Rattle.std.specs.declared.boxed.Box.{Box}
use Rattle.std.specs.declared.alloc.Global.{Global}
use Rattle.c_core.specs.Tree as t
use Rattle.c_core.specs.View.{stmt_view}
use Rattle.c_core.specs.declared.tree.Stmt.{Stmt}
use Rattle.c_core.specs.declared.tree.Callee.{Callee}
use Rattle.c_core.specs.declared.tree.Label.{Label as ArmLabel}
use Rattle.c_core.specs.Tree.{Exp, Node, Exps, NoExp, MoreExp, Init, Names, First, Stm, Form, Stms, Function, Program, NoFirst, FirstExp, FirstNames}
use Rattle.c_core.specs.declared.number.IntType.{IntType}
use Rattle.c_core.specs.declared.number.Spot.{Spot}
use Rattle.c_core.specs.declared.number.DataModel.{DataModel}
use Rattle.c_core.specs.declared.number.BinOp.{BinOp}
use Rattle.c_core.specs.Types.{fit, is_zero}
use Rattle.c_core.specs.Operators.{type_for, op_of_step, is_prefix}
use Rattle.c_core.specs.declared.number.IntType.TheVariants.{Int}
use Rattle.c_core.specs.declared.number.StepOp.{StepOp}
use Rattle.c_meaning.specs.declared.run.End.{End}
use Rattle.c_meaning.specs.declared.run.End.TheVariants.{Ended, Spent}
use Rattle.c_meaning.specs.declared.run.Event.{Event}
use Rattle.c_meaning.specs.declared.run.Event.TheVariants.{Branch, Return}
use Rattle.c_meaning.specs.declared.run.Way.TheVariants.{Truth}
use Rattle.c_meaning.specs.declared.run.DrawKind.{DrawKind}
use Rattle.c_core.specs.declared.number.Done.{Done}
use Rattle.c_core.specs.declared.number.Property.{Property}
use Rattle.c_meaning.specs.declared.run.DrawKind.TheVariants.{Input}
use Rattle.c_meaning.specs.declared.run.Given.{Given as GivenAt}
use Rattle.c_meaning.specs.declared.run.Choices.{Choices}
use Rattle.c_meaning.specs.declared.run.DrawKind.TheVariants.{Cell as CellDraw}
use Rattle.c_meaning.specs.declared.run.Choices.TheVariants.{Given, InTurn}
use Rattle.c_meaning.specs.Cells.{Key, Cell, put, read}
use Rattle.c_meaning.specs.Meaning.{ACell, Use, Used, Unused, Where, Site, Meaning, Calls, Loop, WhileLoop, DoLoop, ForLoop}
use Rattle.c_meaning.specs.Acts.{Go, Stop}
use Rattle.c_meaning.specs.Acts as acts
use Rattle.c_meaning.specs.Run as run
use Rattle.c_meaning.specs.Run.{State, with_cells}
use Rattle.c_meaning.specs.Objects.{type_of_object, size_of_object}
use Rattle.c_meaning.specs.Watching.{seen_by}
use Rattle.c_meaning.specs.Eval.{eval, node, target, place, tested, convert_to, operate, store, called}
use Rattle.c_meaning.specs.Exec.{call_of, with_params, run_in, run_main, ticks, full, initial, declare, exec, form, otherwise, execs, from_arm, draw_cells, initials, row_initials, while_turn, do_turn, for_turn, full_if, control, turn}
use Rattle.c_meaning.specs.Objects.{type_of}
use Rattle.run_state.specs.Ways as w
use Rattle.run_state.specs.Ways.{Ran, IsOn, bound, ways}
use Rattle.run_state.specs.declared.machine.Typed.{Typed}
use Rattle.run_state.specs.declared.machine.Element.{Element}
use Rattle.run_state.specs.declared.machine.LeftAt.{LeftAt}
use Rattle.run_state.specs.declared.machine.Left.{Left}
use Rattle.run_state.specs.declared.machine.Left.TheVariants.{Given as LeftGiven, InTurn as LeftInTurn}
use Rattle.run_state.specs.declared.machine.Machine.{Machine}
use Rattle.run_state.specs.declared.machine.Halt.{Halt}
use Rattle.run_state.specs.declared.machine.Halt.TheVariants.{Ends, NoMemory}
use Rattle.run_state.specs.declared.machine.Around.{Around}
use Rattle.run_state.specs.declared.machine.CallSite.{CallSite}
use Rattle.run_state.specs.declared.machine.Flow.{Flow}
use Rattle.run_state.specs.declared.machine.Flow.TheVariants.{Next, Broken, Again, Gave}

-- the next value stands last
abbrev pub given_left : LeftAt → GivenAt
given_left l = record { spot = l.spot; values = reverse l.values.items }

abbrev pub givens_left : List LeftAt → List GivenAt
givens_left [] = []
givens_left (l ∷ ls) = given_left l ∷ givens_left ls

abbrev pub choices_left : Left → Choices
choices_left (LeftGiven ls) = Given (givens_left ls.items)
choices_left (LeftInTurn vs) = InTurn (reverse vs.items)

abbrev pub state_of : {S : Type 0} → Machine → S → State S
state_of m x = record {
  steps = m.steps;
  cells = m.memory.cells;
  active = m.active;
  choices = choices_left m.left;
  draws = m.draws;
  unfixed = m.unfixed;
  seen = x;
}

abbrev pub where_of : Around → Where
where_of a = record { statement = a.statement; full = a.full }

abbrev pub site_of : CallSite → Site
site_of s = record { spot = s.spot; close = s.close; needed = s.needed }

abbrev pub use_of : Bool → Use
use_of true = Used
use_of false = Unused

abbrev pub flow_of : Flow → acts.Flow
flow_of Next = acts.Next
flow_of Broken = acts.Broken
flow_of Again = acts.Again
flow_of (Gave v) = acts.Gave v

abbrev pub key_of : Element → Key
key_of e = record { object = e.object; index = e.index }

-- values with their types, as pairs
abbrev pub pairs_of : List Typed → List (ℤ × IntType)
pairs_of [] = []
pairs_of (v ∷ vs) = (v.value, v.ty) ∷ pairs_of vs

abbrev pub other_pairs : List (ℤ × IntType) → List (ℤ × IntType)
other_pairs [] = []
other_pairs (v ∷ vs) = vs

-- a returned value, converted to the function's result
abbrev pub gave_as : DataModel → Option IntType → ℤ → acts.Flow
gave_as m None v = acts.Gave (Some v)
gave_as m (Some ty) v = acts.Gave (Some (fit m ty v))

-- the statement after `else`, if any
abbrev pub else_part : Option (Box Stmt Global) → t.Else
else_part None = t.NoElse
else_part (Some b) = t.OrElse (stmt_view b.value)

-- the value as it is
abbrev pub same : {A : Type 0} → A → A
same a = a

-- a part gave what it is to give, in this state; where memory is wanting, what was seen is on its way
abbrev pub Gives : {A B S : Type 0} → (A → B) → Result A Halt → State S → Ran S B → Type 0
Gives view (Ok a) s r = r.result ≡ Go (view a) s
Gives view (Err (Ends e)) s r = r.result ≡ Stop e s
Gives view (Err NoMemory) s r = IsOn s.seen r.way

-- the end of a run that came to its end, or halted
abbrev pub EndsAs : Result Flow Halt → End → Type 0
EndsAs (Ok f) e = e ≡ Ended
EndsAs (Err (Ends end)) e = e ≡ end
EndsAs (Err NoMemory) e = ⊥

-- it took a step, if it came to its end
abbrev pub StepsIfNext : Result Flow Halt → ℕ → ℕ → Type 0
StepsIfNext (Ok Next) new old = new < old
StepsIfNext (Ok _) new old = Unit {0}
StepsIfNext (Err h) new old = Unit {0}

-- what a loop does again and again, of a statement that is one
abbrev pub loop_in : t.Form → Option Loop
loop_in (t.While e b) = Some (WhileLoop e b)
loop_in (t.DoWhile b e) = Some (DoLoop b e)
loop_in (t.For i e s b) = Some (ForLoop e s b)
loop_in _ = None

-- a run that a watcher sees
module _ (p : Program) (S : Type 0) (after : Event → List Cell → S → S) where
  abbrev pub watched : Meaning
  watched = ways p S (seen_by after)

  -- a value, and nothing else happens
  abbrev pub done : {A : Type 0} → A → State S → Ran S A
  done a s = record { result = Go a s; way = [] }

  -- a step
  abbrev pub ticked : State S → Ran S (Unit {0})
  ticked s = w.wanting p S (seen_by after) (λ t. run.tick_from p S (seen_by after) t.steps t) s

  -- an event
  abbrev pub telling : Event → State S → Ran S (Unit {0})
  telling e s = w.wanting p S (seen_by after) (run.tell p S (seen_by after) e) s

  -- room for this many cells more
  abbrev pub roomed : ℕ → State S → Ran S (Unit {0})
  roomed n s = watched.room n s

  -- a drawn value
  abbrev pub drawing : DrawKind → Spot → IntType → State S → Ran S ℤ
  drawing kind spot ty s = watched.draw kind spot ty s

  -- the violation
  abbrev pub violating : Where → Spot → Option Spot → State S → Ran S ℤ
  violating at spot call s = w.wanting p S (seen_by after) (run.violated p S (seen_by after) at spot call) s

  -- an operator's answer
  abbrev pub answering : Where → Spot → Done → State S → Ran S ℤ
  answering at spot d s = w.wanting p S (seen_by after) (run.answered p S (seen_by after) at spot d) s

  -- a call of `reach_error`
  abbrev pub reaching : Property → Where → Site → State S → Ran S ℤ
  reaching q at site s = w.wanting p S (seen_by after) (run.reached p S (seen_by after) q at site) s

  -- the value that a function gave, if any, comes back
  abbrev pub returning : Site → Option ℤ → State S → Ran S ℤ
  returning site v s = w.wanting p S (seen_by after) (run.returned p S (seen_by after) site v) s

  -- the cell of an object at an index, if it has one
  abbrev pub keyed : Spot → ℕ → Option ℕ → State S → Ran S Key
  keyed spot o i s = w.quiet p S (seen_by after) (run.key_of p S (seen_by after) spot o i) s

  -- a cell's value, changed by an operator
  abbrev pub changed : Where → Spot → BinOp → Key → IntType → ℤ → IntType → ℤ → State S → Ran S ℤ
  changed at spot op k a x b y s = bound (operate p watched at spot op a x b y s) (store p watched k (type_for p.model op a b) a)

  -- one more or one less in a cell
  abbrev pub bumped : Where → Spot → StepOp → Key → IntType → State S → Ran S ℤ
  bumped at spot op k a s =
      bound (operate p watched at spot (op_of_step op) a (read k s.cells) Int (pos 1) s) (λ y.
      λ s1. bound (store p watched k (type_for p.model (op_of_step op) a Int) a y s1) (λ z. λ s2. done (cond (is_prefix op) z (read k s.cells)) s2))

  -- a value that comes back from a call, reported as such
  abbrev pub handed_back : Spot → ℤ → State S → Ran S ℤ
  handed_back close v s = bound (telling (Return close (Some v)) s) (λ _ u. done v u)

  abbrev pub input_of : Site → IntType → State S → Ran S ℤ
  input_of site ty s = bound (drawing Input site.spot ty s) (handed_back site.close)

  -- calls at most this many deep
  abbrev pub calls : ℕ → Calls watched
  calls n site g vs = call_of p watched (run_in p watched n) site (slice_get p.functions g) vs

  abbrev pub evaluated : ℕ → Where → Use → Exp → State S → Ran S ℤ
  evaluated n at want e s = eval p watched (calls n) at want e s

  abbrev pub noded : ℕ → Where → Use → Spot → Option IntType → Node → State S → Ran S ℤ
  noded n at want spot ty x s = node p watched (calls n) at want spot ty x s

  abbrev pub arrived : Spot → State S → Ran S (Unit {0})
  arrived spot s = watched.here spot s

  -- is a value not 0, reported as a branching
  abbrev pub branching : Spot → ℤ → State S → Ran S Bool
  branching spot v s = bound (telling (Branch spot (Truth (not (is_zero v)))) s) (λ _ u. done (not (is_zero v)) u)

  -- the number of the arm that a value chooses by the labels, reported as a branching
  abbrev pub selecting : Spot → ℤ → List ArmLabel → State S → Ran S ℕ
  selecting spot v ls s = w.wanting p S (seen_by after) (run.selected p S (seen_by after) spot v ls) s

  abbrev pub fulled : ℕ → Spot → Use → Exp → State S → Ran S ℤ
  fulled n at want e s = full p watched (calls n) at want e s

  -- a test, reported as a branching
  abbrev pub decided : ℕ → Spot → Exp → State S → Ran S Bool
  decided n at e s = bound (fulled n at Used e s) (branching at)

  abbrev pub executed : ℕ → Option IntType → Stm → State S → Ran S acts.Flow
  executed n result x s = exec p watched (calls n) result x s

  abbrev pub formed : ℕ → Option IntType → Spot → Form → State S → Ran S acts.Flow
  formed n result at f s = form p watched (calls n) result at f s

  abbrev pub sequenced : ℕ → Option IntType → Stms → State S → Ran S acts.Flow
  sequenced n result b s = execs p watched (calls n) result b s

  -- what is declared in it ends with it
  abbrev pub blocked : ℕ → Option IntType → Stms → State S → Ran S acts.Flow
  blocked n result b s = w.scoped p S (seen_by after) (sequenced n result b) s

  -- the arms of a switch from one by its number on
  abbrev pub arms_done : ℕ → Option IntType → ℕ → Stms → State S → Ran S acts.Flow
  arms_done n result k b s = from_arm p watched (calls n) result k b s

  -- the arms that are left of a switch: what is declared in them ends with them, and a `break` is their end
  abbrev pub held_arms : ℕ → Option IntType → Stms → State S → Ran S acts.Flow
  held_arms n result b s = watched.breaks (sequenced n result b) s

  abbrev pub armed : ℕ → Option IntType → Stm → State S → Ran S acts.Flow
  armed n result x s = w.scoped p S (seen_by after) (executed n result x) s

  abbrev pub otherwised : ℕ → Option IntType → t.Else → State S → Ran S acts.Flow
  otherwised n result x s = otherwise p watched (calls n) result x s

  abbrev pub declaring : ℕ → Spot → Names → State S → Ran S acts.Flow
  declaring n at ns s = declare p watched (calls n) at ns s

  abbrev pub initialised : ℕ → Spot → Spot → ℕ → Init → State S → Ran S (Unit {0})
  initialised n at spot o i s = initial p watched (calls n) at spot o i s

  abbrev pub initialised_one : ℕ → Spot → ℕ → ℕ → Exp → State S → Ran S (Unit {0})
  initialised_one n at o i e s =
      bound (fulled n at Used e s) (λ v u. done tt (with_cells (put (record { object = o; index = i }) (fit p.model (type_of_object p o) v) u.cells) u))

  abbrev pub initialised_by : ℕ → Spot → ℕ → ℕ → Exps → State S → Ran S (Unit {0})
  initialised_by n at o i es s = initials p watched (calls n) at o i es s

  -- rows of values, each from its own cell on
  abbrev pub initialised_rows : ℕ → Spot → ℕ → ℕ → List Exps → State S → Ran S (Unit {0})
  initialised_rows n at o i rows s = row_initials p watched (calls n) at o i rows s

  abbrev pub cell_drawn : Spot → ℕ → ℕ → State S → Ran S (Unit {0})
  cell_drawn spot o i s =
      bound (drawing CellDraw spot (type_of_object p o) s) (λ v u. done tt (with_cells (put (record { object = o; index = i }) v u.cells) u))

  -- the cells of an object from an index on
  abbrev pub cells_drawn_from : ℕ → Spot → ℕ → ℕ → ℕ → State S → Ran S (Unit {0})
  cells_drawn_from n spot o i k s = draw_cells p watched (calls n) spot o i k s

  abbrev pub cells_drawn : ℕ → Spot → ℕ → State S → Ran S (Unit {0})
  cells_drawn n spot o s = cells_drawn_from n spot o 0 (size_of_object p o) s

  -- a declared name: its cells, then its initializer
  abbrev pub introduced : ℕ → Spot → Spot → ℕ → Init → State S → Ran S (Unit {0})
  introduced n at spot o i s =
      bound (ticks p watched ACell (size_of_object p o) s) (λ _ u. bound (roomed (size_of_object p o) u) (λ _ v.
      bound (watched.declare o (size_of_object p o) v) (λ _. initialised n at spot o i)))

  -- a function's body, with calls at most this many deep
  abbrev pub in_function : ℕ → Function → State S → Ran S acts.Flow
  in_function n f s = run_in p watched n f s

  abbrev pub in_main : ℕ → State S → Ran S acts.Flow
  in_main n s = run_main p watched n s

  abbrev pub targeted : ℕ → Where → Exp → State S → Ran S Key
  targeted n at e s = target p watched (calls n) at e s

  abbrev pub placed : ℕ → Where → Spot → Node → State S → Ran S Key
  placed n at spot x s = place p watched (calls n) at spot x s

  -- expressions from left to right, for their effects
  abbrev pub evaluated_all : ℕ → Where → Exps → State S → Ran S (Unit {0})
  evaluated_all n at NoExp s = done tt s
  evaluated_all n at (MoreExp e es) s = bound (evaluated n at Used e s) (λ _. evaluated_all n at es)

  -- 0 or 1
  abbrev pub truthed : ℕ → Where → Exp → State S → Ran S ℤ
  truthed n at e s = tested p watched (type_of e) (eval p watched (calls n) at Used e) s

  -- a value, converted where it is to have a type
  abbrev pub convertible : ℕ → Where → Option IntType → Exp → State S → Ran S ℤ
  convertible n at ty e s = bound (eval p watched (calls n) at Used e s) (convert_to p watched ty (type_of e))

  -- values in a list, for which memory may be wanting
  abbrev pub held : List (ℤ × IntType) → State S → Ran S (List (ℤ × IntType))
  held vs s = w.wanting p S (seen_by after) (λ t. Go vs t) s

  -- the values of arguments, after others
  abbrev pub listed : ℕ → Where → List (ℤ × IntType) → Exps → State S → Ran S (List (ℤ × IntType))
  listed n at vs NoExp s = held vs s
  listed n at vs (MoreExp e es) s = bound (evaluated n at Used e s) (λ v u. listed n at (vs ++ (v, type_of e) ∷ []) es u)

  abbrev pub callee_gives : ℕ → Where → Site → Callee → List (ℤ × IntType) → State S → Ran S ℤ
  callee_gives n at site callee vs s = called p watched (calls n) at site callee vs s

  -- a loop's body
  abbrev pub bodied : ℕ → Option IntType → Stm → State S → Ran S acts.Flow
  bodied n result x s = watched.continued (executed n result x) s

  -- a loop goes on where its test says so
  abbrev pub test_turned : ℕ → Spot → Exp → State S → Ran S acts.Flow
  test_turned n at e s = control p watched (calls n) at e watched.next watched.leave s

  -- does a loop go on, where it may have no test
  abbrev pub goes_on : ℕ → Spot → Option Exp → State S → Ran S Bool
  goes_on n at None s = done true s
  goes_on n at (Some e) s = decided n at e s

  abbrev pub stepped_on : ℕ → Spot → Option Exp → State S → Ran S acts.Flow
  stepped_on n at step s = full_if p watched (calls n) at step watched.next s

  -- the body of a `for` and its last part
  abbrev pub for_rest : ℕ → Option IntType → Spot → Option Exp → Stm → State S → Ran S acts.Flow
  for_rest n result at step x s = bound (bodied n result x s) (w.go_on p S (seen_by after) (stepped_on n at step))

  abbrev pub while_turned : ℕ → Option IntType → Spot → Exp → Stm → State S → Ran S acts.Flow
  while_turned n result at e x s = while_turn p watched (calls n) at e (executed n result x) s

  abbrev pub do_turned : ℕ → Option IntType → Spot → Stm → Exp → State S → Ran S acts.Flow
  do_turned n result at x e s = do_turn p watched (calls n) at (executed n result x) e s

  abbrev pub for_turned : ℕ → Option IntType → Spot → Option Exp → Option Exp → Stm → State S → Ran S acts.Flow
  for_turned n result at e step x s = for_turn p watched (calls n) at e step (executed n result x) s

  -- one turn of a loop; where there is none, it is left
  abbrev pub turning : ℕ → Option IntType → Spot → Option Loop → State S → Ran S acts.Flow
  turning n result at None s = done acts.Broken s
  turning n result at (Some l) s = turn p watched (calls n) result at l s

  -- at most this many turns
  abbrev pub rounds : ℕ → ℕ → Option IntType → Spot → Option Loop → State S → Ran S acts.Flow
  rounds zero n result at l s = record { result = Stop Spent s; way = [] }
  rounds (suc k) n result at l s = bound (turning n result at l s) (w.turned p S (seen_by after) (rounds k n result at l))

  -- each turn takes a step, so there are no more turns than steps left
  abbrev pub all_rounds : ℕ → Option IntType → Spot → Option Loop → State S → Ran S acts.Flow
  all_rounds n result at l s = rounds (suc s.steps) n result at l s

  -- a loop at its head, a scope
  abbrev pub looped : ℕ → Option IntType → Spot → Option Loop → State S → Ran S acts.Flow
  looped n result at l s = w.scoped p S (seen_by after) (all_rounds n result at l) s

  -- what comes before the turns of a `for`
  abbrev pub begun : ℕ → Spot → First → State S → Ran S acts.Flow
  begun n at NoFirst s = done acts.Next s
  begun n at (FirstExp e) s = bound (fulled n at Unused e s) (λ _ u. done acts.Next u)
  begun n at (FirstNames ns) s = declaring n at ns s

  -- a `for` in its scope
  abbrev pub for_parts : ℕ → Option IntType → Spot → First → Option Loop → State S → Ran S acts.Flow
  for_parts n result at i l s = bound (begun n at i s) (w.go_on p S (seen_by after) (looped n result at l))

  abbrev pub for_looped : ℕ → Option IntType → Spot → First → Option Loop → State S → Ran S acts.Flow
  for_looped n result at i l s = w.scoped p S (seen_by after) (for_parts n result at i l) s

  -- a parameter's cell with the value of its argument
  abbrev pub parameter_set : ℕ → ℤ → IntType → State S → Ran S (Unit {0})
  parameter_set o v from s =
      bound (watched.declare o 1 s) (λ _ u. done tt (with_cells (put (record { object = o; index = 0 }) (fit p.model (type_of_object p o) v) u.cells) u))

  -- a parameter's cell with the first of these values, if any
  abbrev pub next_set : ℕ → List (ℤ × IntType) → State S → Ran S (Unit {0})
  next_set o [] s = bound (watched.declare o 1 s) (λ _. done tt)
  next_set o (v ∷ vs) s = parameter_set o v.0 v.1 s

  abbrev pub parameters_set : List ℕ → List (ℤ × IntType) → State S → Ran S (Unit {0})
  parameters_set [] vs s = done tt s
  parameters_set (o ∷ os) vs s = bound (next_set o vs s) (λ _. parameters_set os (other_pairs vs))

  abbrev pub with_arguments : ℕ → Function → List (ℤ × IntType) → State S → Ran S acts.Flow
  with_arguments n f vs s = with_params p watched f.params vs (run_in p watched n f) s

  abbrev pub called_with : ℕ → Site → Function → List (ℤ × IntType) → State S → Ran S ℤ
  called_with n site f vs s = watched.called site (with_params p watched f.params vs (run_in p watched n f)) s

  abbrev pub function_called : ℕ → Site → Function → List (ℤ × IntType) → State S → Ran S ℤ
  function_called n site f vs s = call_of p watched (run_in p watched n) site (Some f) vs s

  abbrev pub number_called : ℕ → Site → ℕ → List (ℤ × IntType) → State S → Ran S ℤ
  number_called n site g vs s = calls n site g vs s
