-- What a state of a havoc run means, and what its parts give.
use Rattle.std.specs.Prelude.{◌≡◌, ℕ, ℤ, Bool, true, false, not, ◌&&◌, List, [], ◌∷◌, ◌++◌, reverse, Option, Some, None, slice_get, Result, Ok, Err, pos, cond}
use Rattle.c_core.specs.Tree as t
use Rattle.c_core.specs.declared.tree.Callee.{Callee}
use Rattle.c_core.specs.Tree.{Exp, Node, Exps, NoExp, MoreExp, Init, Names, First, Stm, Form, Stms, Function, Program, NoFirst, FirstExp, FirstNames}
use Rattle.c_core.specs.declared.number.IntType.{IntType}
use Rattle.c_core.specs.declared.number.IntType.TheVariants.{Int}
use Rattle.c_core.specs.declared.number.Spot.{Spot}
use Rattle.c_core.specs.declared.number.BinOp.{BinOp}
use Rattle.c_core.specs.declared.number.StepOp.{StepOp}
use Rattle.c_core.specs.Types.{fit, is_zero}
use Rattle.c_core.specs.Operators.{type_for, op_of_step, is_prefix}
use Rattle.c_meaning.specs.declared.run.DrawKind.TheVariants.{Cell as CellDraw, Havoc as HavocDraw}
use Rattle.c_meaning.specs.declared.run.DutyKind.TheVariants.{Entry, Location}
use Rattle.c_meaning.specs.declared.run.HavocEnd.{HavocEnd}
use Rattle.c_meaning.specs.declared.run.HavocEnd.TheVariants.{Passed}
use Rattle.c_meaning.specs.declared.run.Duty.{Duty}
use Rattle.c_meaning.specs.Cells.{Key, Cell, put, cells_from, read}
use Rattle.c_meaning.specs.Duties.{Placed}
use Rattle.c_meaning.specs.Meaning.{Use, Used, Unused, Where, Site, Meaning, Calls, Loop}
use Rattle.c_meaning.specs.Acts.{Res, Go, Stop, bind}
use Rattle.c_meaning.specs.Acts as acts
use Rattle.c_meaning.specs.Havoc as h
use Rattle.c_meaning.specs.Havoc.{Left, Stopped, Passes, Dismisses, Fails, havoc, cells_left, with_cells_left}
use Rattle.c_meaning.specs.Run.{first_cells}
use Rattle.c_meaning.specs.Value.{holds}
use Rattle.c_meaning.specs.Objects.{type_of, type_of_object, size_of_object}
use Rattle.c_meaning.specs.Eval.{eval, target, place, tested, convert_to, operate, store, called, node}
use Rattle.c_meaning.specs.Exec.{call_of, with_params, run_in, run_main, full, initial, declare, exec, form, otherwise, execs, from_arm, draw_cells, initials, row_initials, while_turn, do_turn, for_turn, full_if, control, turn}
use Rattle.c_calls.specs.Loops.{changed_if}
use Rattle.run_state.specs.Interpreting.{other_pairs}
use Rattle.run_state.specs.declared.machine.Flow.{Flow}
use Rattle.havoc_state.specs.declared.machine.Machine.{Machine}
use Rattle.havoc_state.specs.declared.machine.Ending.{Ending}
use Rattle.havoc_state.specs.declared.machine.Ending.TheVariants.{Passes as EndPasses, Dismisses as EndDismisses, Fails as EndFails}
use Rattle.havoc_state.specs.declared.machine.Halt.{Halt}
use Rattle.havoc_state.specs.declared.machine.Halt.TheVariants.{Ends, NoMemory}

-- the next value stands last
abbrev pub left_of : Machine → Left
left_of m = record { cells = m.memory.cells; values = reverse m.left.items; draws = m.draws }

abbrev pub stopped_of : Ending → Stopped
stopped_of EndPasses = Passes
stopped_of EndDismisses = Dismisses
stopped_of (EndFails d) = Fails d

-- a part gave what it is to give, in this state; where memory is wanting, nothing is said
abbrev pub Gives : {A B T : Type 0} → (A → B) → Result A Halt → T → Res Stopped T B → Type 0
Gives view (Ok a) s r = r ≡ Go (view a) s
Gives view (Err (Ends e)) s r = r ≡ Stop (stopped_of e) s
Gives view (Err NoMemory) s r = Unit {0}

-- the end of a run that came to its end, or halted
abbrev pub EndsAs : List Duty → Result Flow Halt → HavocEnd → Type 0
EndsAs ds (Ok f) e = e ≡ Passed
EndsAs ds (Err (Ends s)) e = e ≡ h.end_among ds (stopped_of s)
EndsAs ds (Err NoMemory) e = ⊥

-- an invariant stands at a place and doesn't hold
abbrev pub broken : Program → Bool → Spot → Placed → List Cell → Bool
broken p at_loop spot x cs = h.stands p [] at_loop spot x && not (holds p x.test cs)

-- static objects have their first values, and nothing is drawn
abbrev pub first_left : Program → List ℤ → Left
first_left p w = record { cells = first_cells p; values = w; draws = [] }

-- I: the invariants in witness order
module _ (p : Program) (I : List Placed) where
  abbrev pub havocked : Meaning
  havocked = havoc p I

  -- a cell's value, changed by an operator
  abbrev pub changed : Where → Spot → BinOp → Key → IntType → ℤ → IntType → ℤ → Left → Res Stopped Left ℤ
  changed at spot op k a x b y s = bind (operate p havocked at spot op a x b y s) (store p havocked k (type_for p.model op a b) a)

  -- one more or one less in a cell
  abbrev pub bumped : Where → Spot → StepOp → Key → IntType → Left → Res Stopped Left ℤ
  bumped at spot op k a s =
      bind (operate p havocked at spot (op_of_step op) a (read k s.cells) Int (pos 1) s) (λ y.
      λ s1. bind (store p havocked k (type_for p.model (op_of_step op) a Int) a y s1) (λ z. λ s2. Go (cond (is_prefix op) z (read k s.cells)) s2))

  -- calls at most this many deep
  abbrev pub calls : ℕ → Calls havocked
  calls n site g vs = call_of p havocked (run_in p havocked n) site (slice_get p.functions g) vs

  abbrev pub evaluated : ℕ → Where → Use → Exp → Left → Res Stopped Left ℤ
  evaluated n at want e s = eval p havocked (calls n) at want e s

  abbrev pub noded : ℕ → Where → Use → Spot → Option IntType → Node → Left → Res Stopped Left ℤ
  noded n at want spot ty x s = node p havocked (calls n) at want spot ty x s

  -- a cell that a loop changes draws a value
  abbrev pub cell_redrawn : Spot → ℕ → ℕ → Left → Res Stopped Left (Unit {0})
  cell_redrawn spot o i s =
      bind (h.draw p I HavocDraw spot (type_of_object p o) s) (λ v u. Go tt (with_cells_left (put (record { object = o; index = i }) v u.cells) u))

  -- all cells of an object
  abbrev pub object_redrawn : Spot → ℕ → Left → Res Stopped Left (Unit {0})
  object_redrawn spot o s = h.redraw_cells p I spot o 0 (size_of_object p o) s

  -- the invariants of a statement, before it
  abbrev pub arrived : Spot → Left → Res Stopped Left (Unit {0})
  arrived spot s = h.test_from p I 0 I false spot Location s

  abbrev pub fulled : ℕ → Spot → Use → Exp → Left → Res Stopped Left ℤ
  fulled n at want e s = full p havocked (calls n) at want e s

  -- is a test not 0
  abbrev pub decided : ℕ → Spot → Exp → Left → Res Stopped Left Bool
  decided n at e s = bind (fulled n at Used e s) (λ v u. Go (not (is_zero v)) u)

  abbrev pub executed : ℕ → Option IntType → Stm → Left → Res Stopped Left acts.Flow
  executed n result x s = exec p havocked (calls n) result x s

  abbrev pub formed : ℕ → Option IntType → Spot → Form → Left → Res Stopped Left acts.Flow
  formed n result at f s = form p havocked (calls n) result at f s

  abbrev pub sequenced : ℕ → Option IntType → Stms → Left → Res Stopped Left acts.Flow
  sequenced n result b s = execs p havocked (calls n) result b s

  -- what is declared in it ends with it
  abbrev pub blocked : ℕ → Option IntType → Stms → Left → Res Stopped Left acts.Flow
  blocked n result b s = acts.scoped Stopped Left cells_left with_cells_left (sequenced n result b) s

  -- the arms of a switch from one by its number on
  abbrev pub arms_done : ℕ → Option IntType → ℕ → Stms → Left → Res Stopped Left acts.Flow
  arms_done n result k b s = from_arm p havocked (calls n) result k b s

  -- the arms that are left of a switch: what is declared in them ends with them, and a `break` is their end
  abbrev pub held_arms : ℕ → Option IntType → Stms → Left → Res Stopped Left acts.Flow
  held_arms n result b s = acts.breaks Stopped Left cells_left with_cells_left (sequenced n result b) s

  abbrev pub armed : ℕ → Option IntType → Stm → Left → Res Stopped Left acts.Flow
  armed n result x s = acts.scoped Stopped Left cells_left with_cells_left (executed n result x) s

  abbrev pub otherwised : ℕ → Option IntType → t.Else → Left → Res Stopped Left acts.Flow
  otherwised n result x s = otherwise p havocked (calls n) result x s

  abbrev pub declaring : ℕ → Spot → Names → Left → Res Stopped Left acts.Flow
  declaring n at ns s = declare p havocked (calls n) at ns s

  abbrev pub initialised : ℕ → Spot → Spot → ℕ → Init → Left → Res Stopped Left (Unit {0})
  initialised n at spot o i s = initial p havocked (calls n) at spot o i s

  abbrev pub initialised_one : ℕ → Spot → ℕ → ℕ → Exp → Left → Res Stopped Left (Unit {0})
  initialised_one n at o i e s =
      bind (fulled n at Used e s) (λ v u. Go tt (with_cells_left (put (record { object = o; index = i }) (fit p.model (type_of_object p o) v) u.cells) u))

  abbrev pub initialised_by : ℕ → Spot → ℕ → ℕ → Exps → Left → Res Stopped Left (Unit {0})
  initialised_by n at o i es s = initials p havocked (calls n) at o i es s

  -- rows of values, each from its own cell on
  abbrev pub initialised_rows : ℕ → Spot → ℕ → ℕ → List Exps → Left → Res Stopped Left (Unit {0})
  initialised_rows n at o i rows s = row_initials p havocked (calls n) at o i rows s

  abbrev pub cell_drawn : Spot → ℕ → ℕ → Left → Res Stopped Left (Unit {0})
  cell_drawn spot o i s =
      bind (h.draw p I CellDraw spot (type_of_object p o) s) (λ v u. Go tt (with_cells_left (put (record { object = o; index = i }) v u.cells) u))

  -- the cells of an object from an index on
  abbrev pub cells_drawn_from : ℕ → Spot → ℕ → ℕ → ℕ → Left → Res Stopped Left (Unit {0})
  cells_drawn_from n spot o i k s = draw_cells p havocked (calls n) spot o i k s

  abbrev pub cells_drawn : ℕ → Spot → ℕ → Left → Res Stopped Left (Unit {0})
  cells_drawn n spot o s = cells_drawn_from n spot o 0 (size_of_object p o) s

  -- a declared name: its cells, then its initializer
  abbrev pub introduced : ℕ → Spot → Spot → ℕ → Init → Left → Res Stopped Left (Unit {0})
  introduced n at spot o i s = initialised n at spot o i (with_cells_left (s.cells ++ cells_from o 0 (size_of_object p o) []) s)

  -- a function's body, with calls at most this many deep
  abbrev pub in_function : ℕ → Function → Left → Res Stopped Left acts.Flow
  in_function n f s = run_in p havocked n f s

  abbrev pub in_main : ℕ → Left → Res Stopped Left acts.Flow
  in_main n s = run_main p havocked n s

  abbrev pub targeted : ℕ → Where → Exp → Left → Res Stopped Left Key
  targeted n at e s = target p havocked (calls n) at e s

  abbrev pub placed_at : ℕ → Where → Spot → Node → Left → Res Stopped Left Key
  placed_at n at spot x s = place p havocked (calls n) at spot x s

  -- expressions from left to right, for their effects
  abbrev pub evaluated_all : ℕ → Where → Exps → Left → Res Stopped Left (Unit {0})
  evaluated_all n at NoExp s = Go tt s
  evaluated_all n at (MoreExp e es) s = bind (evaluated n at Used e s) (λ _. evaluated_all n at es)

  -- 0 or 1
  abbrev pub truthed : ℕ → Where → Exp → Left → Res Stopped Left ℤ
  truthed n at e s = tested p havocked (type_of e) (eval p havocked (calls n) at Used e) s

  -- a value, converted where it is to have a type
  abbrev pub convertible : ℕ → Where → Option IntType → Exp → Left → Res Stopped Left ℤ
  convertible n at ty e s = bind (eval p havocked (calls n) at Used e s) (convert_to p havocked ty (type_of e))

  -- the values of arguments, after others
  abbrev pub listed : ℕ → Where → List (ℤ × IntType) → Exps → Left → Res Stopped Left (List (ℤ × IntType))
  listed n at vs NoExp s = Go vs s
  listed n at vs (MoreExp e es) s = bind (evaluated n at Used e s) (λ v u. listed n at (vs ++ (v, type_of e) ∷ []) es u)

  abbrev pub callee_gives : ℕ → Where → Site → Callee → List (ℤ × IntType) → Left → Res Stopped Left ℤ
  callee_gives n at site callee vs s = called p havocked (calls n) at site callee vs s

  -- a loop's body
  abbrev pub bodied : ℕ → Option IntType → Stm → Left → Res Stopped Left acts.Flow
  bodied n result x s = acts.continued Stopped Left cells_left with_cells_left (executed n result x) s

  -- a loop goes on where its test says so
  abbrev pub test_turned : ℕ → Spot → Exp → Left → Res Stopped Left acts.Flow
  test_turned n at e s = control p havocked (calls n) at e havocked.next havocked.leave s

  -- does a loop go on, where it may have no test
  abbrev pub goes_on : ℕ → Spot → Option Exp → Left → Res Stopped Left Bool
  goes_on n at None s = Go true s
  goes_on n at (Some e) s = decided n at e s

  abbrev pub stepped_on : ℕ → Spot → Option Exp → Left → Res Stopped Left acts.Flow
  stepped_on n at step s = full_if p havocked (calls n) at step havocked.next s

  -- the body of a `for` and its last part
  abbrev pub for_rest : ℕ → Option IntType → Spot → Option Exp → Stm → Left → Res Stopped Left acts.Flow
  for_rest n result at step x s = bind (bodied n result x s) (acts.go_on (stepped_on n at step))

  abbrev pub while_turned : ℕ → Option IntType → Spot → Exp → Stm → Left → Res Stopped Left acts.Flow
  while_turned n result at e x s = while_turn p havocked (calls n) at e (executed n result x) s

  abbrev pub do_turned : ℕ → Option IntType → Spot → Stm → Exp → Left → Res Stopped Left acts.Flow
  do_turned n result at x e s = do_turn p havocked (calls n) at (executed n result x) e s

  abbrev pub for_turned : ℕ → Option IntType → Spot → Option Exp → Option Exp → Stm → Left → Res Stopped Left acts.Flow
  for_turned n result at e step x s = for_turn p havocked (calls n) at e step (executed n result x) s

  -- the turn of a loop; where there is none, it is left
  abbrev pub turning : ℕ → Option IntType → Spot → Option Loop → Left → Res Stopped Left acts.Flow
  turning n result at None s = Go acts.Broken s
  turning n result at (Some l) s = turn p havocked (calls n) result at l s

  -- before the turn: the invariants hold on arrival, what the loop changes is drawn, the invariants are assumed
  abbrev pub opened : Spot → Option Loop → Left → Res Stopped Left (Unit {0})
  opened at l s =
      bind (h.test_from p I 0 I true at Entry s) (λ _ u. bind (h.redraw p I at (changed_if p l) u) (λ _. h.assume_all p I I at))

  -- a loop at its head
  abbrev pub turned_once : ℕ → Option IntType → Spot → Option Loop → Left → Res Stopped Left acts.Flow
  turned_once n result at l s = bind (opened at l s) (λ _ u. bind (turning n result at l u) (h.close p I at))

  -- a loop, a scope
  abbrev pub looped : ℕ → Option IntType → Spot → Option Loop → Left → Res Stopped Left acts.Flow
  looped n result at l s = acts.scoped Stopped Left cells_left with_cells_left (turned_once n result at l) s

  -- what comes before the turns of a `for`
  abbrev pub begun : ℕ → Spot → First → Left → Res Stopped Left acts.Flow
  begun n at NoFirst s = Go acts.Next s
  begun n at (FirstExp e) s = bind (fulled n at Unused e s) (λ _ u. Go acts.Next u)
  begun n at (FirstNames ns) s = declaring n at ns s

  -- a `for` in its scope
  abbrev pub for_parts : ℕ → Option IntType → Spot → First → Option Loop → Left → Res Stopped Left acts.Flow
  for_parts n result at i l s = bind (begun n at i s) (acts.go_on (looped n result at l))

  abbrev pub for_looped : ℕ → Option IntType → Spot → First → Option Loop → Left → Res Stopped Left acts.Flow
  for_looped n result at i l s = acts.scoped Stopped Left cells_left with_cells_left (for_parts n result at i l) s

  -- a parameter's cell with the value of its argument
  abbrev pub parameter_set : ℕ → ℤ → IntType → Left → Res Stopped Left (Unit {0})
  parameter_set o v from s =
      Go tt (with_cells_left (put (record { object = o; index = 0 }) (fit p.model (type_of_object p o) v) (s.cells ++ cells_from o 0 1 [])) s)

  -- a parameter's cell with the first of these values, if any
  abbrev pub next_set : ℕ → List (ℤ × IntType) → Left → Res Stopped Left (Unit {0})
  next_set o [] s = Go tt (with_cells_left (s.cells ++ cells_from o 0 1 []) s)
  next_set o (v ∷ vs) s = parameter_set o v.0 v.1 s

  abbrev pub parameters_set : List ℕ → List (ℤ × IntType) → Left → Res Stopped Left (Unit {0})
  parameters_set [] vs s = Go tt s
  parameters_set (o ∷ os) vs s = bind (next_set o vs s) (λ _. parameters_set os (other_pairs vs))

  abbrev pub with_arguments : ℕ → Function → List (ℤ × IntType) → Left → Res Stopped Left acts.Flow
  with_arguments n f vs s = with_params p havocked f.params vs (run_in p havocked n f) s

  -- what is declared in a call ends with it
  abbrev pub scoped_with : ℕ → Function → List (ℤ × IntType) → Left → Res Stopped Left acts.Flow
  scoped_with n f vs s = acts.scoped Stopped Left cells_left with_cells_left (with_arguments n f vs) s

  abbrev pub called_with : ℕ → Site → Function → List (ℤ × IntType) → Left → Res Stopped Left ℤ
  called_with n site f vs s = havocked.called site (with_params p havocked f.params vs (run_in p havocked n f)) s

  abbrev pub number_called : ℕ → Site → ℕ → List (ℤ × IntType) → Left → Res Stopped Left ℤ
  number_called n site g vs s = calls n site g vs s
