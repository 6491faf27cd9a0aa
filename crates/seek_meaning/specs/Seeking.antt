-- Runs that are made to find values: a meaning.
--
-- It is the meaning of runs with a bound (`Bounded`) but for three things. It takes no steps and needs no room. In place
-- of its events it keeps which numbers of segments some fitting positions have completed. And where it stops it hits or
-- misses.
use Rattle.std.specs.Prelude.{ℕ, zero, suc, ℤ, pos, Bool, true, false, cond, not, List, [], ◌∷◌, ◌++◌, Option, Some, None}
use Rattle.c_core.specs.Types.{fit, is_zero, number_of}
use Rattle.c_core.specs.Operators.{apply_of, apply_one_of}
use Rattle.c_core.specs.Tree.{Program}
use Rattle.c_core.specs.declared.number.IntType.{IntType}
use Rattle.c_core.specs.declared.number.Property.{Property}
use Rattle.c_core.specs.declared.number.Property.TheVariants.{UnreachCall, NoOverflow}
use Rattle.c_core.specs.declared.number.Spot.{Spot}
use Rattle.c_core.specs.declared.number.Done.{Done}
use Rattle.c_core.specs.declared.number.Done.TheVariants.{Value, Overflow, Undefined}
use Rattle.c_core.specs.declared.tree.Label.{Label as ArmLabel}
use Rattle.c_meaning.specs.declared.run.DrawKind.{DrawKind}
use Rattle.c_meaning.specs.declared.run.Draw.{Draw}
use Rattle.c_meaning.specs.declared.run.Event.{Event}
use Rattle.c_meaning.specs.declared.run.Event.TheVariants.{At, Branch, Enter, Return, Fail}
use Rattle.c_meaning.specs.declared.run.Way.TheVariants.{Truth}
use Rattle.c_meaning.specs.Cells.{Key, Cell}
use Rattle.c_meaning.specs.Meaning.{Where, Site, Meaning}
use Rattle.c_meaning.specs.Acts.{Res, Go, Stop, Flow, Next, Broken, Again, Gave, bind, go_on, turned, given}
use Rattle.c_meaning.specs.Acts as acts
use Rattle.c_meaning.specs.Exec.{run_main}
use Rattle.c_meaning.specs.Run.{first_value, other_values, or_zero, cell_among, arm_for, way_for, first_cells}
use Rattle.way_match.specs.Points.{BoundSegment}
use Rattle.seek_meaning.specs.Progress.{none_completed, completed_after, completes_all}

-- the property is violated by an event that completes all segments; or the run came to nothing
pub data SeekEnd : Type 0 where
  Hits Misses : SeekEnd

-- the live cells, the values left to draw, the draws made, which numbers of segments are completed
pub record SeekState : Type 0 where
  pub cells : List Cell
  pub values : List ℤ
  pub draws : List Draw
  pub completed : List Bool

-- the live cells of a state
abbrev pub cells_sought : SeekState → List Cell
cells_sought s = s.cells

-- a state with these cells
abbrev pub with_cells_sought : List Cell → SeekState → SeekState
with_cells_sought cs s = record s { cells = cs }

-- ss: the segments of the witness; k: the bound
module _ (p : Program) (ss : List BoundSegment) (k : ℕ) where
  -- what a part does from a state: a result and a state, or an end
  abbrev pub Act : Type 0 → Type 0
  Act A = SeekState → Res SeekEnd SeekState A

  -- a statement; where it is the turn of a loop it is told whether it may begin the loop's body, and no other is asked
  abbrev pub Turn : Type 0
  Turn = Bool → Act Flow

  infixr 20 ◌>>=◌
  infixr 20 ◌>>◌
  -- one part, then the one that its result calls for
  abbrev ◌>>=◌ : {A B : Type 0} → Act A → (A → Act B) → Act B
  ◌>>=◌ m f = λ s. bind (m s) f

  -- one part, then another
  abbrev ◌>>◌ : {A B : Type 0} → Act A → Act B → Act B
  ◌>>◌ m f = λ s. bind (m s) (λ _. f)

  -- a result, and nothing else happens
  abbrev pub ret : {A : Type 0} → A → Act A
  ret a = λ s. Go a s

  -- the run comes to nothing: to its end, to what is undefined, or beyond its bound
  abbrev pub miss : {A : Type 0} → Act A
  miss = λ s. Stop Misses s

  -- an event, with the cells of this moment
  abbrev pub tell : Event → Act (Unit {0})
  tell e = λ s. Go tt (record s { completed = completed_after p ss e s.cells s.completed })

  -- the next value of the list, as the type holds it, is drawn and noted; 0 where the list has ended
  abbrev pub draw : DrawKind → Spot → IntType → Act ℤ
  draw kind spot ty s = let v = fit p.model ty (or_zero (first_value s.values)) in
      Go v (record s {
        values = other_values s.values;
        draws = s.draws ++ record { spot = spot; ty = ty; value = v; from = kind } ∷ [];
      })

  -- the property is violated: a hit where the event completes all segments
  abbrev pub violated : {A : Type 0} → Where → Option Spot → Act A
  violated at call = λ s.
      Stop (cond (completes_all p ss (Fail at.statement at.full call) s.cells s.completed) Hits Misses) s

  -- an overflow is the violation, or its value wraps
  abbrev pub overflowed : Property → Where → ℤ → Act ℤ
  overflowed NoOverflow at v = violated at None
  overflowed UnreachCall at v = ret v

  -- an operator's answer: its value, an overflow by the property, or an undefined end
  abbrev pub answered : Where → Done → Act ℤ
  answered at (Value v) = ret v
  answered at (Overflow v) = overflowed p.property at v
  answered at Undefined = miss

  -- C11 6.5.6p8
  abbrev pub key_of : ℕ → Option ℕ → Act Key
  key_of o None = miss
  key_of o (Some i) = ret (record { object = o; index = i })

  -- a call of `reach_error`: the violation, or an end where the property isn't about it
  abbrev pub reached : Property → Where → Site → Act ℤ
  reached UnreachCall at site = violated at (Some site.spot)
  reached NoOverflow at site = miss

  -- a controlling expression gave this truth value: its event, then that way
  abbrev pub branched : {A : Type 0} → Spot → Bool → Act A → Act A → Act A
  branched spot t a b = tell (Branch spot (Truth t)) >> cond t a b

  -- an arm of a switch is chosen: the event, then its number
  abbrev pub selected : Spot → ℤ → List ArmLabel → Act ℕ
  selected spot v ls = tell (Branch spot (way_for v ls)) >> ret (arm_for v ls)

  -- a value that is needed and not given is undefined (C11 6.9.1p12)
  abbrev pub returned : Site → Option ℤ → Act ℤ
  returned site (Some v) = tell (Return site.close (Some v)) >> ret v
  returned site None = tell (Return site.close None) >> cond site.needed miss (ret (pos 0))

  -- a loop's body is begun once more, where that is allowed
  abbrev pub body_of : Bool → Turn → Act Flow
  body_of true m = acts.continued SeekEnd SeekState cells_sought with_cells_sought (m true)
  body_of false m = miss

  -- the turns of a loop, of which r may begin the body; the one after them may still be its last test
  abbrev pub turns : ℕ → Turn → Act Flow
  turns zero turn = turn false >>= turned miss
  turns (suc r) turn = turn true >>= turned (turns r turn)

  -- a run that is made to find values as a meaning of the one traversal
  abbrev pub seeking : Meaning
  seeking = record {
    Value = ℤ;
    Truth = Bool;
    Target = Key;
    Act = Act;
    Done = Turn;
    ret = ret;
    bind = λ m f. m >>= f;
    using = λ m f may. m >>= (λ a. f a may);
    tick = λ t. ret tt;
    room = λ n. ret tt;
    const = λ ty v. v;
    convert = λ from to v. ret (fit p.model to v);
    test = λ ty v. ret (not (is_zero v));
    truth = number_of;
    draw = draw;
    cell = λ o i. record { object = o; index = i };
    element = λ spot o n c js. key_of o (cell_among n c js);
    look = acts.look SeekEnd SeekState cells_sought with_cells_sought;
    write = acts.write SeekEnd SeekState cells_sought with_cells_sought;
    answer = λ at spot op ty a right b. answered at (apply_of p.model op ty a b);
    answer_one = λ at spot op ty a. answered at (apply_one_of p.model op ty a);
    choose = λ t a b. cond t a b;
    pick = λ mark t a b. branched mark t a b;
    enter = λ site. tell (Enter site.close);
    came_back = λ site v. tell (Return site.close (Some v));
    reach = reached p.property;
    ending = miss;
    called = λ site body.
        acts.scoped SeekEnd SeekState cells_sought with_cells_sought (body true) >>= (λ flow. returned site (given flow));
    missing = miss;
    here = λ spot. tell (At spot);
    declare = λ o n may. acts.declare SeekEnd SeekState cells_sought with_cells_sought o n;
    branch = λ spot t a b may. branched spot t (a may) (b may);
    select = λ spot ty v ls. selected spot v ls;
    next = λ may. ret Next;
    leave = λ may. ret Broken;
    again = λ may. ret Again;
    give = λ v may. ret (Gave v);
    seq = λ a b may. a may >>= go_on (b may);
    scoped = λ a may. acts.scoped SeekEnd SeekState cells_sought with_cells_sought (a may);
    continued = λ a may. body_of may a;
    breaks = λ a may. acts.breaks SeekEnd SeekState cells_sought with_cells_sought (a may);
    loop = λ spot l turn may. acts.scoped SeekEnd SeekState cells_sought with_cells_sought (turns k turn);
    deep = λ may. miss;
  }

-- the state in which `main` begins
abbrev pub first_sought : Program → List BoundSegment → List ℤ → SeekState
first_sought p ss w = record { cells = first_cells p; values = w; draws = []; completed = none_completed ss }

-- the run on values that are taken in turn: main isn't one of the k calls
abbrev pub SeekRun : Program → List BoundSegment → ℕ → List ℤ → Res SeekEnd SeekState Flow
SeekRun p ss k w = run_main p (seeking p ss k) (suc k) true (first_sought p ss w)

-- the run hits: it violates the property by an event that completes all segments
abbrev pub hits : {A : Type 0} → Res SeekEnd SeekState A → Bool
hits (Stop Hits s) = true
hits (Stop Misses s) = false
hits (Go a s) = false

-- what the run drew
abbrev pub draws_sought : {A : Type 0} → Res SeekEnd SeekState A → List Draw
draws_sought (Go a s) = s.draws
draws_sought (Stop e s) = s.draws
