-- Runs that a circuit follows, in a mode: a meaning.
use Rattle.std.specs.Prelude.{ℕ, ℤ, pos, Bool, true, false, cond, not, List, [], ◌∷◌, ◌++◌, Option, Some, None}
use Rattle.c_core.specs.Types.{fit, is_zero, number_of}
use Rattle.c_core.specs.Operators.{apply_of, apply_one_of}
use Rattle.c_core.specs.Tree.{Program}
use Rattle.c_core.specs.declared.number.IntType.{IntType}
use Rattle.c_core.specs.declared.number.Property.{Property}
use Rattle.c_core.specs.declared.number.Property.TheVariants.{UnreachCall, NoOverflow}
use Rattle.c_core.specs.declared.number.Spot.{Spot}
use Rattle.c_core.specs.declared.number.Done.{Done}
use Rattle.c_core.specs.declared.number.Done.TheVariants.{Value, Overflow, Undefined}
use Rattle.c_core.specs.declared.tree.Label.{Label as ArmLabel}
use Rattle.c_meaning.specs.declared.run.DrawKind.{DrawKind}
use Rattle.c_meaning.specs.declared.run.Event.{Event}
use Rattle.c_meaning.specs.declared.run.Event.TheVariants.{Branch, Enter, Return, Fail}
use Rattle.c_meaning.specs.declared.run.Way.TheVariants.{Truth}
use Rattle.c_meaning.specs.Cells.{Key}
use Rattle.c_meaning.specs.Meaning.{Where, Site, Meaning}
use Rattle.c_meaning.specs.Acts.{Res, Go, Stop, Flow, Next, Broken, Again, Gave, bind, go_on, given}
use Rattle.c_meaning.specs.Acts as acts
use Rattle.c_meaning.specs.Exec.{run_main}
use Rattle.c_meaning.specs.Havoc.{Stopped, Passes, Fails}
use Rattle.c_meaning.specs.Run.{first_value, other_values, or_zero, cell_among, arm_for, way_for, first_cells}
use Rattle.sym_meaning.specs.Mode.{JudgedState, cells_judged, with_cells_judged, Act, Turn, Mode}

infixr 20 ◌>>=◌
infixr 20 ◌>>◌
-- one part, then the one that its result calls for
abbrev ◌>>=◌ : {A B : Type 0} → Act A → (A → Act B) → Act B
◌>>=◌ m f = λ s. bind (m s) f

-- one part, then another
abbrev ◌>>◌ : {A B : Type 0} → Act A → Act B → Act B
◌>>◌ m f = λ s. bind (m s) (λ _. f)

-- a result, and nothing else happens
abbrev pub ret : {A : Type 0} → A → Act A
ret a = λ s. Go a s

-- the run ends here
abbrev pub stop : {A : Type 0} → Stopped → Act A
stop e = λ s. Stop e s

-- C11 6.5.6p8
abbrev pub key_of : ℕ → Option ℕ → Act Key
key_of o None = stop Passes
key_of o (Some i) = ret (record { object = o; index = i })

-- the next value of the list, as the type holds it, is drawn and noted; 0 where the list has ended
abbrev pub draw : Program → DrawKind → Spot → IntType → Act ℤ
draw p kind spot ty s = let v = fit p.model ty (or_zero (first_value s.values)) in
    Go v (record s {
      values = other_values s.values;
      draws = s.draws ++ record { spot = spot; ty = ty; value = v; from = kind } ∷ [];
    })

module _ (p : Program) (W : Mode) where
  -- an event other than that of a statement, with the cells of this moment
  abbrev pub tell : Event → Act (Unit {0})
  tell e = λ s. Go tt (record s { completed = W.next e s.cells s.completed })

  -- the property is violated in a full expression
  abbrev pub violated : {A : Type 0} → Where → Option Spot → Act A
  violated at call = λ s.
      Stop (cond (W.counts (Fail at.statement at.full call) s.cells s.completed) (Fails (W.duty_at at)) Passes) s

  -- an overflow is the violation, or its value wraps
  abbrev pub overflowed : Property → Where → ℤ → Act ℤ
  overflowed NoOverflow at v = violated at None
  overflowed UnreachCall at v = ret v

  -- an operator's answer: its value, an overflow by the property, or an undefined end
  abbrev pub answered : Where → Done → Act ℤ
  answered at (Value v) = ret v
  answered at (Overflow v) = overflowed p.property at v
  answered at Undefined = stop Passes

  -- a call of `reach_error`: the violation, or an end where the property isn't about it
  abbrev pub reached : Property → Where → Site → Act ℤ
  reached UnreachCall at site = violated at (Some site.spot)
  reached NoOverflow at site = stop Passes

  -- a controlling expression gave this truth value: its event, then that way
  abbrev pub branched : {A : Type 0} → Spot → Bool → Act A → Act A → Act A
  branched spot t a b = tell (Branch spot (Truth t)) >> cond t a b

  -- an arm of a switch is chosen: the event, then its number
  abbrev pub selected : Spot → ℤ → List ArmLabel → Act ℕ
  selected spot v ls = tell (Branch spot (way_for v ls)) >> ret (arm_for v ls)

  -- a value that is needed and not given is undefined (C11 6.9.1p12)
  abbrev pub returned : Site → Option ℤ → Act ℤ
  returned site (Some v) = tell (Return site.close (Some v)) >> ret v
  returned site None = tell (Return site.close None) >> cond site.needed (stop Passes) (ret (pos 0))

  -- a loop's body is begun once more, where that is allowed
  abbrev pub body_of : Bool → Turn → Act Flow
  body_of true m = acts.continued Stopped JudgedState cells_judged with_cells_judged (m true)
  body_of false m = stop Passes

  -- a judged run as a meaning of the one traversal
  abbrev pub judged : Meaning
  judged = record {
    Value = ℤ;
    Truth = Bool;
    Target = Key;
    Act = Act;
    Done = Turn;
    ret = ret;
    bind = λ m f. m >>= f;
    using = λ m f may. m >>= (λ a. f a may);
    tick = λ t. ret tt;
    room = λ n. ret tt;
    const = λ ty v. v;
    convert = λ from to v. ret (fit p.model to v);
    test = λ ty v. ret (not (is_zero v));
    truth = number_of;
    draw = draw p;
    cell = λ o i. record { object = o; index = i };
    element = λ spot o n c js. key_of o (cell_among n c js);
    look = acts.look Stopped JudgedState cells_judged with_cells_judged;
    write = acts.write Stopped JudgedState cells_judged with_cells_judged;
    answer = λ at spot op ty a right b. answered at (apply_of p.model op ty a b);
    answer_one = λ at spot op ty a. answered at (apply_one_of p.model op ty a);
    choose = λ t a b. cond t a b;
    pick = λ mark t a b. branched mark t a b;
    enter = λ site. tell (Enter site.close);
    came_back = λ site v. tell (Return site.close (Some v));
    reach = reached p.property;
    ending = stop Passes;
    called = λ site body.
        acts.scoped Stopped JudgedState cells_judged with_cells_judged (body true) >>= (λ flow. returned site (given flow));
    missing = stop Passes;
    here = W.here;
    declare = λ o n may. acts.declare Stopped JudgedState cells_judged with_cells_judged o n;
    branch = λ spot t a b may. branched spot t (a may) (b may);
    select = λ spot ty v ls. selected spot v ls;
    next = λ may. ret Next;
    leave = λ may. ret Broken;
    again = λ may. ret Again;
    give = λ v may. ret (Gave v);
    seq = λ a b may. a may >>= go_on (b may);
    scoped = λ a may. acts.scoped Stopped JudgedState cells_judged with_cells_judged (a may);
    continued = λ a may. body_of may a;
    breaks = λ a may. acts.breaks Stopped JudgedState cells_judged with_cells_judged (a may);
    loop = λ spot l turn may. acts.scoped Stopped JudgedState cells_judged with_cells_judged (W.loop spot l turn);
    deep = λ may. stop Passes;
  }

  -- the run on values that are taken in turn, with calls at most n deep and these segments completed before all events
  abbrev pub judged_in : ℕ → List ℤ → List Bool → Res Stopped JudgedState Flow
  judged_in n w before =
      run_main p judged n true (record { cells = first_cells p; values = w; draws = []; completed = before })
