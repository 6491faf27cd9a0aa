-- Runs with an account of what was seen on their way, wherever memory may be wanting.
use Rattle.std.specs.Prelude.{ℕ, zero, suc, ℤ, Bool, cond, List, [], ◌∷◌, ◌++◌}
use Rattle.c_core.specs.Tree.{Program}
use Rattle.c_core.specs.declared.number.Spot.{Spot}
use Rattle.c_meaning.specs.declared.run.End.{End}
use Rattle.c_meaning.specs.declared.run.End.TheVariants.{Spent}
use Rattle.c_meaning.specs.declared.run.Event.TheVariants.{Branch}
use Rattle.c_meaning.specs.declared.run.Way.TheVariants.{Truth}
use Rattle.c_meaning.specs.Cells.{Cell, Key}
use Rattle.c_meaning.specs.Meaning.{Meaning, Site, Loop}
use Rattle.c_meaning.specs.Acts.{Res, Go, Stop, Flow, Next, Broken, Again, Gave, bind, continuing, held, given}
use Rattle.c_meaning.specs.Acts as acts
use Rattle.c_meaning.specs.Run as run
use Rattle.c_meaning.specs.Run.{State, Moment, Head, real, cells_of, with_cells}

-- what a part gives, and what was seen at each moment on its way at which memory may have been wanting
pub record Ran (S A : Type 0) : Type 0 where
  pub result : Res End (State S) A
  pub way : List S

-- the way of what follows a part
abbrev pub way_behind : {S A B : Type 0} → Res End (State S) A → (A → State S → Ran S B) → List S
way_behind (Go a t) k = (k a t).way
way_behind (Stop e t) k = []

-- one part, then what follows it
abbrev pub bound : {S A B : Type 0} → Ran S A → (A → State S → Ran S B) → Ran S B
bound r k = record { result = bind r.result (λ a t. (k a t).result); way = r.way ++ way_behind r.result k }

-- it is among what was seen on the way
pub data IsOn {S : Type 0} (x : S) : List S → Type 0 where
  here : (xs : List S) → IsOn x (x ∷ xs)
  further : (y : S) (xs : List S) → IsOn x xs → IsOn x (y ∷ xs)

module _ (p : Program) (S : Type 0) (see : Moment → S → S) where
  -- what a part does from a state
  abbrev pub Act : Type 0 → Type 0
  Act A = State S → Ran S A

  -- a part that wants no memory
  abbrev pub quiet : {A : Type 0} → (State S → Res End (State S) A) → Act A
  quiet m s = record { result = m s; way = [] }

  -- a part that may want memory before anything is seen of it
  abbrev pub wanting : {A : Type 0} → (State S → Res End (State S) A) → Act A
  wanting m s = record { result = m s; way = s.seen ∷ [] }

  -- the one or the other
  abbrev pub either : {A : Type 0} → Bool → Act A → Act A → Act A
  either t a b s = cond t a b s

  -- a truth value is reported, then that way
  abbrev pub branched : {A : Type 0} → Spot → Bool → Act A → Act A → Act A
  branched spot t a b s = bound (wanting (run.tell p S see (Branch spot (Truth t))) s) (λ _. either t a b)

  -- after a statement: the statements after it, where it came to its end
  abbrev pub go_on : Act Flow → Flow → Act Flow
  go_on k Next = k
  go_on k Broken = quiet (λ s. Go Broken s)
  go_on k Again = quiet (λ s. Go Again s)
  go_on k (Gave v) = quiet (λ s. Go (Gave v) s)

  -- after a turn: on at the head, where it came to its end
  abbrev pub turned : Act Flow → Flow → Act Flow
  turned k Next = k
  turned k Broken = quiet (λ s. Go Next s)
  turned k Again = quiet (λ s. Go Again s)
  turned k (Gave v) = quiet (λ s. Go (Gave v) s)

  -- the cells that a part brought are gone after it
  abbrev pub scoped : {A : Type 0} → Act A → Act A
  scoped m s = record { result = acts.scoped End (State S) cells_of with_cells (λ t. (m t).result) s; way = (m s).way }

  -- a body in a call of its own, whose cells go with it; then the call's value
  abbrev pub called : Site → Act Flow → Act ℤ
  called site body s =
      bound (wanting (run.deeper p S see) s) (λ _ t. bound (scoped body t) (λ flow u. bound (quiet (run.shallower p S see) u) (λ _. wanting (run.returned p S see site (given flow)))))

  -- at most n turns of a loop that was reached with these cells
  abbrev pub turns : ℕ → Spot → Loop → List Cell → Act Flow → Act Flow
  turns zero at l arrived turn = quiet (λ s. Stop Spent s)
  turns (suc n) at l arrived turn = λ s. bound (quiet (run.note p S see (Head at l arrived s.cells)) s) (λ _ t. bound (turn t) (turned (turns n at l arrived turn)))

  abbrev pub loop : Spot → Loop → Act Flow → Act Flow
  loop at l turn s = turns (suc s.steps) at l s.cells turn s

  abbrev R : Meaning
  R = real p S see

  -- a run with its way as a meaning of the one traversal
  abbrev pub ways : Meaning
  ways = record {
    Value = ℤ;
    Truth = Bool;
    Target = Key;
    Act = Act;
    Done = Act Flow;
    ret = λ a. quiet (run.ret p S see a);
    bind = λ m k s. bound (m s) k;
    using = λ m k s. bound (m s) k;
    tick = λ t. wanting (R.tick t);
    room = λ n. wanting (R.room n);
    const = R.const;
    convert = λ from to v. quiet (R.convert from to v);
    test = λ ty v. quiet (R.test ty v);
    truth = R.truth;
    draw = λ kind spot ty. wanting (R.draw kind spot ty);
    cell = R.cell;
    element = λ spot o n c js. quiet (R.element spot o n c js);
    look = λ k. quiet (R.look k);
    write = λ k v. quiet (R.write k v);
    answer = λ at spot op ty a right b. wanting (R.answer at spot op ty a right b);
    answer_one = λ at spot op ty a. wanting (R.answer_one at spot op ty a);
    choose = λ t a b. either t a b;
    pick = λ mark t a b. branched mark t a b;
    enter = λ site. wanting (R.enter site);
    came_back = λ site v. wanting (R.came_back site v);
    reach = λ at site. wanting (R.reach at site);
    ending = quiet R.ending;
    called = called;
    missing = quiet R.missing;
    here = λ spot. wanting (R.here spot);
    declare = λ o n. wanting (R.declare o n);
    branch = λ spot t a b. branched spot t a b;
    select = λ spot ty v ls. wanting (R.select spot ty v ls);
    next = quiet R.next;
    leave = quiet R.leave;
    again = quiet R.again;
    give = λ v. quiet (R.give v);
    seq = λ a b s. bound (a s) (go_on b);
    scoped = λ a. scoped a;
    continued = λ a s. bound (scoped a s) (λ f. quiet (λ t. Go (continuing f) t));
    breaks = λ a s. bound (scoped a s) (λ f. quiet (λ t. Go (held f) t));
    loop = λ spot l turn. scoped (loop spot l turn);
    deep = quiet R.deep;
  }
