-- What is kept of the draws and of what is seen by the parts of a run, the run keeps.
use Rattle.std.proofs.Common.{◌≡◌, ◌+◌, ℕ, zero, suc, ℤ, pos, Bool, true, false, cond, not, nat_le, List, [], ◌∷◌, ◌++◌, length, Option, Some, None, refl}
use Rattle.c_core.specs.Operators.{apply_of, apply_one_of}
use Rattle.c_core.specs.Tree.{Function, Program}
use Rattle.c_core.specs.Types.{fit, is_zero}
use Rattle.c_core.specs.declared.number.Done.{Done}
use Rattle.c_core.specs.declared.number.Done.TheVariants.{Value, Overflow, Undefined as NoValue}
use Rattle.c_core.specs.declared.number.IntType.{IntType}
use Rattle.c_core.specs.declared.number.Property.{Property}
use Rattle.c_core.specs.declared.number.Property.TheVariants.{UnreachCall, NoOverflow}
use Rattle.c_core.specs.declared.number.Spot.{Spot}
use Rattle.c_core.specs.declared.tree.Callee.{Callee}
use Rattle.c_core.specs.declared.tree.Callee.TheVariants.{Defined, Input as InputOf}
use Rattle.c_meaning.specs.declared.run.Choices.{Choices}
use Rattle.c_meaning.specs.declared.run.Draw.{Draw}
use Rattle.c_meaning.specs.declared.run.DrawKind.TheVariants.{Input, Cell as OfCell}
use Rattle.c_meaning.specs.declared.run.End.{End}
use Rattle.c_meaning.specs.declared.run.End.TheVariants.{Ended, Undefined, Violated, Spent, Deep}
use Rattle.c_meaning.specs.declared.run.Event.{Event}
use Rattle.c_meaning.specs.declared.run.Event.TheVariants.{At, Branch, Enter, Return, Fail}
use Rattle.c_meaning.specs.declared.run.Way.TheVariants.{Truth}
use Rattle.c_meaning.specs.Acts.{Res, Go, Stop, Flow, Next, Broken, Again, Gave, bind, go_on, turned, continuing, held, given}
use Rattle.c_meaning.specs.Acts as acts
use Rattle.c_meaning.specs.Cells.{Cell}
use Rattle.c_meaning.specs.Meaning.{Where, Site, Loop}
use Rattle.c_meaning.specs.Run as run
use Rattle.c_meaning.specs.Run.{State, Moment, Told, Here, Head, Seen, cells_of, with_cells, cell_among, chosen, first_state, most_cells, or_zero, arm_for, way_for}
use Rattle.author_runs.proofs.Each.{Each}
use Rattle.author_runs.proofs.Traversed.{IsBody, Kept, kept_main}

-- an event that is neither the return of a call nor a violation
abbrev pub is_plain : Event → Bool
is_plain (Return close v) = false
is_plain (Fail statement full call) = false
is_plain _ = true

-- what holds of the draws and of what was seen, and what holds of them at an end
pub record Invariant (S : Type 0) (see : Moment → S → S) (Ends : Callee → Spot → Spot → Type 0)
    (In : Spot → Type 0) : Type 1 where
  pub Holds : List Draw → S → Type 0
  pub Over : End → List Draw → S → Type 0
  pub ended : (ds : List Draw) (x : S) → Holds ds x → Over Ended ds x
  pub undefined : (spot : Spot) (ds : List Draw) (x : S) → Holds ds x → Over (Undefined spot) ds x
  pub spent : (ds : List Draw) (x : S) → Holds ds x → Over Spent ds x
  pub deep : (ds : List Draw) (x : S) → Holds ds x → Over Deep ds x
  pub failed : (statement full spot : Spot) (call : Option Spot) (cs : List Cell) (ds : List Draw) (x : S)
      → In statement → Holds ds x → Over (Violated spot) ds (see (Told (Fail statement full call) cs) x)
  pub told : (e : Event) (cs : List Cell) (ds : List Draw) (x : S) → is_plain e ≡ true → Holds ds x
      → Holds ds (see (Told e cs) x)
  pub here : (spot : Spot) (cs : List Cell) (ds : List Draw) (x : S) → Holds ds x → Holds ds (see (Here spot cs) x)
  pub head : (spot : Spot) (l : Loop) (arrived cs : List Cell) (ds : List Draw) (x : S) → Holds ds x
      → Holds ds (see (Head spot l arrived cs) x)
  pub returned : (f : ℕ) (spot close : Spot) (v : Option ℤ) (cs : List Cell) (ds : List Draw) (x : S)
      → Ends (Defined f) spot close → Holds ds x → Holds ds (see (Told (Return close v) cs) x)
  pub cell : (spot : Spot) (ty : IntType) (v : ℤ) (ds : List Draw) (x : S) → Holds ds x
      → Holds (ds ++ record { spot = spot; ty = ty; value = v; from = OfCell } ∷ []) x
  pub input : (spot close : Spot) (ty : IntType) (v : ℤ) (cs : List Cell) (ds : List Draw) (x : S)
      → Ends (InputOf ty) spot close → Holds ds x
      → Holds (ds ++ record { spot = spot; ty = ty; value = v; from = Input } ∷ [])
      (see (Told (Return close (Some v)) cs) x)

module _ (p : Program) (S : Type 0) (see : Moment → S → S) (Ends : Callee → Spot → Spot → Type 0) (In : Spot → Type 0)
    (inv : Invariant S see Ends In) where
  abbrev Act : Type 0 → Type 0
  Act A = State S → Res End (State S) A

  abbrev pub HoldsAfter : {A : Type 0} → Res End (State S) A → Type 0
  HoldsAfter (Go a s) = inv.Holds s.draws s.seen
  HoldsAfter (Stop e s) = inv.Over e s.draws s.seen

  record Keeps {A : Type 0} (m : Act A) : Type 0 where
    at : (s : State S) → inv.Holds s.draws s.seen → HoldsAfter (m s)

  keeps_then : {A B : Type 0} (m : Act A) (k : A → Act B) → Keeps m → ((a : A) → Keeps (k a))
      → Keeps (λ s. bind (m s) k)
  keeps_then {A} m k f g = record { at = λ s h. by (m s) (f.at s h) }
    where
      by : (r : Res End (State S) A) → HoldsAfter r → HoldsAfter (bind r k)
      by (Go a t) h = (g a).at t h
      by (Stop e t) h = h

  keeps_ret : {A : Type 0} (a : A) → Keeps (run.ret p S see a)
  keeps_ret a = record { at = λ s h. h }

  keeps_undefined : {A : Type 0} (spot : Spot) → Keeps (run.stop p S see {A = A} (Undefined spot))
  keeps_undefined spot = record { at = λ s h. inv.undefined spot s.draws s.seen h }

  keeps_ended : {A : Type 0} → Keeps (run.stop p S see {A = A} Ended)
  keeps_ended = record { at = λ s h. inv.ended s.draws s.seen h }

  keeps_spent : {A : Type 0} → Keeps (run.stop p S see {A = A} Spent)
  keeps_spent = record { at = λ s h. inv.spent s.draws s.seen h }

  keeps_cond : {A : Type 0} (t : Bool) (a b : Act A) → Keeps a → Keeps b → Keeps (λ s. cond t a b s)
  keeps_cond true a b f g = record { at = λ s h. f.at s h }
  keeps_cond false a b f g = record { at = λ s h. g.at s h }

  keeps_tell : (e : Event) → is_plain e ≡ true → Keeps (run.tell p S see e)
  keeps_tell e q = record { at = λ s h. inv.told e s.cells s.draws s.seen q h }

  keeps_after : {A : Type 0} (e : Event) (m : Act A) → is_plain e ≡ true → Keeps m
      → Keeps (λ s. bind (run.tell p S see e s) (λ _. m))
  keeps_after e m q f = keeps_then (run.tell p S see e) (λ _. m) (keeps_tell e q) (λ _. f)

  tick_kept : (n : ℕ) (s : State S) → inv.Holds s.draws s.seen → HoldsAfter (run.tick_from p S see n s)
  tick_kept zero s h = inv.spent s.draws s.seen h
  tick_kept (suc n) s h = h

  room_kept : (b : Bool) (s : State S) → inv.Holds s.draws s.seen
      → HoldsAfter {A = Unit {0}} (cond b (Go tt s) (Stop Deep s))
  room_kept true s h = h
  room_kept false s h = inv.deep s.draws s.seen h

  keeps_key : (spot : Spot) (o : ℕ) (i : Option ℕ) → Keeps (run.key_of p S see spot o i)
  keeps_key spot o None = keeps_undefined spot
  keeps_key spot o (Some i) = keeps_ret _

  -- ---- violations

  keeps_violated : {A : Type 0} (at : Where) (spot : Spot) (call : Option Spot) → In at.statement
      → Keeps (run.violated p S see {A = A} at spot call)
  keeps_violated at spot call z =
      record { at = λ s h. inv.failed at.statement at.full spot call s.cells s.draws s.seen z h }

  keeps_overflowed : (q : Property) (at : Where) (spot : Spot) (v : ℤ) → In at.statement
      → Keeps (run.overflowed p S see q at spot v)
  keeps_overflowed NoOverflow at spot v z = keeps_violated at spot None z
  keeps_overflowed UnreachCall at spot v z = keeps_ret v

  keeps_answered : (at : Where) (spot : Spot) (d : Done) → In at.statement → Keeps (run.answered p S see at spot d)
  keeps_answered at spot (Value v) z = keeps_ret v
  keeps_answered at spot (Overflow v) z = keeps_overflowed p.property at spot v z
  keeps_answered at spot NoValue z = keeps_undefined spot

  keeps_reached : (q : Property) (at : Where) (site : Site) → In at.statement → Keeps (run.reached p S see q at site)
  keeps_reached UnreachCall at site z = keeps_violated at site.spot (Some site.spot) z
  keeps_reached NoOverflow at site z = keeps_ended

  -- ---- calls

  keeps_back : (site : Site) (f : ℕ) (v : Option ℤ) → Ends (Defined f) site.spot site.close
      → Keeps (run.tell p S see (Return site.close v))
  keeps_back site f v ends = record { at = λ s h. inv.returned f site.spot site.close v s.cells s.draws s.seen ends h }

  keeps_returned : (site : Site) (f : ℕ) (v : Option ℤ) → Ends (Defined f) site.spot site.close
      → Keeps (run.returned p S see site v)
  keeps_returned site f (Some v) ends =
      keeps_then (run.tell p S see (Return site.close (Some v))) _ (keeps_back site f (Some v) ends) (λ _. keeps_ret v)
  keeps_returned site f None ends =
      keeps_then (run.tell p S see (Return site.close None)) _ (keeps_back site f None ends)
      (λ _. keeps_cond site.needed (run.stop p S see (Undefined site.spot)) (run.ret p S see (pos 0))
      (keeps_undefined site.spot) (keeps_ret (pos 0)))

  keeps_scoped : {A : Type 0} (m : Act A) → Keeps m → Keeps (acts.scoped End (State S) cells_of with_cells m)
  keeps_scoped {A} m f = record { at = λ s h. by (length s.cells) (m s) (f.at s h) }
    where
      by : (n : ℕ) (r : Res End (State S) A) → HoldsAfter r
          → HoldsAfter (acts.cut End (State S) cells_of with_cells n r)
      by n (Go a t) h = h
      by n (Stop e t) h = h

  keeps_called : (site : Site) (f : ℕ) (a : Act Flow) → Ends (Defined f) site.spot site.close → Keeps a
      → Keeps (run.called p S see site a)
  keeps_called site f a ends g =
      keeps_then (run.deeper p S see) _ (record { at = λ s h. h }) (λ _.
      keeps_then (acts.scoped End (State S) cells_of with_cells a) _ (keeps_scoped a g) (λ flow.
      keeps_then (run.shallower p S see) _ (record { at = λ s h. h }) (λ _. keeps_returned site f (given flow) ends)))

  -- ---- statements

  keeps_continued : (m : Act Flow) → Keeps m → Keeps (acts.continued End (State S) cells_of with_cells m)
  keeps_continued m f =
      keeps_then (acts.scoped End (State S) cells_of with_cells m) (λ g u. Go (continuing g) u) (keeps_scoped m f)
      (λ g. record { at = λ s h. h })

  keeps_breaks : (m : Act Flow) → Keeps m → Keeps (acts.breaks End (State S) cells_of with_cells m)
  keeps_breaks m f =
      keeps_then (acts.scoped End (State S) cells_of with_cells m) (λ g u. Go (held g) u) (keeps_scoped m f)
      (λ g. record { at = λ s h. h })

  keeps_seq : (a b : Act Flow) → Keeps a → Keeps b → Keeps (λ s. bind (a s) (go_on b))
  keeps_seq a b f g = keeps_then a (go_on b) f on
    where
      on : (flow : Flow) → Keeps (go_on b flow)
      on Next = record { at = λ s h. g.at s h }
      on Broken = record { at = λ s h. h }
      on Again = record { at = λ s h. h }
      on (Gave v) = record { at = λ s h. h }

  keeps_turned : (m k : Act Flow) → Keeps m → Keeps k → Keeps (λ s. bind (m s) (turned k))
  keeps_turned m k f g = keeps_then m (turned k) f on
    where
      on : (flow : Flow) → Keeps (turned k flow)
      on Next = record { at = λ s h. g.at s h }
      on Broken = record { at = λ s h. h }
      on Again = record { at = λ s h. h }
      on (Gave v) = record { at = λ s h. h }

  keeps_turns : (n : ℕ) (at : Spot) (l : Loop) (arrived : List Cell) (m : Act Flow) → Keeps m
      → Keeps (run.turns p S see n at l arrived m)
  keeps_turns zero at l arrived m f = keeps_spent
  keeps_turns (suc n) at l arrived m f =
      keeps_then (λ s. run.note p S see (Head at l arrived s.cells) s) _
      (record { at = λ s h. inv.head at l arrived s.cells s.draws s.seen h })
      (λ _. keeps_turned m (run.turns p S see n at l arrived m) f (keeps_turns n at l arrived m f))

  keeps_loop : (at : Spot) (l : Loop) (m : Act Flow) → Keeps m → Keeps (run.loop p S see at l m)
  keeps_loop at l m f = record { at = λ s h. (keeps_turns (suc s.steps) at l s.cells m f).at s h }

  real_kept : Kept p (run.real p S see) Ends In
  real_kept = record {
    Acts = λ A m. Keeps m;
    Dones = λ a. Keeps a;
    ret = λ A a. keeps_ret a;
    bind = λ A B m k f g. keeps_then m k f g;
    using = λ A m k f g. keeps_then m k f g;
    tick = λ t. record { at = λ s h. tick_kept s.steps s h };
    room = λ n. record { at = λ s h. room_kept (nat_le (length s.cells + s.active + n) most_cells) s h };
    convert = λ from to v. keeps_ret (fit p.model to v);
    test = λ ty v. keeps_ret (not (is_zero v));
    cell = λ spot ty. record {
      at = λ s h. inv.cell spot ty
          (fit p.model ty (or_zero (chosen OfCell spot s.choices))) s.draws s.seen h;
    };
    input = λ site ty ends. record {
      at = λ s h. inv.input site.spot site.close ty
          (fit p.model ty (or_zero (chosen Input site.spot s.choices))) s.cells s.draws s.seen ends h;
    };
    element = λ spot o n c js. keeps_key spot o (cell_among n c js);
    look = λ x. record { at = λ s h. h };
    write = λ x v. record { at = λ s h. h };
    answer = λ at spot op ty x right y z. keeps_answered at spot (apply_of p.model op ty x y) z;
    answer_one = λ at spot op ty x z. keeps_answered at spot (apply_one_of p.model op ty x) z;
    choose = λ t a b f g. keeps_cond t a b f g;
    pick = λ mark t a b f g. keeps_after (Branch mark (Truth t)) (λ s. cond t a b s) refl (keeps_cond t a b f g);
    enter = λ site. keeps_tell (Enter site.close) refl;
    reach = λ at site z. keeps_reached p.property at site z;
    ending = keeps_ended;
    called = λ site f a ends g. keeps_called site f a ends g;
    missing = keeps_ended;
    here = λ at. keeps_then (λ s. run.note p S see (Here at s.cells) s) _
        (record { at = λ s h. inv.here at s.cells s.draws s.seen h }) (λ _. keeps_tell (At at) refl);
    declare = λ o n. record { at = λ s h. h };
    branch = λ at t a b f g. keeps_after (Branch at (Truth t)) (λ s. cond t a b s) refl (keeps_cond t a b f g);
    select = λ at ty v ls. keeps_after (Branch at (way_for v ls)) (run.ret p S see (arm_for v ls)) refl
        (keeps_ret (arm_for v ls));
    next = keeps_ret Next;
    leave = keeps_ret Broken;
    again = keeps_ret Again;
    give = λ v. keeps_ret (Gave v);
    seq = λ a b f g. keeps_seq a b f g;
    scoped = λ a f. keeps_scoped a f;
    continued = λ a f. keeps_continued a f;
    breaks = λ a f. keeps_breaks a f;
    loop = λ at l a f. keeps_scoped (run.loop p S see at l a) (keeps_loop at l a f);
    deep = keeps_spent;
  }

  -- where it holds of nothing drawn, it holds of a run's end
  pub holds_of_run : Each (λ (f : Function). IsBody Ends In f.body) p.functions → (c : Choices) (N : ℕ) (x : S)
      → inv.Holds [] x → HoldsAfter (Seen p S see x c N)
  unfolding real_kept
  holds_of_run bodies c N x h =
      (kept_main p (run.real p S see) Ends In real_kept bodies (suc N)).at (first_state p S x c N) h
