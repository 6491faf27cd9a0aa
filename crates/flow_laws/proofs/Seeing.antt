-- What is seen of a machine follows from what is told, and changes nothing else.
use Rattle.std.proofs.Common.{◌≡◌, ℕ, zero, suc, ◌-◌, Bool, true, false, cond, List, Option, Some, None, slice_get, nat_le, refl, sym, ap, ◌∙◌}
use Rattle.c_meaning.specs.declared.run.End.{End}
use Rattle.c_meaning.specs.declared.run.Event.{Event}
use Rattle.c_meaning.specs.Acts.{Res, Go, Stop}
use Rattle.c_meaning.specs.Cells.{Cell}
use Rattle.c_meaning.specs.Run.{State}
use Rattle.flow_code.specs.declared.code.Action.{Action}
use Rattle.flow_code.specs.declared.code.Code.{Code}
use Rattle.flow_code.specs.declared.code.Op.{Op}
use Rattle.flow_laws.specs.Machines.{Control, Machine}
use Rattle.flow_laws.specs.Acting.{acted}
use Rattle.flow_laws.specs.Stepping.{Turn, On, Short, Over, onward, moved, due, paid_all, behind, done_if, step, steps}
use Rattle.flow_laws.proofs.Apart.{state_by, result_by, apart_acted}
use Rattle.flow_laws.proofs.Budgets.{Leaves, acted_leaves}

-- a state whose sight is another
abbrev pub state_as : {S T : Type 0} → (S → T) → State S → State T
state_as h s = state_by h s.steps s

-- an outcome whose sight is another
abbrev pub result_as : {S T A : Type 0} → (S → T) → Res End (State S) A → Res End (State T) A
result_as h (Go a s) = Go a (state_as h s)
result_as h (Stop e s) = Stop e (state_as h s)

-- a machine whose sight is another
abbrev pub machine_as : {S T : Type 0} → (S → T) → Machine S → Machine T
machine_as h m = record { control = m.control; run = state_as h m.run }

-- what operations come to, where the sight is another
abbrev pub turn_as : {S T : Type 0} → (S → T) → Turn S → Turn T
turn_as h (On m) = On (machine_as h m)
turn_as h (Short m) = Short (machine_as h m)
turn_as h (Over e s) = Over e (state_as h s)

module _ (S T : Type 0) (after : Event → List Cell → S → S) (later : Event → List Cell → T → T) (h : S → T) (follows : (e : Event) (cs : List Cell) (x : S) → h (after e cs x) ≡ later e cs (h x)) where
  module _ (c : Code) where
    keeps : {A : Type 0} (n : ℕ) (r : Res End (State S) A) → Leaves c S after n r → result_by h n r ≡ result_as h r
    keeps n (Go a s) l = ap (λ k. Go a (state_by h k s)) (sym l)
    keeps n (Stop e s) l = ap (λ k. Stop e (state_by h k s)) (sym l)

    -- each action tells the same, whoever sees it
    follow_acted : (a : Action) (k : Control) (s : State S) → acted c T later a k (state_as h s) ≡ result_as h (acted c S after a k s)
    follow_acted a k s = (apart_acted S T after later h follows s.steps c a k s).0 ∙ keeps s.steps (acted c S after a k s) (acted_leaves c S after a k s)

    moved_as : (r : Res End (State S) Control) → moved (result_as h r) ≡ turn_as h (moved r)
    moved_as (Go k s) = refl
    moved_as (Stop e s) = refl

    done_as : (b : Bool) (r : Res End (State S) Control) (m : Machine S) → cond b (moved (result_as h r)) (Short (machine_as h m)) ≡ turn_as h (cond b (moved r) (Short m))
    done_as true r m = moved_as r
    done_as false r m = refl

    done_if_as : (m : Machine S) (o : Option Op) → done_if c T later (machine_as h m) o ≡ turn_as h (done_if c S after m o)
    done_if_as m None = refl
    done_if_as m (Some o) =
        let s = record m.run { steps = m.run.steps - due m o } in
        ap (λ r. cond (nat_le (due m o) m.run.steps) (moved r) (Short (machine_as h (paid_all m)))) (follow_acted o.action (behind m.control) s)
        ∙ done_as (nat_le (due m o) m.run.steps) (acted c S after o.action (behind m.control) s) (paid_all m)

    pub step_as : (m : Machine S) → step c T later (machine_as h m) ≡ turn_as h (step c S after m)
    step_as m = done_if_as m (slice_get c.ops m.control.at)

    onward_as : (t : Turn S) (f : Machine S → Turn S) (g : Machine T → Turn T) → ((m : Machine S) → g (machine_as h m) ≡ turn_as h (f m)) → onward (turn_as h t) g ≡ turn_as h (onward t f)
    onward_as (On m) f g e = e m
    onward_as (Short m) f g e = refl
    onward_as (Over e s) f g i = refl

    -- a machine goes the same way whoever sees it, and what is seen follows from what is told
    pub steps_as : (n : ℕ) (m : Machine S) → steps c T later n (machine_as h m) ≡ turn_as h (steps c S after n m)
    steps_as zero m = refl
    steps_as (suc n) m = ap (λ t. onward t (steps c T later n)) (step_as m) ∙ onward_as (step c S after m) (steps c S after n) (steps c T later n) (steps_as n)
