-- Statements one after another are done one after the other, and what was seen on their way follows.
use Rattle.std.proofs.Common.{◌≡◌, refl, sym, ◌∙◌, Option}
use Rattle.c_core.specs.Tree.{Program, Stms, NoStm, MoreStm, MoreCase}
use Rattle.c_core.specs.View.{joined}
use Rattle.c_core.specs.declared.number.IntType.{IntType}
use Rattle.c_meaning.specs.Meaning.{Calls}
use Rattle.c_meaning.specs.Acts.{Flow, Next, Broken, Again, Gave}
use Rattle.c_meaning.specs.Exec.{exec, execs}
use Rattle.c_meaning.specs.Run.{State, Moment}
use Rattle.run_state.specs.Ways.{Ran, bound, go_on, ways}
use Rattle.run_state.proofs.Giving.{bound_on, bound_alike}

module _ (p : Program) (S : Type 0) (see : Moment → S → S) (call : Calls (ways p S see)) (result : Option IntType) where
  abbrev done : Stms → State S → Ran S Flow
  done b = execs p (ways p S see) call result b

  -- what is known of the statements after one serves after it, however it is left
  behind : (b c : Stms) → ((t : State S) → done (joined b c) t ≡ bound (done b t) (go_on p S see (done c))) → (f : Flow) (t : State S)
      → go_on p S see (done (joined b c)) f t ≡ bound (go_on p S see (done b) f t) (go_on p S see (done c))
  behind b c h Next t = h t
  behind b c h Broken t = refl
  behind b c h Again t = refl
  behind b c h (Gave v) t = refl

  pub ways_joined : (b c : Stms) (s : State S) → done (joined b c) s ≡ bound (done b s) (go_on p S see (done c))
  ways_joined NoStm c s = refl
  ways_joined (MoreStm x b) c s =
      let r = exec p (ways p S see) call result x s in
      bound_alike r (go_on p S see (done (joined b c))) (λ f t. bound (go_on p S see (done b) f t) (go_on p S see (done c))) (behind b c (λ t. ways_joined b c t))
      ∙ sym (bound_on r (go_on p S see (done b)) (go_on p S see (done c)))
  ways_joined (MoreCase spot l b) c s = ways_joined b c s
