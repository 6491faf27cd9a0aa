-- Statements and then others are done one after the other.
use Rattle.std.proofs.Common.{◌≡◌, Option, refl}
use Rattle.c_core.specs.Tree.{Stms, NoStm, MoreStm, MoreCase, Program}
use Rattle.c_core.specs.View.{joined}
use Rattle.c_core.specs.declared.number.IntType.{IntType}
use Rattle.c_meaning.specs.declared.run.End.{End}
use Rattle.c_meaning.specs.Meaning.{Calls}
use Rattle.c_meaning.specs.Acts.{Res, Go, Stop, Flow, Next, Broken, Again, Gave, bind, go_on}
use Rattle.c_meaning.specs.Run.{Moment, State, real}
use Rattle.c_meaning.specs.Exec.{execs, exec}

module _ (p : Program) (S : Type 0) (see : Moment → S → S) (call : Calls (real p S see)) (result : Option IntType) where
  abbrev done : Stms → State S → Res End (State S) Flow
  done b = execs p (real p S see) call result b

  -- what is known of the later statements serves after the first, however it is left
  after : (b c : Stms) → ((t : State S) → done (joined b c) t ≡ bind (done b t) (go_on (done c))) → (r : Res End (State S) Flow) → bind r (go_on (done (joined b c))) ≡ bind (bind r (go_on (done b))) (go_on (done c))
  after b c h (Go Next t) = h t
  after b c h (Go Broken t) = refl
  after b c h (Go Again t) = refl
  after b c h (Go (Gave v) t) = refl
  after b c h (Stop e t) = refl

  pub execs_joined : (b c : Stms) (s : State S) → done (joined b c) s ≡ bind (done b s) (go_on (done c))
  execs_joined NoStm c s = refl
  execs_joined (MoreStm x b) c s = after b c (λ t. execs_joined b c t) (exec p (real p S see) call result x s)
  execs_joined (MoreCase spot l b) c s = execs_joined b c s
