-- What machines reach, part by part.
use Rattle.std.proofs.Common.{◌≡◌, ℕ, zero, suc, ◌+◌, List, refl, sym, ap, ◌∙◌, arith}
use Rattle.c_meaning.specs.declared.run.End.{End}
use Rattle.c_meaning.specs.declared.run.Event.{Event}
use Rattle.c_meaning.specs.Cells.{Cell}
use Rattle.c_meaning.specs.Acts.{Res, Go, Stop, bind}
use Rattle.c_meaning.specs.Run.{State}
use Rattle.flow_code.specs.declared.code.Code.{Code}
use Rattle.flow_laws.specs.Machines.{Machine}
use Rattle.flow_laws.specs.Stepping.{Turn, On, Short, Over, onward, outcome, step, steps, Reaches, Ends, Does}

onward_twice : {S : Type 0} (t : Turn S) (f g : Machine S → Turn S) → onward (onward t f) g ≡ onward t (λ x. onward (f x) g)
onward_twice (On m) f g = refl
onward_twice (Short m) f g = refl
onward_twice (Over e s) f g = refl

onward_same : {S : Type 0} (t : Turn S) (f g : Machine S → Turn S) → ((x : Machine S) → f x ≡ g x) → onward t f ≡ onward t g
onward_same (On m) f g h = h m
onward_same (Short m) f g h = refl
onward_same (Over e s) f g h = refl

module _ (c : Code) (S : Type 0) (after : Event → List Cell → S → S) where
  -- some operations, and then some more
  pub steps_on : (n m : ℕ) (x : Machine S) → steps c S after (n + m) x ≡ onward (steps c S after n x) (steps c S after m)
  steps_on zero m x = let e : 0 + m ≡ m = omega arith in rw e refl
  steps_on (suc n) m x =
      let e : suc n + m ≡ suc (n + m) = omega arith in
      rw e (onward_same (step c S after x) (steps c S after (n + m)) (λ y. onward (steps c S after n y) (steps c S after m)) (steps_on n m)
      ∙ sym (onward_twice (step c S after x) (steps c S after n) (steps c S after m)))

  pub reaches_itself : (m : Machine S) → Reaches c S after m m
  reaches_itself m = record { count = 0; is = refl }

  pub reaches_on : (x y z : Machine S) → Reaches c S after x y → Reaches c S after y z → Reaches c S after x z
  reaches_on x y z r q = record {
    count = r.count + q.count;
    is = steps_on r.count q.count x ∙ ap (λ t. onward t (steps c S after q.count)) r.is ∙ q.is;
  }

  pub ends_on : (x y : Machine S) (e : End) (s : State S) → Reaches c S after x y → Ends c S after y e s → Ends c S after x e s
  ends_on x y e s r q = record {
    count = r.count + q.count;
    is = ap outcome (steps_on r.count q.count x ∙ ap (λ t. onward t (steps c S after q.count)) r.is) ∙ q.is;
  }

  onward_end : (t : Turn S) (f : Machine S → Turn S) (e : End) (s : State S) → outcome t ≡ Stop e s → outcome (onward t f) ≡ Stop e s
  onward_end (On m) f e s h = cc
  onward_end (Short m) f e s h = h
  onward_end (Over x u) f e s h = h

  pub one_step : (x y : Machine S) → step c S after x ≡ On y → Reaches c S after x y
  one_step x y h = record { count = 1; is = ap (λ t. onward t (steps c S after 0)) h }

  pub one_end : (x : Machine S) (e : End) (s : State S) → outcome (step c S after x) ≡ Stop e s → Ends c S after x e s
  one_end x e s h = record { count = 1; is = onward_end (step c S after x) (steps c S after 0) e s h }

  pub does_from : {A : Type 0} (x y : Machine S) (r : Res End (State S) A) (K : A → State S → Machine S → Type 0) → Reaches c S after x y → Does c S after y r K → Does c S after x r K
  does_from x y (Go a s) K q d = (d.0, reaches_on x y d.0 q d.1, d.2)
  does_from x y (Stop e s) K q d = ends_on x y e s q d

  -- a part, and what comes behind it
  pub does_then : {A B : Type 0} (x : Machine S) (r : Res End (State S) A) (k : A → State S → Res End (State S) B) (K : A → State S → Machine S → Type 0) (L : B → State S → Machine S → Type 0)
      → Does c S after x r K → ((a : A) (s : State S) (y : Machine S) → K a s y → Does c S after y (k a s) L) → Does c S after x (bind r k) L
  does_then x (Go a s) k K L d f = does_from x d.0 (k a s) L d.1 (f a s d.0 d.2)
  does_then x (Stop e s) k K L d f = d

  -- nothing is left to do
  pub does_nothing : {A : Type 0} (x : Machine S) (a : A) (K : A → State S → Machine S → Type 0) → K a x.run x → Does c S after x (Go a x.run) K
  does_nothing x a K h = (x, reaches_itself x, h)
