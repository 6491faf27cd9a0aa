-- A switch, part by part.
use Rattle.std.proofs.Common.{◌≡◌, ◌∙◌, ℕ, zero, suc, ◌+◌, ◌-◌, ◌<◌, ◌≤◌, ℤ, List, [], ◌∷◌, length, take, drop, get_or, Option, Result, Ok, Err, refl, sym, ap, subst, arith}
use Rattle.std.proofs.lemmas.List.{length-drop}
use Rattle.std.proofs.Math.Seq.{take-length}
use Rattle.c_core.specs.Tree.{Program, Exp, Stms, Switch}
use Rattle.c_core.specs.Types.{fit, promote_of}
use Rattle.c_core.specs.Typing.{labels_in}
use Rattle.c_core.specs.View.{joined, stmts_view, switch_view}
use Rattle.c_core.specs.declared.number.IntType.{IntType}
use Rattle.c_core.specs.declared.number.Spot.{Spot}
use Rattle.c_core.specs.declared.tree.Arm.{Arm, out-Arm}
use Rattle.c_core.specs.declared.tree.Stmt.{Stmt}
use Rattle.c_core.proofs.View.{arm_views}
use Rattle.c_core.proofs.ArmLaws.{arms_from}
use Rattle.c_meaning.specs.declared.run.Event.{Event}
use Rattle.c_meaning.specs.Cells.{Cell}
use Rattle.c_meaning.specs.Meaning.{Used}
use Rattle.c_meaning.specs.Objects.{type_of}
use Rattle.c_meaning.specs.Acts as acts
use Rattle.c_meaning.specs.Acts.{Go}
use Rattle.c_meaning.specs.Run.{State}
use Rattle.c_meaning.specs.Watching.{seen_by}
use Rattle.run_state.specs.Ways as w
use Rattle.run_state.specs.Ways.{Ran, bound}
use Rattle.run_state.specs.Interpreting.{Gives, same, flow_of, watched, calls, selecting, fulled, formed, sequenced, arms_done, held_arms}
use Rattle.run_state.specs.declared.machine.Flow.{Flow}
use Rattle.run_state.specs.declared.machine.Flow.TheVariants.{Next}
use Rattle.run_state.specs.declared.machine.Halt.{Halt}
use Rattle.run_state.proofs.Giving.{Behind, halted, passed, starts, left_behind, halted_behind}
use Rattle.run_state.proofs.Joining.{ways_joined}
use Rattle.c_interpreter.proofs.Executing.{left_by}

-- the arms from one on are a slice
pub rest_taken : (arms : List Arm) (k : ℕ) → take (length arms - k) (drop k arms) ≡ drop k arms
rest_taken arms k = ap (λ m. take m (drop k arms)) (sym (length-drop k arms)) ∙ take-length (drop k arms)

module _ (p : Program) (S : Type 0) (after : Event → List Cell → S → S) (n : ℕ) (result : Option IntType) where
  -- a test, then the arm that its value chooses in the promoted type, then the arms from that one on
  module _ (at : Spot) (e : Exp) (b : Stms) (v : ℤ) (s t : State S) (first : Gives same (Ok v) t (fulled p S after n at Used e s)) where
    abbrev promoted : ℤ → ℤ
    promoted x = fit p.model (promote_of (type_of e)) x

    abbrev doing : ℕ → State S → Ran S acts.Flow
    doing k = arms_done p S after n result k b

    abbrev choosing : ℤ → State S → Ran S acts.Flow
    choosing x u = bound (selecting p S after at (promoted x) (labels_in b) u) doing

    pub switch_halts : (u : State S) (h : Halt) → Gives same (Err h) u (selecting p S after at (promoted v) (labels_in b) t) → Gives flow_of (Err h) u (formed p S after n result at (Switch e b) s)
    switch_halts u h g =
        passed same flow_of v t u (fulled p S after n at Used e s) choosing (Err h) first (halted same flow_of h u (selecting p S after at (promoted v) (labels_in b) t) doing g)

    pub switch_goes : (k : ℕ) (u x : State S) (r : Result Flow Halt) → Gives same (Ok k) u (selecting p S after at (promoted v) (labels_in b) t)
        → Gives flow_of r x (arms_done p S after n result k b u) → Gives flow_of r x (formed p S after n result at (Switch e b) s)
    switch_goes k u x r f g =
        passed same flow_of v t x (fulled p S after n at Used e s) choosing r first (passed same flow_of k u x (selecting p S after at (promoted v) (labels_in b) t) doing r f g)

  -- statements before an arm have no arm
  skipped : (k : ℕ) (body : List Stmt) (b : Stms) (s : State S) → arms_done p S after n result k (joined (stmts_view body) b) s ≡ arms_done p S after n result k b s
  skipped k [] b s = refl
  skipped k (x ∷ body) b s = skipped k body b s

  -- the arms from one on are held
  pub arms_are : (arms : List Arm) (k : ℕ) → k < length arms → (s : State S) → arms_done p S after n result k (switch_view arms) s ≡ held_arms p S after n result (switch_view (drop k arms)) s
  arms_are [] k l s = absurd (omega (arith, l))
  arms_are (a ∷ arms) zero l s =
      ap (λ b. arms_done p S after n result 0 b s) (arm_views a (switch_view arms)) ∙ sym (ap (λ b. held_arms p S after n result b s) (arm_views a (switch_view arms)))
  arms_are (a ∷ arms) (suc k) l s =
      ap (λ b. arms_done p S after n result (suc k) b s) (arm_views a (switch_view arms)) ∙ skipped k (out-Arm a).body (switch_view arms) s ∙ arms_are arms k (omega (arith, l)) s

  pub no_arm : (arms : List Arm) (k : ℕ) → length arms ≤ k → (s : State S) → (arms_done p S after n result k (switch_view arms) s).result ≡ Go acts.Next s
  no_arm [] k l s = refl
  no_arm (a ∷ arms) zero l s = absurd (omega (arith, l))
  no_arm (a ∷ arms) (suc k) l s =
      ap (λ b. (arms_done p S after n result (suc k) b s).result) (arm_views a (switch_view arms)) ∙ ap (λ (q : Ran S acts.Flow). q.result) (skipped k (out-Arm a).body (switch_view arms) s)
      ∙ no_arm arms k (omega (arith, l)) s

  -- arms in turn
  module _ (arms : List Arm) (i : ℕ) (a : Arm) (inside : i < length arms) (here : a ≡ get_or arms i a) (s u : State S) (whole : Ran S acts.Flow)
      (rest : Behind (sequenced p S after n result (switch_view (drop i arms)) s) whole) where
    abbrev body : Ran S acts.Flow
    body = sequenced p S after n result (stmts_view (out-Arm a).body) s

    abbrev later : State S → Ran S acts.Flow
    later = sequenced p S after n result (switch_view (drop (i + 1) arms))

    next_arm : Behind (bound body (w.go_on p S (seen_by after) later)) whole
    next_arm =
        starts _ _ whole
        (sym (ways_joined p S (seen_by after) (calls p S after n) result (stmts_view (out-Arm a).body) (switch_view (drop (i + 1) arms)) s)
        ∙ sym (ap (λ b. sequenced p S after n result b s) (arms_from arms i a inside here))) rest

    pub arms_halted : (h : Halt) → Gives flow_of (Err h) u body → Gives flow_of (Err h) u whole
    arms_halted h g = halted_behind flow_of flow_of h u body (w.go_on p S (seen_by after) later) whole next_arm g

    pub arms_on : Gives flow_of (Ok Next) u body → Behind (later u) whole
    arms_on g = left_behind flow_of Next u body (w.go_on p S (seen_by after) later) whole g next_arm

    pub arms_left : (f : Flow) → Gives flow_of (Ok f) u body → (f ≡ Next → ⊥) → Gives flow_of (Ok f) u whole
    arms_left f g k = sym (left_behind flow_of f u body (w.go_on p S (seen_by after) later) whole g next_arm).result ∙ left_by p S after later f u k
