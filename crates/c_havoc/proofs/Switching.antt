-- A switch, part by part.
use Rattle.std.proofs.Common.{◌≡◌, ◌∙◌, ℕ, zero, suc, ◌+◌, ◌-◌, ◌<◌, ◌≤◌, ℤ, List, [], ◌∷◌, length, take, drop, get_or, Option, Result, Ok, Err, refl, sym, ap, subst, arith}
use Rattle.std.proofs.lemmas.List.{length-drop}
use Rattle.std.proofs.Math.Seq.{take-length}
use Rattle.c_core.specs.Tree.{Program, Exp, Stms, NoStm, MoreStm, MoreCase, Switch}
use Rattle.c_core.specs.Types.{fit, promote_of}
use Rattle.c_core.specs.Typing.{labels_in}
use Rattle.c_core.specs.View.{joined, stmts_view, switch_view}
use Rattle.c_core.specs.declared.number.IntType.{IntType}
use Rattle.c_core.specs.declared.number.Spot.{Spot}
use Rattle.c_core.specs.declared.tree.Arm.{Arm, out-Arm}
use Rattle.c_core.specs.declared.tree.Stmt.{Stmt}
use Rattle.c_core.proofs.View.{arm_views}
use Rattle.c_core.proofs.ArmLaws.{arms_from}
use Rattle.c_meaning.specs.Duties.{Placed}
use Rattle.c_meaning.specs.Meaning.{Used}
use Rattle.c_meaning.specs.Objects.{type_of}
use Rattle.c_meaning.specs.Acts as acts
use Rattle.c_meaning.specs.Acts.{Res, Go, Stop, bind, go_on}
use Rattle.c_meaning.specs.Havoc.{Stopped, Left}
use Rattle.c_meaning.specs.Run.{arm_for}
use Rattle.run_state.specs.Interpreting.{same, flow_of}
use Rattle.run_state.specs.declared.machine.Flow.{Flow}
use Rattle.run_state.specs.declared.machine.Flow.TheVariants.{Next}
use Rattle.havoc_state.specs.Havocking.{Gives, fulled, executed, formed, sequenced, arms_done, held_arms}
use Rattle.havoc_state.specs.declared.machine.Halt.{Halt}
use Rattle.havoc_state.proofs.Giving.{halted, passed}
use Rattle.c_havoc.proofs.Executing.{left_by}

-- the arms from one on are a slice
pub rest_taken : (arms : List Arm) (k : ℕ) → take (length arms - k) (drop k arms) ≡ drop k arms
rest_taken arms k = ap (λ m. take m (drop k arms)) (sym (length-drop k arms)) ∙ take-length (drop k arms)

module _ (p : Program) (I : List Placed) (n : ℕ) (result : Option IntType) where
  -- the arms from the one on that the value of a test chooses in the promoted type
  pub switch_goes : (at : Spot) (e : Exp) (b : Stms) (v : ℤ) (k : ℕ) (s t x : Left) (r : Result Flow Halt) → Gives same (Ok v) t (fulled p I n at Used e s) → k ≡ arm_for (fit p.model (promote_of (type_of e)) v) (labels_in b)
      → Gives flow_of r x (arms_done p I n result k b t) → Gives flow_of r x (formed p I n result at (Switch e b) s)
  switch_goes at e b v k s t x r f is g =
      passed same flow_of v t x (fulled p I n at Used e s) (λ y. arms_done p I n result (arm_for (fit p.model (promote_of (type_of e)) y) (labels_in b)) b) r f
      (subst (λ m. Gives flow_of r x (arms_done p I n result m b t)) is g)

  -- statements before an arm have no arm
  skipped : (k : ℕ) (body : List Stmt) (b : Stms) (s : Left) → arms_done p I n result k (joined (stmts_view body) b) s ≡ arms_done p I n result k b s
  skipped k [] b s = refl
  skipped k (x ∷ body) b s = skipped k body b s

  -- the arms from one on are held
  pub arms_are : (arms : List Arm) (k : ℕ) → k < length arms → (s : Left) → arms_done p I n result k (switch_view arms) s ≡ held_arms p I n result (switch_view (drop k arms)) s
  arms_are [] k l s = absurd (omega (arith, l))
  arms_are (a ∷ arms) zero l s =
      ap (λ b. arms_done p I n result 0 b s) (arm_views a (switch_view arms)) ∙ sym (ap (λ b. held_arms p I n result b s) (arm_views a (switch_view arms)))
  arms_are (a ∷ arms) (suc k) l s =
      ap (λ b. arms_done p I n result (suc k) b s) (arm_views a (switch_view arms)) ∙ skipped k (out-Arm a).body (switch_view arms) s ∙ arms_are arms k (omega (arith, l)) s

  pub no_arm : (arms : List Arm) (k : ℕ) → length arms ≤ k → (s : Left) → arms_done p I n result k (switch_view arms) s ≡ Go acts.Next s
  no_arm [] k l s = refl
  no_arm (a ∷ arms) zero l s = absurd (omega (arith, l))
  no_arm (a ∷ arms) (suc k) l s =
      ap (λ b. arms_done p I n result (suc k) b s) (arm_views a (switch_view arms)) ∙ skipped k (out-Arm a).body (switch_view arms) s ∙ no_arm arms k (omega (arith, l)) s

  -- what is known of the statements after one serves after it, however it is left
  after_one : (b c : Stms) → ((t : Left) → sequenced p I n result (joined b c) t ≡ bind (sequenced p I n result b t) (go_on (sequenced p I n result c))) → (r : Res Stopped Left acts.Flow)
      → bind r (go_on (sequenced p I n result (joined b c))) ≡ bind (bind r (go_on (sequenced p I n result b))) (go_on (sequenced p I n result c))
  after_one b c h (Go acts.Next t) = h t
  after_one b c h (Go acts.Broken t) = refl
  after_one b c h (Go acts.Again t) = refl
  after_one b c h (Go (acts.Gave v) t) = refl
  after_one b c h (Stop e t) = refl

  -- statements one after another
  joined_are : (b c : Stms) (s : Left) → sequenced p I n result (joined b c) s ≡ bind (sequenced p I n result b s) (go_on (sequenced p I n result c))
  joined_are NoStm c s = refl
  joined_are (MoreStm x b) c s = after_one b c (λ t. joined_are b c t) (executed p I n result x s)
  joined_are (MoreCase spot l b) c s = joined_are b c s

  -- arms in turn
  module _ (arms : List Arm) (i : ℕ) (a : Arm) (inside : i < length arms) (here : a ≡ get_or arms i a) (s u : Left) (whole : Res Stopped Left acts.Flow)
      (rest : sequenced p I n result (switch_view (drop i arms)) s ≡ whole) where
    abbrev body : Res Stopped Left acts.Flow
    body = sequenced p I n result (stmts_view (out-Arm a).body) s

    abbrev later : Left → Res Stopped Left acts.Flow
    later = sequenced p I n result (switch_view (drop (i + 1) arms))

    next_arm : bind body (go_on later) ≡ whole
    next_arm =
        sym (joined_are (stmts_view (out-Arm a).body) (switch_view (drop (i + 1) arms)) s)
        ∙ sym (ap (λ b. sequenced p I n result b s) (arms_from arms i a inside here)) ∙ rest

    pub arms_halted : (h : Halt) → Gives flow_of (Err h) u body → Gives flow_of (Err h) u whole
    arms_halted h g = subst (Gives flow_of (Err h) u) next_arm (halted flow_of flow_of h u body (go_on later) g)

    pub arms_on : body ≡ Go acts.Next u → later u ≡ whole
    arms_on g = ap (λ q. bind q (go_on later)) (sym g) ∙ next_arm

    pub arms_left : (f : Flow) → body ≡ Go (flow_of f) u → (f ≡ Next → ⊥) → whole ≡ Go (flow_of f) u
    arms_left f g k = sym next_arm ∙ ap (λ q. bind q (go_on later)) g ∙ left_by later f u k
