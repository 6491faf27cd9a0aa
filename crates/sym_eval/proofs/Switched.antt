-- Arms one after another, against the definition of a switch.
use Rattle.std.proofs.Common.{◌≡◌, ℕ, zero, suc, Bool, true, List, [], ◌∷◌, ◌++◌, length, map, take, refl, sym, ◌∙◌, ap, Option, arith}
use Rattle.std.proofs.lemmas.List.{take_all}
use Rattle.c_core.specs.Tree.{Program, Stms, NoStm, MoreStm, MoreCase}
use Rattle.c_core.specs.View.{joined, stmts_view, switch_view}
use Rattle.c_core.specs.declared.number.IntType.{IntType}
use Rattle.c_core.specs.declared.tree.Arm.{Arm, out-Arm}
use Rattle.c_core.specs.declared.tree.Stmt.{Stmt}
use Rattle.c_core.proofs.View.{arm_views}
use Rattle.c_meaning.specs.Acts.{Res, Go, Stop, Flow, Next, Broken, Again, Gave, bind, go_on, cut, scoped, held}
use Rattle.c_meaning.specs.Exec.{exec, execs, from_arm}
use Rattle.c_meaning.specs.Havoc.{Stopped}
use Rattle.sym_meaning.specs.Mode.{JudgedState, cells_judged, with_cells_judged, Mode}
use Rattle.sym_meaning.specs.Judged.{judged}
use Rattle.sym_choices.specs.Choosing.{done_from}
use Rattle.sym_flow.proofs.Bodies.{out_of_loop}
use Rattle.sym_choices.proofs.Labels.{label_of}
use Rattle.sym_eval.specs.Doing.{calls}
use Rattle.sym_eval.specs.Switching.{arm_done, arms_done}
use Rattle.sym_eval.proofs.Sequences.{go_end, go_both}

-- a `break` that leaves the arms, before and after their cells are gone
left_arms : (n : ℕ) (r : Res Stopped JudgedState Flow)
    → cut Stopped JudgedState cells_judged with_cells_judged n (bind r (λ f t. Go (out_of_loop f) t)) ≡ bind (cut Stopped JudgedState cells_judged with_cells_judged n r) (λ f t. Go (held f) t)
left_arms n (Go Next s) = refl
left_arms n (Go Broken s) = refl
left_arms n (Go Again s) = refl
left_arms n (Go (Gave v) s) = refl
left_arms n (Stop e s) = refl

-- cells that are all kept
all_kept : (s : JudgedState) → with_cells_judged (take (length s.cells) s.cells) s ≡ s
all_kept s = let e : take (length s.cells) s.cells ≡ s.cells = take_all (length s.cells) s.cells (omega arith) in λ i. record s { cells = e i }

module _ (p : Program) (W : Mode) (n : ℕ) (gives : Option IntType) where
  abbrev does : Stms → JudgedState → Res Stopped JudgedState Flow
  does b s = execs p (judged p W) (calls p W n) gives b true s

  execs_joined : (b c : Stms) (s : JudgedState) → does (joined b c) s ≡ bind (does b s) (go_on (does c))
  execs_joined NoStm c s = refl
  execs_joined (MoreStm x b) c s =
      let r = exec p (judged p W) (calls p W n) gives x true s in
      ap (λ k. bind r (go_on k)) (λ i t. execs_joined b c t i) ∙ go_both r (does b) (does c)
  execs_joined (MoreCase spot l b) c s = execs_joined b c s

  -- the chosen arm and all after it
  all_done : (arms : List Arm) (s : JudgedState) → arms_done p W n gives (done_from 0 (map label_of arms)) arms s ≡ does (switch_view arms) s
  all_done [] s = refl
  all_done (a ∷ arms) s =
      let body = stmts_view (out-Arm a).body in
      ap (λ k. bind (does body s) (go_on k)) (λ i t. all_done arms t i) ∙ sym (execs_joined body (switch_view arms) s) ∙ ap (λ b. does b s) (sym (arm_views a (switch_view arms)))

  abbrev from : ℕ → Stms → JudgedState → Res Stopped JudgedState Flow
  from k b s = from_arm p (judged p W) (calls p W n) gives k b true s

  -- the statements of an arm that isn't done
  passed_by : (k : ℕ) (body : List Stmt) (b : Stms) (s : JudgedState) → from k (joined (stmts_view body) b) s ≡ from k b s
  passed_by k [] b s = refl
  passed_by k (x ∷ body) b s = passed_by k body b s

  pub chosen_is : (k : ℕ) (arms : List Arm) (s : JudgedState)
      → scoped Stopped JudgedState cells_judged with_cells_judged (λ t. bind (arms_done p W n gives (done_from k (map label_of arms)) arms t) (λ f u. Go (out_of_loop f) u)) s ≡ from k (switch_view arms) s
  chosen_is k [] s = ap (λ t. Go Next t) (all_kept s)
  chosen_is zero (a ∷ arms) s =
      ap (λ r. cut Stopped JudgedState cells_judged with_cells_judged (length s.cells) (bind r (λ f t. Go (out_of_loop f) t))) (all_done (a ∷ arms) s)
      ∙ left_arms (length s.cells) (does (switch_view (a ∷ arms)) s)
      ∙ ap (λ b. bind (cut Stopped JudgedState cells_judged with_cells_judged (length s.cells) (does b s)) (λ f t. Go (held f) t)) (arm_views a (switch_view arms))
      ∙ ap (λ b. from 0 b s) (sym (arm_views a (switch_view arms)))
  chosen_is (suc k) (a ∷ arms) s =
      chosen_is k arms s ∙ sym (passed_by k (out-Arm a).body (switch_view arms) s) ∙ ap (λ b. from (suc k) b s) (sym (arm_views a (switch_view arms)))

  -- the arms before an index, and one more
  pub arms_snoc : (ts : List Bool) (xs : List Arm) (t : Bool) (x : Arm) (s : JudgedState) → length ts ≡ length xs
      → arms_done p W n gives (ts ++ t ∷ []) (xs ++ x ∷ []) s ≡ bind (arms_done p W n gives ts xs s) (go_on (arm_done p W n gives t (stmts_view (out-Arm x).body)))
  arms_snoc [] [] t x s h = go_end (arm_done p W n gives t (stmts_view (out-Arm x).body) s)
  arms_snoc [] (y ∷ ys) t x s h = absurd (omega (arith, h))
  arms_snoc (u ∷ us) [] t x s h = absurd (omega (arith, h))
  arms_snoc (u ∷ us) (y ∷ ys) t x s h =
      let r = arm_done p W n gives u (stmts_view (out-Arm y).body) s in
      ap (λ k. bind r (go_on k)) (λ i z. arms_snoc us ys t x z (omega (arith, h)) i) ∙ go_both r (arms_done p W n gives us ys) (arm_done p W n gives t (stmts_view (out-Arm x).body))
