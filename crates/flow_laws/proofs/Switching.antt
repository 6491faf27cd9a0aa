-- `switch`: its test, the choice of an arm, and the statements from there on.
use Rattle.std.proofs.Common.{◌≡◌, ◌≤◌, ℕ, zero, suc, ◌+◌, ℤ, Bool, true, false, ◌||◌, List, ◌∷◌, Option, Some, None, refl, sym, ap, subst, arith}
use Rattle.std.proofs.Math.Seq.{take-length}
use Rattle.c_core.specs.Types.{fit, promote_of}
use Rattle.c_core.specs.Tree.{Program, Exp, Stm, Stms, NoStm, MoreStm, MoreCase, Switch}
use Rattle.c_core.specs.Typing.{labels_in}
use Rattle.c_core.specs.declared.number.IntType.{IntType}
use Rattle.c_core.specs.declared.number.Spot.{Spot}
use Rattle.c_core.specs.declared.tree.Label.{Label as ArmLabel}
use Rattle.c_meaning.specs.declared.run.End.{End}
use Rattle.c_meaning.specs.declared.run.Event.{Event}
use Rattle.c_meaning.specs.Acts.{Res, Go, Stop, Flow, Next, Broken, Again, Gave, bind, held, scoped, breaks}
use Rattle.c_meaning.specs.Cells.{Cell}
use Rattle.c_meaning.specs.Exec.{execs, from_arm}
use Rattle.c_meaning.specs.Meaning.{Used, Meaning, Calls}
use Rattle.c_meaning.specs.Objects.{type_of}
use Rattle.c_meaning.specs.Run.{State, cells_of, with_cells, arm_for, way_for}
use Rattle.c_meaning.specs.Run as run
use Rattle.c_meaning.specs.Watching.{seen_by}
use Rattle.flow_code.specs.declared.code.Action.TheVariants.{Convert}
use Rattle.flow_code.specs.declared.code.Code.{Code}
use Rattle.flow_code.specs.declared.code.Into.{Into}
use Rattle.flow_code.specs.declared.code.Then.TheVariants.{Push}
use Rattle.flow_code.specs.declared.statements.Inside.{Inside}
use Rattle.flow_code.specs.Preparing.{only, scope}
use Rattle.flow_code.specs.Sizes.{operand_of, with_one, size, leaks, any_leaks, size_of_statement, size_of_block, size_of_arms}
use Rattle.flow_code.specs.Statements.{full_of, deeper, in_switch, arm_at, selection_code, switch_test_code, statement_code, block_code, arms_code}
use Rattle.flow_code.specs.Words.{native, native_if}
use Rattle.flow_code.proofs.Lengths.{followed_size}
use Rattle.flow_laws.specs.Machines.{Control, Machine}
use Rattle.flow_laws.specs.Acting.{finished}
use Rattle.flow_laws.specs.Stepping.{Does}
use Rattle.flow_laws.specs.inside.Simulating.{HasCode, control_at, meaning, calls, paying, Finishes, LeavesAs}
use Rattle.flow_laws.proofs.Reaching.{reaches_itself, does_from}
use Rattle.flow_laws.proofs.Known.{Known}
use Rattle.flow_laws.proofs.Leaving.{Part, FormRuns, BlockRuns, other_end, steps_there}
use Rattle.flow_laws.proofs.Neutral.{Neutral, calls_neutral, execs_neutral, neutral_then, select_neutral}
use Rattle.flow_laws.proofs.Operations.{standing, Comes, paying_behind}
use Rattle.flow_laws.proofs.Operands.{Eval, goes_to, Values, operand_comes}
use Rattle.flow_laws.proofs.Answering.{convert_takes}
use Rattle.flow_laws.proofs.Scopes.{scope_takes}
use Rattle.flow_laws.proofs.Selecting.{reported, selects}
use Rattle.flow_laws.proofs.Sized.{statement_size, block_size, switch_test_size}
use Rattle.flow_laws.proofs.Standing.{has_followed, does_on, does_so, does_made, reaches_made, jumps}

-- the statements behind the label of a number, none where there are fewer labels
abbrev pub behind_label_of : ℕ → Stms → Stms
behind_label_of n NoStm = NoStm
behind_label_of n (MoreStm s b) = behind_label_of n b
behind_label_of zero (MoreCase spot l b) = b
behind_label_of (suc n) (MoreCase spot l b) = behind_label_of n b

-- they declare names only where all together do
few_leak : (n : ℕ) (b : Stms) → any_leaks b ≡ false → any_leaks (behind_label_of n b) ≡ false
few_leak n NoStm e = refl
few_leak n (MoreStm s b) e = few_leak n b (second (leaks s) (any_leaks b) e)
  where
    second : (x y : Bool) → (x || y) ≡ false → y ≡ false
    second true y e = cc
    second false y e = e
few_leak zero (MoreCase spot l b) e = e
few_leak (suc n) (MoreCase spot l b) e = few_leak n b e

module _ (p : Program) (c : Code) (S : Type 0) (after : Event → List Cell → S → S) (n : ℕ) (known : Known p c S after n)
    (result : Option IntType) where
  abbrev M : Meaning
  M = meaning p c S after

  -- calls at most n deep
  abbrev call : Calls M
  call = calls p c S after n

  -- ---- the statements from an arm on

  -- from the arm of a number on, the code of a block's statements does what these mean
  abbrev pub ArmRuns : ℕ → Stms → Type 0
  ArmRuns j b = (i : ℕ) (w : Inside) (k : Control) (s : State S) → w.result ≡ native_if p.model result
      → HasCode c i (block_code p i w b) → s.steps ≤ n
      → Does c S after (standing k (arm_at w.depth i j b) s) (execs p M call result (behind_label_of j b) s)
      (LeavesAs p c S after w k (i + size_of_block w.depth b))

  pub no_arm_runs : (j : ℕ) → ArmRuns j NoStm
  no_arm_runs j i w k s e h b = let a : i ≡ i + 0 = omega arith in
      (standing k i s, reaches_itself c S after (standing k i s), (refl, ap (control_at k) a))

  pub behind_statement : (j : ℕ) (st : Stm) (b : Stms) → ArmRuns j b → ArmRuns j (MoreStm st b)
  behind_statement j st b runs i w k s e h l =
      let z = size_of_statement w.depth st in
      let q = has_followed c i z (statement_code p i w st) (λ j. block_code p j w b) (statement_size p i w st) h in
      let a : i + z + size_of_block w.depth b ≡ i + (z + size_of_block w.depth b) = omega arith in
      let from = standing k (arm_at w.depth (i + z) j b) s in
      other_end p c S after n known result from (execs p M call result (behind_label_of j b) s) w k
      (i + z + size_of_block w.depth b) (i + (z + size_of_block w.depth b)) a (runs (i + z) w k s e q.1 l)

  -- a label among statements does nothing
  pub label_run : (spot : Spot) (l : ArmLabel) (b : Stms) → BlockRuns p c S after n known result b
      → BlockRuns p c S after n known result (MoreCase spot l b)
  label_run spot l b runs i w k s e h m = runs i w k s e h m

  pub this_arm_runs : (spot : Spot) (l : ArmLabel) (b : Stms) → BlockRuns p c S after n known result b
      → ArmRuns zero (MoreCase spot l b)
  this_arm_runs spot l b runs i w k s e h m = runs i w k s e h m

  pub behind_label : (j : ℕ) (spot : Spot) (l : ArmLabel) (b : Stms) → ArmRuns j b → ArmRuns (suc j) (MoreCase spot l b)
  behind_label j spot l b runs i w k s e h m = runs i w k s e h m

  -- ---- the choice of an arm

  -- a scope, whose end `break` leads to
  abbrev held_in : Part p c S after n known result → Part p c S after n known result
  held_in m = breaks End (State S) cells_of with_cells m

  -- the arms of the meaning are the statements from one on, in a scope
  from_arm_as : (j : ℕ) (b : Stms) (s : State S) → from_arm p M call result j b s ≡ held_in
      (execs p M call result (behind_label_of j b)) s
  from_arm_as j NoStm s = sym (ap (λ cs. Go Next (with_cells cs s)) (take-length s.cells))
  from_arm_as j (MoreStm st b) s = from_arm_as j b s
  from_arm_as zero (MoreCase spot l b) s = refl
  from_arm_as (suc j) (MoreCase spot l b) s = from_arm_as j b s

  -- the statements that a value chooses, after the report of the way
  abbrev taken_by : Spot → ℤ → Stms → Part p c S after n known result
  taken_by at x b s = bind (run.selected p S (seen_by after) at x (labels_in b) s)
      (λ j u. execs p M call result (behind_label_of j b) u)

  -- the report changes no cell, so that it may stand in the scope
  chosen_in : (at : Spot) (x : ℤ) (b : Stms) (s : State S)
      → bind (run.selected p S (seen_by after) at x (labels_in b) s) (λ j u. from_arm p M call result j b u) ≡ held_in
      (taken_by at x b) s
  chosen_in at x b s = from_arm_as (arm_for x (labels_in b)) b _

  taken_neutral : (at : Spot) (x : ℤ) (b : Stms) → any_leaks b ≡ false → Neutral S (taken_by at x b)
  taken_neutral at x b e =
      neutral_then S (run.selected p S (seen_by after) at x (labels_in b))
      (λ j. execs p M call result (behind_label_of j b)) (select_neutral p S (seen_by after) at x (labels_in b))
      (λ j. execs_neutral p S (seen_by after) call (calls_neutral p S (seen_by after) n) result (behind_label_of j b)
      (few_leak j b e))

  -- after the arms: `break` jumps from there, since no scope of the `switch` is open
  held_left : (w : Inside) (k : Control) (end : ℕ) (f : Flow) (u : State S) (y : Machine S)
      → LeavesAs p c S after (in_switch end w) k end f u y → Does c S after y (Go (held f) u)
      (LeavesAs p c S after w k end)
  held_left w k end Next u y h = (y, reaches_itself c S after y, h)
  held_left w k end Broken u y h = (
    standing k end u,
    reaches_made c S after y (standing k end u) (control_at k h.1.0) u h.0 h.1.1
        (jumps c S after p h.1.0 end k u h.1.2.0),
    (refl, refl),
  )
  held_left w k end Again u y h = (y, reaches_itself c S after y, h)
  held_left w k end (Gave None) u y h = (y, reaches_itself c S after y, h)
  held_left w k end (Gave (Some v)) u y h = (y, reaches_itself c S after y, h)

  -- inside the scope: the value chooses, and then the statements are done
  arms_from : (at : Spot) (x : ℤ) (b : Stms) → ((j : ℕ) → ArmRuns j b)
      → (v : Inside) (l : Control) (j : ℕ) (s : State S) → v.result ≡ native_if p.model result
      → HasCode c j (arms_code p j v at b) → s.steps ≤ n
      → Does c S after (standing (record l { stack = x ∷ l.stack }) j s) (taken_by at x b s)
      (λ f u y. LeavesAs p c S after v l (j + (1 + size_of_block v.depth b)) f u y × Unit {0})
  arms_from at x b runs v l j s e h m =
      let first : ℕ = 1 in
      let z = first + size_of_block v.depth b in
      let chosen = arm_for x (labels_in b) in
      let q = has_followed c j first (selection_code v.depth at (j + first) b) (λ i. block_code p i v b)
      refl h in
      let t = reported p c S after at x l s (way_for x (labels_in b)) in
      let there = standing l (arm_at v.depth (j + first) chosen b) t in
      let part = execs p M call result (behind_label_of chosen b) in
      let end : j + first + size_of_block v.depth b ≡ j + z = omega arith in
      does_from c S after (standing (record l { stack = x ∷ l.stack }) j s) there (part t)
      (λ f u y. LeavesAs p c S after v l (j + z) f u y × Unit {0})
      (selects p c S after at x l s v.depth j (j + first) b q.0)
      (does_so c S after there (part t) (LeavesAs p c S after v l (j + z))
      (λ f u y. LeavesAs p c S after v l (j + z) f u y × Unit {0})
      (other_end p c S after n known result there (part t) v l (j + first + size_of_block v.depth b) (j + z) end
      (runs chosen (j + first) v l t e q.1 m))
      (λ f u y o r left. (left, tt)))

  -- the arms, where the converted value of the test is on the stack
  arms_do : (at : Spot) (x : ℤ) (b : Stms) → ((j : ℕ) → ArmRuns j b)
      → (i end : ℕ) (w : Inside) (k : Control) (s : State S) → w.result ≡ native_if p.model result
      → i + size_of_arms w.depth b ≡ end
      → HasCode c i (scope (any_leaks b) i (λ l. arms_code p l (deeper (any_leaks b) (in_switch end w)) at b))
      → s.steps ≤ n
      → Does c S after (standing (record k { stack = x ∷ k.stack }) i s) (held_in (taken_by at x b) s)
      (LeavesAs p c S after w k end)
  arms_do at x b runs i end w k s e g h m =
      let v = deeper (any_leaks b) (in_switch end w) in
      let first : ℕ = 1 in
      let z = first + size_of_block v.depth b in
      let part = taken_by at x b in
      let selected = λ (j : ℕ). selection_code v.depth at (j + first) b in
      let arms = λ (j : ℕ). arms_code p j v at b in
      does_on c S after (standing (record k { stack = x ∷ k.stack }) i s)
      (scoped End (State S) cells_of with_cells part s) (λ f u. Go (held f) u)
      (λ f u y. LeavesAs p c S after (in_switch end w) k (i + size_of_arms w.depth b) f u y × Unit {0})
      (LeavesAs p c S after w k end)
      (scope_takes p c S after (λ _. Unit {0}) (any_leaks b) (in_switch end w) k (x ∷ k.stack) i z arms part s h
      (λ j. followed_size j (selected j) (λ l. block_code p l v b) first (size_of_block v.depth b)
      refl (λ l. block_size p l v b))
      (taken_neutral at x b)
      (λ j l o q. subst (λ vs. Does c S after (standing (record l { stack = x ∷ vs }) j s) (part s)
      (λ f u y. LeavesAs p c S after v l (j + z) f u y × Unit {0})) o (arms_from at x b runs v l j s e q m)))
      (λ f u y q r t. held_left w k end f u y (subst (λ j. LeavesAs p c S after (in_switch end w) k j f u y) g t.0))

  -- ---- the test

  comes_as : (m : Machine S) (r : Res End (State S) ℤ) (κ : Control) (j : ℕ) (x : Into)
      → Does c S after m r (Finishes p c S after κ j x) → Comes p c S after m (bind r (goes_to p c S after n κ j x))
  comes_as m (Go v s) κ j x d = subst (Comes p c S after m) (sym d.2) (d.0, d.1, (refl, refl))
  comes_as m (Stop e s) κ j x d = d

  -- expressions, stated by the control that the machine comes to
  values : (e : Exp) → Values p c S after n e
  values e at i k want then κ s h below =
      subst (Comes p c S after (standing κ i s)) (paying_behind p c S after k (Eval p c S after n at want e)
      (goes_to p c S after n κ (i + size e) (only then)) s)
      (comes_as (standing κ i s) (paying p c S after k (Eval p c S after n at want e) s) (control_at κ i) (i + size e)
      (only then)
      (known.evaluated e at i k want then (standing κ i s) h (record { at = refl; paid = refl }) below))

  -- a value, and what comes after it
  comes_to : {A : Type 0} (m : Machine S) (r : Res End (State S) ℤ) (h : ℤ → Control)
      (f : ℤ → State S → Res End (State S) A) (L : A → State S → Machine S → Type 0)
      → Comes p c S after m (bind r (λ v u. Go (h v) u)) → ((v : ℤ) (u : State S) → u.steps ≤ m.run.steps
      → Does c S after (record { control = h v; run = u }) (f v u) L) → Does c S after m (bind r f) L
  comes_to m (Go v u) h f L d g =
      does_from c S after m d.0 (f v u) L d.1
      (does_made c S after d.0 (h v) u (f v u) L d.2.1 d.2.0
      (g v u (steps_there p c S after n known result m d.0 u m.run.steps d.1 d.2.1 (omega arith))))
  comes_to m (Stop e u) h f L d g = d

  -- `switch`
  pub switch_runs : (e : Exp) (b : Stms) → ((j : ℕ) → ArmRuns j b) → FormRuns p c S after n known result (Switch e b)
  switch_runs e b runs at i w k s g h l =
      let ty = promote_of (type_of e) in
      let t = with_one (operand_of e) (size e) in
      let arms = size_of_arms w.depth b in
      let end = i + t + arms in
      let q = has_followed c i t (switch_test_code p i at e)
      (λ j. scope (any_leaks b) j (λ l. arms_code p l (deeper (any_leaks b) (in_switch (j + arms) w)) at b))
      (switch_test_size p i at e) h in
      let same : end ≡ i + (t + arms) = omega arith in
      let L = LeavesAs p c S after w k end in
      let behind = λ (v : ℤ) (u : State S). bind (run.selected p S (seen_by after) at (fit p.model ty v)
      (labels_in b) u) (λ j t. from_arm p M call result j b t) in
      let value = Eval p c S after n (full_of at e) Used e s in
      other_end p c S after n known result (standing k i s) (bind value behind) w k end (i + (t + arms)) same
      (comes_to (standing k i s) value (λ v. control_at (record k { stack = fit p.model ty v ∷ k.stack })
      (i + t)) behind L
      (operand_comes p c S after n e (values e) (λ y. Convert (native p.model ty) y (only Push))
      (λ v κ u. finished c S after (fit p.model ty v) (fit p.model ty v) (only Push) κ u)
      (convert_takes p c S after n ty (only Push)) (full_of at e) i 0 k s q.0 l)
      (λ v u m. subst (λ r. Does c S after (standing (record k { stack = fit p.model ty v ∷ k.stack }) (i + t) u) r L)
      (sym (chosen_in at (fit p.model ty v) b u))
      (arms_do at (fit p.model ty v) b runs (i + t) end w k u g refl q.1 (omega (arith, m, l)))))
