-- How statements are left: what a part that stands before another hands on, and a statement from its form.
use Rattle.std.proofs.Common.{◌≡◌, ◌≤◌, ◌<◌, ℕ, zero, suc, ◌+◌, List, Option, Some, None, refl, sym, ap, subst, arith}
use Rattle.c_core.specs.Tree.{Program, Stm, Stmt, Form, Stms, Else}
use Rattle.c_core.specs.declared.number.IntType.{IntType}
use Rattle.c_core.specs.declared.number.Spot.{Spot}
use Rattle.c_meaning.specs.declared.run.End.{End}
use Rattle.c_meaning.specs.declared.run.Event.{Event}
use Rattle.c_meaning.specs.declared.run.Event.TheVariants.{At}
use Rattle.c_meaning.specs.Acts.{Res, Go, Stop, Flow, Next, Broken, Again, Gave, bind, go_on}
use Rattle.c_meaning.specs.Cells.{Cell}
use Rattle.c_meaning.specs.Exec.{exec, form, execs, otherwise}
use Rattle.c_meaning.specs.Meaning.{Meaning, Calls}
use Rattle.c_meaning.specs.Run.{State, Told, Here, cells_of, with_cells}
use Rattle.c_meaning.specs.Run as run
use Rattle.c_meaning.specs.Watching.{seen_by}
use Rattle.flow_code.specs.declared.code.Action.TheVariants.{Arrive}
use Rattle.flow_code.specs.declared.code.Code.{Code}
use Rattle.flow_code.specs.declared.statements.Inside.{Inside}
use Rattle.flow_code.specs.Sizes.{size_of_statement, size_of_form, size_of_else, size_of_block}
use Rattle.flow_code.specs.Statements.{else_jump, statement_code, form_code, else_code, block_code}
use Rattle.flow_code.specs.Words.{native_if}
use Rattle.flow_laws.specs.Machines.{Control, Machine}
use Rattle.flow_laws.specs.Stepping.{Reaches, Does}
use Rattle.flow_laws.specs.inside.Simulating.{HasCode, control_at, meaning, calls, paying, LeavesAs}
use Rattle.flow_laws.proofs.Reaching.{reaches_itself}
use Rattle.flow_laws.proofs.Budgets.{fewer}
use Rattle.flow_laws.proofs.Known.{Known}
use Rattle.flow_laws.proofs.Operations.{standing}
use Rattle.flow_laws.proofs.Standing.{does_on, does_so, does_made, op_stays}

module _ (p : Program) (c : Code) (S : Type 0) (after : Event → List Cell → S → S) (n : ℕ) (known : Known p c S after n) (result : Option IntType) where
  abbrev M : Meaning
  M = meaning p c S after

  -- calls at most n deep
  abbrev call : Calls M
  call = calls p c S after n

  -- a part of a run that is about statements
  abbrev pub Part : Type 0
  Part = State S → Res End (State S) Flow

  -- left as a statement is, with fewer steps than so many
  abbrev pub Leaving : Inside → Control → ℕ → ℕ → Flow → State S → Machine S → Type 0
  Leaving w k j b f u y = LeavesAs p c S after w k j f u y × (u.steps < b)

  -- the code of a statement does what the statement means, and takes a step
  abbrev pub Runs : Stm → Type 0
  Runs st = (i : ℕ) (w : Inside) (k : Control) (s : State S) → w.result ≡ native_if p.model result → HasCode c i (statement_code p i w st) → s.steps ≤ n
      → Does c S after (standing k i s) (exec p M call result st s) (Leaving w k (i + size_of_statement w.depth st) s.steps)

  -- the same of a form
  abbrev pub FormRuns : Form → Type 0
  FormRuns f = (at : Spot) (i : ℕ) (w : Inside) (k : Control) (s : State S) → w.result ≡ native_if p.model result → HasCode c i (form_code p i w at f) → s.steps ≤ n
      → Does c S after (standing k i s) (form p M call result at f s) (LeavesAs p c S after w k (i + size_of_form w.depth f))

  -- the same of a block's statements
  abbrev pub BlockRuns : Stms → Type 0
  BlockRuns b = (i : ℕ) (w : Inside) (k : Control) (s : State S) → w.result ≡ native_if p.model result → HasCode c i (block_code p i w b) → s.steps ≤ n
      → Does c S after (standing k i s) (execs p M call result b s) (LeavesAs p c S after w k (i + size_of_block w.depth b))

  -- the same of the second arm, behind the way around it, which leads to its end
  abbrev pub ElseRuns : Else → Type 0
  ElseRuns b = (i to : ℕ) (w : Inside) (k : Control) (s : State S) → to ≡ i + else_jump b → w.result ≡ native_if p.model result → HasCode c i (else_code p i to w b) → s.steps ≤ n
      → Does c S after (standing k to s) (otherwise p M call result b s) (LeavesAs p c S after w k (i + size_of_else w.depth b))

  -- where a part leaves, the machine stands as the run does
  pub runs_there : (w : Inside) (k : Control) (j : ℕ) (f : Flow) (u : State S) (y : Machine S) → LeavesAs p c S after w k j f u y → y.run ≡ u
  runs_there w k j Next u y h = h.0
  runs_there w k j Broken u y h = h.0
  runs_there w k j Again u y h = h.0
  runs_there w k j (Gave None) u y h = h.0
  runs_there w k j (Gave (Some v)) u y h = h.0

  -- it left no steps more than there were
  pub steps_there : (x y : Machine S) (u : State S) (b : ℕ) → Reaches c S after x y → y.run ≡ u → x.run.steps ≤ b → u.steps ≤ b
  steps_there x y u b r e h = let a = fewer c S after x y r in let g = ap (λ (t : State S). t.steps) e in omega (arith, a, g, h)

  -- another end of the same code
  pub other_end : (x : Machine S) (r : Res End (State S) Flow) (w : Inside) (k : Control) (i j : ℕ) → i ≡ j → Does c S after x r (LeavesAs p c S after w k i) → Does c S after x r (LeavesAs p c S after w k j)
  other_end x r w k i j e d = subst (λ l. Does c S after x r (LeavesAs p c S after w k l)) e d

  -- without the steps
  pub forget : (x : Machine S) (r : Res End (State S) Flow) (w : Inside) (k : Control) (j b : ℕ) → Does c S after x r (Leaving w k j b) → Does c S after x r (LeavesAs p c S after w k j)
  forget x r w k j b d = does_so c S after x r (Leaving w k j b) (LeavesAs p c S after w k j) d (λ f u y e q h. h.0)

  -- a statement that is left otherwise than at its end is left so by what follows
  pub left_so : (w : Inside) (k : Control) (i j : ℕ) (f : Flow) (u : State S) (y : Machine S) (part : Part) → LeavesAs p c S after w k i f u y
      → (y.run ≡ u → y.control ≡ control_at k i → Does c S after y (part u) (LeavesAs p c S after w k j)) → Does c S after y (go_on part f u) (LeavesAs p c S after w k j)
  left_so w k i j Next u y part h d = d h.0 h.1
  left_so w k i j Broken u y part h d = (y, reaches_itself c S after y, h)
  left_so w k i j Again u y part h d = (y, reaches_itself c S after y, h)
  left_so w k i j (Gave None) u y part h d = (y, reaches_itself c S after y, h)
  left_so w k i j (Gave (Some v)) u y part h d = (y, reaches_itself c S after y, h)

  -- a part that ends where another begins
  pub one_then : (w : Inside) (k : Control) (x : Machine S) (i j : ℕ) (r : Res End (State S) Flow) (part : Part) → x.run.steps ≤ n
      → Does c S after x r (LeavesAs p c S after w k i) → ((u : State S) → u.steps ≤ n → Does c S after (standing k i u) (part u) (LeavesAs p c S after w k j))
      → Does c S after x (bind r (go_on part)) (LeavesAs p c S after w k j)
  one_then w k x i j r part h d g =
      does_on c S after x r (go_on part) (LeavesAs p c S after w k i) (LeavesAs p c S after w k j) d (λ f u y e q l.
      left_so w k i j f u y part l (λ a b. does_made c S after y (control_at k i) u (part u) (LeavesAs p c S after w k j) a b (g u (steps_there (x) y u n q a h))))

  -- the step and the event of a statement, as its first operation
  arrived : (at : Spot) (f : Form) (s : State S) (q : Res End (State S) (Unit {0}))
      → bind q (λ _ u. bind (bind (run.note p S (seen_by after) (Here at u.cells) u) (λ _. run.tell p S (seen_by after) (At at))) (λ _. form p M call result at f))
      ≡ bind (bind (bind q (λ _ u. Go (tt {0}) u)) (λ _ u. run.tell p S (seen_by after) (At at) u)) (λ _ u. form p M call result at f u)
  arrived at f s (Go t u) = refl
  arrived at f s (Stop e u) = refl

  -- behind them there are fewer steps
  fewer_then : (at : Spot) (s u : State S) (q : ℕ) → s.steps ≡ q → bind (bind (run.tick_from p S (seen_by after) q s) (λ _ v. Go (tt {0}) v)) (λ _ v. run.tell p S (seen_by after) (At at) v) ≡ Go tt u → u.steps < s.steps
  fewer_then at s u zero e h = cc
  fewer_then at s u (suc q) e h =
      let g : record s { steps = q; seen = seen_by after (Told (At at) s.cells) s.seen } ≡ u = cc in
      let a = ap (λ (t : State S). t.steps) g in
      omega (arith, e, a)

  -- a statement, from its form
  pub statement_runs : (at : Spot) (f : Form) → FormRuns f → Runs (Stmt at f)
  statement_runs at f runs i w k s e h b =
      let part = λ (u : State S). run.tell p S (seen_by after) (At at) u in
      let j : i + 1 ≡ suc i = omega arith in
      let behind = subst (λ l. HasCode c (suc i) (form_code p l w at f)) j h.1 in
      let to : suc i + size_of_form w.depth f ≡ i + (size_of_form w.depth f + 1) = omega arith in
      let first = op_stays c S after p i 1 k s (Arrive at) part h.0 (λ l u. refl) in
      let all = does_on c S after (standing k i s) (paying p c S after 1 part s) (λ _ u. form p M call result at f u)
      (λ _ u y. (y.run ≡ u) × (y.control ≡ control_at k (suc i))) (Leaving w k (i + (size_of_form w.depth f + 1)) s.steps) first
      (λ t u y g r z.
      let less = fewer_then at s u s.steps refl g in
      let bound : u.steps ≤ n = omega (arith, less, b) in
      does_made c S after y (control_at k (suc i)) u (form p M call result at f u) (Leaving w k (i + (size_of_form w.depth f + 1)) s.steps) z.0 z.1
      (does_so c S after (standing k (suc i) u) (form p M call result at f u) (LeavesAs p c S after w k (i + (size_of_form w.depth f + 1))) (Leaving w k (i + (size_of_form w.depth f + 1)) s.steps)
      (other_end (standing k (suc i) u) (form p M call result at f u) w k (suc i + size_of_form w.depth f) (i + (size_of_form w.depth f + 1)) to (runs at (suc i) w k u e behind bound))
      (λ flow v x gone q l.
      let few = steps_there (standing k (suc i) u) x v u.steps q (runs_there w k (i + (size_of_form w.depth f + 1)) flow v x l) (omega arith) in
      let lower : v.steps < s.steps = omega (arith, few, less) in
      (l, lower)))) in
      subst (λ r. Does c S after (standing k i s) r (Leaving w k (i + (size_of_form w.depth f + 1)) s.steps)) (sym (arrived at f s (run.tick_from p S (seen_by after) s.steps s))) all
