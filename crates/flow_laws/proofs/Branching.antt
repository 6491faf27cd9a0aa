-- Tests, the arms of `if`, blocks.
use Rattle.std.proofs.Common.{◌≡◌, ◌≤◌, ◌<◌, ℕ, suc, ◌+◌, Bool, true, false, cond, not, List, length, Option, Some, None, refl, sym, ap, ap₂, ◌∙◌, subst, arith, length-append}
use Rattle.c_core.specs.Types.{is_zero}
use Rattle.c_core.specs.Tree.{Program, Exp, Stm, Stms, NoStm, MoreStm, Else, NoElse, OrElse, Block, If}
use Rattle.c_core.specs.declared.number.IntType.{IntType}
use Rattle.c_core.specs.declared.number.Spot.{Spot}
use Rattle.c_meaning.specs.declared.run.End.{End}
use Rattle.c_meaning.specs.declared.run.Event.{Event}
use Rattle.c_meaning.specs.declared.run.Event.TheVariants.{Branch as Branched}
use Rattle.c_meaning.specs.declared.run.Way.TheVariants.{Truth as ByTruth}
use Rattle.c_meaning.specs.Acts.{Res, Go, Stop, Flow, Next, Broken, Again, Gave, bind, scoped}
use Rattle.c_meaning.specs.Cells.{Cell}
use Rattle.c_meaning.specs.Eval.{eval}
use Rattle.c_meaning.specs.Exec.{exec, execs, otherwise, control}
use Rattle.c_meaning.specs.Meaning.{Used, Meaning, Calls}
use Rattle.c_meaning.specs.Run.{State, Told, cells_of, with_cells}
use Rattle.c_meaning.specs.Run as run
use Rattle.c_meaning.specs.Watching.{seen_by}
use Rattle.run_state.specs.Interpreting.{where_of}
use Rattle.flow_code.specs.declared.code.Code.{Code}
use Rattle.flow_code.specs.declared.code.Then.TheVariants.{Branch}
use Rattle.flow_code.specs.declared.statements.Inside.{Inside}
use Rattle.flow_code.specs.Preparing.{only, followed}
use Rattle.flow_code.specs.Expressions.{code}
use Rattle.flow_code.specs.Sizes.{size, leaks, any_leaks, deep, size_of_arm, size_of_statement, size_of_else, size_of_block}
use Rattle.flow_code.specs.Statements.{full_of, deeper, else_jump, statement_code, else_code, block_code, arm_code}
use Rattle.flow_code.specs.Words.{native_if}
use Rattle.flow_code.proofs.Lengths.{code_size}
use Rattle.flow_laws.specs.Machines.{Control, Machine}
use Rattle.flow_laws.specs.Acting.{skipped}
use Rattle.flow_laws.specs.Stepping.{Reaches, Does}
use Rattle.flow_laws.specs.inside.Simulating.{HasCode, control_at, meaning, calls, Finishes, LeavesAs}
use Rattle.flow_laws.proofs.Reaching.{reaches_itself, reaches_on}
use Rattle.flow_laws.proofs.Known.{Known}
use Rattle.flow_laws.proofs.Leaving.{Part, Leaving, Runs, FormRuns, BlockRuns, ElseRuns, steps_there, other_end, forget, one_then}
use Rattle.flow_laws.proofs.Neutral.{calls_neutral, exec_neutral, execs_neutral}
use Rattle.flow_laws.proofs.Operations.{standing}
use Rattle.flow_laws.proofs.Scopes.{scope_does, scope_leaves}
use Rattle.flow_laws.proofs.Sized.{statement_size, block_size, arm_size}
use Rattle.flow_laws.proofs.Standing.{has_followed, does_on, does_made, reaches_made, jumps}

module _ (p : Program) (c : Code) (S : Type 0) (after : Event → List Cell → S → S) (n : ℕ) (known : Known p c S after n) (result : Option IntType) where
  abbrev M : Meaning
  M = meaning p c S after

  -- calls at most n deep
  abbrev call : Calls M
  call = calls p c S after n

  -- what an action gives is the machine that was reached
  abbrev Went : Res End (State S) Control → Machine S → Type 0
  Went r y = r ≡ Go y.control y.run

  -- a test has told its event: the machine goes on where the run does
  told_at : (way t : Bool) (i to : ℕ) (k : Control) (u : State S) (y : Machine S) (A B : Part p c S after n known result) (L : Flow → State S → Machine S → Type 0)
      → Went (Go (skipped t way to (control_at k i)) u) y
      → (y.run ≡ u → Does c S after (standing k (cond way to i) u) (A u) L) → (y.run ≡ u → Does c S after (standing k (cond way i to) u) (B u) L) → Does c S after y (cond t A B u) L
  told_at true true i to k u y A B L e a b =
      let l : y.control ≡ control_at k to = cc in
      let r : y.run ≡ u = cc in
      does_made c S after y (control_at k to) u (A u) L r l (a r)
  told_at true false i to k u y A B L e a b =
      let l : y.control ≡ control_at k i = cc in
      let r : y.run ≡ u = cc in
      does_made c S after y (control_at k i) u (B u) L r l (b r)
  told_at false true i to k u y A B L e a b =
      let l : y.control ≡ control_at k i = cc in
      let r : y.run ≡ u = cc in
      does_made c S after y (control_at k i) u (A u) L r l (a r)
  told_at false false i to k u y A B L e a b =
      let l : y.control ≡ control_at k to = cc in
      let r : y.run ≡ u = cc in
      does_made c S after y (control_at k to) u (B u) L r l (b r)

  -- a test and the two ways behind it
  pub test_does : (at : Spot) (e : Exp) (way : Bool) (i j to : ℕ) (k : Control) (s : State S) (A B : Part p c S after n known result) (L : Flow → State S → Machine S → Type 0)
      → i + size e ≡ j → HasCode c i (code p (full_of at e) i 0 Used e (Branch at way to)) → s.steps ≤ n
      → ((u : State S) → u.steps ≤ s.steps → Does c S after (standing k (cond way to j) u) (A u) L)
      → ((u : State S) → u.steps ≤ s.steps → Does c S after (standing k (cond way j to) u) (B u) L)
      → Does c S after (standing k i s) (control p M call at e A B s) L
  test_does at e way i j to k s A B L g h b a d =
      does_on c S after (standing k i s) (eval p M call (where_of (full_of at e)) Used e s)
      (λ v u. bind (Go (not (is_zero v)) u) (λ t. run.branched p S (seen_by after) at t A B))
      (Finishes p c S after (control_at k i) (i + size e) (only (Branch at way to))) L
      (known.evaluated e (full_of at e) i 0 Used (Branch at way to) (standing k i s) h (record { at = refl; paid = refl }) b)
      (λ v u y f r z.
      let t = record u { seen = seen_by after (Told (Branched at (ByTruth (not (is_zero v)))) u.cells) u.seen } in
      let came = subst (λ x. Went (Go (skipped (not (is_zero v)) way to (control_at k x)) t) y) g z in
      told_at way (not (is_zero v)) j to k t y A B L came
      (λ w. a t (steps_there p c S after n known result (standing k i s) y t s.steps r w (omega arith)))
      (λ w. d t (steps_there p c S after n known result (standing k i s) y t s.steps r w (omega arith))))

  -- where what ends there goes on to another address
  pub moved_end : (x : Machine S) (r : Res End (State S) Flow) (w : Inside) (k : Control) (i j : ℕ) → Does c S after x r (LeavesAs p c S after w k i)
      → ((u : State S) → Reaches c S after (standing k i u) (standing k j u)) → Does c S after x r (LeavesAs p c S after w k j)
  moved_end x (Go Next u) w k i j d g =
      (standing k j u, reaches_on c S after x d.0 (standing k j u) d.1 (reaches_made c S after d.0 (standing k j u) (control_at k i) u d.2.0 d.2.1 (g u)), (refl, refl))
  moved_end x (Go Broken u) w k i j d g = d
  moved_end x (Go Again u) w k i j d g = d
  moved_end x (Go (Gave None) u) w k i j d g = d
  moved_end x (Go (Gave (Some v)) u) w k i j d g = d
  moved_end x (Stop e u) w k i j d g = d

  -- a statement that is a scope of its own
  pub arm_runs : (st : Stm) → Runs p c S after n known result st → (i : ℕ) (w : Inside) (k : Control) (s : State S) → w.result ≡ native_if p.model result → HasCode c i (arm_code p i w st) → s.steps ≤ n
      → Does c S after (standing k i s) (scoped End (State S) cells_of with_cells (exec p M call result st) s)
      (Leaving p c S after n known result w k (i + size_of_arm w.depth st) s.steps)
  arm_runs st runs i w k s e h b =
      scope_does p c S after (λ x. x < s.steps) (leaks st) w k i (size_of_statement (deep (leaks st) w.depth) st)
      (λ j. statement_code p j (deeper (leaks st) w) st) (exec p M call result st) s h
      (λ j. statement_size p j (deeper (leaks st) w) st)
      (exec_neutral p S (seen_by after) call (calls_neutral p S (seen_by after) n) result st)
      (λ j l o. runs j (deeper (leaks st) w) l s e o b)

  -- the same without its steps
  pub arm_leaves : (st : Stm) → Runs p c S after n known result st → (i : ℕ) (w : Inside) (k : Control) (s : State S) → w.result ≡ native_if p.model result → HasCode c i (arm_code p i w st) → s.steps ≤ n
      → Does c S after (standing k i s) (scoped End (State S) cells_of with_cells (exec p M call result st) s)
      (LeavesAs p c S after w k (i + size_of_arm w.depth st))
  arm_leaves st runs i w k s e h b =
      forget p c S after n known result (standing k i s) (scoped End (State S) cells_of with_cells (exec p M call result st) s)
      w k (i + size_of_arm w.depth st) s.steps (arm_runs st runs i w k s e h b)

  -- a statement of a block, and the ones behind it
  pub more_runs : (st : Stm) (b : Stms) → Runs p c S after n known result st → BlockRuns p c S after n known result b → BlockRuns p c S after n known result (MoreStm st b)
  more_runs st b one more i w k s e h l =
      let z = size_of_statement w.depth st in
      let x = size_of_block w.depth b in
      let q = has_followed c i z (statement_code p i w st) (λ j. block_code p j w b) (statement_size p i w st) h in
      let a : i + z + x ≡ i + (z + x) = omega arith in
      one_then p c S after n known result w k (standing k i s) (i + z) (i + (z + x)) (exec p M call result st s)
      (execs p M call result b) l
      (forget p c S after n known result (standing k i s) (exec p M call result st s) w k (i + z) s.steps (one i w k s e q.0 l))
      (λ u m. other_end p c S after n known result (standing k (i + z) u) (execs p M call result b u) w k (i + z + x) (i + (z + x)) a (more (i + z) w k u e q.1 m))

  -- no statement
  pub none_run : BlockRuns p c S after n known result NoStm
  none_run i w k s e h l = let a : i ≡ i + 0 = omega arith in (standing k i s, reaches_itself c S after (standing k i s), (refl, ap (control_at k) a))

  -- a block
  pub block_runs : (b : Stms) → BlockRuns p c S after n known result b → FormRuns p c S after n known result (Block b)
  block_runs b runs at i w k s e h l =
      let z = size_of_block (deep (any_leaks b) w.depth) b in
      scope_leaves p c S after (any_leaks b) w k i z (λ j. block_code p j (deeper (any_leaks b) w) b) (execs p M call result b) s h
      (λ j. block_size p j (deeper (any_leaks b) w) b) (execs_neutral p S (seen_by after) call (calls_neutral p S (seen_by after) n) result b)
      (λ j m o. runs j (deeper (any_leaks b) w) m s e o l)

  -- the way of the first arm around the second
  around : (b : Else) (j to : ℕ) (w : Inside) (k : Control) (u : State S) → to ≡ j + else_jump b → HasCode c j (else_code p j to w b)
      → Reaches c S after (standing k j u) (standing k (j + size_of_else w.depth b) u)
  around NoElse j to w k u e h = let a : j ≡ j + 0 = omega arith in subst (λ x. Reaches c S after (standing k j u) (standing k x u)) a (reaches_itself c S after (standing k j u))
  around (OrElse st) j to w k u e h =
      let z = size_of_arm w.depth st in
      let a : to + z ≡ j + (z + 1) = omega (arith, e) in
      subst (λ x. Reaches c S after (standing k j u) (standing k x u)) a (jumps c S after p j (to + z) k u h.0)

  -- no second arm
  pub no_else_runs : ElseRuns p c S after n known result NoElse
  no_else_runs i to w k s e g h l = (standing k to s, reaches_itself c S after (standing k to s), (refl, ap (control_at k) e))

  -- the second arm
  pub else_runs : (st : Stm) → Runs p c S after n known result st → ElseRuns p c S after n known result (OrElse st)
  else_runs st runs i to w k s e g h l =
      let z = size_of_arm w.depth st in
      let q = subst (λ j. HasCode c j (arm_code p (i + 1) w st)) (let a : suc i ≡ i + 1 = omega arith in a) h.1 in
      let o = subst (λ j. HasCode c j (arm_code p j w st)) (sym e) q in
      let a : to + z ≡ i + (z + 1) = omega (arith, e) in
      other_end p c S after n known result (standing k to s) (scoped End (State S) cells_of with_cells (exec p M call result st) s)
      w k (to + z) (i + (z + 1)) a (arm_leaves st runs to w k s g o l)

  -- `if`
  pub if_runs : (e : Exp) (a : Stm) (b : Else) → Runs p c S after n known result a → ElseRuns p c S after n known result b → FormRuns p c S after n known result (If e a b)
  if_runs e a b first second at i w k s g h l =
      let arm = size_of_arm w.depth a in
      let last = size_of_else w.depth b in
      let to = i + (size e + arm + else_jump b) in
      let E = code p (full_of at e) i 0 Used e (Branch at false to) in
      let sized = code_size p (full_of at e) i 0 Used e (Branch at false to) in
      let both = length-append E (arm_code p (i + length E) w a) ∙ ap₂ ◌+◌ sized (arm_size p (i + length E) w a) in
      let q = has_followed c i (size e + arm) (followed i E (λ j. arm_code p j w a)) (λ j. else_code p j to w b) both h in
      let o = has_followed c i (size e) E (λ j. arm_code p j w a) sized q.0 in
      let x : to ≡ i + (size e + arm) + else_jump b = omega arith in
      let y : i + size e + arm ≡ i + (size e + arm) = omega arith in
      let end : i + (size e + arm) + last ≡ i + (size e + arm + last) = omega arith in
      let yes = scoped End (State S) cells_of with_cells (exec p M call result a) in
      let no = otherwise p M call result b in
      other_end p c S after n known result (standing k i s) (control p M call at e yes no s) w k (i + (size e + arm) + last) (i + (size e + arm + last)) end
      (test_does at e false i (i + size e) to k s yes no (LeavesAs p c S after w k (i + (size e + arm) + last)) refl o.0 l
      (λ u m. moved_end (standing k (i + size e) u) (yes u) w k (i + (size e + arm)) (i + (size e + arm) + last)
      (other_end p c S after n known result (standing k (i + size e) u) (yes u) w k (i + size e + arm) (i + (size e + arm)) y (arm_leaves a first (i + size e) w k u g o.1 (omega (arith, m, l))))
      (λ v. around b (i + (size e + arm)) to w k v x q.1))
      (λ u m. second (i + (size e + arm)) to w k u x g q.1 (omega (arith, m, l))))
