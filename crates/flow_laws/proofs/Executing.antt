-- The code of every statement does what the statement means.
use Rattle.std.proofs.Common.{◌≡◌, ◌≤◌, ℕ, zero, suc, ◌+◌, ℤ, List, [], ◌∷◌, ◌++◌, Option, Some, None, refl, sym, ap, ◌∙◌, subst, arith}
use Rattle.std.proofs.lemmas.List.{append_assoc}
use Rattle.c_core.specs.Tree.{Program, Exp, Names, First, NoFirst, FirstExp, FirstNames, Stm, Stmt, Form, Empty, Do, Declare, Block, If, While, DoWhile, For, Break, Continue, Return, Label, Switch, Else, NoElse, OrElse, Stms, NoStm, MoreStm, MoreCase}
use Rattle.c_core.specs.declared.number.IntType.{IntType}
use Rattle.c_core.specs.declared.number.Spot.{Spot}
use Rattle.c_meaning.specs.declared.run.Event.{Event}
use Rattle.c_meaning.specs.Acts.{Go, Next, Gave, bind}
use Rattle.c_meaning.specs.Cells.{Cell}
use Rattle.c_meaning.specs.Eval.{eval, convert_to}
use Rattle.c_meaning.specs.Exec.{exec, form, first, turn, declare}
use Rattle.c_meaning.specs.Meaning.{Used, ForLoop, Meaning, Calls}
use Rattle.c_meaning.specs.Objects.{type_of}
use Rattle.c_meaning.specs.Run.{State}
use Rattle.c_meaning.specs.Watching.{seen_by}
use Rattle.run_state.specs.Interpreting.{where_of}
use Rattle.flow_code.specs.declared.code.Action.TheVariants.{Return as ReturnOf}
use Rattle.flow_code.specs.declared.code.Code.{Code}
use Rattle.flow_code.specs.declared.code.Then.TheVariants.{Push}
use Rattle.flow_code.specs.declared.statements.Inside.{Inside}
use Rattle.flow_code.specs.Preparing.{op, only, followed, all_closed}
use Rattle.flow_code.specs.Expressions.{code}
use Rattle.flow_code.specs.Sizes.{size, size_if, size_of_test, size_of_arm, size_of_first, size_of_statement, size_of_form, first_leaks, in_turn}
use Rattle.flow_code.specs.Statements.{full_of, deeper, in_loop, first_code, arm_code, turns_code}
use Rattle.flow_code.specs.Words.{native_if}
use Rattle.flow_code.proofs.Lengths.{code_size, followed_size}
use Rattle.flow_laws.specs.Machines.{Control, Machine}
use Rattle.flow_laws.specs.Acting.{converted}
use Rattle.flow_laws.specs.Stepping.{Does}
use Rattle.flow_laws.specs.inside.Simulating.{HasCode, control_at, meaning, calls, Finishes, LeavesAs, Evaluated, StoredAs, Executed, FormExecuted}
use Rattle.flow_laws.proofs.Reaching.{reaches_itself}
use Rattle.flow_laws.proofs.Known.{Known}
use Rattle.flow_laws.proofs.Leaving.{Part, Runs, FormRuns, BlockRuns, ElseRuns, other_end, forget, one_then, statement_runs}
use Rattle.flow_laws.proofs.Branching.{block_runs, more_runs, none_run, if_runs, else_runs, no_else_runs}
use Rattle.flow_laws.proofs.Looping.{looped, value_dropped, while_runs, do_runs, for_turns_run}
use Rattle.flow_laws.proofs.Switching.{ArmRuns, switch_runs, label_run, no_arm_runs, this_arm_runs, behind_statement, behind_label}
use Rattle.flow_laws.proofs.Declaring.{names_run}
use Rattle.flow_laws.proofs.Neutral.{calls_neutral, loop_neutral, turn_neutral, first_neutral}
use Rattle.flow_laws.proofs.Operations.{standing, stands_as, code_split}
use Rattle.flow_laws.proofs.Scopes.{scope_leaves}
use Rattle.flow_laws.proofs.Sized.{arm_size, first_size, turns_size}
use Rattle.flow_laws.proofs.Standing.{has_followed, does_on}
use Rattle.flow_laws.proofs.Values.{fit_native}

module _ (p : Program) (c : Code) (S : Type 0) (after : Event → List Cell → S → S) (n : ℕ) (known : Known p c S after n) (result : Option IntType) where
  abbrev M : Meaning
  M = meaning p c S after

  -- calls at most n deep
  abbrev call : Calls M
  call = calls p c S after n

  -- the value of `return` as the function's type has it
  value_given : (r : Option IntType) (w : Inside) (k : Control) (i j : ℕ) (e : Exp) (v : ℤ) (u : State S) (y : Machine S) → w.result ≡ native_if p.model r
      → y.run ≡ u → y.control ≡ record (control_at k i) { stack = v ∷ k.stack } → HasCode c i (all_closed w.depth.scopes ++ op 0 (ReturnOf w.result) ∷ [])
      → Does c S after y (bind (convert_to p M r (type_of e) v u) (λ x t. Go (Gave (Some x)) t)) (LeavesAs p c S after w k j)
  value_given None w k i j e v u y g r z h = (y, reaches_itself c S after y, (r, (i, v, ap (λ t. converted c S after t v) g, z, h)))
  value_given (Some ty) w k i j e v u y g r z h = (y, reaches_itself c S after y, (r, (i, v, ap (λ t. converted c S after t v) g ∙ fit_native p.model ty v, z, h)))

  -- `return` with a value
  return_runs : (e : Exp) → FormRuns p c S after n known result (Return (Some e))
  return_runs e at i w k s g h b =
      let same = append_assoc (code p (full_of at e) i 0 Used e Push) (all_closed w.depth.scopes) (op 0 (ReturnOf w.result) ∷ []) in
      let q = code_split c i (code p (full_of at e) i 0 Used e Push) (all_closed w.depth.scopes ++ op 0 (ReturnOf w.result) ∷ []) (subst (HasCode c i) same h) in
      let o = subst (λ l. HasCode c (i + l) (all_closed w.depth.scopes ++ op 0 (ReturnOf w.result) ∷ [])) (code_size p (full_of at e) i 0 Used e Push) q.1 in
      let j = i + (size e + w.depth.scopes + 1) in
      does_on c S after (standing k i s) (eval p M call (where_of (full_of at e)) Used e s)
      (λ v u. bind (convert_to p M result (type_of e) v u) (λ x t. Go (Gave (Some x)) t))
      (Finishes p c S after (control_at k i) (i + size e) (only Push)) (LeavesAs p c S after w k j)
      (known.evaluated e (full_of at e) i 0 Used Push (standing k i s) q.0 (record { at = refl; paid = refl }) b)
      (λ v u y f r z.
      let l : y.control ≡ record (control_at k (i + size e)) { stack = v ∷ k.stack } = cc in
      let x : y.run ≡ u = cc in
      value_given result w k (i + size e) j e v u y g x l o)

  -- the first part of a `for`, and what comes behind it
  first_runs : (f : First) (at : Spot) (i j : ℕ) (w : Inside) (k : Control) (s : State S) (part : Part p c S after n known result) → HasCode c i (first_code p i at f) → s.steps ≤ n
      → ((u : State S) → u.steps ≤ n → Does c S after (standing k (i + size_of_first f) u) (part u) (LeavesAs p c S after w k j))
      → Does c S after (standing k i s) (first p M call at f part s) (LeavesAs p c S after w k j)
  first_runs NoFirst at i j w k s part h b d =
      let a : i + 0 ≡ i = omega arith in
      subst (λ x. Does c S after (standing k x s) (part s) (LeavesAs p c S after w k j)) a (d s b)
  first_runs (FirstExp e) at i j w k s part h b d =
      value_dropped p c S after n known result at e i (i + size e) k s part (LeavesAs p c S after w k j) refl h b (λ u l. d u (omega (arith, l, b)))
  first_runs (FirstNames ns) at i j w k s part h b d =
      one_then p c S after n known result w k (standing k i s) (i + size_of_first (FirstNames ns)) j (declare p M call at ns s) part b
      (names_run p c S after n known result ns at i w k s h b) d

  -- `for`
  for_runs : (f : First) (e t : Option Exp) (st : Stm) → Runs p c S after n known result st → FormRuns p c S after n known result (For f e t st)
  for_runs f e t st runs at i w k s g h b =
      let v = deeper (first_leaks f) w in
      let arm = size_of_arm (in_turn v.depth) st in
      let inside = arm + size_if t + size_of_test e in
      let z = size_of_first f + inside + 1 in
      let loop = looped p c S after n known result at (ForLoop e t st) in
      let same = loop_neutral p S (seen_by after) at (ForLoop e t st) (turn p M call result at (ForLoop e t st))
      (turn_neutral p S (seen_by after) call (calls_neutral p S (seen_by after) n) result at (ForLoop e t st)) in
      let part = first p M call at f loop in
      let ops = λ (j : ℕ). followed j (first_code p j at f) (λ m. turns_code p m v at e t st) in
      let turns_sized = λ (m : ℕ).
      let head = m + 1 + arm + size_if t in
      turns_size p m (m + 1) head at e t (λ l. arm_code p l (in_loop (m + 1 + arm) (head + size_of_test e) v) st) arm (λ l. arm_size p l (in_loop (m + 1 + arm) (head + size_of_test e) v) st) in
      let sum : size_of_first f + (inside + 1) ≡ z = omega arith in
      let sized = λ (j : ℕ). followed_size j (first_code p j at f) (λ m. turns_code p m v at e t st) (size_of_first f) (inside + 1) (first_size p j at f) turns_sized ∙ sum in
      scope_leaves p c S after (first_leaks f) w k i z ops part s h sized
      (λ q. first_neutral p S (seen_by after) call (calls_neutral p S (seen_by after) n) at f loop q same)
      (λ j l o.
      let q = has_followed c j (size_of_first f) (first_code p j at f) (λ m. turns_code p m v at e t st) (first_size p j at f) o in
      let end : j + size_of_first f + (inside + 1) ≡ j + z = omega arith in
      first_runs f at j (j + z) v l s loop q.0 b
      (λ u m. other_end p c S after n known result (standing l (j + size_of_first f) u) (loop u) v l (j + size_of_first f + (inside + 1)) (j + z) end
      (for_turns_run p c S after n known result e t st runs at (j + size_of_first f) v l u g q.1 m)))

  -- a form that does nothing
  empty_runs : FormRuns p c S after n known result Empty
  empty_runs at i w k s g h b = let a : i ≡ i + 0 = omega arith in (standing k i s, reaches_itself c S after (standing k i s), (refl, ap (control_at k) a))

  -- an expression
  do_expression : (e : Exp) → FormRuns p c S after n known result (Do e)
  do_expression e at i w k s g h b =
      let next : Part p c S after n known result = λ u. Go Next u in
      value_dropped p c S after n known result at e i (i + size e) k s next (LeavesAs p c S after w k (i + size e)) refl h b
      (λ u l. (standing k (i + size e) u, reaches_itself c S after (standing k (i + size e) u), (refl, refl)))

  -- each form that has no statement in it
  declared_runs : (ns : Names) → FormRuns p c S after n known result (Declare ns)
  declared_runs ns at i w k s g h b = names_run p c S after n known result ns at i w k s h b

  break_runs : FormRuns p c S after n known result Break
  break_runs at i w k s g h b = (standing k i s, reaches_itself c S after (standing k i s), (refl, (i, refl, h)))

  continue_runs : FormRuns p c S after n known result Continue
  continue_runs at i w k s g h b = (standing k i s, reaches_itself c S after (standing k i s), (refl, (i, refl, h)))

  leave_runs : FormRuns p c S after n known result (Return None)
  leave_runs at i w k s g h b = (standing k i s, reaches_itself c S after (standing k i s), (refl, (i, refl, h)))

  label_runs : (st : Stm) → Runs p c S after n known result st → FormRuns p c S after n known result (Label st)
  label_runs st runs at i w k s g h b =
      forget p c S after n known result (standing k i s) (exec p M call result st s) w k (i + size_of_statement w.depth st) s.steps (runs i w k s g h b)

  mutual
    -- statements
    pub runs : (st : Stm) → Runs p c S after n known result st
    runs (Stmt at f) = statement_runs p c S after n known result at f (form_runs f)

    -- by their forms
    pub form_runs : (f : Form) → FormRuns p c S after n known result f
    form_runs Empty = empty_runs
    form_runs (Do e) = do_expression e
    form_runs (Declare ns) = declared_runs ns
    form_runs (Block b) = block_runs p c S after n known result b (statements_run b)
    form_runs (If e a b) = if_runs p c S after n known result e a b (runs a) (otherwise_runs b)
    form_runs (While e st) = while_runs p c S after n known result e st (runs st)
    form_runs (DoWhile st e) = do_runs p c S after n known result st e (runs st)
    form_runs (For f e t st) = for_runs f e t st (runs st)
    form_runs Break = break_runs
    form_runs Continue = continue_runs
    form_runs (Return None) = leave_runs
    form_runs (Return (Some e)) = return_runs e
    form_runs (Label st) = label_runs st (runs st)
    form_runs (Switch e b) = switch_runs p c S after n known result e b (λ i. arms_run i b)

    -- second arms
    otherwise_runs : (b : Else) → ElseRuns p c S after n known result b
    otherwise_runs NoElse = no_else_runs p c S after n known result
    otherwise_runs (OrElse st) = else_runs p c S after n known result st (runs st)

    -- the statements of a block
    statements_run : (b : Stms) → BlockRuns p c S after n known result b
    statements_run NoStm = none_run p c S after n known result
    statements_run (MoreStm st b) = more_runs p c S after n known result st b (runs st) (statements_run b)
    statements_run (MoreCase spot l b) = label_run p c S after n known result spot l b (statements_run b)

    -- the arms of a `switch` from one on
    arms_run : (j : ℕ) (b : Stms) → ArmRuns p c S after n known result j b
    arms_run j NoStm = no_arm_runs p c S after n known result j
    arms_run j (MoreStm st b) = behind_statement p c S after n known result j st b (arms_run j b)
    arms_run zero (MoreCase spot l b) = this_arm_runs p c S after n known result spot l b (statements_run b)
    arms_run (suc j) (MoreCase spot l b) = behind_label p c S after n known result j spot l b (arms_run j b)

module _ (p : Program) (c : Code) (S : Type 0) (after : Event → List Cell → S → S) (n : ℕ) (model : c.model ≡ p.model) (evaluated : Evaluated p c S after n) (stored : StoredAs p c S after n) where
  known : Known p c S after n
  known = record { model = model; evaluated = evaluated; stored = stored }

  -- the code of a statement does what the statement means
  pub executed : Executed p c S after n
  executed result st i w m e h stands b =
      let end = i + size_of_statement w.depth st in
      let r = exec p (meaning p c S after) (calls p c S after n) result st m.run in
      subst (λ x. Does c S after x r (LeavesAs p c S after w m.control end)) (sym (stands_as p c S after i m stands))
      (forget p c S after n known result (standing m.control i m.run) r w m.control end m.run.steps (runs p c S after n known result st i w m.control m.run e h b))

  -- the same of a form
  pub form_executed : FormExecuted p c S after n
  form_executed result at f i w m e h stands b =
      let end = i + size_of_form w.depth f in
      let r = form p (meaning p c S after) (calls p c S after n) result at f m.run in
      subst (λ x. Does c S after x r (LeavesAs p c S after w m.control end)) (sym (stands_as p c S after i m stands))
      (form_runs p c S after n known result f at i w m.control m.run e h b)
