-- Loops: turn by turn, each of which takes a step.
use Rattle.std.proofs.Common.{◌≡◌, ◌≤◌, ◌<◌, ℕ, zero, suc, ◌+◌, true, List, [], ◌∷◌, length, Option, Some, None, refl, sym, ap, ap₂, ◌∙◌, subst, arith, length-append}
use Rattle.c_core.specs.Tree.{Program, Exp, Stm, While, DoWhile}
use Rattle.c_core.specs.declared.number.IntType.{IntType}
use Rattle.c_core.specs.declared.number.Spot.{Spot}
use Rattle.c_meaning.specs.declared.run.End.{End}
use Rattle.c_meaning.specs.declared.run.Event.{Event}
use Rattle.c_meaning.specs.Acts.{Go, Flow, Next, Broken, Again, Gave, bind, go_on, turned, continuing, scoped, continued}
use Rattle.c_meaning.specs.Cells.{Cell}
use Rattle.c_meaning.specs.Eval.{eval}
use Rattle.c_meaning.specs.Exec.{exec, full_if, going, turn}
use Rattle.c_meaning.specs.Meaning.{Unused, Loop, WhileLoop, DoLoop, ForLoop, Meaning, Calls}
use Rattle.c_meaning.specs.Run.{State, Told, cells_of, with_cells}
use Rattle.c_meaning.specs.Run as run
use Rattle.c_meaning.specs.Watching.{seen_by}
use Rattle.run_state.specs.Interpreting.{where_of}
use Rattle.flow_code.specs.declared.code.Action.TheVariants.{Jump}
use Rattle.flow_code.specs.declared.code.Code.{Code}
use Rattle.flow_code.specs.declared.code.Then.TheVariants.{Drop}
use Rattle.flow_code.specs.declared.statements.Inside.{Inside}
use Rattle.flow_code.specs.Preparing.{op, only, followed}
use Rattle.flow_code.specs.Expressions.{code}
use Rattle.flow_code.specs.Sizes.{size, size_if, size_of_test, size_of_arm, in_turn}
use Rattle.flow_code.specs.Statements.{full_of, in_loop, only_if, test_code, arm_code, turns_code}
use Rattle.flow_code.specs.Words.{native_if}
use Rattle.flow_laws.specs.Machines.{Control, Machine}
use Rattle.flow_laws.specs.Stepping.{Does}
use Rattle.flow_laws.specs.inside.Simulating.{HasCode, control_at, meaning, calls, Finishes, LeavesAs}
use Rattle.flow_laws.proofs.Reaching.{reaches_itself, does_from}
use Rattle.flow_laws.proofs.Known.{Known}
use Rattle.flow_laws.proofs.Leaving.{Part, Leaving, Runs, FormRuns, steps_there, other_end}
use Rattle.flow_laws.proofs.Branching.{test_does, arm_runs}
use Rattle.flow_laws.proofs.Neutral.{Neutral, no_scope, calls_neutral, rounds_neutral}
use Rattle.flow_laws.proofs.Operations.{standing}
use Rattle.flow_laws.proofs.Sized.{arm_size, only_size}
use Rattle.flow_laws.proofs.Standing.{has_followed, does_on, does_so, does_made, reaches_made, jumps}

module _ (p : Program) (c : Code) (S : Type 0) (after : Event → List Cell → S → S) (n : ℕ) (known : Known p c S after n) (result : Option IntType) where
  abbrev M : Meaning
  M = meaning p c S after

  -- calls at most n deep
  abbrev call : Calls M
  call = calls p c S after n

  -- how a turn is left: at the loop's head, with fewer steps; out of the loop; with a function's end
  abbrev TurnLeaves : Inside → Control → ℕ → ℕ → ℕ → Flow → State S → Machine S → Type 0
  TurnLeaves w k head out b Next u y = (y.run ≡ u) × (y.control ≡ control_at k head) × (u.steps < b)
  TurnLeaves w k head out b Broken u y = (y.run ≡ u) × (y.control ≡ control_at k out)
  TurnLeaves w k head out b Again u y = ⊥
  TurnLeaves w k head out b (Gave v) u y = LeavesAs p c S after w k out (Gave v) u y

  -- fewer steps than so many are fewer than more
  turn_below : (w : Inside) (k : Control) (head out a b : ℕ) (f : Flow) (u : State S) (y : Machine S) → a ≤ b → TurnLeaves w k head out a f u y → TurnLeaves w k head out b f u y
  turn_below w k head out a b Next u y l h = let m = h.2 in (h.0, h.1, omega (arith, m, l))
  turn_below w k head out a b Broken u y l h = h
  turn_below w k head out a b Again u y l h = h
  turn_below w k head out a b (Gave v) u y l h = h

  -- behind a body: `break` and `continue` jump from there, since no scope of the loop is open
  body_left : (w : Inside) (k : Control) (again out b : ℕ) (f : Flow) (u : State S) (y : Machine S) → LeavesAs p c S after (in_loop again out w) k again f u y → u.steps < b
      → Does c S after y (Go (continuing f) u) (TurnLeaves w k again out b)
  body_left w k again out b Next u y h l = (y, reaches_itself c S after y, (h.0, h.1, l))
  body_left w k again out b Broken u y h l =
      (standing k out u, reaches_made c S after y (standing k out u) (control_at k h.1.0) u h.0 h.1.1 (jumps c S after p h.1.0 out k u h.1.2.0), (refl, refl))
  body_left w k again out b Again u y h l =
      (standing k again u, reaches_made c S after y (standing k again u) (control_at k h.1.0) u h.0 h.1.1 (jumps c S after p h.1.0 again k u h.1.2.0), (refl, refl, l))
  body_left w k again out b (Gave None) u y h l = (y, reaches_itself c S after y, h)
  body_left w k again out b (Gave (Some v)) u y h l = (y, reaches_itself c S after y, h)

  -- a loop's body, which ends at the address to which `continue` leads
  body_runs : (st : Stm) → Runs p c S after n known result st → (i again out : ℕ) (w : Inside) (k : Control) (s : State S) → w.result ≡ native_if p.model result
      → i + size_of_arm (in_turn w.depth) st ≡ again → HasCode c i (arm_code p i (in_loop again out w) st) → s.steps ≤ n
      → Does c S after (standing k i s) (continued End (State S) cells_of with_cells (exec p M call result st) s) (TurnLeaves w k again out s.steps)
  body_runs st runs i again out w k s e g h b =
      let part = scoped End (State S) cells_of with_cells (exec p M call result st) in
      does_on c S after (standing k i s) (part s) (λ f u. Go (continuing f) u) (Leaving p c S after n known result (in_loop again out w) k (i + size_of_arm (in_turn w.depth) st) s.steps) (TurnLeaves w k again out s.steps)
      (arm_runs p c S after n known result st runs i (in_loop again out w) k s e h b)
      (λ f u y q r z. body_left w k again out s.steps f u y (subst (λ j. LeavesAs p c S after (in_loop again out w) k j f u y) g z.0) z.1)

  -- behind a turn: the next one, or the loop's end
  turn_goes : (w : Inside) (k : Control) (head out b : ℕ) (f : Flow) (u : State S) (y : Machine S) (part : Part p c S after n known result) → TurnLeaves w k head out b f u y
      → (u.steps < b → Does c S after (standing k head u) (part u) (LeavesAs p c S after w k out)) → Does c S after y (turned part f u) (LeavesAs p c S after w k out)
  turn_goes w k head out b Next u y part h d = does_made c S after y (control_at k head) u (part u) (LeavesAs p c S after w k out) h.0 h.1 (d h.2)
  turn_goes w k head out b Broken u y part h d = (y, reaches_itself c S after y, h)
  turn_goes w k head out b Again u y part h d = absurd h
  turn_goes w k head out b (Gave v) u y part h d = (y, reaches_itself c S after y, h)

  -- a turn of a loop does what it means, from the loop's head to there or out
  abbrev TurnRuns : Part p c S after n known result → Inside → Control → ℕ → ℕ → Type 0
  TurnRuns once w k head out = (s : State S) → s.steps ≤ n → Does c S after (standing k head s) (once s) (TurnLeaves w k head out s.steps)

  -- turns, of which there are enough
  turns_run : (at : Spot) (l : Loop) (arrived : List Cell) (once : Part p c S after n known result) (w : Inside) (k : Control) (head out : ℕ) → TurnRuns once w k head out
      → (t : ℕ) (s : State S) → s.steps < t → s.steps ≤ n → Does c S after (standing k head s) (run.turns p S (seen_by after) t at l arrived once s) (LeavesAs p c S after w k out)
  turns_run at l arrived once w k head out one zero s a b = absurd (omega arith)
  turns_run at l arrived once w k head out one (suc t) s a b =
      does_on c S after (standing k head s) (once s) (turned (run.turns p S (seen_by after) t at l arrived once)) (TurnLeaves w k head out s.steps) (LeavesAs p c S after w k out) (one s b)
      (λ f u y e r z. turn_goes w k head out s.steps f u y (run.turns p S (seen_by after) t at l arrived once) z
      (λ m. turns_run at l arrived once w k head out one t u (omega (arith, m, a)) (omega (arith, m, b))))

  -- a loop of the run
  abbrev pub looped : Spot → Loop → Part p c S after n known result
  looped at l = scoped End (State S) cells_of with_cells (run.loop p S (seen_by after) at l (turn p M call result at l))

  -- a loop from its head on; its scope isn't needed, since each turn ends with as many cells as it began with
  loop_runs : (at : Spot) (l : Loop) (w : Inside) (k : Control) (head out : ℕ) → TurnRuns (turn p M call result at l) w k head out
      → (s : State S) → s.steps ≤ n → Does c S after (standing k head s) (looped at l s) (LeavesAs p c S after w k out)
  loop_runs at l w k head out one s b =
      let again = turn p M call result at l in
      let all = turns_run at l s.cells again w k head out one (suc s.steps) s (omega arith) b in
      let same : Neutral S (run.loop p S (seen_by after) at l again) =
      record { at = λ u. (rounds_neutral p S (seen_by after) call (calls_neutral p S (seen_by after) n) result (suc u.steps) at l u.cells).at u } in
      subst (λ r. Does c S after (standing k head s) r (LeavesAs p c S after w k out)) (sym (no_scope S (run.loop p S (seen_by after) at l again) s same)) all

  -- an expression whose value is not used, and what comes behind it
  pub value_dropped : (at : Spot) (e : Exp) (i j : ℕ) (k : Control) (s : State S) (part : Part p c S after n known result) (L : Flow → State S → Machine S → Type 0)
      → i + size e ≡ j → HasCode c i (code p (full_of at e) i 0 Unused e Drop) → s.steps ≤ n
      → ((u : State S) → u.steps ≤ s.steps → Does c S after (standing k j u) (part u) L)
      → Does c S after (standing k i s) (bind (eval p M call (where_of (full_of at e)) Unused e s) (λ _ u. part u)) L
  value_dropped at e i j k s part L g h b d =
      does_on c S after (standing k i s) (eval p M call (where_of (full_of at e)) Unused e s) (λ _ u. part u)
      (Finishes p c S after (control_at k i) (i + size e) (only Drop)) L
      (known.evaluated e (full_of at e) i 0 Unused Drop (standing k i s) h (record { at = refl; paid = refl }) b)
      (λ v u y f r z.
      let l : y.control ≡ control_at k (i + size e) = cc in
      let q : y.run ≡ u = cc in
      does_made c S after y (control_at k j) u (part u) L q (l ∙ ap (control_at k) g) (d u (steps_there p c S after n known result (standing k i s) y u s.steps r q (omega arith))))

  -- the same where there may be none
  value_dropped_if : (at : Spot) (e : Option Exp) (i j : ℕ) (k : Control) (s : State S) (part : Part p c S after n known result) (L : Flow → State S → Machine S → Type 0)
      → i + size_if e ≡ j → HasCode c i (only_if p i at e) → s.steps ≤ n
      → ((u : State S) → u.steps ≤ s.steps → Does c S after (standing k j u) (part u) L)
      → Does c S after (standing k i s) (full_if p M call at e part s) L
  value_dropped_if at None i j k s part L g h b d =
      let a : j ≡ i = omega (arith, g) in
      subst (λ x. Does c S after (standing k x s) (part s) L) a (d s (omega arith))
  value_dropped_if at (Some e) i j k s part L g h b d = value_dropped at e i j k s part L g h b d

  -- a loop's test: on at the body, or out of the loop
  going_does : (at : Spot) (e : Option Exp) (i j to : ℕ) (k : Control) (s : State S) (part : Part p c S after n known result) (L : Flow → State S → Machine S → Type 0)
      → i + size_of_test e ≡ j → HasCode c i (test_code p i at e to) → s.steps ≤ n
      → ((u : State S) → u.steps ≤ s.steps → Does c S after (standing k to u) (part u) L)
      → ((u : State S) → Does c S after (standing k j u) (Go Broken u) L)
      → Does c S after (standing k i s) (going p M call at e part s) L
  going_does at None i j to k s part L g h b d f = does_from c S after (standing k i s) (standing k to s) (part s) L (jumps c S after p i to k s h.0) (d s (omega arith))
  going_does at (Some e) i j to k s part L g h b d f =
      test_does p c S after n known result at e true i j to k s part (λ u. Go Broken u) L g h b d (λ u l. f u)

  -- the end of a turn behind its body
  body_then : (w : Inside) (k : Control) (again head out b : ℕ) (f : Flow) (u : State S) (y : Machine S) (part : Part p c S after n known result) → TurnLeaves w k again out b f u y
      → (u.steps < b → Does c S after (standing k again u) (part u) (TurnLeaves w k head out b)) → Does c S after y (go_on part f u) (TurnLeaves w k head out b)
  body_then w k again head out b Next u y part h d = does_made c S after y (control_at k again) u (part u) (TurnLeaves w k head out b) h.0 h.1 (d h.2)
  body_then w k again head out b Broken u y part h d = (y, reaches_itself c S after y, h)
  body_then w k again head out b Again u y part h d = absurd h
  body_then w k again head out b (Gave v) u y part h d = (y, reaches_itself c S after y, h)

  -- `while`
  pub while_runs : (e : Exp) (st : Stm) → Runs p c S after n known result st → FormRuns p c S after n known result (While e st)
  while_runs e st runs at i w k s g h b =
      let arm = size_of_arm (in_turn w.depth) st in
      let again = i + 1 + arm in
      let out = again + size e in
      let v = in_loop again out w in
      let jump = op 0 (Jump again) ∷ [] in
      let sized : length (followed i jump (λ j. arm_code p j v st)) ≡ 1 + arm = ap suc (arm_size p (i + 1) v st) ∙ (let x : suc arm ≡ 1 + arm = omega arith in x) in
      let q = has_followed c i (1 + arm) (followed i jump (λ j. arm_code p j v st)) (λ j. test_code p j at (Some e) (i + 1)) sized h in
      let o = has_followed c i 1 jump (λ j. arm_code p j v st) refl q.0 in
      let a : i + (1 + arm) ≡ again = omega arith in
      let test = subst (λ j. HasCode c j (test_code p j at (Some e) (i + 1))) a q.1 in
      let z : out ≡ i + (size e + arm + 1) = omega arith in
      let body = continued End (State S) cells_of with_cells (exec p M call result st) in
      let all = loop_runs at (WhileLoop e st) w k again out
      (λ u l. going_does at (Some e) again out (i + 1) k u body (TurnLeaves w k again out u.steps) refl test l
      (λ x m. does_so c S after (standing k (i + 1) x) (body x) (TurnLeaves w k again out x.steps) (TurnLeaves w k again out u.steps)
      (body_runs st runs (i + 1) again out w k x g refl o.1 (omega (arith, m, l)))
      (λ f t y d r left. turn_below w k again out x.steps u.steps f t y m left))
      (λ x. (standing k out x, reaches_itself c S after (standing k out x), (refl, refl)))) s b in
      other_end p c S after n known result (standing k i s) (looped at (WhileLoop e st) s) w k out (i + (size e + arm + 1)) z
      (does_from c S after (standing k i s) (standing k again s) (looped at (WhileLoop e st) s) (LeavesAs p c S after w k out)
      (jumps c S after p i again k s o.0.0) all)

  -- `do`
  pub do_runs : (st : Stm) (e : Exp) → Runs p c S after n known result st → FormRuns p c S after n known result (DoWhile st e)
  do_runs st e runs at i w k s g h b =
      let arm = size_of_arm (in_turn w.depth) st in
      let again = i + arm in
      let out = again + size e in
      let v = in_loop again out w in
      let q = has_followed c i arm (arm_code p i v st) (λ j. test_code p j at (Some e) i) (arm_size p i v st) h in
      let z : out ≡ i + (size e + arm) = omega arith in
      let next : Part p c S after n known result = λ u. Go Next u in
      let body = continued End (State S) cells_of with_cells (exec p M call result st) in
      let test = going p M call at (Some e) next in
      let all = loop_runs at (DoLoop st e) w k i out
      (λ u l. does_on c S after (standing k i u) (body u) (go_on test) (TurnLeaves w k again out u.steps) (TurnLeaves w k i out u.steps)
      (body_runs st runs i again out w k u g refl q.0 l)
      (λ f x y d r left. body_then w k again i out u.steps f x y test left
      (λ less. going_does at (Some e) again out i k x next (TurnLeaves w k i out u.steps) refl q.1 (omega (arith, less, l))
      (λ t m. (standing k i t, reaches_itself c S after (standing k i t), (refl, refl, omega (arith, less, m))))
      (λ t. (standing k out t, reaches_itself c S after (standing k out t), (refl, refl)))))) s b in
      other_end p c S after n known result (standing k i s) (looped at (DoLoop st e) s) w k out (i + (size e + arm)) z all

  -- what a `for` does again and again
  pub for_turns_run : (e t : Option Exp) (st : Stm) → Runs p c S after n known result st → (at : Spot) (i : ℕ) (w : Inside) (k : Control) (s : State S) → w.result ≡ native_if p.model result
      → HasCode c i (turns_code p i w at e t st) → s.steps ≤ n
      → Does c S after (standing k i s) (looped at (ForLoop e t st) s)
      (LeavesAs p c S after w k (i + (size_of_arm (in_turn w.depth) st + size_if t + size_of_test e + 1)))
  for_turns_run e t st runs at i w k s g h b =
      let arm = size_of_arm (in_turn w.depth) st in
      let again = i + 1 + arm in
      let head = again + size_if t in
      let out = head + size_of_test e in
      let v = in_loop again out w in
      let jump = op 0 (Jump head) ∷ [] in
      let first = followed i jump (λ j. arm_code p j v st) in
      let sized : length first ≡ 1 + arm = ap suc (arm_size p (i + 1) v st) ∙ (let x : suc arm ≡ 1 + arm = omega arith in x) in
      let both = length-append first (only_if p (i + length first) at t) ∙ ap₂ ◌+◌ sized (only_size p (i + length first) at t) in
      let q = has_followed c i (1 + arm + size_if t) (followed i first (λ j. only_if p j at t)) (λ j. test_code p j at e (i + 1)) both h in
      let before = has_followed c i (1 + arm) first (λ j. only_if p j at t) sized q.0 in
      let o = has_followed c i 1 jump (λ j. arm_code p j v st) refl before.0 in
      let a : i + (1 + arm) ≡ again = omega arith in
      let at_head : i + (1 + arm + size_if t) ≡ head = omega arith in
      let stepped = subst (λ j. HasCode c j (only_if p j at t)) a before.1 in
      let test = subst (λ j. HasCode c j (test_code p j at e (i + 1))) at_head q.1 in
      let z : out ≡ i + (arm + size_if t + size_of_test e + 1) = omega arith in
      let next : Part p c S after n known result = λ u. Go Next u in
      let body = continued End (State S) cells_of with_cells (exec p M call result st) in
      let more = full_if p M call at t next in
      let seq = λ (u : State S). bind (body u) (go_on more) in
      let all = loop_runs at (ForLoop e t st) w k head out
      (λ u l. going_does at e head out (i + 1) k u seq (TurnLeaves w k head out u.steps) refl test l
      (λ x m. does_on c S after (standing k (i + 1) x) (body x) (go_on more) (TurnLeaves w k again out x.steps) (TurnLeaves w k head out u.steps)
      (body_runs st runs (i + 1) again out w k x g refl o.1 (omega (arith, m, l)))
      (λ f v y d r left. body_then w k again head out u.steps f v y more (turn_below w k again out x.steps u.steps f v y m left)
      (λ less. value_dropped_if at t again head k v next (TurnLeaves w k head out u.steps) refl stepped (omega (arith, less, l))
      (λ z few. (standing k head z, reaches_itself c S after (standing k head z), (refl, refl, omega (arith, less, few)))))))
      (λ x. (standing k out x, reaches_itself c S after (standing k out x), (refl, refl)))) s b in
      other_end p c S after n known result (standing k i s) (looped at (ForLoop e t st) s) w k out (i + (arm + size_if t + size_of_test e + 1)) z
      (does_from c S after (standing k i s) (standing k head s) (looped at (ForLoop e t st) s) (LeavesAs p c S after w k out)
      (jumps c S after p i head k s o.0.0) all)
