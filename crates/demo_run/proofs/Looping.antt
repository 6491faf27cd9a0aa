-- A loop of a demo counts up to its bound, ten steps a turn.
use Rattle.std.proofs.Common.{◌≡◌, ◌<◌, ◌+◌, ◌*◌, ◌^◌, ℕ, zero, suc, pos, true, false, List, [], ◌∷◌, ◌++◌, length, take, Option, None, refl, ap, ◌∙◌, subst, arith}
use Rattle.c_core.specs.Types.{fit}
use Rattle.c_core.specs.Tree.{Assign, Stms, NoStm, MoreStm, Program}
use Rattle.c_core.specs.declared.number.BinOp.TheVariants as binary
use Rattle.c_core.specs.declared.number.DataModel.TheVariants.{Ilp32}
use Rattle.c_core.specs.declared.number.IntType.{IntType}
use Rattle.c_core.specs.declared.number.IntType.TheVariants.{Int}
use Rattle.c_core.specs.declared.number.Spot.{Spot}
use Rattle.c_core.specs.declared.tree.Object.{Object}
use Rattle.c_meaning.specs.declared.run.Event.TheVariants.{Branch}
use Rattle.c_meaning.specs.declared.run.Way.TheVariants.{Truth}
use Rattle.c_meaning.specs.declared.run.End.{End}
use Rattle.c_meaning.specs.Acts.{Go, Flow, Next, Broken}
use Rattle.c_meaning.specs.Acts as acts
use Rattle.c_meaning.specs.Cells.{Cell, put}
use Rattle.c_meaning.specs.Exec.{exec, while_turn}
use Rattle.c_meaning.specs.Meaning.{Meaning, Where, Calls, Loop, WhileLoop}
use Rattle.c_meaning.specs.Run.{Told, State, cells_of, with_cells, turns}
use Rattle.demo_run.specs.Typed.{int_exp, variable, operation, step, step_block, counting, main_alone}
use Rattle.demo_run.proofs.LastCell.{key, cell, take_last, stored_last}
use Rattle.demo_run.proofs.States.{Sights, Ran, meaning, state, reached, headed}
use Rattle.demo_run.proofs.Evaluating.{kept, below, not_below, one_more, operated, assigned}
use Rattle.demo_run.proofs.Executing.{done, blocked, first_done, decided, continued, turn_goes, turn_leaves, looped}

-- ---- steps

-- the steps of so many turns and of the last test
abbrev pub loop_steps : ℕ → ℕ → ℕ
loop_steps zero n = suc (suc (suc n))
loop_steps (suc r) n = suc (suc (suc (suc (suc (suc (suc (suc (suc (suc (loop_steps r n))))))))))

pub loop_steps_are : (r n : ℕ) → loop_steps r n ≡ 10 * r + 3 + n
loop_steps_are zero n = omega arith
loop_steps_are (suc r) n = let more = loop_steps_are r n in omega (arith, more)

-- so many turns, the last test, and more
abbrev pub turns_for : ℕ → ℕ → ℕ
turns_for zero spare = suc spare
turns_for (suc r) spare = suc (turns_for r spare)

turns_are : (r spare : ℕ) → turns_for r spare ≡ r + suc spare
turns_are zero spare = omega arith
turns_are (suc r) spare = let more = turns_are r spare in omega (arith, more)

-- each turn takes steps, so that there are turns enough
enough : (r n : ℕ) → suc (loop_steps r n) ≡ turns_for r (9 * r + 3 + n)
enough r n =
    let steps = loop_steps_are r n in
    let all = turns_are r (9 * r + 3 + n) in
    omega (arith, steps, all)

-- ---- turns

-- it came to its end, with so many steps left and these cells
pub record CameTo (base : State Sights) (r : Ran Flow) (n : ℕ) (cs : List Cell) : Type 0 where
  pub seen : Sights
  pub is : r ≡ Go Next (state base n cs seen)

-- what is seen in a turn
abbrev pub turn_seen : (ℕ → Spot) → List Cell → Sights → Sights
turn_seen w cs xs = reached (w 7) cs (reached (w 6) cs (Told (Branch (w 0) (Truth true)) cs ∷ xs))

module _ (objects : List Object) (body : Stms) where
  abbrev P : Program
  P = main_alone objects body

  abbrev M : Meaning
  M = meaning P

  module _ (call : Calls M) (base : State Sights) (result : Option IntType) (o : ℕ) (w : ℕ → Spot) where
    -- `x = x + 1;`
    stepped : (x n : ℕ) (cs : List Cell) (xs : Sights) → x + 1 < 2 ^ 31 →
        exec P M call result (step o w) (state base (suc (suc (suc (suc (suc (suc n)))))) (cs ++ cell o (pos x) ∷ []) xs)
        ≡ Go Next (state base n (put (key o) (fit Ilp32 Int (pos (x + 1))) (cs ++ cell o (pos x) ∷ [])) (reached (w 7) (cs ++ cell o (pos x) ∷ []) xs))
    stepped x n cs xs small =
        let here : Where = record { statement = w 7; full = w 7 } in
        let live : List Cell = cs ++ cell o (pos x) ∷ [] in
        let sum = operated objects body call base here binary.Add o x 1 n (w 9) (w 11) (pos (x + 1)) cs (reached (w 7) live xs) refl (omega arith) (omega arith) (one_more x small) in
        done objects body call base result (w 7) (int_exp (w 7) (Assign None (variable o (w 7)) (operation binary.Add o 1 (w 9) (w 11)))) (suc (suc (suc (suc (suc n))))) _ live xs _
        (assigned objects body call base here o (operation binary.Add o 1 (w 9) (w 11)) (suc (suc (suc n))) (w 7) (w 7) (pos (x + 1)) live (reached (w 7) live xs) _ sum)

    -- `{ x = x + 1; }` in its scopes
    body_done : (x n : ℕ) (cs : List Cell) (xs : Sights) → x + 1 < 2 ^ 31 →
        acts.continued End (State Sights) cells_of with_cells (exec P M call result (step_block o w)) (state base (suc (suc (suc (suc (suc (suc (suc n))))))) (cs ++ cell o (pos x) ∷ []) xs)
        ≡ Go Next (state base n (cs ++ cell o (pos (x + 1)) ∷ []) (reached (w 7) (cs ++ cell o (pos x) ∷ []) (reached (w 6) (cs ++ cell o (pos x) ∷ []) xs)))
    body_done x n cs xs small =
        let live : List Cell = cs ++ cell o (pos x) ∷ [] in
        let all = suc (suc (suc (suc (suc (suc n))))) in
        let stepping = first_done objects body call base result (step o w) NoStm (state base all live (reached (w 6) live xs)) _ (stepped x n cs (reached (w 6) live xs) small) in
        let block = blocked objects body call base result (w 6) (MoreStm (step o w) NoStm) all live xs _ stepping in
        let stored = ap (λ v. take (length live) (take (length live) (put (key o) v live))) (kept (x + 1) small) ∙ stored_last o (pos x) (pos (x + 1)) cs in
        continued objects body call base result (step_block o w) (state base (suc all) live xs) _ block
        ∙ ap (λ ds. Go Next (state base n ds (reached (w 7) live (reached (w 6) live xs)))) stored

    module _ (b : ℕ) (few : b < 2 ^ 31) where
      abbrev turn : State Sights → Ran Flow
      turn = while_turn P M call (w 0) (operation binary.Lt o b (w 2) (w 4)) (exec P M call result (step_block o w))

      abbrev loop : Loop
      loop = WhileLoop (operation binary.Lt o b (w 2) (w 4)) (step_block o w)

      turn_on : (x n : ℕ) (cs : List Cell) (xs : Sights) → x < b →
          turn (state base (suc (suc (suc (suc (suc (suc (suc (suc (suc (suc n)))))))))) (cs ++ cell o (pos x) ∷ []) xs)
          ≡ Go Next (state base n (cs ++ cell o (pos (x + 1)) ∷ []) (turn_seen w (cs ++ cell o (pos x) ∷ []) xs))
      turn_on x n cs xs h =
          let here : Where = record { statement = w 0; full = w 2 } in
          let live : List Cell = cs ++ cell o (pos x) ∷ [] in
          let rest = suc (suc (suc (suc (suc (suc (suc n)))))) in
          let test = operated objects body call base here binary.Lt o x b rest (w 2) (w 4) (pos 1) cs xs refl (omega arith) few (below x b h) in
          decided objects body call base result (w 0) (operation binary.Lt o b (w 2) (w 4)) (acts.continued End (State Sights) cells_of with_cells (exec P M call result (step_block o w))) (λ s. Go Broken s)
          (pos 1) (state base (suc (suc (suc rest))) live xs) _ test
          ∙ body_done x n cs (Told (Branch (w 0) (Truth true)) live ∷ xs) (omega arith)

      turn_off : (x n : ℕ) (cs : List Cell) (xs : Sights) → x ≡ b →
          turn (state base (suc (suc (suc n))) (cs ++ cell o (pos x) ∷ []) xs)
          ≡ Go Broken (state base n (cs ++ cell o (pos x) ∷ []) (Told (Branch (w 0) (Truth false)) (cs ++ cell o (pos x) ∷ []) ∷ xs))
      turn_off x n cs xs h =
          let here : Where = record { statement = w 0; full = w 2 } in
          let live : List Cell = cs ++ cell o (pos x) ∷ [] in
          let test = operated objects body call base here binary.Lt o x b n (w 2) (w 4) (pos 0) cs xs refl (omega arith) few (not_below x b (omega arith)) in
          decided objects body call base result (w 0) (operation binary.Lt o b (w 2) (w 4)) (acts.continued End (State Sights) cells_of with_cells (exec P M call result (step_block o w))) (λ s. Go Broken s)
          (pos 0) (state base (suc (suc (suc n))) live xs) _ test

      -- r turns more
      turns_run : (r x spare n : ℕ) (arrived cs : List Cell) (xs : Sights) → x + r ≡ b →
          CameTo base (turns P Sights (λ y ys. y ∷ ys) (turns_for r spare) (w 0) loop arrived turn (state base (loop_steps r n) (cs ++ cell o (pos x) ∷ []) xs)) n (cs ++ cell o (pos b) ∷ [])
      turns_run zero x spare n arrived cs xs e =
          let same : x ≡ b = omega arith in
          let live : List Cell = cs ++ cell o (pos x) ∷ [] in
          let start : State Sights = state base (suc (suc (suc n))) live xs in
          subst (λ y. CameTo base (turns P Sights (λ y ys. y ∷ ys) (suc spare) (w 0) loop arrived turn start) n (cs ++ cell o (pos y) ∷ [])) same
          record {
            seen = Told (Branch (w 0) (Truth false)) live ∷ (headed (w 0) loop arrived start).seen;
            is = turn_leaves objects body call base result spare (w 0) loop arrived turn start _ (turn_off x n cs (headed (w 0) loop arrived start).seen same);
          }
      turns_run (suc r) x spare n arrived cs xs e =
          let live : List Cell = cs ++ cell o (pos x) ∷ [] in
          let start : State Sights = state base (loop_steps (suc r) n) live xs in
          let more = turns_run r (x + 1) spare n arrived cs (turn_seen w live (headed (w 0) loop arrived start).seen) (omega arith) in
          record {
            seen = more.seen;
            is =
                turn_goes objects body call base result (turns_for r spare) (w 0) loop arrived turn start _ (turn_on x (loop_steps r n) cs (headed (w 0) loop arrived start).seen (omega arith))
                ∙ more.is;
          }

      -- from 0 up to the bound
      pub loop_runs : (n : ℕ) (cs : List Cell) (xs : Sights) →
          CameTo base (exec P M call result (counting o b w) (state base (suc (loop_steps b n)) (cs ++ cell o (pos 0) ∷ []) xs)) n (cs ++ cell o (pos b) ∷ [])
      loop_runs n cs xs =
          let arrived : List Cell = cs ++ cell o (pos 0) ∷ [] in
          let start : State Sights = state base (loop_steps b n) arrived (reached (w 0) arrived xs) in
          let all = turns_run b 0 (9 * b + 3 + n) n arrived cs (reached (w 0) arrived xs) (omega arith) in
          let ran = ap (λ f. turns P Sights (λ y ys. y ∷ ys) f (w 0) loop arrived turn start) (enough b n) ∙ all.is in
          record {
            seen = all.seen;
            is =
                looped objects body call base result (w 0) (operation binary.Lt o b (w 2) (w 4)) (step_block o w) (loop_steps b n) arrived xs _ ran
                ∙ ap (λ ds. Go Next (state base n ds all.seen)) (take_last o (pos 0) (pos b) cs);
          }
