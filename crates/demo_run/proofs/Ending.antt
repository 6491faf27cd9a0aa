-- Behind the loops the input draws n, and the error is reached.
use Rattle.std.proofs.Common.{◌≡◌, ◌<◌, ◌≤◌, ◌^◌, ℕ, suc, pos, true, List, [], ◌∷◌, ◌++◌, length, Option, Some, refl, ap, ◌∙◌, eq-eqb}
use Rattle.c_core.specs.Tree.{Stms, MoreStm, Program}
use Rattle.c_core.specs.declared.number.BinOp.TheVariants as binary
use Rattle.c_core.specs.declared.number.IntType.{IntType}
use Rattle.c_core.specs.declared.number.IntType.TheVariants.{Int}
use Rattle.c_core.specs.declared.number.Spot.{Spot}
use Rattle.c_core.specs.declared.tree.Object.{Object}
use Rattle.c_meaning.specs.declared.run.Choices.{Choices}
use Rattle.c_meaning.specs.declared.run.Choices.TheVariants.{Given}
use Rattle.c_meaning.specs.declared.run.DrawKind.TheVariants.{Input}
use Rattle.c_meaning.specs.declared.run.End.TheVariants.{Violated}
use Rattle.c_meaning.specs.declared.run.Event.TheVariants.{Branch, Enter, Return, Fail}
use Rattle.c_meaning.specs.declared.run.Way.TheVariants.{Truth}
use Rattle.c_meaning.specs.Acts.{Go, Stop, Next}
use Rattle.c_meaning.specs.Cells.{Cell, put}
use Rattle.c_meaning.specs.Eval.{eval}
use Rattle.c_meaning.specs.Exec.{exec, execs}
use Rattle.c_meaning.specs.Meaning.{Meaning, Where, Used, Calls}
use Rattle.c_meaning.specs.Objects.{type_of_object, size_of_object}
use Rattle.c_core.specs.Parts.{same_spot}
use Rattle.c_meaning.specs.Run.{Told, State}
use Rattle.demo_run.specs.Typed.{operation, input_call, input, error_if, error_block, main_alone}
use Rattle.demo_run.proofs.LastCell.{key, cell, put_last}
use Rattle.demo_run.proofs.States.{Sights, meaning, state, reached}
use Rattle.demo_run.proofs.Evaluating.{kept, equal, operated}
use Rattle.demo_run.proofs.Executing.{first_done, first_stops, taken_stops, declared}
use Rattle.demo_run.proofs.Blocks.{room_for}

pub same_place : (a : Spot) → same_spot a a ≡ true
same_place a = rw (eq-eqb a.line a.line refl) (eq-eqb a.column a.column refl)

-- the one value n for the input call at a place
abbrev pub one_input : Spot → ℕ → Choices
one_input at n = Given (record { spot = at; values = pos n ∷ [] } ∷ [])

-- before anything is drawn
abbrev pub undrawn : Spot → ℕ → State Sights
undrawn at n = record { steps = 0; cells = []; active = 0; choices = one_input at n; draws = []; unfixed = 0; seen = [] }

-- n was drawn
abbrev pub drawn : Spot → ℕ → State Sights
drawn at n = record {
  steps = 0;
  cells = [];
  active = 0;
  choices = Given (record { spot = at; values = [] } ∷ []);
  draws = record { spot = at; ty = Int; value = pos n; from = Input } ∷ [];
  unfixed = 0;
  seen = [];
}

-- what is seen at the error
abbrev pub error_seen : (ℕ → Spot) → List Cell → Sights → Sights
error_seen v cs xs = Told (Fail (v 7) (v 7) (Some (v 7))) cs ∷ Told (Enter (v 9)) cs ∷ reached (v 7) cs (reached (v 6) cs xs)

-- the cells of a run with y
abbrev pub with_y : ℕ → ℕ → List Cell → List Cell
with_y o n cs = cs ++ cell o (pos n) ∷ []

-- what is seen where the input comes back
abbrev pub input_seen : ℕ → ℕ → (ℕ → Spot) → List Cell → Sights → Sights
input_seen o n w cs xs = Told (Return (w 5) (Some (pos n))) (with_y o 0 cs) ∷ Told (Enter (w 5)) (with_y o 0 cs) ∷ reached (w 0) cs xs

-- and from there to the error
abbrev pub last_seen : ℕ → ℕ → (ℕ → Spot) → (ℕ → Spot) → List Cell → Sights → Sights
last_seen o n w v cs xs = error_seen v (with_y o n cs) (Told (Branch (v 0) (Truth true)) (with_y o n cs) ∷ reached (v 0) (with_y o n cs) (input_seen o n w cs xs))

module _ (objects : List Object) (body : Stms) where
  abbrev P : Program
  P = main_alone objects body

  abbrev M : Meaning
  M = meaning P

  module _ (call : Calls M) (result : Option IntType) where
    -- `{ reach_error(); }`
    error_stops : (base : State Sights) (v : ℕ → Spot) (m : ℕ) (cs : List Cell) (xs : Sights) →
        exec P M call result (error_block v) (state base (suc (suc (suc m))) cs xs) ≡ Stop (Violated (v 7)) (state base m cs (error_seen v cs xs))
    error_stops base v m cs xs = refl

    -- `__VERIFIER_nondet_int()`
    input_drawn : (at : Where) (n : ℕ) (w : ℕ → Spot) (m : ℕ) (cs : List Cell) (xs : Sights) → n < 2 ^ 31 →
        eval P M call at Used (input_call w) (state (undrawn (w 3) n) (suc m) cs xs)
        ≡ Go (pos n) (state (drawn (w 3) n) m cs (Told (Return (w 5) (Some (pos n))) cs ∷ Told (Enter (w 5)) cs ∷ xs))
    input_drawn at n w m cs xs small = rw (same_place (w 3), kept n small) refl

    -- `int y = __VERIFIER_nondet_int();`
    input_declared : (o n : ℕ) (w : ℕ → Spot) (m : ℕ) (cs : List Cell) (xs : Sights) → n < 2 ^ 31 → size_of_object P o ≡ 1 → type_of_object P o ≡ Int → length cs ≤ 1000 →
        exec P M call result (input o w) (state (undrawn (w 3) n) (suc (suc (suc m))) cs xs) ≡ Go Next (state (drawn (w 3) n) m (with_y o n cs) (input_seen o n w cs xs))
    input_declared o n w m cs xs small one int few =
        let here : Where = record { statement = w 0; full = w 3 } in
        let stored = ap (λ v. put (key o) v (with_y o 0 cs)) (kept n small) ∙ put_last o (pos 0) (pos n) cs in
        declared objects body call (undrawn (w 3) n) result (w 0) (w 1) o (input_call w) (suc m) (pos n) cs xs _ one int (room_for (undrawn (w 3) n) cs refl few)
        (input_drawn here n w m (with_y o 0 cs) (reached (w 0) cs xs) small)
        ∙ ap (λ ds. Go Next (state (drawn (w 3) n) m ds (input_seen o n w cs xs))) stored

    -- `if (y == n) { reach_error(); }` where y is n
    equal_stops : (base : State Sights) (o n : ℕ) (v : ℕ → Spot) (m : ℕ) (cs : List Cell) (xs : Sights) → n < 2 ^ 31 →
        exec P M call result (error_if binary.Eq o n v) (state base (suc (suc (suc (suc (suc (suc (suc m))))))) (with_y o n cs) xs)
        ≡ Stop (Violated (v 7)) (state base m (with_y o n cs) (error_seen v (with_y o n cs) (Told (Branch (v 0) (Truth true)) (with_y o n cs) ∷ reached (v 0) (with_y o n cs) xs)))
    equal_stops base o n v m cs xs small =
        let here : Where = record { statement = v 0; full = v 2 } in
        let more = suc (suc (suc m)) in
        let test = operated objects body call base here binary.Eq o n n more (v 2) (v 4) (pos 1) cs (reached (v 0) (with_y o n cs) xs) refl small small (equal n) in
        taken_stops objects body call base result (v 0) (operation binary.Eq o n (v 2) (v 4)) (error_block v) (suc (suc (suc more))) (with_y o n cs) xs _ _ (Violated (v 7)) test
        (error_stops base v m (with_y o n cs) (Told (Branch (v 0) (Truth true)) (with_y o n cs) ∷ reached (v 0) (with_y o n cs) xs))

    -- the draw and the error, whatever stands behind
    pub rest_stops : (o n : ℕ) (w v : ℕ → Spot) (rest : Stms) (m : ℕ) (cs : List Cell) (xs : Sights) → n < 2 ^ 31 → size_of_object P o ≡ 1 → type_of_object P o ≡ Int → length cs ≤ 1000 →
        execs P M call result (MoreStm (input o w) (MoreStm (error_if binary.Eq o n v) rest)) (state (undrawn (w 3) n) (suc (suc (suc (suc (suc (suc (suc (suc (suc (suc m)))))))))) cs xs)
        ≡ Stop (Violated (v 7)) (state (drawn (w 3) n) m (with_y o n cs) (last_seen o n w v cs xs))
    rest_stops o n w v rest m cs xs small one int few =
        let more = suc (suc (suc (suc (suc (suc (suc m)))))) in
        let test = error_if binary.Eq o n v in
        first_done objects body call (undrawn (w 3) n) result (input o w) (MoreStm test rest) (state (undrawn (w 3) n) (suc (suc (suc more))) cs xs) _ (input_declared o n w more cs xs small one int few)
        ∙ first_stops objects body call (undrawn (w 3) n) result test rest (state (drawn (w 3) n) more (with_y o n cs) (input_seen o n w cs xs)) _ (Violated (v 7))
        (equal_stops (drawn (w 3) n) o n v m cs (input_seen o n w cs xs) small)
