-- The whole run of a demo's faulty program.
use Rattle.std.proofs.Common.{◌≡◌, ◌<◌, ◌≤◌, ◌+◌, ◌-◌, ◌^◌, ℕ, suc, List, [], ◌∷◌, ◌++◌, length, Some, slice_get, codes, refl, sym, ap, ◌∙◌, subst₂, arith, append_assoc, length-append}
use Rattle.std.specs.List.{AllByRecursion}
use Rattle.c_core.specs.Tree.{Stms, NoStm, MoreStm, Program}
use Rattle.c_core.specs.declared.number.IntType.TheVariants.{Int}
use Rattle.c_core.specs.declared.number.Spot.{Spot}
use Rattle.c_core.specs.declared.tree.Object.{Object}
use Rattle.c_meaning.specs.declared.run.End.{End}
use Rattle.c_meaning.specs.declared.run.End.TheVariants.{Violated}
use Rattle.c_meaning.specs.Acts.{Stop}
use Rattle.c_meaning.specs.Cells.{Cell}
use Rattle.c_meaning.specs.Exec.{execs, call_of, run_in}
use Rattle.c_meaning.specs.Meaning.{Calls}
use Rattle.c_meaning.specs.Objects.{type_in, size_in}
use Rattle.c_meaning.specs.Run.{State, Whole, first_cells, static_cells}
use Rattle.demo_laws.specs.Bounds.{IsBound}
use Rattle.demo_laws.specs.DemoLines.{name}
use Rattle.demo_laws.specs.Source.{declared_at, drawn_at, chosen_at, ended_at, line_behind}
use Rattle.demo_run.specs.Typed.{local, loop_objects, loops, faulty_rest, end, main_alone}
use Rattle.demo_run.proofs.States.{Sights, meaning, state}
use Rattle.demo_run.proofs.Blocks.{all_steps, all_steps_are, taken_by, few_steps, AreInts, loops_run}
use Rattle.demo_run.proofs.Ending.{one_input, undrawn, drawn, with_y, last_seen, rest_stops}

-- ---- objects

-- the object at the end of others
slice_here : {A : Type 0} (xs ys : List A) (a : A) → slice_get (xs ++ a ∷ ys) (length xs) ≡ Some a
slice_here [] ys a = refl
slice_here (x ∷ xs) ys a = slice_here xs ys a

-- a local object is an int of one cell
local_is_int : (objects : List Object) (body : Stms) (o : ℕ) (name : List ℕ) (at : Spot) → slice_get objects o ≡ Some (local name at) →
    (size_in (slice_get objects o) ≡ 1) × (type_in (slice_get objects o) ≡ Int)
local_is_int objects body o name at h = (ap size_in h, ap type_in h)

pub loops_are_ints : (body : Stms) (before : List Object) (l k : ℕ) (bs : List ℕ) (rest : List Object) →
    AreInts (main_alone (before ++ (loop_objects l k bs ++ rest)) body) (length before) bs
loops_are_ints body before l k [] rest = tt
loops_are_ints body before l k (b ∷ bs) rest =
    let m = l + 1 + 1 + 1 + 1 + 1 + 1 + 1 in
    let here : Object = local (name k) (declared_at l k 1) in
    let others : List Object = loop_objects m (k + 1) bs ++ rest in
    let is = local_is_int (before ++ here ∷ others) body (length before) (name k) (declared_at l k 1) (slice_here before others here) in
    let more = loops_are_ints body (before ++ here ∷ []) m (k + 1) bs rest in (
      is.0,
      is.1,
      subst₂ (λ os o. AreInts (main_alone os body) o bs) (append_assoc before (here ∷ []) others) (length-append before (here ∷ [])) more,
    )

objects_count : (l k : ℕ) (bs : List ℕ) → length (loop_objects l k bs) ≡ length bs
objects_count l k [] = refl
objects_count l k (b ∷ bs) = ap suc (objects_count (l + 1 + 1 + 1 + 1 + 1 + 1 + 1) (k + 1) bs)

-- no object is static
none_static : (i l k : ℕ) (bs : List ℕ) (rest : List Object) → ((j : ℕ) → static_cells [] j rest ≡ []) → static_cells [] i (loop_objects l k bs ++ rest) ≡ []
none_static i l k [] rest h = h i
none_static i l k (b ∷ bs) rest h = none_static (suc i) (l + 1 + 1 + 1 + 1 + 1 + 1 + 1) (k + 1) bs rest h

-- ---- the run

-- calls of a program of `main` alone, at most so deep
abbrev pub calls : (objects : List Object) (body : Stms) → ℕ → Calls (meaning (main_alone objects body))
calls objects body n = λ site g vs. call_of (main_alone objects body) (meaning (main_alone objects body)) (run_in (main_alone objects body) (meaning (main_alone objects body)) n) site
    (slice_get (main_alone objects body).functions g) vs

-- `main` ends where its statements do
main_stops : (objects : List Object) (body : Stms) (at : Spot) (v n : ℕ) (e : End) (t : State Sights) → first_cells (main_alone objects body) ≡ [] →
    execs (main_alone objects body) (meaning (main_alone objects body)) (calls objects body (suc n)) (Some Int) body (state (undrawn at v) n [] []) ≡ Stop e t →
    Whole (main_alone objects body) (one_input at v) (suc n) ≡ Stop e t
main_stops objects body at v n e t none h = rw (none, h) refl

-- the run is violated where the error is called, behind any sights
pub record Violates (p : Program) (o n : ℕ) (w v : ℕ → Spot) (N : ℕ) : Type 0 where
  pub left : ℕ
  pub cells : List Cell
  pub front : Sights
  pub is : Whole p (one_input (w 3) n) N ≡ Stop (Violated (v 7)) (state (drawn (w 3) n) left (with_y o n cells) (last_seen o n w v cells front))

-- all objects of a program with y
abbrev pub objects_with_y : ℕ → ℕ → List ℕ → List Object
objects_with_y l k bs = loop_objects l k bs ++ local (codes "y") (drawn_at (line_behind l bs) 1) ∷ []

pub run_violates : (l k n : ℕ) (bs : List ℕ) (N : ℕ) → n < 2 ^ 31 → AllByRecursion IsBound bs → length bs ≤ 50 → 100000 ≤ N →
    Violates (main_alone (objects_with_y l k bs) (loops l k 0 bs (faulty_rest (line_behind l bs) (length bs) n))) (length bs) n (drawn_at (line_behind l bs)) (chosen_at (line_behind l bs + 1) n) N
run_violates l k n bs N small fit few enough =
    let m = line_behind l bs in
    let y : Object = local (codes "y") (drawn_at m 1) in
    let objects : List Object = objects_with_y l k bs in
    let rest = faulty_rest m (length bs) n in
    let body = loops l k 0 bs rest in
    let taken = few_steps bs fit in
    let left : ℕ = N - taken_by bs - 11 in
    let tail = suc (suc (suc (suc (suc (suc (suc (suc (suc (suc left))))))))) in
    let steps = all_steps_are bs tail in
    let all : N ≡ suc (all_steps bs tail) = omega (arith, taken, steps, few, enough) in
    let ints : AreInts (main_alone objects body) 0 bs = loops_are_ints body [] l k bs (y ∷ []) in
    let count = objects_count l k bs in
    let y_there : slice_get objects (length bs) ≡ Some y = ap (slice_get objects) (sym count) ∙ slice_here (loop_objects l k bs) [] y in
    let y_is = local_is_int objects body (length bs) (codes "y") (drawn_at m 1) y_there in
    let none : first_cells (main_alone objects body) ≡ [] = none_static 0 l k bs (y ∷ []) (λ j. refl) in
    let call = calls objects body (suc (all_steps bs tail)) in
    let looped = loops_run objects body call (undrawn (drawn_at m 3) n) (Some Int) refl l k 0 bs rest tail [] [] ints fit (omega (arith, few)) in
    let within = looped.few in
    let ended = rest_stops objects body call (Some Int) (length bs) n (drawn_at m) (chosen_at (m + 1) n) (MoreStm (end (ended_at (m + 1 + 1 + 1 + 1))) NoStm) left looped.cells looped.seen small y_is.0 y_is.1
    (omega (arith, within, few)) in
    let whole = main_stops objects body (drawn_at m 3) n (all_steps bs tail) (Violated (chosen_at (m + 1) n 7)) _ none (looped.is ∙ ended) in
    record { left = left; cells = looped.cells; front = looped.seen; is = ap (Whole (main_alone objects body) (one_input (drawn_at m 3) n)) all ∙ whole }
