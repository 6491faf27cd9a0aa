-- The loops of a demo run one behind another, each through its declaration, its turns and its test.
use Rattle.std.proofs.Common.{◌≡◌, ◌<◌, ◌≤◌, ◌+◌, ◌*◌, ◌^◌, ℕ, suc, pos, true, false, nat_le, List, [], ◌∷◌, ◌++◌, length, Option, refl, ap, ◌∙◌, arith, le-leb, length-append}
use Rattle.std.specs.List.{AllByRecursion}
use Rattle.c_core.specs.Types.{fit}
use Rattle.c_core.specs.Tree.{Stms, MoreStm, Program}
use Rattle.c_core.specs.declared.number.BinOp.TheVariants as binary
use Rattle.c_core.specs.declared.number.IntType.{IntType}
use Rattle.c_core.specs.declared.number.IntType.TheVariants.{Int}
use Rattle.c_core.specs.declared.number.Spot.{Spot}
use Rattle.c_core.specs.declared.tree.Object.{Object}
use Rattle.c_meaning.specs.declared.run.Event.TheVariants.{Branch}
use Rattle.c_meaning.specs.declared.run.Way.TheVariants.{Truth}
use Rattle.c_meaning.specs.Acts.{Go, Flow, Next}
use Rattle.c_meaning.specs.Cells.{Cell, put}
use Rattle.c_meaning.specs.Exec.{exec, execs}
use Rattle.c_meaning.specs.Meaning.{Meaning, Where, Calls}
use Rattle.c_meaning.specs.Objects.{type_of_object, size_of_object}
use Rattle.c_meaning.specs.Run.{Told, State, most_cells}
use Rattle.demo_laws.specs.Bounds.{IsBound}
use Rattle.demo_laws.specs.Source.{declared_at, looped_at, tested_at}
use Rattle.demo_run.specs.Typed.{constant, operation, declaration, counting, error_if, error_block, loops, main_alone}
use Rattle.demo_run.proofs.LastCell.{key, cell, put_last}
use Rattle.demo_run.proofs.States.{Sights, Ran, meaning, state, reached}
use Rattle.demo_run.proofs.Evaluating.{kept, not_unequal, operated}
use Rattle.demo_run.proofs.Executing.{first_done, passed_over, declared}
use Rattle.demo_run.proofs.Looping.{loop_steps, loop_steps_are, loop_runs}

-- ---- steps

abbrev pub block_steps : ℕ → ℕ → ℕ
block_steps b n = suc (suc (suc (suc (loop_steps b (suc (suc (suc (suc n))))))))

-- the steps of loops with these bounds, and n more
abbrev pub all_steps : List ℕ → ℕ → ℕ
all_steps [] n = n
all_steps (b ∷ bs) n = block_steps b (all_steps bs n)

-- what the loops take of them
abbrev pub taken_by : List ℕ → ℕ
taken_by [] = 0
taken_by (b ∷ bs) = 10 * b + 11 + taken_by bs

pub all_steps_are : (bs : List ℕ) (n : ℕ) → all_steps bs n ≡ taken_by bs + n
all_steps_are [] n = omega arith
all_steps_are (b ∷ bs) n =
    let more = all_steps_are bs n in
    let here = loop_steps_are b (suc (suc (suc (suc (all_steps bs n))))) in
    omega (arith, here, more)

pub few_steps : (bs : List ℕ) → AllByRecursion IsBound bs → taken_by bs ≤ 1011 * length bs
few_steps [] fit = omega arith
few_steps (b ∷ bs) fit =
    let most = (fit.0).few in
    let more = few_steps bs fit.1 in
    omega (arith, most, more)

-- ---- runs

-- objects from this one on, one for each bound, are ints of one cell
abbrev pub AreInts : Program → ℕ → List ℕ → Type 0
AreInts p o [] = Unit {0}
AreInts p o (b ∷ bs) = (size_of_object p o ≡ 1) × (type_of_object p o ≡ Int) × AreInts p (o + 1) bs

-- it is what follows does, with so many steps left, and at most so many cells
pub record Reaches (base : State Sights) (r : Ran Flow) (next : State Sights → Ran Flow) (n most : ℕ) : Type 0 where
  pub cells : List Cell
  pub seen : Sights
  pub few : length cells ≤ most
  pub is : r ≡ next (state base n cells seen)

pub room_for : (base : State Sights) (cs : List Cell) → base.active ≡ 0 → length cs ≤ 1000 → nat_le (length cs + base.active + 1) most_cells ≡ true
room_for base cs idle few = le-leb (length cs + base.active + 1) 1000000 (omega (arith, idle, few))

module _ (objects : List Object) (body : Stms) where
  abbrev P : Program
  P = main_alone objects body

  abbrev M : Meaning
  M = meaning P

  module _ (call : Calls M) (base : State Sights) (result : Option IntType) (idle : base.active ≡ 0) where
    -- `int x = 0;`
    zero_declared : (o : ℕ) (w : ℕ → Spot) (n : ℕ) (cs : List Cell) (xs : Sights) → size_of_object P o ≡ 1 → type_of_object P o ≡ Int → length cs ≤ 1000 →
        exec P M call result (declaration o w) (state base (suc (suc (suc n))) cs xs) ≡ Go Next (state base n (cs ++ cell o (pos 0) ∷ []) (reached (w 0) cs xs))
    zero_declared o w n cs xs one int few =
        let live : List Cell = cs ++ cell o (pos 0) ∷ [] in
        let stored = ap (λ v. put (key o) v live) (kept 0 (omega arith)) ∙ put_last o (pos 0) (pos 0) cs in
        declared objects body call base result (w 0) (w 1) o (constant 0 (w 3)) (suc n) (pos 0) cs xs (state base n live (reached (w 0) cs xs)) one int (room_for base cs idle few) refl
        ∙ ap (λ ds. Go Next (state base n ds (reached (w 0) cs xs))) stored

    -- `if (x != b) { reach_error(); }` where x is b
    test_passed : (o : ℕ) (w : ℕ → Spot) (b n : ℕ) (cs : List Cell) (xs : Sights) → b < 2 ^ 31 →
        exec P M call result (error_if binary.Ne o b w) (state base (suc (suc (suc (suc n)))) (cs ++ cell o (pos b) ∷ []) xs)
        ≡ Go Next (state base n (cs ++ cell o (pos b) ∷ []) (Told (Branch (w 0) (Truth false)) (cs ++ cell o (pos b) ∷ []) ∷ reached (w 0) (cs ++ cell o (pos b) ∷ []) xs))
    test_passed o w b n cs xs few =
        let here : Where = record { statement = w 0; full = w 2 } in
        let live : List Cell = cs ++ cell o (pos b) ∷ [] in
        let test = operated objects body call base here binary.Ne o b b n (w 2) (w 4) (pos 0) cs (reached (w 0) live xs) refl few few (not_unequal b) in
        passed_over objects body call base result (w 0) (operation binary.Ne o b (w 2) (w 4)) (error_block w) (suc (suc (suc n))) live xs _ test

    -- a loop with its declaration and its test, and what follows
    block_runs : (o b : ℕ) (w v u : ℕ → Spot) (rest : Stms) (n : ℕ) (cs : List Cell) (xs : Sights) →
        size_of_object P o ≡ 1 → type_of_object P o ≡ Int → length cs ≤ 1000 → b < 2 ^ 31 →
        Reaches base (execs P M call result (MoreStm (declaration o w) (MoreStm (counting o b v) (MoreStm (error_if binary.Ne o b u) rest))) (state base (block_steps b n) cs xs))
        (execs P M call result rest) n (length cs + 1)
    block_runs o b w v u rest n cs xs one int some few =
        let test = error_if binary.Ne o b u in
        let more = suc (suc (suc (suc n))) in
        let live : List Cell = cs ++ cell o (pos b) ∷ [] in
        let looped = loop_runs objects body call base result o v b few more cs (reached (w 0) cs xs) in
        let declaring = first_done objects body call base result (declaration o w) (MoreStm (counting o b v) (MoreStm test rest)) (state base (block_steps b n) cs xs) _ (zero_declared o w (suc (loop_steps b more)) cs xs one int some) in
        let looping = first_done objects body call base result (counting o b v) (MoreStm test rest) (state base (suc (loop_steps b more)) (cs ++ cell o (pos 0) ∷ []) (reached (w 0) cs xs)) (state base more live looped.seen) looped.is in
        let testing = first_done objects body call base result test rest (state base more live looped.seen) _ (test_passed o u b n cs looped.seen few) in
        let size = length-append cs (cell o (pos b) ∷ []) in
        record {
          cells = live;
          seen = Told (Branch (u 0) (Truth false)) live ∷ reached (u 0) live looped.seen;
          few = omega (arith, size);
          is = declaring ∙ looping ∙ testing;
        }

    pub loops_run : (l k o : ℕ) (bs : List ℕ) (rest : Stms) (n : ℕ) (cs : List Cell) (xs : Sights) → AreInts P o bs → AllByRecursion IsBound bs → length cs + length bs ≤ 1000 →
        Reaches base (execs P M call result (loops l k o bs rest) (state base (all_steps bs n) cs xs)) (execs P M call result rest) n (length cs + length bs)
    loops_run l k o [] rest n cs xs ints fit few = record { cells = cs; seen = xs; few = omega arith; is = refl }
    loops_run l k o (b ∷ bs) rest n cs xs ints fit few =
        let behind = loops (l + 1 + 1 + 1 + 1 + 1 + 1 + 1) (k + 1) (o + 1) bs rest in
        let bound = (fit.0).few in
        let one = block_runs o b (declared_at l k) (looped_at (l + 1) k b) (tested_at (l + 1 + 1 + 1 + 1) k b) behind (all_steps bs n) cs xs ints.0 ints.1 (omega (arith, few)) (omega (arith, bound)) in
        let size = one.few in
        let more = loops_run (l + 1 + 1 + 1 + 1 + 1 + 1 + 1) (k + 1) (o + 1) bs rest n one.cells one.seen ints.2 fit.1 (omega (arith, size, few)) in
        let all = more.few in
        record { cells = more.cells; seen = more.seen; few = omega (arith, all, size); is = one.is ∙ more.is }
