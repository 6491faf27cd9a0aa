-- Of a demo's calls one alone is an input call, and it alone ends where the input comes back.
use Rattle.std.proofs.Common.{◌≡◌, ◌<◌, ◌≤◌, ◌+◌, ℕ, false, nat_eq, List, [], ◌∷◌, Some, refl, ap, ◌∙◌, arith, append-nil, ne_eqb, find, flat_map, filter_map}
use Rattle.c_core.specs.Parts.{same_spot, statements_of_block, own_fulls_of, exps_of, exps_of_program}
use Rattle.c_core.specs.Places.{InputCall, ends_at, call_at, input_of}
use Rattle.c_core.specs.Tree.{Exp, Stms, NoStm, MoreStm}
use Rattle.c_core.specs.declared.number.BinOp.TheVariants as binary
use Rattle.c_core.specs.declared.number.IntType.TheVariants.{Int}
use Rattle.c_core.specs.declared.number.Spot.{Spot}
use Rattle.c_core.specs.declared.tree.Object.{Object}
use Rattle.way_match.specs.Given.{input_calls}
use Rattle.demo_laws.specs.Source.{declared_at, looped_at, tested_at, drawn_at, chosen_at, ended_at, line_behind}
use Rattle.demo_run.specs.Typed.{declaration, counting, error_if, input, input_call, end, loops, last_statements, faulty_rest, main_alone}
use Rattle.demo_run.proofs.Ending.{same_place}

-- the expressions of a block
abbrev pub exps_in_block : Stms → List Exp
exps_in_block b = flat_map exps_of (flat_map own_fulls_of (statements_of_block b))

pub exps_of_main : (objects : List Object) (body : Stms) → exps_of_program (main_alone objects body) ≡ exps_in_block body
exps_of_main objects body = ap (λ ss. flat_map exps_of (flat_map own_fulls_of ss)) (append-nil (statements_of_block body))

-- ---- a loop

elsewhere : (a b : Spot) → a.line < b.line → same_spot a b ≡ false
elsewhere a b h = let other : nat_eq a.line b.line ≡ false = ne_eqb a.line b.line (λ e. omega (arith, e, h)) in rw other refl

block_ends_elsewhere : (close : Spot) (o b : ℕ) (w v u : ℕ → Spot) (rest : Stms) → same_spot (u 9) close ≡ false →
    find (ends_at close) (exps_in_block (MoreStm (declaration o w) (MoreStm (counting o b v) (MoreStm (error_if binary.Ne o b u) rest)))) ≡ find (ends_at close) (exps_in_block rest)
block_ends_elsewhere close o b w v u rest h = rw h refl

block_draws_nothing : (o b : ℕ) (w v u : ℕ → Spot) (rest : Stms) →
    filter_map input_of (exps_in_block (MoreStm (declaration o w) (MoreStm (counting o b v) (MoreStm (error_if binary.Ne o b u) rest)))) ≡ filter_map input_of (exps_in_block rest)
block_draws_nothing o b w v u rest = refl

-- ---- all loops

pub line_grows : (l : ℕ) (bs : List ℕ) → l ≤ line_behind l bs
line_grows l [] = omega arith
line_grows l (b ∷ bs) = let more = line_grows (l + 1 + 1 + 1 + 1 + 1 + 1 + 1) bs in omega (arith, more)

-- the error of a loop is reached on its sixth line
pub call_line : (l k b : ℕ) → (tested_at l k b 9).line ≡ l + 1
call_line l k b = refl

pub loops_end_elsewhere : (close : Spot) (l k o : ℕ) (bs : List ℕ) (rest : Stms) → line_behind l bs ≤ close.line →
    find (ends_at close) (exps_in_block (loops l k o bs rest)) ≡ find (ends_at close) (exps_in_block rest)
loops_end_elsewhere close l k o [] rest h = refl
loops_end_elsewhere close l k o (b ∷ bs) rest h =
    let m = l + 1 + 1 + 1 + 1 + 1 + 1 + 1 in
    let grows = line_grows m bs in
    let line = call_line (l + 1 + 1 + 1 + 1) k b in
    let other = elsewhere (tested_at (l + 1 + 1 + 1 + 1) k b 9) close (omega (arith, line, grows, h)) in
    block_ends_elsewhere close o b (declared_at l k) (looped_at (l + 1) k b) (tested_at (l + 1 + 1 + 1 + 1) k b) (loops m (k + 1) (o + 1) bs rest) other
    ∙ loops_end_elsewhere close m (k + 1) (o + 1) bs rest h

pub loops_draw_nothing : (l k o : ℕ) (bs : List ℕ) (rest : Stms) → filter_map input_of (exps_in_block (loops l k o bs rest)) ≡ filter_map input_of (exps_in_block rest)
loops_draw_nothing l k o [] rest = refl
loops_draw_nothing l k o (b ∷ bs) rest =
    let m = l + 1 + 1 + 1 + 1 + 1 + 1 + 1 in
    block_draws_nothing o b (declared_at l k) (looped_at (l + 1) k b) (tested_at (l + 1 + 1 + 1 + 1) k b) (loops m (k + 1) (o + 1) bs rest)
    ∙ loops_draw_nothing m (k + 1) (o + 1) bs rest

-- ---- the input

rest_ends_there : (o n : ℕ) (w v : ℕ → Spot) (rest : Stms) →
    find (ends_at (w 5)) (exps_in_block (MoreStm (input o w) (MoreStm (error_if binary.Eq o n v) rest))) ≡ Some (input_call w)
rest_ends_there o n w v rest = rw (same_place (w 5)) refl

-- the one input call of a place
abbrev pub one_call : Spot → InputCall
one_call at = record { spot = at; ty = Int }

rest_draws_once : (o n : ℕ) (w v u : ℕ → Spot) → filter_map input_of (exps_in_block (last_statements o n w v u)) ≡ one_call (w 3) ∷ []
rest_draws_once o n w v u = refl

-- ---- the program

-- the input stands on the line behind the loops
drawn_line : (l : ℕ) → (drawn_at l 5).line ≡ l
drawn_line l = refl

pub call_there : (objects : List Object) (l k o : ℕ) (bs : List ℕ) (n y : ℕ) →
    call_at (main_alone objects (loops l k o bs (faulty_rest (line_behind l bs) y n))) (drawn_at (line_behind l bs) 5) ≡ Some (input_call (drawn_at (line_behind l bs)))
call_there objects l k o bs n y =
    let m = line_behind l bs in
    let close = drawn_at m 5 in
    let line = drawn_line m in
    ap (find (ends_at close)) (exps_of_main objects (loops l k o bs (faulty_rest m y n)))
    ∙ loops_end_elsewhere close l k o bs (faulty_rest m y n) (omega (arith, line))
    ∙ rest_ends_there y n (drawn_at m) (chosen_at (m + 1) n) (MoreStm (end (ended_at (m + 1 + 1 + 1 + 1))) NoStm)

pub drawn_once : (objects : List Object) (l k o : ℕ) (bs : List ℕ) (n y : ℕ) →
    input_calls (main_alone objects (loops l k o bs (faulty_rest (line_behind l bs) y n))) ≡ one_call (drawn_at (line_behind l bs) 3) ∷ []
drawn_once objects l k o bs n y =
    let m = line_behind l bs in
    ap (filter_map input_of) (exps_of_main objects (loops l k o bs (faulty_rest m y n)))
    ∙ loops_draw_nothing l k o bs (faulty_rest m y n)
    ∙ rest_draws_once y n (drawn_at m) (chosen_at (m + 1) n) (ended_at (m + 1 + 1 + 1 + 1))
