-- The sources of a demo have their typed programs.
use Rattle.std.proofs.Common.{◌≡◌, ◌<◌, ◌+◌, ◌^◌, ℕ, Bool, true, false, not, nat_eq, List, [], ◌∷◌, ◌++◌, length, Some, None, codes, bytes_eq, refl, sym, ap, ap₂, ◌∙◌, subst, arith, append_assoc, append-nil, length-append}
use Rattle.std.specs.List.{AllByRecursion}
use Rattle.c_core.specs.Typing.{binary_type}
use Rattle.c_core.specs.Tree.{Expr, Assign, Call, NoExp, Stmt, Do, Declare, Block, If, While, NoElse, NoStm, MoreStm, One, NoName, MoreName}
use Rattle.c_core.specs.declared.number.BinOp.{BinOp}
use Rattle.c_core.specs.declared.number.BinOp.TheVariants as binary
use Rattle.c_core.specs.declared.number.DataModel.TheVariants.{Ilp32}
use Rattle.c_core.specs.declared.number.IntType.TheVariants.{Int}
use Rattle.c_core.specs.declared.number.Property.TheVariants.{UnreachCall}
use Rattle.c_core.specs.declared.number.Spot.{Spot}
use Rattle.c_core.specs.declared.tree.Callee.TheVariants.{Input, ReachError}
use Rattle.c_parser.specs.Tree as raw
use Rattle.c_parser.specs.Tree.{stms}
use Rattle.check_rules.specs.Checked.{typed_statement, typed_block, program_of}
use Rattle.check_rules.specs.Names.{Entry, Object as AnObject, declared_as, named}
use Rattle.check_rules.specs.Scopes.{Scope, seen, with_object, with_entry, after_block, inside, outermost, entry_of_prototype}
use Rattle.check_rules.specs.Typed.{typed}
use Rattle.demo_laws.specs.Bounds.{IsBound}
use Rattle.demo_laws.specs.DemoLines.{name}
use Rattle.demo_laws.specs.Shapes.{name_exp, while_statement, test_statement, chosen_statement, input_statement, return_statement}
use Rattle.demo_laws.specs.Source.{declared_at, looped_at, tested_at, drawn_at, chosen_at, ended_at, loop_statements, loops_statements, line_behind, correct_last, faulty_last, correct_items, faulty_items}
use Rattle.demo_run.specs.Typed.{variable, operation, declaration, counting, error_if, end, loops, last_statements, faulty_rest, local, loop_objects, faulty_objects, main_alone, correct_typed, faulty_typed}
use Rattle.demo_run.proofs.Names.{object_entry, declared_still, named_last, reach_name, input_name, prototype, named_reach, named_input, constant_is_int}

-- the functions with a body
abbrev pub bodies : List (List ℕ)
bodies = codes "main" ∷ []

-- ---- expressions

operation_typed : (es : List Entry) (op : BinOp) (x : List ℕ) (o v : ℕ) (decimal : Bool) (p r : Spot) → named es x ≡ Some (AnObject o Int 0 false) → v < 2 ^ 31 → binary_type Ilp32 op Int Int ≡ Int →
    typed Ilp32 bodies es (raw.Expr p (raw.Binary op (name_exp x p) (raw.Expr r (raw.Number v decimal false 0)))) ≡ operation op o v p r
operation_typed es op x o v decimal p r is small ty = rw (is, constant_is_int v decimal small, ty) refl

-- `x = x + 1`
step_typed : (es : List Entry) (x : List ℕ) (o : ℕ) (p q r : Spot) → named es x ≡ Some (AnObject o Int 0 false) →
    typed Ilp32 bodies es (raw.Expr p (raw.Assign None (name_exp x p) (raw.Expr q (raw.Binary binary.Add (name_exp x q) (raw.Expr r (raw.Number 1 true false 0))))))
    ≡ Expr p (Some Int) (Assign None (variable o p) (operation binary.Add o 1 q r))
step_typed es x o p q r is = rw is refl

error_typed : (es : List Entry) (p w close : Spot) → declared_as es reach_name ≡ None →
    typed Ilp32 bodies es (raw.Expr p (raw.Call reach_name w raw.NoExp close)) ≡ Expr p None (Call ReachError NoExp close)
error_typed es p w close none = rw (named_reach es none) refl

-- two scopes in a scope see what it sees
twice_inside : (es : List Entry) → (es ++ []) ++ [] ≡ es
twice_inside es = append-nil (es ++ []) ∙ append-nil es

-- ---- statements

counting_typed : (s : Scope) (x : List ℕ) (o b : ℕ) (w : ℕ → Spot) → named (seen s) x ≡ Some (AnObject o Int 0 false) → b < 2 ^ 31 →
    typed_statement Ilp32 bodies s (while_statement x b w) ≡ counting o b w
counting_typed s x o b w is few =
    let inner : List Entry = (seen s ++ []) ++ [] in
    let there : named inner x ≡ Some (AnObject o Int 0 false) = ap (λ es. named es x) (twice_inside (seen s)) ∙ is in
    ap₂ (λ e f. Stmt (w 0) (While e (Stmt (w 6) (Block (MoreStm (Stmt (w 7) (Do f)) NoStm)))))
    (operation_typed (seen s) binary.Lt x o b true (w 2) (w 4) is few refl) (step_typed inner x o (w 7) (w 9) (w 11) there)

error_if_typed : (s : Scope) (op : BinOp) (x : List ℕ) (o v : ℕ) (decimal : Bool) (w : ℕ → Spot) → named (seen s) x ≡ Some (AnObject o Int 0 false) → declared_as (seen s) reach_name ≡ None → v < 2 ^ 31 →
    binary_type Ilp32 op Int Int ≡ Int →
    typed_statement Ilp32 bodies s (raw.Stmt (w 0) (raw.If (raw.Expr (w 2) (raw.Binary op (name_exp x (w 2)) (raw.Expr (w 4) (raw.Number v decimal false 0)))) (
    raw.Stmt (w 6) (raw.Block (raw.MoreStm (raw.Stmt (w 7) (raw.Do (raw.Expr (w 7) (raw.Call reach_name (w 7) raw.NoExp (w 9))))) raw.NoStm))) raw.NoElse))
    ≡ error_if op o v w
error_if_typed s op x o v decimal w is none small ty =
    let inner : List Entry = (seen s ++ []) ++ [] in
    let free : declared_as inner reach_name ≡ None = ap (λ es. declared_as es reach_name) (twice_inside (seen s)) ∙ none in
    ap₂ (λ e f. Stmt (w 0) (If e (Stmt (w 6) (Block (MoreStm (Stmt (w 7) (Do f)) NoStm))) NoElse))
    (operation_typed (seen s) op x o v decimal (w 2) (w 4) is small ty) (error_typed inner (w 7) (w 7) (w 9) free)

-- ---- scopes

-- the scope behind the k-th loop
abbrev pub grown : Scope → List ℕ → Spot → Scope
grown s x at = with_object s (local x at)

-- behind all loops
abbrev pub grown_by : Scope → ℕ → ℕ → List ℕ → Scope
grown_by s l k [] = s
grown_by s l k (b ∷ bs) = grown_by (grown s (name k) (declared_at l k 1)) (l + 1 + 1 + 1 + 1 + 1 + 1 + 1) (k + 1) bs

-- before a loop that counts in object o: `reach_error` isn't declared, the input function is
pub record IsReady (s : Scope) (o : ℕ) : Type 0 where
  pub count : length s.objects ≡ o
  pub reach : declared_as (seen s) reach_name ≡ None
  pub input : declared_as (seen s) input_name ≡ Some prototype

-- names in a scope that grew by one
seen_grown : (s : Scope) (x : List ℕ) (at : Spot) → seen (grown s x at) ≡ seen s ++ object_entry x (length s.objects) ∷ []
seen_grown s x at = sym (append_assoc s.outer s.inner (object_entry x (length s.objects) ∷ []))

named_grown : (s : Scope) (x : List ℕ) (at : Spot) (o : ℕ) → length s.objects ≡ o → named (seen (grown s x at)) x ≡ Some (AnObject o Int 0 false)
named_grown s x at o count = ap (λ es. named es x) (seen_grown s x at) ∙ named_last (seen s) x (length s.objects) ∙ ap (λ i. Some (AnObject i Int 0 false)) count

still_grown : (s : Scope) (x z : List ℕ) (at : Spot) → bytes_eq x z ≡ false → declared_as (seen (grown s x at)) z ≡ declared_as (seen s) z
still_grown s x z at other = ap (λ es. declared_as es z) (seen_grown s x at) ∙ declared_still (seen s) x z (length s.objects) other

-- a word that isn't `reach_error` and isn't the input function keeps a scope ready
ready_grown : (s : Scope) (x : List ℕ) (at : Spot) (o : ℕ) → bytes_eq x reach_name ≡ false → bytes_eq x input_name ≡ false → IsReady s o → IsReady (grown s x at) (o + 1)
ready_grown s x at o a b h = record {
  count = length-append s.objects (local x at ∷ []) ∙ ap (λ i. i + 1) h.count;
  reach = still_grown s x reach_name at a ∙ h.reach;
  input = still_grown s x input_name at b ∙ h.input;
}

-- ---- blocks

block_typed : (s : Scope) (l k o b : ℕ) (ss : List raw.Stm) → IsReady s o → b < 2 ^ 31 →
    typed_block Ilp32 bodies s (stms (loop_statements l k b ss))
    ≡ MoreStm (declaration o (declared_at l k)) (
    MoreStm (counting o b (looped_at (l + 1) k b)) (
    MoreStm (error_if binary.Ne o b (tested_at (l + 1 + 1 + 1 + 1) k b)) (typed_block Ilp32 bodies (grown s (name k) (declared_at l k 1)) (stms ss))))
block_typed s l k o b ss h few =
    let w = declared_at l k in
    let v = looped_at (l + 1) k b in
    let u = tested_at (l + 1 + 1 + 1 + 1) k b in
    let g : Scope = grown s (name k) (w 1) in
    let rest = typed_block Ilp32 bodies g (stms ss) in
    let ready : IsReady g (o + 1) = ready_grown s (name k) (w 1) o refl refl h in
    let is = named_grown s (name k) (w 1) o h.count in
    ap (λ i. MoreStm (declaration i w) (MoreStm (typed_statement Ilp32 bodies g (while_statement (name k) b v)) (MoreStm (typed_statement Ilp32 bodies g (test_statement (name k) b u)) rest))) h.count
    ∙ ap₂ (λ x y. MoreStm (declaration o w) (MoreStm x (MoreStm y rest))) (counting_typed g (name k) o b v is few) (error_if_typed g binary.Ne (name k) o b true u is ready.reach few refl)

abbrev bound_fits : (b : ℕ) → IsBound b → b < 2 ^ 31
bound_fits b h = let most = h.few in omega (arith, most)

loops_typed : (s : Scope) (l k o : ℕ) (bs : List ℕ) (last : List raw.Stm) → IsReady s o → AllByRecursion IsBound bs →
    typed_block Ilp32 bodies s (stms (loops_statements l k bs last)) ≡ loops l k o bs (typed_block Ilp32 bodies (grown_by s l k bs) (stms last))
loops_typed s l k o [] last h fit = refl
loops_typed s l k o (b ∷ bs) last h fit =
    let m = l + 1 + 1 + 1 + 1 + 1 + 1 + 1 in
    let g : Scope = grown s (name k) (declared_at l k 1) in
    let ready = ready_grown s (name k) (declared_at l k 1) o refl refl h in
    block_typed s l k o b (loops_statements m (k + 1) bs last) h (bound_fits b fit.0)
    ∙ ap (λ rest. MoreStm (declaration o (declared_at l k)) (MoreStm (counting o b (looped_at (l + 1) k b)) (MoreStm (error_if binary.Ne o b (tested_at (l + 1 + 1 + 1 + 1) k b)) rest)))
    (loops_typed g m (k + 1) (o + 1) bs last ready fit.1)

-- the scope behind the loops
ready_behind : (s : Scope) (l k o : ℕ) (bs : List ℕ) → IsReady s o → IsReady (grown_by s l k bs) (o + length bs)
ready_behind s l k o [] h = let same : o ≡ o + 0 = omega arith in subst (IsReady s) same h
ready_behind s l k o (b ∷ bs) h =
    let m = l + 1 + 1 + 1 + 1 + 1 + 1 + 1 in
    let sum : o + 1 + length bs ≡ o + length (b ∷ bs) = omega arith in
    subst (IsReady (grown_by s l k (b ∷ bs))) sum (ready_behind (grown s (name k) (declared_at l k 1)) m (k + 1) (o + 1) bs (ready_grown s (name k) (declared_at l k 1) o refl refl h))

objects_behind : (s : Scope) (l k : ℕ) (bs : List ℕ) → (grown_by s l k bs).objects ≡ s.objects ++ loop_objects l k bs
objects_behind s l k [] = sym (append-nil s.objects)
objects_behind s l k (b ∷ bs) =
    let m = l + 1 + 1 + 1 + 1 + 1 + 1 + 1 in
    objects_behind (grown s (name k) (declared_at l k 1)) m (k + 1) bs ∙ append_assoc s.objects (local (name k) (declared_at l k 1) ∷ []) (loop_objects m (k + 1) bs)

-- loops declare their variables, and no more
after_loops : (s : Scope) (l k : ℕ) (bs : List ℕ) (last : List raw.Stm) → after_block Ilp32 bodies s (stms (loops_statements l k bs last)) ≡ after_block Ilp32 bodies (grown_by s l k bs) (stms last)
after_loops s l k [] last = refl
after_loops s l k (b ∷ bs) last = after_loops (grown s (name k) (declared_at l k 1)) (l + 1 + 1 + 1 + 1 + 1 + 1 + 1) (k + 1) bs last

-- ---- the last lines

input_typed : (es : List Entry) (p q close : Spot) → declared_as es input_name ≡ Some prototype →
    typed Ilp32 bodies es (raw.Expr p (raw.Call input_name q raw.NoExp close)) ≡ Expr p (Some Int) (Call (Input Int) NoExp close)
input_typed es p q close h = rw (named_input es h) refl

last_typed : (s : Scope) (o n : ℕ) (decimal : Bool) (w v u : ℕ → Spot) → IsReady s o → n < 2 ^ 31 →
    typed_block Ilp32 bodies s (stms (input_statement w ∷ chosen_statement n decimal v ∷ return_statement u ∷ [])) ≡ last_statements o n w v u
last_typed s o n decimal w v u h small =
    let g : Scope = grown s (codes "y") (w 1) in
    let ready : IsReady g (o + 1) = ready_grown s (codes "y") (w 1) o refl refl h in
    let is = named_grown s (codes "y") (w 1) o h.count in
    ap (λ i. MoreStm (Stmt (w 0) (Declare (MoreName (w 1) i (One (typed Ilp32 bodies (seen g) (raw.Expr (w 3) (raw.Call input_name (w 3) raw.NoExp (w 5))))) NoName))) (
    MoreStm (typed_statement Ilp32 bodies g (chosen_statement n decimal v)) (MoreStm (end u) NoStm))) h.count
    ∙ ap₂ (λ e x. MoreStm (Stmt (w 0) (Declare (MoreName (w 1) o (One e) NoName))) (MoreStm x (MoreStm (end u) NoStm)))
    (input_typed (seen g) (w 3) (w 3) (w 5) ready.input) (error_if_typed g binary.Eq (codes "y") o n decimal v is ready.reach small refl)

-- ---- the program

-- the scope in which the body of `main` begins
abbrev pub start : Scope
start = inside (with_entry outermost (entry_of_prototype input_name (Some Int) None)) (codes "main") (Some Int) []

start_ready : IsReady start 0
start_ready = record { count = refl; reach = refl; input = refl }

body_typed : (n : ℕ) (bs : List ℕ) → n < 2 ^ 31 → AllByRecursion IsBound bs →
    typed_block Ilp32 bodies start (stms (loops_statements 4 1 bs (faulty_last (line_behind 4 bs) n))) ≡ loops 4 1 0 bs (faulty_rest (line_behind 4 bs) (length bs) n)
body_typed n bs small fit =
    let m = line_behind 4 bs in
    let sum : 0 + length bs ≡ length bs = omega arith in
    let ready : IsReady (grown_by start 4 1 bs) (length bs) = subst (IsReady (grown_by start 4 1 bs)) sum (ready_behind start 4 1 0 bs start_ready) in
    loops_typed start 4 1 0 bs (faulty_last m n) start_ready fit
    ∙ ap (loops 4 1 0 bs) (last_typed (grown_by start 4 1 bs) (length bs) n (not (nat_eq n 0)) (drawn_at m) (chosen_at (m + 1) n) (ended_at (m + 1 + 1 + 1 + 1)) ready small)

body_objects : (n : ℕ) (bs : List ℕ) → (after_block Ilp32 bodies start (stms (loops_statements 4 1 bs (faulty_last (line_behind 4 bs) n)))).objects ≡ faulty_objects bs
body_objects n bs =
    let m = line_behind 4 bs in
    ap (λ (s : Scope). s.objects) (after_loops start 4 1 bs (faulty_last m n))
    ∙ ap (λ os. os ++ local (codes "y") (drawn_at m 1) ∷ []) (objects_behind start 4 1 bs)

pub faulty_program_of : (n : ℕ) (bs : List ℕ) → n < 2 ^ 31 → AllByRecursion IsBound bs → program_of Ilp32 UnreachCall (faulty_items n bs) ≡ faulty_typed n bs
faulty_program_of n bs small fit = ap₂ main_alone (body_objects n bs) (body_typed n bs small fit)

pub correct_program_of : (bs : List ℕ) → AllByRecursion IsBound bs → program_of Ilp32 UnreachCall (correct_items bs) ≡ correct_typed bs
correct_program_of bs fit =
    let last = correct_last (line_behind 4 bs) in
    ap₂ main_alone (ap (λ (s : Scope). s.objects) (after_loops start 4 1 bs last) ∙ objects_behind start 4 1 bs) (loops_typed start 4 1 0 bs last start_ready fit)
