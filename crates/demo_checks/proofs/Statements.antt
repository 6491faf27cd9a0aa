-- The statements of a demo's programs: no code refuses a part of them.
use Rattle.std.proofs.Common.{◌≡◌, ◌<◌, ◌^◌, ℕ, ◌+◌, ◌-◌, nat_le, nat_lt, Bool, true, false, ◌&&◌, List, [], ◌∷◌, ◌++◌, length, Some, None, codes, refl, arith}
use Rattle.std.specs.List.{AllByRecursion}
use Rattle.std.proofs.lemmas.Bool.Decides.{nat_tests}
use Rattle.c_core.specs.declared.number.BinOp.{BinOp}
use Rattle.c_core.specs.declared.number.BinOp.TheVariants as op
use Rattle.c_core.specs.declared.number.DataModel.TheVariants.{Ilp32}
use Rattle.c_core.specs.declared.number.IntType.TheVariants.{Int}
use Rattle.c_core.specs.declared.number.Spot.{Spot}
use Rattle.c_core.specs.declared.tree.Callee.TheVariants.{Input, ReachError}
use Rattle.c_core.specs.declared.tree.Object.{Object as Stored}
use Rattle.c_parser.specs.Tree.{Exp, Expr, Number, Binary, Call, NoExp, Stm, Stmt, Block, Do, If, MoreStm, NoElse, NoStm, One, stms}
use Rattle.check_rules.specs.Codes.{cells_of_all}
use Rattle.check_rules.specs.Names.{Object, Entry, kind_of_callee, named}
use Rattle.check_rules.specs.Order.{is_object, reads}
use Rattle.check_rules.specs.Parts.{Part, Declaring, Initializing, Value, Effect, bodies_of, in_body, parts, parts_of_block, parts_of_statement}
use Rattle.check_rules.specs.Scopes.{Scope, scope, seen}
use Rattle.demo_laws.specs.Shapes.{declaration_statement, input_statement, name_exp, return_statement, while_statement}
use Rattle.demo_checks.proofs.Expressions.{compared, compared_fine, input_fine, input_quiet, number_fine, number_quiet, reach_fine, step, step_fine}
use Rattle.demo_checks.proofs.Fine.{IsFine, items, joined}
use Rattle.demo_checks.proofs.Names.{AreOthers, named_inside, no_clash, outside, variable}
use Rattle.demo_checks.proofs.Quiet.{AreQuiet, touches_nothing}

-- one object more is within the limit
within_limit : (c : ℕ) → c < 100000 → (nat_le c 100000 && nat_lt 100000 (c + 1)) ≡ false
within_limit c low = grind (arith, nat_tests)

-- the object of a variable declared here
abbrev pub stored : List ℕ → Spot → Stored
stored x p = record { name = x; ty = Int; cells = 1; columns = 1; dims = 0; fixed = false; spot = p }

-- behind its declaration
abbrev pub with_variable : List Entry → List Stored → List ℕ → Spot → Scope
with_variable xs os x p = scope outside (xs ++ variable x (length os) ∷ []) (os ++ stored x p ∷ [])

-- `if (x OP v) { reach_error(); }`
abbrev pub guard : BinOp → List ℕ → ℕ → Bool → (ℕ → Spot) → Stm
guard o x v d at =
    Stmt (at 0) (If (Expr (at 2) (Binary o (name_exp x (at 2)) (Expr (at 4) (Number v d false 0))))
    (Stmt (at 6) (Block (MoreStm (Stmt (at 7) (Do (Expr (at 7) (Call (codes "reach_error") (at 7) NoExp (at 9))))) NoStm))) NoElse)

module _ (ss : List Stm) where
  -- the parts of a statement of `main`, and of those behind it
  abbrev pub parts_at : Scope → Stm → List Part
  parts_at s x = parts_of_statement Ilp32 (bodies_of (items ss)) (Some Int) in_body s x

  abbrev pub parts_behind : Scope → List Stm → List Part
  parts_behind s rest = parts_of_block Ilp32 (bodies_of (items ss)) (Some Int) in_body s (stms rest)

  -- a variable that is new is declared
  declared_fine : (xs : List Entry) (os : List Stored) (x : List ℕ) (p : Spot) (e : Exp) → AreOthers x xs → cells_of_all os < 100000 →
      IsFine ss (Declaring false (scope outside xs os) (record { spot = p; name = x; ty = Int; sizes = []; init = One e }))
  declared_fine xs os x p e new few = record {
    known = refl;
    once = no_clash xs x (Object (length os) Int 0 false) new;
    typed = refl;
    sized = refl;
    ordered = λ none. none;
    bodied = refl;
    few = within_limit (cells_of_all os) few;
  }

  -- an initializer that is quiet and reads nothing
  initial_fine : (s : Scope) (e : Exp) → AreQuiet Ilp32 (items ss) (parts (seen s) Value e) → ((o : ℕ) → AllByRecursion (λ p. reads (is_object o) p ≡ false) (parts (seen s) Value e)) →
      IsFine ss (Initializing false s e)
  initial_fine s e quiet none = record {
    known = refl;
    once = refl;
    typed = refl;
    sized = refl;
    ordered = touches_nothing Ilp32 (items ss) (length s.objects - 1) (parts (seen s) Value e) quiet (none (length s.objects - 1));
    bodied = refl;
    few = refl;
  }

  pub declaration_fine : (xs : List Entry) (os : List Stored) (x : List ℕ) (at : ℕ → Spot) → AreOthers x xs → cells_of_all os < 100000 →
      AllByRecursion (IsFine ss) (parts_at (scope outside xs os) (declaration_statement x at))
  declaration_fine xs os x at new few =
      let s = with_variable xs os x (at 1) in
      let zero_exp : Exp = Expr (at 3) (Number 0 false false 0) in
      (declared_fine xs os x (at 1) zero_exp new few, (initial_fine s zero_exp (number_quiet ss (seen s) 0 false (at 3)) (λ o. (refl, tt)), (number_fine ss (seen s) 0 false (at 3) (omega arith), tt)))

  -- `while (x < b) { x = x + 1; }`
  pub while_fine : (xs : List Entry) (os : List Stored) (x : List ℕ) (n b : ℕ) (at : ℕ → Spot) → named (outside ++ xs) x ≡ Some (Object n Int 0 false) → b < 2 ^ 31 →
      AllByRecursion (IsFine ss) (parts_at (scope outside xs os) (while_statement x b at))
  while_fine xs os x n b at e small =
      let inside = ((outside ++ xs) ++ []) ++ [] in
      joined (IsFine ss) (parts (outside ++ xs) Value (compared op.Lt x b true (at 2) (at 2) (at 4) (at 2))) (parts inside Effect (step x (at 7) (at 9) (at 11)))
      (compared_fine ss op.Lt (outside ++ xs) x n b true (at 2) (at 2) (at 4) (at 2) e small)
      (step_fine ss inside x n (at 7) (at 9) (at 11) (named_inside (outside ++ xs) x (Some (Object n Int 0 false)) e))

  pub guard_fine : (o : BinOp) (xs : List Entry) (os : List Stored) (x : List ℕ) (n v : ℕ) (d : Bool) (at : ℕ → Spot) → named (outside ++ xs) x ≡ Some (Object n Int 0 false) → v < 2 ^ 31 →
      named (outside ++ xs) (codes "reach_error") ≡ Some (kind_of_callee ReachError) → AllByRecursion (IsFine ss) (parts_at (scope outside xs os) (guard o x v d at))
  guard_fine o xs os x n v d at e small reach =
      let inside = ((outside ++ xs) ++ []) ++ [] in
      joined (IsFine ss) (parts (outside ++ xs) Value (compared o x v d (at 2) (at 2) (at 4) (at 2))) (parts inside Effect (Expr (at 7) (Call (codes "reach_error") (at 7) NoExp (at 9))))
      (compared_fine ss o (outside ++ xs) x n v d (at 2) (at 2) (at 4) (at 2) e small)
      (reach_fine ss inside (at 7) (at 7) (at 9) (named_inside (outside ++ xs) (codes "reach_error") (Some (kind_of_callee ReachError)) reach), tt)

  -- `return 0;`
  pub return_fine : (xs : List Entry) (os : List Stored) (at : ℕ → Spot) → AllByRecursion (IsFine ss) (parts_at (scope outside xs os) (return_statement at))
  return_fine xs os at = (
    record { known = refl; once = refl; typed = refl; sized = refl; ordered = λ none. none; bodied = refl; few = refl },
    (number_fine ss (outside ++ xs) 0 false (at 1) (omega arith), tt),
  )

  -- `int y = __VERIFIER_nondet_int();`
  pub drawn_fine : (xs : List Entry) (os : List Stored) (at : ℕ → Spot) → AreOthers (codes "y") xs → cells_of_all os < 100000 →
      named (seen (with_variable xs os (codes "y") (at 1))) (codes "__VERIFIER_nondet_int") ≡ Some (kind_of_callee (Input Int)) →
      AllByRecursion (IsFine ss) (parts_at (scope outside xs os) (input_statement at))
  drawn_fine xs os at new few input =
      let s = with_variable xs os (codes "y") (at 1) in
      let draw : Exp = Expr (at 3) (Call (codes "__VERIFIER_nondet_int") (at 3) NoExp (at 5)) in
      (declared_fine xs os (codes "y") (at 1) draw new few, (initial_fine s draw (input_quiet ss (seen s) (at 3) (at 3) (at 5)) (λ o. (refl, tt)), (input_fine ss (seen s) (at 3) (at 3) (at 5) input, tt)))
