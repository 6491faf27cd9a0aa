-- No code refuses a part of a demo's programs.
use Rattle.std.proofs.Common.{◌≡◌, ◌<◌, ◌≤◌, ◌^◌, ℕ, ◌+◌, true, false, not, nat_eq, List, [], ◌∷◌, ◌++◌, length, Some, Result, codes, refl, sym, subst, arith}
use Rattle.std.specs.List.{AllByRecursion}
use Rattle.std.proofs.lemmas.List.Sums.{sum_by_push}
use Rattle.c_check.specs.Checking.{Answers}
use Rattle.c_core.specs.declared.number.BinOp.TheVariants as op
use Rattle.c_core.specs.declared.number.DataModel.TheVariants.{Ilp32}
use Rattle.c_core.specs.declared.number.IntType.TheVariants.{Int}
use Rattle.c_core.specs.declared.number.Property.TheVariants.{UnreachCall}
use Rattle.c_core.specs.declared.number.Spot.{Spot}
use Rattle.c_core.specs.declared.program.Program.{Program}
use Rattle.c_core.specs.declared.tree.Callee.TheVariants.{ReachError}
use Rattle.c_core.specs.declared.tree.Object.{Object as Stored}
use Rattle.c_parser.specs.Tree.{Stm, stms}
use Rattle.check_rules.specs.Checked.{HasProgram, program_of}
use Rattle.check_rules.specs.Codes.{cells_of_all}
use Rattle.check_rules.specs.First.{IsUnrefused}
use Rattle.check_rules.specs.Names.{Object, Entry, kind_of_callee, named}
use Rattle.check_rules.specs.Parts.{labels_of_block, parts_of_labels, parts_of_source}
use Rattle.check_rules.specs.Scopes.{scope}
use Rattle.check_rules.specs.declared.fault.CheckFault.{CheckFault}
use Rattle.demo_laws.specs.Bounds.{AreBounds, IsBound}
use Rattle.demo_laws.specs.DemoLines.{name}
use Rattle.demo_laws.specs.Shapes.{declaration_statement, while_statement, test_statement, return_statement, input_statement, chosen_statement}
use Rattle.demo_laws.specs.Source.{declared_at, looped_at, tested_at, ended_at, drawn_at, chosen_at, loop_statements, loops_statements, line_behind, correct_last, faulty_last, correct_items, faulty_items}
use Rattle.demo_checks.specs.Checked.{IsProgramOf}
use Rattle.demo_checks.proofs.Fine.{IsFine, items, joined, has_program, only_program, unrefused}
use Rattle.demo_checks.proofs.Names.{AreOthers, IsEarlier, are_others, input_named, is_new, named_last, one_more_earlier, one_more_other, outside, reach_named, variable}
use Rattle.demo_checks.proofs.Statements.{parts_at, parts_behind, stored, with_variable, declaration_fine, drawn_fine, guard_fine, return_fine, while_fine}

-- what is declared before the k-th loop: a variable for each loop before it
pub record IsBefore (k : ℕ) (xs : List Entry) (os : List Stored) : Type 0 where
  pub names : AllByRecursion (IsEarlier k) xs
  pub cells : cells_of_all os + 1 ≡ k

before_next : (k : ℕ) (xs : List Entry) (os : List Stored) (p : Spot) → IsBefore k xs os → IsBefore (k + 1) (xs ++ variable (name k) (length os) ∷ []) (os ++ stored (name k) p ∷ [])
before_next k xs os p h =
    let more : cells_of_all (os ++ stored (name k) p ∷ []) ≡ cells_of_all os + 1 = sum_by_push (λ (o : Stored). o.cells) os (stored (name k) p) in
    record { names = one_more_earlier k (length os) xs h.names; cells = omega (arith, more, h.cells) }

-- no variable of a loop is named as the function
others_before : (k : ℕ) (xs : List Entry) (os : List Stored) → IsBefore k xs os → AreOthers (codes "reach_error") xs
others_before k xs os h = are_others k (codes "reach_error") xs (λ j. refl) h.names

module _ (ss : List Stm) where
  -- the three statements of the k-th loop
  loop_fine : (l k b : ℕ) (xs : List Entry) (os : List Stored) (rest : List Stm) → IsBefore k xs os → k ≤ 100000 → IsBound b →
      AllByRecursion (IsFine ss) (parts_behind ss (with_variable xs os (name k) (declared_at l k 1)) rest) →
      AllByRecursion (IsFine ss) (parts_behind ss (scope outside xs os) (loop_statements l k b rest))
  loop_fine l k b xs os rest before few bound behind =
      let x = name k in
      let ys = xs ++ variable x (length os) ∷ [] in
      let ps = os ++ stored x (declared_at l k 1) ∷ [] in
      let s = scope outside ys ps in
      let declare : Stm = declaration_statement x (declared_at l k) in
      let loop : Stm = while_statement x b (looped_at (l + 1) k b) in
      let test : Stm = test_statement x b (tested_at (l + 1 + 1 + 1 + 1) k b) in
      let is_x : named (outside ++ ys) x ≡ Some (Object (length os) Int 0 false) = named_last (outside ++ xs) x (length os) in
      let others : AreOthers (codes "reach_error") ys = one_more_other (codes "reach_error") x (length os) xs refl (others_before k xs os before) in
      let reach : named (outside ++ ys) (codes "reach_error") ≡ Some (kind_of_callee ReachError) = reach_named ys others in
      let cells : cells_of_all os < 100000 = omega (arith, before.cells) in
      let declared = declaration_fine ss xs os x (declared_at l k) (is_new k xs (omega arith) before.names) cells in
      let looped = while_fine ss ys ps x (length os) b (looped_at (l + 1) k b) is_x (omega (arith, bound.few)) in
      let tested = guard_fine ss op.Ne ys ps x (length os) b true (tested_at (l + 1 + 1 + 1 + 1) k b) is_x (omega (arith, bound.few)) reach in
      joined (IsFine ss) (parts_at ss (scope outside xs os) declare) (parts_behind ss s (loop ∷ test ∷ rest)) declared
      (joined (IsFine ss) (parts_at ss s loop) (parts_behind ss s (test ∷ rest)) looped
      (joined (IsFine ss) (parts_at ss s test) (parts_behind ss s rest) tested behind))

  -- all loops, and what stands behind them
  loops_fine : (l k : ℕ) (bs : List ℕ) (xs : List Entry) (os : List Stored) (last : List Stm) → IsBefore k xs os → k + length bs ≤ 100000 → AllByRecursion IsBound bs →
      ((ys : List Entry) (ps : List Stored) → IsBefore (k + length bs) ys ps → AllByRecursion (IsFine ss) (parts_behind ss (scope outside ys ps) last)) →
      AllByRecursion (IsFine ss) (parts_behind ss (scope outside xs os) (loops_statements l k bs last))
  loops_fine l k [] xs os last before few bounds ends =
      let none : k ≡ k + 0 = omega arith in
      ends xs os (subst (λ m. IsBefore m xs os) none before)
  loops_fine l k (b ∷ bs) xs os last before few bounds ends =
      let m = l + 1 + 1 + 1 + 1 + 1 + 1 + 1 in
      let sum : k + 1 + length bs ≡ k + length (b ∷ bs) = omega arith in
      let next = before_next k xs os (declared_at l k 1) before in
      loop_fine l k b xs os (loops_statements m (k + 1) bs last) before (omega arith) bounds.0
      (loops_fine m (k + 1) bs (xs ++ variable (name k) (length os) ∷ []) (os ++ stored (name k) (declared_at l k 1) ∷ []) last next (omega (arith, sum)) bounds.1
      (λ ys ps h. ends ys ps (subst (λ j. IsBefore j ys ps) sum h)))

  -- ---- what stands behind the loops

  correct_end_fine : (l k : ℕ) (ys : List Entry) (ps : List Stored) → IsBefore k ys ps → AllByRecursion (IsFine ss) (parts_behind ss (scope outside ys ps) (correct_last l))
  correct_end_fine l k ys ps h = joined (IsFine ss) (parts_at ss (scope outside ys ps) (return_statement (ended_at l))) [] (return_fine ss ys ps (ended_at l)) tt

  faulty_end_fine : (l n k : ℕ) (ys : List Entry) (ps : List Stored) → n < 2 ^ 31 → k ≤ 100000 → IsBefore k ys ps →
      AllByRecursion (IsFine ss) (parts_behind ss (scope outside ys ps) (faulty_last l n))
  faulty_end_fine l n k ys ps small few h =
      let y = codes "y" in
      let zs = ys ++ variable y (length ps) ∷ [] in
      let qs = ps ++ stored y (drawn_at l 1) ∷ [] in
      let draw : Stm = input_statement (drawn_at l) in
      let test : Stm = chosen_statement n (not (nat_eq n 0)) (chosen_at (l + 1) n) in
      let return : Stm = return_statement (ended_at (l + 1 + 1 + 1 + 1)) in
      let s = scope outside zs qs in
      let no_input : AreOthers (codes "__VERIFIER_nondet_int") ys = are_others k (codes "__VERIFIER_nondet_int") ys (λ j. refl) h.names in
      let input = input_named zs (one_more_other (codes "__VERIFIER_nondet_int") y (length ps) ys refl no_input) in
      let reach = reach_named zs (one_more_other (codes "reach_error") y (length ps) ys refl (others_before k ys ps h)) in
      let is_y : named (outside ++ zs) y ≡ Some (Object (length ps) Int 0 false) = named_last (outside ++ ys) y (length ps) in
      let drawn = drawn_fine ss ys ps (drawn_at l) (are_others k y ys (λ j. refl) h.names) (omega (arith, h.cells)) input in
      let tested = guard_fine ss op.Eq zs qs y (length ps) n (not (nat_eq n 0)) (chosen_at (l + 1) n) is_y small reach in
      let returned = return_fine ss zs qs (ended_at (l + 1 + 1 + 1 + 1)) in
      joined (IsFine ss) (parts_at ss (scope outside ys ps) draw) (parts_behind ss s (test ∷ return ∷ [])) drawn
      (joined (IsFine ss) (parts_at ss s test) (parts_behind ss s (return ∷ [])) tested
      (joined (IsFine ss) (parts_at ss s return) [] returned tt))

  -- ---- the whole source

  source_fine : labels_of_block (stms ss) ≡ [] → AllByRecursion (IsFine ss) (parts_behind ss (scope outside [] []) ss) → AllByRecursion (IsFine ss) (parts_of_source Ilp32 (items ss))
  source_fine none body =
      let labels = parts_of_labels [] (labels_of_block (stms ss)) in
      let no_label : AllByRecursion (IsFine ss) labels = subst (λ ls. AllByRecursion (IsFine ss) (parts_of_labels [] ls)) (sym none) tt in
      let main = parts_behind ss (scope outside [] []) ss in (
        record { known = refl; once = refl; typed = refl; sized = refl; ordered = λ h. h; bodied = refl; few = refl },
        (
          record { known = refl; once = refl; typed = refl; sized = refl; ordered = λ h. h; bodied = refl; few = refl },
          joined (IsFine ss) (main ++ labels) [] (joined (IsFine ss) main labels body no_label) tt,
        ),
      )

nothing_before : IsBefore 1 [] []
nothing_before = record { names = tt; cells = refl }

-- no statement of a loop has a label
no_labels : (l k : ℕ) (bs : List ℕ) (last : List Stm) → labels_of_block (stms last) ≡ [] → labels_of_block (stms (loops_statements l k bs last)) ≡ []
no_labels l k [] last none = none
no_labels l k (b ∷ bs) last none = no_labels (l + 1 + 1 + 1 + 1 + 1 + 1 + 1) (k + 1) bs last none

correct_unrefused : (bs : List ℕ) → AreBounds bs → IsUnrefused Ilp32 (correct_items bs)
correct_unrefused bs bounds =
    let last = correct_last (line_behind 4 bs) in
    let ss = loops_statements 4 1 bs last in
    let few : length bs ≤ 40 = bounds.few in
    unrefused ss (source_fine ss (no_labels 4 1 bs last refl) (loops_fine ss 4 1 bs [] [] last nothing_before (omega (arith, few)) bounds.each (correct_end_fine ss (line_behind 4 bs) (1 + length bs))))

faulty_unrefused : (n : ℕ) (bs : List ℕ) → n < 2 ^ 31 → AreBounds bs → IsUnrefused Ilp32 (faulty_items n bs)
faulty_unrefused n bs small bounds =
    let last = faulty_last (line_behind 4 bs) n in
    let ss = loops_statements 4 1 bs last in
    let few : length bs ≤ 40 = bounds.few in
    unrefused ss (source_fine ss (no_labels 4 1 bs last refl) (loops_fine ss 4 1 bs [] [] last nothing_before (omega (arith, few)) bounds.each
    (λ ys ps h. faulty_end_fine ss (line_behind 4 bs) n (1 + length bs) ys ps small (omega (arith, few)) h)))

-- ---- programs

pub correct_has_program : (bs : List ℕ) → AreBounds bs → HasProgram Ilp32 UnreachCall (correct_items bs) (program_of Ilp32 UnreachCall (correct_items bs)) (codes "main" ∷ [])
correct_has_program bs bounds = has_program (loops_statements 4 1 bs (correct_last (line_behind 4 bs))) (correct_unrefused bs bounds)

pub faulty_has_program : (n : ℕ) (bs : List ℕ) → n < 2 ^ 31 → AreBounds bs → HasProgram Ilp32 UnreachCall (faulty_items n bs) (program_of Ilp32 UnreachCall (faulty_items n bs)) (codes "main" ∷ [])
faulty_has_program n bs small bounds = has_program (loops_statements 4 1 bs (faulty_last (line_behind 4 bs) n)) (faulty_unrefused n bs small bounds)

pub correct_checked : (bs : List ℕ) (answer : Result Program CheckFault) → AreBounds bs → Answers Ilp32 UnreachCall (correct_items bs) answer → IsProgramOf Ilp32 UnreachCall (correct_items bs) answer
correct_checked bs answer bounds h = only_program (loops_statements 4 1 bs (correct_last (line_behind 4 bs))) answer (correct_unrefused bs bounds) h

pub faulty_checked : (n : ℕ) (bs : List ℕ) (answer : Result Program CheckFault) → n < 2 ^ 31 → AreBounds bs → Answers Ilp32 UnreachCall (faulty_items n bs) answer → IsProgramOf Ilp32 UnreachCall (faulty_items n bs) answer
faulty_checked n bs answer small bounds h = only_program (loops_statements 4 1 bs (faulty_last (line_behind 4 bs) n)) answer (faulty_unrefused n bs small bounds) h
