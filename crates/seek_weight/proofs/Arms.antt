-- What the arms of a switch weigh, arm by arm.
use Rattle.std.proofs.Common.{◌≡◌, ℕ, ◌+◌, ◌<◌, List, Option, drop, get_or, length, sym, ap, ◌∙◌, zero-add, arith}
use Rattle.c_core.specs.Tree.{Stms, NoStm, MoreStm, MoreCase, Program}
use Rattle.c_core.specs.View.{joined, stmts_view, switch_view}
use Rattle.c_core.specs.declared.number.IntType.{IntType}
use Rattle.c_core.specs.declared.tree.Arm.{Arm, out-Arm}
use Rattle.c_core.specs.declared.tree.Stmt.{Stmt}
use Rattle.c_core.proofs.ArmLaws.{arms_from}
use Rattle.sym_weight.specs.Tally.{capped}
use Rattle.seek_weight.specs.SeekWeight.{Count, statements}
use Rattle.seek_weight.proofs.Sums.{sum_on}

module _ (p : Program) (C : Count) (k : ℕ) (body : ℕ → ℕ → ℕ) (result : Option IntType) where
  joined_sum : (b c : Stms) → statements p C k body result (joined b c) ≡ statements p C k body result b + statements p C k body result c
  joined_sum NoStm c = sym (zero-add (statements p C k body result c))
  joined_sum (MoreStm s b) c = let e = joined_sum b c in omega arith
  joined_sum (MoreCase spot l b) c = joined_sum b c

  -- one arm more
  pub arm_on : (arms : List Arm) (i : ℕ) (a : Arm) (own : List Stmt) (sum part new whole : ℕ) → i < length arms → a ≡ get_or arms i a → own ≡ (out-Arm a).body
      → part ≡ capped (statements p C k body result (stmts_view own)) → new ≡ capped (sum + part) → capped (sum + statements p C k body result (switch_view (drop i arms))) ≡ whole
      → capped (new + statements p C k body result (switch_view (drop (i + 1) arms))) ≡ whole
  arm_on arms i a own sum part new whole l e q is n h =
      let rest = switch_view (drop (i + 1) arms) in
      let split : statements p C k body result (switch_view (drop i arms)) ≡ statements p C k body result (stmts_view own) + statements p C k body result rest =
      ap (statements p C k body result) (arms_from arms i a l e) ∙ joined_sum (stmts_view (out-Arm a).body) rest ∙ ap (λ b. statements p C k body result (stmts_view b) + statements p C k body result rest) (sym q) in
      sum_on sum part (statements p C k body result (stmts_view own)) (statements p C k body result rest) new whole is n (ap (λ x. capped (sum + x)) (sym split) ∙ h)
