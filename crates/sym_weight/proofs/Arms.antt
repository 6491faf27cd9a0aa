-- What the arms of a switch sum up to, arm by arm.
use Rattle.std.proofs.Common.{◌≡◌, ℕ, suc, ◌+◌, ◌<◌, List, ◌∷◌, ◌++◌, Bool, Option, append_assoc, drop, get_or, length, refl, ap, sym, ◌∙◌, subst, arith}
use Rattle.c_core.specs.Tree.{Stms, NoStm, MoreStm, MoreCase, Program}
use Rattle.c_core.specs.View.{joined, stmt_view, stmts_view, switch_view}
use Rattle.c_core.specs.declared.number.IntType.{IntType}
use Rattle.c_core.specs.declared.number.Spot.{Spot}
use Rattle.c_core.specs.declared.tree.Arm.{Arm, out-Arm}
use Rattle.c_core.specs.declared.tree.Stmt.{Stmt}
use Rattle.c_core.proofs.ArmLaws.{all_from, arms_from}
use Rattle.sym_weight.specs.declared.cost.Cost.{Cost}
use Rattle.sym_weight.specs.Sum.{statement, statements}
use Rattle.sym_weight.specs.Tally.{IsCounted, capped, cost, plus, tallying}
use Rattle.sym_weight.proofs.Costs.{plus_thrice, statements_alone}
use Rattle.sym_weight.proofs.Counting.{one_more}

module _ (p : Program) (at_place : Bool → Spot → ℕ) (result : Option IntType) where
  abbrev all : Stms → Cost
  all b = (statements p tallying at_place result b).cost

  -- after other costs, the statements of two lists are those of both
  joined_after : (b c : Stms) (sum : Cost) → plus (plus sum (all b)) (all c) ≡ plus sum (all (joined b c))
  joined_after NoStm c sum = plus_thrice sum (cost 0 0) (all c) ∙ ap (λ x. plus sum x) (statements_alone p at_place result c)
  joined_after (MoreStm s b) c sum =
      plus_thrice sum (all (MoreStm s b)) (all c) ∙ ap (λ x. plus sum x) (joined_after b c (statement p tallying at_place result s).cost)
  joined_after (MoreCase spot l b) c sum = joined_after b c sum

  pub costs_from : (arms : List Arm) (i : ℕ) (a : Arm) (sum : Cost) → i < length arms → a ≡ get_or arms i a
      → plus (plus sum (all (stmts_view (out-Arm a).body))) (all (switch_view (drop (i + 1) arms))) ≡ plus sum (all (switch_view (drop i arms)))
  costs_from arms i a sum l e =
      joined_after (stmts_view (out-Arm a).body) (switch_view (drop (i + 1) arms)) sum ∙ sym (ap (λ b. plus sum (all b)) (arms_from arms i a l e))

  pub calls_from : (arms : List Arm) (i : ℕ) (a : Arm) → i < length arms → a ≡ get_or arms i a
      → (statements p tallying at_place result (switch_view (drop i arms))).calls
      ≡ (statements p tallying at_place result (stmts_view (out-Arm a).body)).calls ++ (statements p tallying at_place result (switch_view (drop (i + 1) arms))).calls
  calls_from arms i a l e =
      all_from (λ s. (statement p tallying at_place result s).calls) (λ b. (statements p tallying at_place result b).calls) refl (λ s b. refl) (λ b spot l. refl) arms i a l e

  -- one arm more
  pub calls_on : (arms : List Arm) (i : ℕ) (a : Arm) (body : List Stmt) (old new whole : List ℕ) → i < length arms → a ≡ get_or arms i a → body ≡ (out-Arm a).body → new ≡ old ++ (statements p tallying at_place result (stmts_view body)).calls
      → old ++ (statements p tallying at_place result (switch_view (drop i arms))).calls ≡ whole → new ++ (statements p tallying at_place result (switch_view (drop (i + 1) arms))).calls ≡ whole
  calls_on arms i a body old new whole l e q n h =
      let rest = (statements p tallying at_place result (switch_view (drop (i + 1) arms))).calls in
      ap (λ xs. xs ++ rest) (n ∙ ap (λ b. old ++ (statements p tallying at_place result (stmts_view b)).calls) q)
      ∙ append_assoc old (statements p tallying at_place result (stmts_view (out-Arm a).body)).calls rest ∙ ap (λ xs. old ++ xs) (sym (calls_from arms i a l e)) ∙ h

  pub costs_on : (heads : Bool) (arms : List Arm) (i : ℕ) (a : Arm) (body : List Stmt) (old cost new whole : Cost) → i < length arms → a ≡ get_or arms i a → body ≡ (out-Arm a).body
      → IsCounted heads cost (all (stmts_view body)) → new ≡ plus old cost → IsCounted heads (plus old (all (switch_view (drop i arms)))) whole → IsCounted heads (plus new (all (switch_view (drop (i + 1) arms)))) whole
  costs_on heads arms i a body old cost new whole l e q c n h =
      one_more heads old cost (all (stmts_view (out-Arm a).body)) new (all (switch_view (drop (i + 1) arms))) whole (subst (λ b. IsCounted heads cost (all (stmts_view b))) q c) n
      (subst (λ x. IsCounted heads x whole) (sym (costs_from arms i a old l e)) h)

  -- one statement more of a block
  pub counted_on : (heads : Bool) (body left : List Stmt) (i : ℕ) (s : Stmt) (old cost new whole : Cost) → left ≡ s ∷ drop (suc i) body → IsCounted heads cost (statement p tallying at_place result (stmt_view s)).cost → new ≡ plus old cost
      → IsCounted heads (plus old (all (stmts_view left))) whole → IsCounted heads (plus new (all (stmts_view (drop (i + 1) body)))) whole
  counted_on heads body left i s old cost new whole m c n h =
      let next : i + 1 ≡ suc i = omega arith in
      let own = (statement p tallying at_place result (stmt_view s)).cost in
      let rest = all (stmts_view (drop (i + 1) body)) in
      one_more heads old cost own new rest whole c n
      (subst (λ x. IsCounted heads x whole) (ap (λ ss. plus old (all (stmts_view ss))) m ∙ ap (λ j. plus old (plus own (all (stmts_view (drop j body))))) (sym next) ∙ sym (plus_thrice old own rest)) h)

  pub calls_of_more : (body left : List Stmt) (i : ℕ) (s : Stmt) (old new whole : List ℕ) → left ≡ s ∷ drop (suc i) body → new ≡ old ++ (statement p tallying at_place result (stmt_view s)).calls
      → old ++ (statements p tallying at_place result (stmts_view left)).calls ≡ whole → new ++ (statements p tallying at_place result (stmts_view (drop (i + 1) body))).calls ≡ whole
  calls_of_more body left i s old new whole m n h =
      let next : i + 1 ≡ suc i = omega arith in
      let rest = (statements p tallying at_place result (stmts_view (drop (i + 1) body))).calls in
      ap (λ xs. xs ++ rest) n ∙ append_assoc old (statement p tallying at_place result (stmt_view s)).calls rest
      ∙ ap (λ j. old ++ ((statement p tallying at_place result (stmt_view s)).calls ++ (statements p tallying at_place result (stmts_view (drop j body))).calls)) next
      ∙ ap (λ ss. old ++ (statements p tallying at_place result (stmts_view ss)).calls) (sym m) ∙ h

  pub settled_on : (old x new : Cost) → new ≡ plus old x → plus new (cost 0 0) ≡ new
  settled_on old x new n = ap (λ y. plus y (cost 0 0)) n ∙ plus_none (old.weight + x.weight) (old.bits + x.bits) ∙ sym n
    where
      none_after : (a : ℕ) → capped (capped a + capped 0) ≡ capped a
      none_after a = omega arith

      plus_none : (a b : ℕ) → plus (cost a b) (cost 0 0) ≡ cost a b
      plus_none a b = ap (λ w. record { weight = w; bits = capped (capped b + capped 0) }) (none_after a) ∙ ap (λ w. record { weight = capped a; bits = w }) (none_after b)
