use Rattle.std.proofs.Common.{◌≡◌, ◌+◌, ◌++◌, ◌∷◌, [], sym, ◌∙◌, ap, subst, true, List, ℤ, w32}
use Rattle.std.proofs.lemmas.Int.{to_z_pos}
use Rattle.clauses.specs.Tseitin.{flag_at}
use Rattle.sat_core.specs.Derived.{AreFlagged}
use Rattle.sat_core.proofs.Flags.{flagged_push, flagged_skip}
use Rattle.sat_core.proofs.analyze.marked.Goals as goal
use Rattle.sat_core.proofs.analyze.marked.Goals.{then-seen-variable+in_ok-push, else-seen-variable}

pub loop-variable-preserved : goal.loop-variable-preserved
loop-variable-preserved c =
    let v = c.loop-variable.variable in
    elim c.if-seen-variable.branch [
      | then-seen-variable+in_ok-push w ↦
          let f : flag_at c.args.seen.now v ≡ true = w.if-seen-variable.true in
          subst (λ (l : List ℤ). AreFlagged c.args.seen.now l (v + 1)) (sym (w.numbers-is ∙ w.in_ok-push.ensures.ok ∙ ap (λ z. c.loop-variable.numbers ++ z ∷ []) (to_z_pos w32 v (c.requires v f))))
          (flagged_push c.args.seen.now c.loop-variable.numbers v f c.loop-variable.invariant)
      | else-seen-variable w ↦ subst (λ (l : List ℤ). AreFlagged c.args.seen.now l (v + 1)) (sym w.numbers-is) (flagged_skip c.args.seen.now c.loop-variable.numbers v w.if-seen-variable.false c.loop-variable.invariant)
    ]
