use Rattle.std.proofs.Common.{◌≡◌, ◌<◌, ℕ, Bool, true, false, List, [], ◌∷◌, ◌++◌, length, get_or, sym, ap, ◌∙◌, subst, arith}
use Rattle.std.proofs.lemmas.List.{append-nil}
use Rattle.c_core.specs.View.{program_view}
use Rattle.c_core.specs.declared.tree.Object.{Object}
use Rattle.c_core.specs.Scope.{is_fixed}
use Rattle.c_meaning.specs.Parts.{those, numbers_from}
use Rattle.c_calls.specs.Marks.{is_changed}
use Rattle.c_calls.proofs.ChangedLaws.{fixed_at, one_more_picked}
use Rattle.c_calls.proofs.loop_changes.collect.Goals as goal
use Rattle.c_calls.proofs.loop_changes.collect.Goals.{then-is_changed+in_ok-push, else-is_changed}

pub loop-number-preserved : goal.loop-number-preserved
loop-number-preserved c =
    let n = c.loop-number.number in
    let o = c.object-item.result in
    let objects = c.args.program.now.objects in
    let q : ℕ → Bool = λ x. is_changed c.args.here.now c.args.inside.now c.args.there.now x (is_fixed (program_view c.args.program.now) x) in
    let same = ap length c.as_slice-object-items.ensures in
    let inside : n < length objects = omega arith in
    let at : o ≡ get_or objects n o = subst (λ (xs : List Object). o ≡ get_or xs n o) c.as_slice-object-items.ensures c.object-item.is in
    let tested : c.is_changed.result ≡ q n = c.is_changed.ensures ∙ ap (is_changed c.args.here.now c.args.inside.now c.args.there.now n) (sym (fixed_at objects n o inside at)) in
    elim c.if-is_changed.branch [
      | then-is_changed+in_ok-push w ↦
          ap (λ v. v.items) w.objects-is ∙ w.in_ok-push.ensures.items ∙ ap (λ l. l ++ n ∷ []) c.loop-number.invariant ∙ one_more_picked q n true (sym w.if-is_changed.true ∙ tested)
      | else-is_changed w ↦
          ap (λ v. v.items) w.objects-is ∙ c.loop-number.invariant ∙ sym (append-nil (those q (numbers_from 0 n))) ∙ one_more_picked q n false (sym w.if-is_changed.false ∙ tested)
    ]
