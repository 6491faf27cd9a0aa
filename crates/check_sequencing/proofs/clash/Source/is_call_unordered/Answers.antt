use Rattle.std.proofs.Common.{◌≡◌, ◌+◌, ◌++◌, ◌∷◌, [], List, drop, refl, sym, ap, subst, ◌∙◌}
use Rattle.std.proofs.lemmas.Bool.{false≢true}
use Rattle.std.proofs.lemmas.List.{drop_all}
use Rattle.c_core.specs.TreeView.{expr_view, exprs_view}
use Rattle.check_sequencing.specs.declared.effect.Effect.{Effect}
use Rattle.check_sequencing.specs.Deciding.{IsSeen, Tells, bodies_of, objects_of}
use Rattle.check_sequencing.specs.Effects.{SomeBehind, Next, Later}
use Rattle.check_sequencing.specs.Walking.{AreUnsequencedBy, arguments_by, effects_by}
use Rattle.check_sequencing.proofs.ArgumentLaws.{next_argument, same_effects, told_at}
use Rattle.check_sequencing.proofs.PairLaws.{behind_of_pair, none_behind, one_behind, pair_if_behind}
use Rattle.check_sequencing.proofs.WalkLaws.{same_after}
use Rattle.check_sequencing.proofs.clash.Source.is_call_unordered.Goals as goal

pub loop-arg-init : goal.loop-arg-init
loop-arg-init c =
    let s = c.args.self.now in
    let all = arguments_by s (exprs_view c.args.args.now) in
    record {
      known = c.requires;
      same = record { bodies = refl; objects = refl; count = refl; known = c.requires };
      seen = subst (IsSeen c.new-seen.result) (sym c.new-before.ensures.items) c.new-seen.ensures;
      forth = λ b. pair_if_behind (bodies_of s) (objects_of s) all (subst (λ xs. SomeBehind (bodies_of s) (objects_of s) xs all) c.new-before.ensures.items b);
      back = λ p. subst (λ xs. SomeBehind (bodies_of s) (objects_of s) xs all) (sym c.new-before.ensures.items) (behind_of_pair (bodies_of s) (objects_of s) [] all p);
    }

pub returns-then-branch-clause-told : goal.returns-then-branch-clause-told
returns-then-branch-clause-told c =
    let s = c.args.self.now in
    let e = expr_view c.arg-item.result in
    let next = next_argument s c.args.args.now c.loop-arg.arg-index c.arg-item.result c.loop-arg-test.true c.arg-item.is in
    let told = told_at s c.loop-arg.self c.in_ok-joins_unordered.field-0 c.loop-arg.before.items e c.loop-arg.invariant.same c.in_ok-joins_unordered.ensures.told in (
      λ h. c.loop-arg.invariant.forth (subst (SomeBehind (bodies_of s) (objects_of s) c.loop-arg.before.items) (sym next) (Next (told.0 c.if-branch.true))),
      λ p. refl,
    )

pub loop-arg-preserved : goal.loop-arg-preserved
loop-arg-preserved c =
    let s = c.args.self.now in
    let e = expr_view c.arg-item.result in
    let before = c.loop-arg.before.items in
    let after = c.joins_unordered.new.before.items in
    let rest = arguments_by s (exprs_view (drop (c.loop-arg.arg-index + 1) c.args.args.now)) in
    let next = next_argument s c.args.args.now c.loop-arg.arg-index c.arg-item.result c.loop-arg-test.true c.arg-item.is in
    let told = told_at s c.loop-arg.self c.in_ok-joins_unordered.field-0 before e c.loop-arg.invariant.same c.in_ok-joins_unordered.ensures.told in
    let joined : after ≡ before ++ effects_by s e = c.in_ok-joins_unordered.ensures.joined ∙ ap (λ (xs : List Effect). before ++ xs) (same_effects s c.loop-arg.self e c.loop-arg.invariant.same) in
    record {
      known = c.in_ok-joins_unordered.ensures.same.known;
      same = same_after s c.loop-arg.self c.joins_unordered.new.self c.loop-arg.invariant.same c.in_ok-joins_unordered.ensures.same;
      seen = c.in_ok-joins_unordered.ensures.seen;
      forth = λ b. c.loop-arg.invariant.forth (subst (SomeBehind (bodies_of s) (objects_of s) before) (sym next) (Later (subst (λ xs. SomeBehind (bodies_of s) (objects_of s) xs rest) joined b)));
      back = λ p. subst (λ xs. SomeBehind (bodies_of s) (objects_of s) xs rest) (sym joined)
          (one_behind (bodies_of s) (objects_of s) before (effects_by s e) rest (λ u. false≢true (sym c.if-branch.false ∙ told.1 u)) (subst (SomeBehind (bodies_of s) (objects_of s) before) next (c.loop-arg.invariant.back p)));
    }

pub returns-clause-told : goal.returns-clause-told
returns-clause-told c =
    let s = c.args.self.now in (
      λ h. absurd (false≢true h),
      λ p. absurd (none_behind (bodies_of s) (objects_of s) c.loop-arg.before.items
          (subst (λ xs. SomeBehind (bodies_of s) (objects_of s) c.loop-arg.before.items (arguments_by s (exprs_view xs))) (drop_all c.loop-arg.arg-index c.args.args.now c.loop-arg-test.false) (c.loop-arg.invariant.back p))),
    )
