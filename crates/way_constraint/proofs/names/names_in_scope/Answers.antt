use Rattle.std.proofs.Common.{◌++◌, ◌∙◌, ap, sym, get_or, slice_get, List}
use Rattle.check_rules.specs.Names.{Entry}
use Rattle.way_constraint.specs.Constraints.{entry_at}
use Rattle.way_constraint.proofs.ListLaws.{entries_more}
use Rattle.way_constraint.proofs.names.names_in_scope.Goals as goal

pub loop-number-preserved : goal.loop-number-preserved
loop-number-preserved c =
    let n = get_or c.args.numbers.now c.loop-number.number-index 0 in
    c.in_ok-declare_at.ensures
    ∙ ap (λ (es : List Entry). es ++ entry_at n (slice_get c.args.objects.now n)) c.loop-number.invariant
    ∙ sym (entries_more c.args.objects.now c.args.numbers.now c.loop-number.number-index c.loop-number-test.true)
