use Rattle.std.proofs.Common.{◌<◌, List, length, get_or, ◌∙◌, ap, arith}
use Rattle.c_core.specs.View.{program_view}
use Rattle.way_match.specs.declared.prepared.Ready.{Ready}
use Rattle.way_match.proofs.Views.{ready_at}
use Rattle.way_match.proofs.passing.passes_any.Goals as goal

pub passes-requires : goal.passes-requires
passes-requires c =
    let lt : c.loop-i.i < length c.args.points.now = omega arith in
    c.index-each-i.is ∙ ap (λ (xs : List Ready). get_or xs c.loop-i.i c.index-each-i.result) c.requires.prepared ∙
    ready_at (program_view c.args.program.now) c.args.points.now c.loop-i.i c.index-points-i.result c.index-each-i.result lt c.index-points-i.is
