use Rattle.std.proofs.Common.{subst}
use Rattle.c_core.specs.View.{program_view}
use Rattle.way_match.specs.View.{each_segment_view}
use Rattle.way_bind.specs.Binding.{AreBoundTo, segments_of}
use Rattle.way_bind.proofs.binding.bind_over.Goals as goal

pub returns : goal.returns
returns c =
    subst (λ ss. AreBoundTo (program_view c.args.lookup.now.index) ss (each_segment_view c.in_ok-segments.segments)) c.segments_of.ensures c.in_ok-segments.ensures
