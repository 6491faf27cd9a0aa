use Rattle.std.proofs.Common.{◌≡◌, ◌++◌, drop, map}
use Rattle.wv_author.specs.inside.Recording.{segment_of}
use Rattle.wv_author.proofs.segments.push_returns.Given as goal

-- with what is left it becomes what the whole gives
abbrev pub invariant-loop-input : goal.invariant-loop-input
invariant-loop-input l =
    (l.segments ++ map (segment_of l.file) (drop l.input-index l.returned) ≡ l.initial.segments ++ map (segment_of l.file) l.returned)
