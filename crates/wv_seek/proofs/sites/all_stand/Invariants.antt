use Rattle.std.proofs.Common.{take}
use Rattle.std.specs.List.{All}
use Rattle.c_core.specs.View.{program_view}
use Rattle.seek_answer.specs.Reaching.{StandsFor}
use Rattle.wv_seek.proofs.sites.all_stand.Given as goal

-- those so far stand for something
abbrev pub invariant-loop-site : goal.invariant-loop-site
invariant-loop-site l = All (StandsFor (program_view l.program)) (take l.site-index l.sites)
