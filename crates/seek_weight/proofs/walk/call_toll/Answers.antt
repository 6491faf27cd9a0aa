use Rattle.std.proofs.Common.{◌+◌, ap, ◌∙◌}
use Rattle.sym_weight.specs.Tally.{capped}
use Rattle.seek_weight.specs.Tolls.{ACall}
use Rattle.seek_weight.proofs.Sums.{toll_of}
use Rattle.seek_weight.proofs.walk.call_toll.Goals as goal

pub returns : goal.returns
returns c =
    toll_of _ _ _ _ _ c.requires.tolls.passage (c.requires.tolls.placed ACall c.args.at)
    (c.plus.ensures ∙ ap (λ w. capped (c.args.walk.tolls.now.passage + w)) c.weight_at.ensures)
