use Rattle.std.proofs.Common.{◌==◌, rules, tests}
use Rattle.std.proofs.lemmas.Iterator.{YieldsList-from_slice}
use Rattle.std.proofs.lemmas.Iterator.Search.{position_from_yields_List}
use Rattle.witval.proofs.FirstLine.{cut_at}
use Rattle.witval.proofs.demonstration.first_line.Goals as goal

pub returns : goal.returns
returns c =
    cut_at c.args.report.now c.position.result c.unwrap_or-end.result
    (position_from_yields_List (λ b. b == 10) _ _ c.position.result c.position.ensures.ran (YieldsList-from_slice c.args.report.now cc) (λ x b q k. search (rules, tests))) c.unwrap_or-end.ensures
