use Rattle.std.proofs.Common.{rules, ◌≡◌, ap, ◌∙◌, ◌∷◌, ◌++◌, []}
use Rattle.std.specs.Option.{unwrap_or}
use Rattle.way_match.specs.inside.Gathered.{values_if}
use Rattle.way_match.proofs.ValueLaws.{or_none, put_there}
use Rattle.way_match.proofs.values.put.Goals as goal

pub returns : goal.returns
returns c = λ q.
    let pushed : c.push.new.self ≡ c.unwrap_or-list.result ++ c.args.given.value ∷ [] = search rules in
    put_there q c.args.given.spot c.args.given.value c.push.new.self c.args.values.now c.remove.new.self c.insert.new.self c.remove.ensures.updates.0 c.in_ok-insert.ensures.updates.0
    (pushed ∙ ap (λ vs. vs ++ c.args.given.value ∷ [])
    (c.unwrap_or-list.ensures ∙ ap (unwrap_or c.remove.result) c.new.ensures ∙ or_none c.remove.result ∙ ap values_if c.remove.ensures.value))
