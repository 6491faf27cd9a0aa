use Rattle.std.proofs.Common.{rules, ◌≡◌, ◌∙◌, ap}
use Rattle.way_match.specs.inside.Avoided.{avoided_if}
use Rattle.way_match.proofs.AvoidLaws.{pushed}
use Rattle.way_match.proofs.avoided.Avoids.push.Goals as goal
use Rattle.way_match.proofs.avoided.Avoids.push.Goals.{in-Some, in-None}

pub returns : goal.returns
returns c = λ q.
    let before : c.match-remove.there.items ≡ avoided_if c.remove.result = elim c.match-remove.branch [
      | in-Some w ↦ search (rules, w.there-is, w.in-Some)
      | in-None w ↦ search (rules, w.there-is, w.in-None, w.new-there)
    ] in
    pushed c.args.self.now.placed c.remove.new.self c.insert.new.self c.args.spot c.args.avoided c.match-remove.there.items c.push.new.self q
    (before ∙ ap avoided_if c.remove.ensures.value) c.in_ok-push.ensures.items c.remove.ensures.updates.0 c.in_ok-insert.ensures.updates.0
