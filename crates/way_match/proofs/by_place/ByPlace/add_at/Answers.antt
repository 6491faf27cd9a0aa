use Rattle.std.proofs.Common.{rules, ◌≡◌, ◌∙◌, ap}
use Rattle.way_match.specs.inside.ByPlace.{items_if}
use Rattle.way_match.proofs.PlaceLaws.{added, clear_added}
use Rattle.way_match.proofs.by_place.ByPlace.add_at.Goals as goal
use Rattle.way_match.proofs.by_place.ByPlace.add_at.Goals.{in-Some, in-None}

pub returns-clause-numbers : goal.returns-clause-numbers
returns-clause-numbers c = λ at.
    let before : c.match-remove.numbers.items ≡ items_if c.remove.result = elim c.match-remove.branch [
      | in-Some w ↦ search (rules, w.numbers-is, w.in-Some)
      | in-None w ↦ search (rules, w.numbers-is, w.in-None, w.new-numbers)
    ] in
    added c.args.self.now.placed c.remove.new.self c.insert.new.self c.args.self.now.targets c.args.self.now.lines c.mark.new.lines c.args.spot c.args.number c.match-remove.numbers.items c.push.new.self at
    (before ∙ ap items_if c.remove.ensures.value) c.in_ok-push.ensures.items c.remove.ensures.updates.0 c.in_ok-insert.ensures.updates.0

pub returns-clause-clear : goal.returns-clause-clear
returns-clause-clear c = clear_added c.args.self.now (record { placed = c.insert.new.self; targets = c.args.self.now.targets; lines = c.mark.new.lines }) c.args.spot c.args.number c.requires c.in_ok-mark.ensures (returns-clause-numbers c)
