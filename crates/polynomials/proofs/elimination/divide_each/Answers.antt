use Rattle.std.proofs.Common.{rules}
use Rattle.std.proofs.lemmas.List.Elements.{All-push}
use Rattle.polynomials.specs.Elimination.{Follows}
use Rattle.polynomials.proofs.Reducing.{follows_more, given_follows}
use Rattle.polynomials.proofs.elimination.divide_each.Goals as goal
use Rattle.polynomials.proofs.elimination.divide_each.Goals.{then-not-is_empty+in_ok-push, else-not-is_empty}

pub loop-i-preserved : goal.loop-i-preserved
loop-i-preserved c =
    let here = given_follows c.args.width c.args.facts.now.items c.loop-i.i _ (search rules) c.index.ensures in
    let pivot = given_follows c.args.width c.args.facts.now.items c.args.pivot.place _ c.requires.inside c.index-in-loop-i.ensures in
    let next = follows_more here pivot c.in_ok-rest.ensures in
    elim c.if-not-is_empty.branch [
      | then-not-is_empty+in_ok-push w ↦ rw w.divided-is (rw w.in_ok-push.ensures.items (All-push (λ f. Follows c.args.width c.args.facts.now.items f) _ _ c.loop-i.invariant next))
      | else-not-is_empty w ↦ rw w.divided-is c.loop-i.invariant
    ]
