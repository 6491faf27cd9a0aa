use Rattle.std.proofs.Common.{rules, ◌≡◌, ◌+◌, ◌++◌, [], ◌∷◌}
use Rattle.wv_weed.proofs.Numbered.{next_number}
use Rattle.wv_weed.proofs.numbers.numbers_to.Goals as goal

pub loop-before-preserved : goal.loop-before-preserved
loop-before-preserved c =
    let is : c.in-Ok.number ≡ c.loop-before.before + 1 = search rules in
    let pushed : c.push.new.self ≡ c.loop-before.numbers ++ c.in-Ok.number ∷ [] = search rules in
    next_number c.loop-before.before c.in-Ok.number c.loop-before.numbers c.push.new.self c.loop-before.invariant is
    pushed
