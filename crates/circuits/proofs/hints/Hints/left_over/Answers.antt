use Rattle.std.proofs.Common.{refl, ◌∙◌}
use Rattle.std.proofs.lemmas.Option.{IfSome_then}
use Rattle.circuits.proofs.WordLaws.{continues_then, tells_after}
use Rattle.circuits.proofs.HintLaws.{tells_multiple, tells_wide}
use Rattle.circuits.proofs.hints.Hints.left_over.Goals as goal

pub returns-clause-tells : goal.returns-clause-tells
returns-clause-tells c = IfSome_then c.plus-2.result c.plus-2.ensures (λ r is.
    let same = c.requires.same in
    let product = tells_wide same (tells_after (continues_then c.told.ensures.more c.told-2.ensures.more) c.in_ok-product.ensures.tells) in
    let part = tells_wide (c.requires.results.same ∙ same) (tells_after c.told-2.ensures.more c.in_ok-part.ensures.tells) in
    let sum = tells_multiple c.in_ok-sum.ensures refl product part in
    tells_multiple is refl sum c.in_ok-whole.ensures.tells)
