use Rattle.std.proofs.Common.{◌≡◌, ◌+◌, ◌*◌, refl, length, arith}
use Rattle.polynomials.proofs.Sameness.{same_by, same_sym, same_trans}
use Rattle.circuits.specs.Numbers.{number}
use Rattle.circuits.proofs.WordLaws.{tells_by}
use Rattle.circuits.proofs.HintLaws.{tells_multiple, tells_none, tells_fewer}
use Rattle.circuits.proofs.hints.Hints.note_cut.Goals as goal

pub note-requires-clause-tells : goal.note-requires-clause-tells
note-requires-clause-tells c =
    let low = tells_fewer (length c.args.out.now) c.requires.wide c.in-Some.ensures.tells in
    let sum = tells_multiple (c.in-Ok-true.ensures.added c.in-Ok-true.field-0-test) refl (tells_none c.new-low.ensures) low in
    tells_by (λ v. number v c.args.nodes.now c.args.out.now) sum (λ v.
    let once : 0 + 1 * number v c.args.nodes.now c.args.whole.now ≡ number v c.args.nodes.now c.args.whole.now = omega arith in
    same_trans (same_by once) (same_sym (c.requires.is v)))
