use Rattle.std.proofs.Common.{refl}
use Rattle.circuits.proofs.HintLaws.{zero_law}
use Rattle.circuits.proofs.hints.Hints.note_quotient.Goals as goal

pub returns-then-is_none : goal.returns-then-is_none
returns-then-is_none c =
    let a = c.args in
    let hints = c.in-Some.ensures.hints in
    let zero = zero_law a.some a.quotient.now a.b.now a.rest.now a.a.now 18446744073709551615 c.requires.net c.requires.operands.wide refl c.in-Some.ensures.tells c.requires.is c.normalise.ensures in
    record { hints = record { words = hints.words; zeros = c.add_law.ensures _ _ hints.zeros zero; orders = hints.orders } }
