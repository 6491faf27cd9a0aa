use Rattle.std.proofs.Common.{sym}
use Rattle.polynomials.proofs.Sameness.{same_sym}
use Rattle.circuits.specs.Numbers.{number}
use Rattle.circuits.proofs.WordLaws.{tells_by}
use Rattle.circuits.proofs.HintLaws.{tells_wide}
use Rattle.circuits.proofs.hints.Hints.note_combined.Goals as goal

pub note-requires-clause-tells : goal.note-requires-clause-tells
note-requires-clause-tells c =
    tells_by (λ v. number v c.args.nodes.now c.args.out.now) (tells_wide (sym c.requires.wide) c.in-Some.ensures.tells) (λ v. same_sym (c.requires.is v))
