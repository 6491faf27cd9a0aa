use Rattle.std.proofs.Common.{rules}
use Rattle.c_core.specs.View.{program_view}
use Rattle.c_meaning.specs.Placing.{placed_view}
use Rattle.witval.proofs.Certified.{certified, not_certified}
use Rattle.witval.proofs.certificates.certify_found.Goals as goal

pub returns-in_ok-text-in-Proved : goal.returns-in_ok-text-in-Proved
returns-in_ok-text-in-Proved c =
    let p = program_view c.args.program.now in
    let I = placed_view c.args.invariants.now in
    certified c.args.conflicts p I c.args.found.now c.in-Proved.logs c.from_vec.result (λ h. c.runs_are_lifted.ensures p c.args.program.now.checked c.requires.judged.straight I h) (search rules) (search rules)

pub returns-in-Other : goal.returns-in-Other
returns-in-Other c =
    let p = program_view c.args.program.now in
    let I = placed_view c.args.invariants.now in
    not_certified c.args.conflicts p I c.args.found.now c.in-Other.judged _ c.requires.judged c.requires.promised (search rules) (search rules) c.verdict_of.ensures
