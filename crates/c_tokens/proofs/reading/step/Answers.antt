use Rattle.std.proofs.Common.{◌≡◌, ◌∙◌, Some, refl, sym}
use Rattle.c_tokens.specs.Scan.{scan, good}
use Rattle.c_tokens.specs.Gaps.{gap}
use Rattle.c_tokens.specs.declared.gap.Gap.TheVariants.{Absent}
use Rattle.c_tokens.proofs.Stepping.{good_within}
use Rattle.c_tokens.proofs.reading.step.Goals as goal

pub returns-in-Some : goal.returns-in-Some
returns-in-Some c =
    let here : good (scan c.args.rest.now) ≡ Some (c.in-Some.length, c.in-Some.kind) = sym c.in_ok-length-in-Absent.ensures ∙ c.in-Some.is in
    let gap_here : gap c.args.place.fresh c.args.rest.now ≡ Absent = sym c.in-Absent.ensures.here in
    let within = good_within c.args.rest.now c.in-Some.length c.in-Some.kind here in
    (gap_here, (here, (refl, within)))
