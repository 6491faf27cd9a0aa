use Rattle.std.proofs.Common.{arith}
use Rattle.std.proofs.lemmas.Option.{slice_get_within}
use Rattle.c_core.specs.View.{program_view}
use Rattle.way_match.specs.inside.Turning.{seen_by, sighted}
use Rattle.way_match.proofs.AvoidLaws.{avoids_no_one}
use Rattle.way_match.proofs.resting.avoids_none.Goals as goal

pub returns : goal.returns
returns c = λ t.
    avoids_no_one (program_view c.args.sight.now.program.now) (seen_by c.args.sight.now) (sighted c.args.sight.now) c.args.there.now c.args.reach c.requires (λ j a q lt x h.
    let w = slice_get_within c.args.there.now j a q in
    c.loop-avoided.invariant j a (omega (arith, w, c.loop-avoided-test.false)) q lt x h)
