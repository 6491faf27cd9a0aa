use Rattle.std.proofs.Common.{rules, ◌≡◌, ◌∙◌, ◌∷◌, [], suc, length, sym, ap, subst}
use Rattle.std.specs.List.{All}
use Rattle.c_core.specs.View.{program_view}
use Rattle.seek_answer.specs.Reaching.{StandsFor}
use Rattle.seek_meaning.specs.Progress.{none_completed}
use Rattle.way_match.specs.View.{segments_view}
use Rattle.wv_seek.proofs.Unrolled.{is_unrolled}
use Rattle.wv_seek.proofs.unrolling.made.Goals as goal

pub hit-reach-requires : goal.hit-reach-requires
hit-reach-requires c = ap length c.as_slice-2.ensures.value ∙ c.in_ok-sym.ensures.decides.many

pub returns : goal.returns
returns c =
    let p = program_view c.args.program.now in
    let ss = segments_view c.args.bound.now in
    let k = c.args.turns in
    let state = c.in_ok-sym.sym in
    let one : state.failing.items ≡ c.hit-reach.result ∷ [] = sym c.as_slice-2.ensures.value ∙ c.hit-reach.ensures in
    let stand = subst (All (StandsFor p)) c.as_slice.ensures.value c.in_ok-test_sites.ensures in
    is_unrolled p ss k state c.hit-reach.result one (λ w. c.sought_runs_are_judged.ensures p ss k (suc k) w (none_completed ss)) c.in_ok-sym.ensures
    c.requires.light (c.draws_are_light.ensures p ss k) stand (λ w. c.decided_within_weight.ensures p c.args.program.now.checked ss k c.requires.light w)
    (c.reach_tells_what_is_sought.ensures p ss k) _ (search rules)
