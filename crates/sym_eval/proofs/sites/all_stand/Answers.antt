use Rattle.std.proofs.Common.{◌≡◌, true, arith, subst}
use Rattle.std.specs.List.{All}
use Rattle.std.proofs.lemmas.List.{take_all}
use Rattle.std.proofs.lemmas.List.Elements.{All-more}
use Rattle.c_core.specs.View.{program_view}
use Rattle.sym_duties.specs.Promise.{StandsFor}
use Rattle.sym_eval.proofs.sites.all_stand.Goals as goal

pub loop-site-preserved : goal.loop-site-preserved
loop-site-preserved c =
    let p = program_view c.args.program.now in
    let listed : c.is_listed.result ≡ true = grind arith in
    let here : StandsFor p c.site-item.result = c.requires _ (c.is_listed.ensures.0 listed) in
    All-more (StandsFor p) c.args.sites.now c.loop-site.site-index c.site-item.result c.loop-site-test.true c.loop-site.invariant (subst (StandsFor p) c.site-item.is here)

pub returns : goal.returns
returns c t =
    let p = program_view c.args.program.now in
    subst (All (StandsFor p)) (take_all c.loop-site.site-index c.args.sites.now c.loop-site-test.false) c.loop-site.invariant
