use Rattle.std.proofs.Common.{◌≡◌, true, arith, subst}
use Rattle.std.specs.List.{All}
use Rattle.std.proofs.lemmas.List.{take_all}
use Rattle.std.proofs.lemmas.List.Elements.{All-more}
use Rattle.c_core.specs.View.{program_view}
use Rattle.seek_answer.specs.Reaching.{StandsFor}
use Rattle.wv_seek.proofs.sites.all_stand.Goals as goal

pub loop-site-preserved : goal.loop-site-preserved
loop-site-preserved c =
    let p = program_view c.args.program.now in
    let is : c.is_open.result ≡ true = grind arith in
    let here : StandsFor p c.site-item.result = record {
      drawn = c.requires _ (c.is_open.ensures.listed is);
      unchanged = c.is_open.ensures.unchanged is;
    } in
    All-more (StandsFor p) c.args.sites.now c.loop-site.site-index c.site-item.result c.loop-site-test.true c.loop-site.invariant (subst (StandsFor p) c.site-item.is here)

pub returns : goal.returns
returns c t =
    let p = program_view c.args.program.now in
    subst (All (StandsFor p)) (take_all c.loop-site.site-index c.args.sites.now c.loop-site-test.false) c.loop-site.invariant
