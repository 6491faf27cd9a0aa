use Rattle.std.proofs.Common.{arith, get_or, refl, subst}
use Rattle.way_names.specs.Versions.{AddsObject}
use Rattle.way_names.proofs.VersionLaws.{static_found, statics_begin}
use Rattle.way_names.proofs.versions.of_statics.Goals as goal

pub loop-index-init : goal.loop-index-init
loop-index-init c =
    statics_begin c.args.keys.now.objects.now c.new-versions.result c.new-versions.ensures.wide c.new-versions.ensures.empty c.new-versions.ensures.stand c.args.statics.now

pub loop-index-preserved : goal.loop-index-preserved
loop-index-preserved c =
    let object = get_or c.args.statics.now c.loop-index.index (record { line = 0; column = 0 }, 0) in
    static_found c.args.keys.now.objects.now c.args.statics.now c.loop-index.versions c.add.new.self c.loop-index.index object (record { line = 0; column = 0 }, 0) c.loop-index.invariant c.loop-index-test.true refl
    (subst (λ outer. AddsObject c.args.keys.now.objects.now c.loop-index.versions c.add.new.self outer object.1) c.behind.ensures c.in_ok-add.ensures)

pub returns : goal.returns
returns c = λ n low. c.loop-index.invariant.found n (omega (arith, low, c.loop-index-test.false))
