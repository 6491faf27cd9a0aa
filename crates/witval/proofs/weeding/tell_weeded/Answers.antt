use Rattle.std.proofs.Common.{sym, subst}
use Rattle.wv_schema.specs.Canonical.{tree_of}
use Rattle.wv_yaml.specs.Canon.{Fits}
use Rattle.wv_yaml.specs.Document.{max_depth}
use Rattle.witval.proofs.FittingTrees.{tree_fits}
use Rattle.witval.proofs.ShortKeys.{kept_short}
use Rattle.witval.proofs.weeding.tell_weeded.Goals as goal

pub write_witness-requires : goal.write_witness-requires
write_witness-requires c =
    subst (λ w. Fits max_depth (tree_of w)) (sym c.in_ok-kept-in-Kept.ensures) (tree_fits _ (kept_short c.as_slice.result.now c.args.witness.now c.requires))
