use Rattle.std.proofs.Common.{sym, subst}
use Rattle.wv_yaml.specs.Canon.{IsCollection}
use Rattle.witval.proofs.FittingTrees.{tree_is_collection}
use Rattle.witval.proofs.writing.write_witness.Goals as goal

pub write-requires-clause-collection : goal.write-requires-clause-collection
write-requires-clause-collection c = subst IsCollection (sym c.in_ok-tree.ensures) (tree_is_collection c.args.witness.now)
