use Rattle.std.proofs.Common.{refl, ap, ◌∙◌}
use Rattle.wv_yaml.specs.declared.tree.Tree.TheVariants as tree
use Rattle.wv_schema.specs.Canonical.{metadata_tree}
use Rattle.wv_schema.proofs.Pushed.{pushed}
use Rattle.wv_schema.proofs.canonical.tree_of_metadata.Goals as goal

pub returns : goal.returns
unfolding metadata_tree
returns c =
    let e = pushed _ _ _ _ (pushed _ _ _ _ (pushed _ _ _ _ (pushed _ _ _ _ (pushed _ _ _ _ c.new-pairs.ensures
    c.in_ok-push_text.ensures) c.in_ok-push_text-2.ensures) c.in_ok-push_text-3.ensures) c.in_ok-push_tree.ensures) c.in_ok-push_tree-2.ensures in
    ap tree.Map e ∙ rw (c.in_ok-producer.ensures, c.in_ok-task.ensures, c.as_str.ensures, c.as_str-2.ensures, c.as_str-3.ensures) refl
