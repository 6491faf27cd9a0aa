use Rattle.std.proofs.Common.{refl, ap, ◌∙◌}
use Rattle.wv_yaml.specs.declared.tree.Tree.TheVariants as tree
use Rattle.wv_schema.specs.Canonical.{entry_tree}
use Rattle.wv_schema.proofs.Pushed.{pushed}
use Rattle.wv_schema.proofs.canonical.tree_of_entry.Goals as goal

pub returns : goal.returns
unfolding entry_tree
returns c =
    let e = pushed _ _ _ _ (pushed _ _ _ _ (pushed _ _ _ _ c.new-pairs.ensures c.in_ok-push_text.ensures) c.in_ok-push_tree.ensures) c.in_ok-push_tree-2.ensures in
    ap tree.Map e ∙ rw (c.word_of_content.ensures, c.in_ok-metadata.ensures, c.in_ok-content.ensures) refl
