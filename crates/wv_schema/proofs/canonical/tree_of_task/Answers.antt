use Rattle.std.proofs.Common.{refl, ap, ◌∙◌}
use Rattle.wv_yaml.specs.declared.tree.Tree.TheVariants as tree
use Rattle.wv_schema.specs.Canonical.{task_tree}
use Rattle.wv_schema.proofs.Pushed.{pushed}
use Rattle.wv_schema.proofs.canonical.tree_of_task.Goals as goal

pub returns : goal.returns
unfolding task_tree
returns c =
    let e = pushed _ _ _ _ (pushed _ _ _ _ (pushed _ _ _ _ (pushed _ _ _ _ (pushed _ _ _ _ c.new-pairs.ensures
    c.in_ok-push_tree.ensures) c.in_ok-push_tree-2.ensures) c.in_ok-push_text.ensures) c.in_ok-push_text-2.ensures) c.in_ok-push_text-3.ensures in
    ap tree.Map e ∙ rw (c.in_ok-files.ensures, c.in_ok-hashes.ensures, c.as_slice.ensures, c.as_slice-2.ensures, c.as_str.ensures, c.as_str-2.ensures, c.as_str-3.ensures) refl
