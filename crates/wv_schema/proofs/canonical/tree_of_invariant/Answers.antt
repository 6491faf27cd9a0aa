use Rattle.std.proofs.Common.{[], ◌∷◌, refl, ap, ◌∙◌, codes}
use Rattle.wv_yaml.specs.declared.tree.Tree.TheVariants as tree
use Rattle.wv_schema.specs.Canonical.{invariant_tree, pair}
use Rattle.wv_schema.proofs.Pushed.{pushed, joined}
use Rattle.wv_schema.proofs.canonical.tree_of_invariant.Goals as goal

pub returns : goal.returns
unfolding invariant_tree
returns c =
    let e = joined _ _ _ _ (pushed _ _ _ _ (pushed _ _ _ _ c.new-pairs.ensures c.in_ok-push_text.ensures) c.in_ok-push_tree.ensures) c.in_ok-push_expression.ensures in
    c.in_ok-tree.ensures ∙ ap (λ ps. tree.Map (pair (codes "invariant") (tree.Map ps) ∷ [])) e ∙ rw (c.in_ok-location.ensures, c.word_of_invariant.ensures, c.as_str.ensures) refl
