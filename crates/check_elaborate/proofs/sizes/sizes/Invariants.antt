use Rattle.std.proofs.Common.{◌≡◌, ◌++◌, drop}
use Rattle.c_parser.specs.Tree.{exps}
use Rattle.c_parser.specs.View.{exprs_view}
use Rattle.check_rules.specs.Kept.{kept_sizes}
use Rattle.check_rules.specs.Noting.{noted_parts}
use Rattle.check_rules.specs.Parts.{parts_of}
use Rattle.check_rules.specs.Scopes.{seen}
use Rattle.check_rules.specs.declared.sizes.Sizes.TheVariants.{Scalar}
use Rattle.check_elaborate.specs.Items.{kept_views}
use Rattle.check_elaborate.specs.Walks.{scope_at, items_in, bodies_in, sizes_from}
use Rattle.check_elaborate.proofs.sizes.sizes.Given as goal

abbrev pub invariant-loop-e : goal.invariant-loop-e
invariant-loop-e l = record {
  sizes : sizes_from l.context.model (bodies_in l.context) (seen (scope_at l.fn.walk)) l.stated (exprs_view (drop l.e-index l.es)) ≡ sizes_from l.context.model (bodies_in l.context) (seen (scope_at l.fn.walk)) Scalar (exprs_view l.es);
  scope : scope_at l.walk ≡ scope_at l.fn.walk;
  noted : noted_parts l.context.model (items_in l.context) l.walk.best (parts_of (seen (scope_at l.fn.walk)) (exps (exprs_view (drop l.e-index l.es)))) ≡ noted_parts l.context.model (items_in l.context) l.fn.walk.best (parts_of (seen (scope_at l.fn.walk)) (exps (exprs_view l.es)));
  kept : kept_views l.walk.kept ++ kept_sizes l.context.model (bodies_in l.context) (seen (scope_at l.fn.walk)) (exprs_view (drop l.e-index l.es)) ≡ kept_views l.fn.walk.kept ++ kept_sizes l.context.model (bodies_in l.context) (seen (scope_at l.fn.walk)) (exprs_view l.es);
}
