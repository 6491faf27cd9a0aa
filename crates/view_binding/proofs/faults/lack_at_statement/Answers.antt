use Rattle.std.proofs.Common.{sym, ◌∙◌}
use Rattle.c_core.specs.View.{program_view}
use Rattle.c_core.specs.declared.place.PlaceKind.TheVariants.{Statement}
use Rattle.way_bind.proofs.NamedLaws.{named_is_one}
use Rattle.view_binding.proofs.faults.lack_at_statement.Goals as goal

pub expression_at-requires : goal.expression_at-requires
expression_at-requires c =
    named_is_one (program_view c.args.lookup.now.index) Statement c.args.location.now c.in-Some.spot (sym c.place_named.ensures ∙ c.in-Some.is)
