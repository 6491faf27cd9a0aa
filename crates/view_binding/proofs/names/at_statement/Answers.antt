use Rattle.std.proofs.Common.{IsTrue, sym, subst, ◌∙◌}
use Rattle.c_core.specs.View.{program_view}
use Rattle.c_core.specs.declared.place.PlaceKind.TheVariants.{Statement}
use Rattle.c_core.specs.declared.program.Program.{Program}
use Rattle.way_names.specs.Visible.{is_scoped}
use Rattle.way_bind.proofs.NamedLaws.{named_is_one}
use Rattle.view_binding.proofs.names.at_statement.Goals as goal

pub names_at-requires : goal.names_at-requires
names_at-requires c =
    subst (λ (p : Program). IsTrue (is_scoped (program_view p) Statement c.in-Some.spot)) (sym c.program.ensures)
    (named_is_one (program_view c.args.index.now) Statement c.args.location.now c.in-Some.spot (sym c.place_named.ensures ∙ c.in-Some.is))
