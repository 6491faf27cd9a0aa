use Rattle.std.proofs.Common.{ap, ◌∙◌}
use Rattle.std.specs.List.{filter}
use Rattle.std.specs.Prelude.{is_some}
use Rattle.c_core.specs.Places.{aim_fits, is_named, leftmost}
use Rattle.c_core.specs.View.{program_view}
use Rattle.way_places.proofs.index.Index.aim_fits.Goals as goal

pub returns : goal.returns
returns c =
    c.is_some.ensures ∙ ap is_some (c.named_in.ensures ∙ ap (λ l. leftmost (filter (is_named c.args.line c.args.column) l)) c.as_slice.ensures.value)
    ∙ c.self.invariant.aims.exact c.args.line c.args.column ∙ ap (λ v. aim_fits (program_view v) c.args.line c.args.column) c.self.view_is
