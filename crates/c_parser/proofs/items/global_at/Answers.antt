use Rattle.std.proofs.Common.{◌≡◌, Some, map, refl, true}
use Rattle.c_parser.specs.SourceView.{declared_view}
use Rattle.c_parser.specs.ReadStatements.{declares}
use Rattle.c_parser.proofs.LowLaws.{declares_low}
use Rattle.c_parser.proofs.items.global_at.Goals as goal

pub returns : goal.returns
returns c =
    let here : declares c.args.brackets c.args.height true c.args.tokens.now ≡ Some (map declared_view c.in_ok-names.names, c.in_ok-names.rest.now) = c.in_ok-names.ensures in
    let low = declares_low c.args.brackets c.args.height true c.args.tokens.now (map declared_view c.in_ok-names.names, c.in_ok-names.rest.now) here in
    rw (here, low) refl
