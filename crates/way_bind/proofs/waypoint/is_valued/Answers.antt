use Rattle.std.proofs.Common.{◌≡◌, sym, ap, false, is_some}
use Rattle.c_core.specs.View.{program_view}
use Rattle.c_core.specs.Places.{call_at}
use Rattle.way_bind.specs.Binding.{has_value, is_valued}
use Rattle.way_bind.proofs.waypoint.is_valued.Goals as goal

pub returns-in-Some : goal.returns-in-Some
unfolding is_valued
returns-in-Some c =
    let e : has_value (call_at (program_view c.args.index.now) c.args.close) ≡ is_some c.in-Some.call.now.ty = ap has_value (sym c.in-Some.ensures) in
    cc

pub returns-in-None : goal.returns-in-None
unfolding is_valued
returns-in-None c =
    let e : has_value (call_at (program_view c.args.index.now) c.args.close) ≡ false = ap has_value (sym c.in-None.ensures) in
    sym e
