use Rattle.std.proofs.Common.{◌≡◌, false, rules}
use Rattle.c_core.specs.View.{program_view}
use Rattle.sym_whole.proofs.Starts.{not_static}
use Rattle.sym_whole.proofs.first.start_object.Goals as goal

pub returns-then-not-object : goal.returns-then-not-object
returns-then-not-object c =
    let automatic : c.args.object.now.fixed ≡ false = search rules in
    not_static (program_view c.args.program.now) c.args.sym.now c.args.object.now.fixed _ automatic c.requires.fits
