use Rattle.std.proofs.Common.{◌∙◌, get_or, ap, rules}
use Rattle.std.proofs.lemmas.List.Elements.{All-get_or}
use Rattle.c_core.specs.View.{program_view}
use Rattle.circuits.specs.Net.{opposite, IsIn}
use Rattle.sym_state.proofs.Turning.{mark_turned, unmarked_turned, or_means}
use Rattle.sym_state.proofs.ending.mark.Goals as goal

pub returns-then-at-len : goal.returns-then-at-len
returns-then-at-len c = unmarked_turned (program_view c.args.program.now) c.args.sym.now c.args.duty c.args.here c.requires.fits (search rules)

pub returns : goal.returns
returns c =
    let s = c.args.sym.now in
    mark_turned (program_view c.args.program.now) s c.and.new.self c.args.duty c.args.here c.not-3.result c.index.result.now c.requires.fits c.in_ok-neither.ensures.grown
    (or_means (program_view c.args.program.now) s.net c.and.new.self (get_or s.failing.items c.args.duty c.index.result.now) c.args.here c.not.result c.not-2.result c.in_ok-neither.neither c.not-3.result
    (All-get_or (IsIn s.net) s.failing.items c.args.duty c.index.result.now (search rules) c.requires.fits.failing) c.requires.here_in (c.not.ensures ∙ ap opposite c.index.ensures) c.not-2.ensures c.in_ok-neither.ensures.value c.not-3.ensures)
