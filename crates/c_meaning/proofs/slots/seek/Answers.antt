use Rattle.std.proofs.Common.{◌≤◌, length, subst, sym, arith}
use Rattle.c_meaning.specs.Cells.{Key}
use Rattle.c_meaning.specs.Slots.{Ends}
use Rattle.c_meaning.proofs.Tables.{ends_next, ends_somewhere, free_somewhere, home_below}
use Rattle.c_meaning.proofs.slots.seek.Goals as goal

pub returns-in-Some : goal.returns-in-Some
returns-in-Some c = ends_next (record { object = c.args.object; index = c.args.index }) c.args.slots.now c.home-start.result c.home-start.ensures c.in-Some.at c.in-Some.ensures

pub scan-requires-in-None : goal.scan-requires-in-None
scan-requires-in-None c =
    let k : Key = record { object = c.args.object; index = c.args.index } in
    let f = free_somewhere c.args.slots.now c.requires in
    omega (arith, c.home-start.ensures, f.1, home_below k (length c.args.slots.now) (omega (arith, f.1)))

pub returns-in-None : goal.returns-in-None
returns-in-None c =
    let k : Key = record { object = c.args.object; index = c.args.index } in
    let f = free_somewhere c.args.slots.now c.requires in
    let within : c.home-start.result ≤ length c.args.slots.now = omega (arith, c.home-start.ensures, f.1, home_below k (length c.args.slots.now) (omega (arith, f.1))) in
    subst (λ i. Ends k (length c.args.slots.now) c.args.slots.now i) (sym c.unwrap_or.ensures)
    (ends_somewhere k c.args.slots.now c.home-start.result c.home-start.ensures c.scan-in-None.result within c.requires c.in-None.ensures c.scan-in-None.ensures)
