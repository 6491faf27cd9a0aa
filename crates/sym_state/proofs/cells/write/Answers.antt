use Rattle.std.proofs.Common.{◌≡◌, cond, length, subst}
use Rattle.c_core.specs.View.{program_view}
use Rattle.circuits.specs.Net.{holds}
use Rattle.circuits.specs.Numbers.{number, Counts}
use Rattle.sym_state.proofs.Stored.{write_turned, write_none, same_item}
use Rattle.sym_state.proofs.cells.write.Goals as goal

pub returns-in_ok-chosen : goal.returns-in_ok-chosen
returns-in_ok-chosen c =
    let s = c.args.sym.now in
    let value = c.args.value.now.bits in
    let at = rw c.deref.ensures.value at c.in-Some.ensures in
    let same : c.index.result.now ≡ c.index_mut.result.now = same_item s.cells.items c.in-Some.at c.index.result.now c.index_mut.result.now c.index.ensures c.index_mut.ensures.value at.within in
    write_turned (program_view c.args.program.now) s c.args.object c.args.index c.in-Some.at c.index_mut.result.now c.requires.fits at c.index_mut.ensures.value
    c.choose_bits.new.net c.args.here value c.in_ok-chosen.chosen c.requires.value_in c.in_ok-chosen.ensures.grown
    (subst (λ x. Counts c.choose_bits.new.net c.in_ok-chosen.chosen.bits (length value) (λ v. cond (holds v s.net c.args.here) (number v s.net value) (number v s.net x.bits.bits))) same c.in_ok-chosen.ensures.value)

pub returns-in_default : goal.returns-in_default
returns-in_default c =
    write_none (program_view c.args.program.now) c.args.sym.now c.args.object c.args.index _ c.args.here c.args.value.now.bits c.requires.fits (rw c.deref.ensures.value at c.in_default.ensures)
