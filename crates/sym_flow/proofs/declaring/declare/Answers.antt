use Rattle.std.proofs.Common.{◌≡◌, rules, subst}
use Rattle.c_core.specs.View.{program_view}
use Rattle.sym_flow.specs.Ways.{Became, declaring}
use Rattle.sym_flow.proofs.Declares.{none_declared, one_declared}
use Rattle.sym_flow.proofs.declaring.declare.Goals as goal

pub loop-index-init : goal.loop-index-init
loop-index-init c = none_declared (program_view c.args.program.now) c.args.sym.now c.args.object c.requires.fits

pub declare_cell-requires : goal.declare_cell-requires
declare_cell-requires c = record { fits = c.loop-index.invariant.fits }

pub loop-index-preserved : goal.loop-index-preserved
loop-index-preserved c = one_declared (program_view c.args.program.now) c.args.sym.now c.loop-index.sym c.declare_cell.new.sym c.args.object c.loop-index.index c.loop-index.invariant c.in_ok-declare_cell.ensures

pub returns : goal.returns
returns c =
    let end : c.loop-index.index ≡ c.args.count = search rules in
    subst (λ n. Became (program_view c.args.program.now) 0 c.args.sym.now c.loop-index.sym (λ v. declaring c.args.object n)) end c.loop-index.invariant
