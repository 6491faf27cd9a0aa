use Rattle.std.proofs.Common.{subst, sym}
use Rattle.c_core.specs.View.{program_view}
use Rattle.c_meaning.specs.Run.{is_case}
use Rattle.circuits.specs.Numbers.{typed}
use Rattle.sym_values.specs.Valuing.{Decided}
use Rattle.sym_choices.specs.Cases.{case_cost}
use Rattle.sym_choices.proofs.CaseLaws.{default_decided}
use Rattle.sym_choices.proofs.cases.case_bit.Goals as goal

pub returns-in-Default : goal.returns-in-Default
returns-in-Default c =
    let p = program_view c.args.program.now in
    let s = c.args.sym.now in
    subst (λ l. Decided p (case_cost p.model c.args.ty l) s s c.not.result (λ v. is_case (typed p.model c.args.ty v s.net c.args.x.now.bits) l)) (sym c.in-Default.is)
    (default_decided p s c.yes.result c.not.result c.requires.fits c.yes.ensures c.not.ensures)
