use Rattle.std.proofs.Common.{◌≡◌, true, None, subst, sym, ◌∙◌, arith}
use Rattle.c_meaning.specs.Duties.{duty, is_less}
use Rattle.sym_invariants.specs.Obliged.{program_of, invariants_of}
use Rattle.sym_invariants.proofs.Elsewhere.{none_stands, not_no}
use Rattle.sym_invariants.proofs.Numbering.{rises}
use Rattle.sym_invariants.proofs.numbers.has_invariants.Goals as goal

pub earlier-start-requires : goal.earlier-start-requires
earlier-start-requires c = rises c.args.obliged.now c.requires (c.duties_are_in_order.ensures (program_of c.args.obliged.now) (invariants_of c.args.obliged.now))

pub returns-in-Some : goal.returns-in-Some
returns-in-Some c past =
    let w = c.args.obliged.now in
    let later : is_less (duty c.args.spot c.kind_of.result None) c.in-Some.duty.now ≡ true = sym c.is_before.ensures ∙ not_no c.is_before.result past in
    none_stands (program_of w) (invariants_of w) c.args.at_loop c.args.spot w.mode.duties.now c.requires.duties (rises w c.requires (c.duties_are_in_order.ensures (program_of w) (invariants_of w))) c.kind_of.result c.kind_of.ensures
    c.earlier-start.result c.earlier-start.ensures.point (λ z l. subst (λ y. is_less (duty c.args.spot c.kind_of.result None) y ≡ true) (c.in-Some.ensures.lookup.3.1 z) later)

pub returns-in-None : goal.returns-in-None
returns-in-None c past =
    let w = c.args.obliged.now in
    none_stands (program_of w) (invariants_of w) c.args.at_loop c.args.spot w.mode.duties.now c.requires.duties (rises w c.requires (c.duties_are_in_order.ensures (program_of w) (invariants_of w))) c.kind_of.result c.kind_of.ensures
    c.earlier-start.result c.earlier-start.ensures.point (λ z l. absurd (omega (arith, c.in-None.ensures.lookup.3, l)))
