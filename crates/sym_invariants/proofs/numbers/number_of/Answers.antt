use Rattle.std.proofs.Common.{subst, sym, ap, arith}
use Rattle.std.proofs.lemmas.List.{take_rest}
use Rattle.std.specs.List.Sorted.{IsSortedBy}
use Rattle.c_meaning.specs.Duties.{is_less, number_among}
use Rattle.sym_invariants.proofs.Numbering.{number_behind, rise_behind}
use Rattle.sym_invariants.proofs.numbers.number_of.Goals as goal

pub returns : goal.returns
returns c =
    let ds = c.args.duties.now in
    let d = c.args.duty.now in
    let start = c.earlier-start.result in
    omega (arith, number_behind ds d start c.earlier-start.ensures.within c.earlier-start.ensures.point.0, ap (number_among d) (take_rest ds start), c.index_of-index.ensures.number)

pub index_of-index-requires : goal.index_of-index-requires
index_of-index-requires c =
    let ds = c.args.duties.now in
    let start = c.earlier-start.result in
    subst (IsSortedBy is_less) (sym (take_rest ds start)) (rise_behind ds c.requires.rise start c.earlier-start.ensures.within)
