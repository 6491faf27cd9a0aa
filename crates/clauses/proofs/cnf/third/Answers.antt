use Rattle.std.proofs.Common.{◌∙◌, unsigned_abs, arith, ap}
use Rattle.clauses.proofs.Listed.{last_clause, turned_clause}
use Rattle.clauses.proofs.Pushed.{passed, opposite_passed, lt_true, lt_false}
use Rattle.clauses.proofs.cnf.third.Goals as goal

pub three-requires : goal.three-requires
three-requires c =
    let r = c.requires in
    last_clause _ _ _ _ _ _ r (opposite_passed c.args.a (omega (arith, r.left.1, r.small))) (opposite_passed c.args.b (omega (arith, r.right.1, r.small)))
    (passed c.number-last.result (omega (arith, ap unsigned_abs c.number-last.ensures, r.small)) ∙ c.number-last.ensures) (lt_true _ _ c.if-a-b.true)

pub three-requires-2 : goal.three-requires-2
three-requires-2 c =
    let r = c.requires in
    turned_clause _ _ _ _ _ _ r (opposite_passed c.args.a (omega (arith, r.left.1, r.small))) (opposite_passed c.args.b (omega (arith, r.right.1, r.small)))
    (passed c.number-last.result (omega (arith, ap unsigned_abs c.number-last.ensures, r.small)) ∙ c.number-last.ensures) (lt_false _ _ c.if-a-b.false)
