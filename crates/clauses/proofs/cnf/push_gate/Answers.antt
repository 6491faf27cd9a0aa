use Rattle.std.proofs.Common.{◌∙◌, ◌++◌, ◌∷◌, [], pos, neg_ℤ, unsigned_abs, to_z, of_z, w32, arith, ap}
use Rattle.clauses.specs.Tseitin.{rising_two}
use Rattle.clauses.proofs.Listed.{size_neg, side_clause}
use Rattle.clauses.proofs.Pushed.{passed, pair_same, gate_pushed}
use Rattle.clauses.proofs.cnf.push_gate.Goals as goal

pub two-requires : goal.two-requires
two-requires c =
    let r = c.requires in
    let v = passed c.number-opposite.result (omega (arith, ap unsigned_abs c.number-opposite.ensures, size_neg (pos c.args.v), r.small)) ∙ c.number-opposite.ensures in
    let a = passed c.args.a (omega (arith, r.left.1, r.small)) in
    side_clause c.args.v _ _ v r.small (rw a r.left)

pub two-requires-2 : goal.two-requires-2
two-requires-2 c =
    let r = c.requires in
    let v = passed c.number-opposite.result (omega (arith, ap unsigned_abs c.number-opposite.ensures, size_neg (pos c.args.v), r.small)) ∙ c.number-opposite.ensures in
    let b = passed c.args.b (omega (arith, r.right.1, r.small)) in
    side_clause c.args.v _ _ v r.small (rw b r.right)

pub returns : goal.returns
returns c =
    let r = c.requires in
    let v = passed c.number-opposite.result (omega (arith, ap unsigned_abs c.number-opposite.ensures, size_neg (pos c.args.v), r.small)) ∙ c.number-opposite.ensures in
    let a = passed c.args.a (omega (arith, r.left.1, r.small)) in
    let b = passed c.args.b (omega (arith, r.right.1, r.small)) in
    gate_pushed _ c.args.v c.args.a c.args.b c.in_ok-push.ensures.ok c.in_ok-push-2.ensures.ok c.in_ok-push-3.ensures.ok
    (c.two.ensures ∙ pair_same v a) (c.two-2.ensures ∙ pair_same v b)
    (c.third.ensures ∙ ap (λ x. rising_two (neg_ℤ x) (neg_ℤ (to_z w32 (of_z w32 c.args.b))) ++ pos c.args.v ∷ []) a ∙ ap (λ x. rising_two (neg_ℤ c.args.a) (neg_ℤ x) ++ pos c.args.v ∷ []) b)
