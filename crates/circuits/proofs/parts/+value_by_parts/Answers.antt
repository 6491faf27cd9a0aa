use Rattle.std.proofs.Common.{false, refl}
use Rattle.circuits.proofs.FactLaws.{answer_conjoined, answers_at}
use Rattle.circuits.proofs.parts.+value_by_parts.Goals as goal

pub returns : goal.returns
returns t c = λ here f.
    answer_conjoined (record { node = c.args.bit.node; negated = false }) c.args.bit c.in_ok-pair.ensures refl refl
    (answers_at c.args.nodes.now c.args.known.now c.in_ok-pair.pair.left here _ c.value_by_parts-left.ensures f) (answers_at c.args.nodes.now c.args.known.now c.in_ok-pair.pair.right here _ c.value_by_parts-right.ensures f)
    c.in_ok-value.ensures
