use Rattle.std.proofs.Common.{◌∙◌, ◌+◌, ap, arith}
use Rattle.circuits.proofs.Nets.{inputs_few}
use Rattle.clauses.proofs.Variables.{input_lt}
use Rattle.clauses.proofs.Pushed.{told, numbered_none, numbered_few, constant_numbered, input_numbered, and_numbered, passed_numbered}
use Rattle.clauses.proofs.numbering.number_nodes.Goals as goal
use Rattle.clauses.proofs.numbering.number_nodes.Goals.{in-Constant, in-Input, in-And+then-flags-at, in-And+else-flags-at}

pub overflow_cast-first : goal.overflow_cast-first
overflow_cast-first c = omega (arith, c.inputs.ensures, inputs_few c.args.net.now)

pub overflow_add-first : goal.overflow_add-first
overflow_add-first c = omega (arith, c.inputs.ensures, inputs_few c.args.net.now)

pub loop-at-init : goal.loop-at-init
loop-at-init c = numbered_none _ _ _ _ c.new-numbers.ensures.items (ap (λ k. k + 1) c.inputs.ensures)

pub overflow_add-number : goal.overflow_add-number
overflow_add-number c =
    let s = c.requires in
    omega (arith, input_lt c.args.net.now c.nodes.ensures.fine c.loop-at.at c.in-Input.k (omega arith) (told _ c.loop-at.at _ c.node.ensures c.in-Input.is), inputs_few c.args.net.now)

pub overflow_add-variables : goal.overflow_add-variables
overflow_add-variables c = let s = c.requires in omega (arith, numbered_few _ _ c.loop-at.invariant (omega arith))

pub loop-at-preserved : goal.loop-at-preserved
loop-at-preserved c =
    let items = c.in_ok-push.ensures.items in
    elim c.match-node.branch [
      | in-Constant w ↦ constant_numbered _ _ _ c.loop-at.invariant (told _ c.loop-at.at _ c.node.ensures w.in-Constant.is) items (w.number-is ∙ ap (λ k. k + 1) c.inputs.ensures) w.variables-is
      | in-Input w ↦ input_numbered _ _ _ c.loop-at.invariant (told _ c.loop-at.at _ c.node.ensures w.in-Input.is) items w.number-is w.variables-is
      | in-And+then-flags-at w ↦ and_numbered _ _ _ _ c.loop-at.invariant (told _ c.loop-at.at _ c.node.ensures w.in-And.is) w.if-flags-at.true items w.number-is w.variables-is
      | in-And+else-flags-at w ↦ passed_numbered _ _ _ _ c.loop-at.invariant (told _ c.loop-at.at _ c.node.ensures w.in-And.is) w.if-flags-at.false items w.number-is w.variables-is
    ]
