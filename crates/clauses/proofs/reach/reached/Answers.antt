use Rattle.std.proofs.Common.{◌≡◌, ◌∙◌, ◌-◌, ◌+◌, sym, ap, arith, length, true, false, refl, slice_set}
use Rattle.std.proofs.Math.ListN.{replicate}
use Rattle.std.proofs.lemmas.List.{with_items_is}
use Rattle.clauses.specs.Marks.{marked}
use Rattle.clauses.proofs.Reached.{marking_none, marking_skip, marking_step, marking_end, marking_at, marking_of, flag_read, arguments_in}
use Rattle.clauses.proofs.Pushed.{told}
use Rattle.clauses.proofs.reach.reached.Goals as goal
use Rattle.clauses.proofs.reach.reached.Goals.{then-index, else-index}

pub loop-i-init : goal.loop-i-init
loop-i-init c =
    let n = c.nodes-many.ensures.count in
    let items = c.in_ok-flags.ensures ∙ ap (λ k. replicate k false) n in
    marking_at (marking_of (ap (λ l. slice_set l c.args.bit.node true) items) (marking_none _ _ c.requires.bit_in)) (omega arith)

pub mark_arguments-requires : goal.mark_arguments-requires
mark_arguments-requires c =
    let n = c.nodes-many.ensures in
    let at = c.nodes-many.result - 1 - c.loop-i.i in
    arguments_in _ n.fine at _ (omega arith) (ap length c.deref_mut.ensures.value ∙ c.loop-i.invariant.many) _ (told _ at _ c.node-node.ensures refl)

pub loop-i-preserved : goal.loop-i-preserved
loop-i-preserved c =
    let n = c.nodes-many.ensures in
    let at = c.nodes-many.result - 1 - c.loop-i.i in
    let low : at ≡ length c.args.net.now - (c.loop-i.i + 1) = omega arith in
    let before = marking_at c.loop-i.invariant (let e : length c.args.net.now - c.loop-i.i ≡ at + 1 = omega arith in e) in
    elim c.if-index.branch [
      | then-index w ↦
          let flag = flag_read _ at c.index.ensures w.if-index.true (omega (arith, c.loop-i.invariant.many)) in
          let after = marking_step n.fine before (omega arith) flag _ (told _ at _ w.node-node.ensures refl) in
          let items = w.mark_arguments.ensures ∙ ap (marked w.node-node.result) w.deref_mut.ensures.value in
          let many : length w.mark_arguments.new.flags ≡ c.loop-i.flags.len = ap length items ∙ after.many ∙ sym c.loop-i.invariant.many ∙ sym (ap length w.deref_mut.ensures.value) ∙ w.deref_mut.ensures.len in
          marking_of (ap (λ f. f.items) w.flags-is ∙ with_items_is c.loop-i.flags w.mark_arguments.new.flags many ∙ items) (marking_at after low)
      | else-index w ↦
          marking_of (ap (λ f. f.items) w.flags-is) (marking_at (marking_skip before (flag_read _ at c.index.ensures w.if-index.false (omega (arith, c.loop-i.invariant.many)))) low)
    ]

pub returns : goal.returns
returns c = marking_end (marking_at c.loop-i.invariant (omega (arith, c.nodes-many.ensures.count)))
