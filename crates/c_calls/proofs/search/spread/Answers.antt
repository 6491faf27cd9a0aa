use Rattle.std.proofs.Common.{◌≡◌, ◌+◌, length, sym, ap, ◌∙◌, subst, arith, List, ℕ}
use Rattle.c_core.specs.View.{program_view}
use Rattle.c_calls.specs.Marks.{all_added}
use Rattle.c_calls.proofs.SpreadLaws.{IsSpread, spread_begins, spread_goes_on, spread_ends}
use Rattle.c_calls.proofs.UsesLaws.{as_many}
use Rattle.c_calls.proofs.search.spread.Goals as goal

pub loop-next-init : goal.loop-next-init
loop-next-init c = record {
  count = c.requires;
  spread = spread_begins (program_view c.args.program.now) c.args.found.now.order.items;
}

pub loop-next-preserved : goal.loop-next-preserved
loop-next-preserved c =
    let p = program_view c.args.program.now in
    let now = c.loop-next.found.order.items in
    let f = c.index-function.result.now in
    let count : length c.loop-next.found.marks.items ≡ length p.functions = c.loop-next.invariant.count ∙ sym (as_many c.args.program.now.functions) in
    let listed = c.as_slice.ensures.value ∙ c.in_ok-uses.ensures in
    let same = c.in_ok-add_called.ensures.order ∙ ap (λ n. all_added n now c.as_slice.result.now) count ∙ ap (all_added (length p.functions) now) listed in
    record {
      count = c.add_called.ensures.count ∙ c.loop-next.invariant.count;
      spread = subst (λ (l : List ℕ). IsSpread p c.args.found.now.order.items l (c.loop-next.next + 1)) (sym same)
          (spread_goes_on p c.args.found.now.order.items now c.loop-next.next f (omega arith) c.index-function.ensures c.loop-next.invariant.spread);
    }

pub returns-clause-members : goal.returns-clause-members
returns-clause-members c = spread_ends (program_view c.args.program.now) c.args.found.now.order.items c.loop-next.found.order.items c.loop-next.next (omega arith) c.loop-next.invariant.spread
