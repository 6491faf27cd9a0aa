use Rattle.std.proofs.Common.{arith, sym, ap, ◌≡◌, ◌∙◌, ◌<◌, Bool, List, length}
use Rattle.std.proofs.lemmas.List.{length-map}
use Rattle.c_core.specs.View.{program_view}
use Rattle.c_meaning.specs.Duties.{Duties}
use Rattle.c_meaning.specs.Placing.{placed, placed_view}
use Rattle.c_inductive.specs.Picking.{picked}
use Rattle.wv_weed.specs.Numbers.{unflagged}
use Rattle.wv_weed.proofs.Ended.{all_weeding, comes_to, fewer_weeding}
use Rattle.wv_weed.proofs.Spared.{no_longer}
use Rattle.wv_weed.proofs.weeding.weed.Goals as goal

pub loop-left-init : goal.loop-left-init
loop-left-init c =
    let I = placed_view c.args.invariants.now in (
      all_weeding (program_view c.args.program.now) I c.in_ok-left.left c.len.result (c.all_are_picked.ensures I)
          c.in_ok-left.ensures (c.len.ensures ∙ sym (length-map c.args.invariants.now placed)),
      c.in_ok-known.ensures,
    )

pub returns-then-len : goal.returns-then-len
returns-then-len c =
    let p = program_view c.args.program.now in
    let I = placed_view c.args.invariants.now in
    let left = c.loop-left.left in
    let fewer = c.in_ok-fewer.fewer in
    let flags = c.in_ok-round.round.dropped.items in
    let same : c.deref.result.now ≡ flags = c.deref.ensures.value in
    let dropped : fewer ≡ unflagged flags left =
    c.in_ok-fewer.ensures ∙ ap (λ (bs : List Bool). unflagged bs left) same in
    let as_many : length fewer ≡ length left =
    omega (arith, c.if-len.true, c.len-in-loop-left.ensures, c.len-in-loop-left-2.ensures) in
    let r = c.in_ok-round.ensures in
    let weeding = c.loop-left.invariant.0 in (
      weeding.judged r.0,
      comes_to c.args.conflicts p I left fewer flags c.in_ok-round.round.first c.ended.result weeding.are_left r.1
          dropped as_many c.ended.ensures,
    )

pub loop-left-smaller-else-len : goal.loop-left-smaller-else-len
loop-left-smaller-else-len c =
    let fewer = c.in_ok-fewer.fewer in
    let flags = c.in_ok-round.round.dropped.items in
    let left = c.loop-left.left in
    let same : c.deref.result.now ≡ flags = c.deref.ensures.value in
    let dropped : fewer ≡ unflagged flags left =
    c.in_ok-fewer.ensures ∙ ap (λ (bs : List Bool). unflagged bs left) same in
    let less : length fewer < length left =
    omega (
      arith,
      no_longer flags left,
      ap length dropped,
      c.if-len.false,
      c.len-in-loop-left.ensures,
      c.len-in-loop-left-2.ensures,
    ) in
    less

pub loop-left-preserved-else-len : goal.loop-left-preserved-else-len
loop-left-preserved-else-len c =
    let p = program_view c.args.program.now in
    let I = placed_view c.args.invariants.now in
    let left = c.loop-left.left in
    let fewer = c.in_ok-fewer.fewer in
    let flags = c.in_ok-round.round.dropped.items in
    let same : c.deref.result.now ≡ flags = c.deref.ensures.value in
    let dropped : fewer ≡ unflagged flags left =
    c.in_ok-fewer.ensures ∙ ap (λ (bs : List Bool). unflagged bs left) same in
    let r = c.in_ok-round.ensures in
    let first = c.in_ok-round.round.first in (
      fewer_weeding c.args.conflicts p I left fewer (length (Duties p (picked left I))) flags first
          c.loop-left.invariant.0 r.0 r.1 dropped,
      r.2,
    )

pub loop-left-smaller : goal.loop-left-smaller
loop-left-smaller c =
    let fewer = c.in_ok-fewer.fewer in
    let flags = c.in_ok-round.round.dropped.items in
    let left = c.loop-left.left in
    let same : c.deref.result.now ≡ flags = c.deref.ensures.value in
    let dropped : fewer ≡ unflagged flags left =
    c.in_ok-fewer.ensures ∙ ap (λ (bs : List Bool). unflagged bs left) same in
    let less : length fewer < length left =
    omega (
      arith,
      no_longer flags left,
      ap length dropped,
      c.if-len.false,
      c.len-in-loop-left.ensures,
      c.len-in-loop-left-2.ensures,
    ) in
    less

pub loop-left-preserved : goal.loop-left-preserved
loop-left-preserved c =
    let p = program_view c.args.program.now in
    let I = placed_view c.args.invariants.now in
    let left = c.loop-left.left in
    let fewer = c.in_ok-fewer.fewer in
    let flags = c.in_ok-round.round.dropped.items in
    let same : c.deref.result.now ≡ flags = c.deref.ensures.value in
    let dropped : fewer ≡ unflagged flags left =
    c.in_ok-fewer.ensures ∙ ap (λ (bs : List Bool). unflagged bs left) same in
    let r = c.in_ok-round.ensures in
    let first = c.in_ok-round.round.first in (
      fewer_weeding c.args.conflicts p I left fewer (length (Duties p (picked left I))) flags first
          c.loop-left.invariant.0 r.0 r.1 dropped,
      r.2,
    )
