use Rattle.std.proofs.Common.{arith, ap, sym, ◌∙◌, ◌≡◌, ◌<◌, ◌≤◌, ◌+◌, ◌*◌, ◌^◌, length, length-drop, lit<}
use Rattle.std.proofs.lemmas.Bool.{eqb-true}
use Rattle.yaml_scalars.proofs.Numbers.{grows, fits, number_step, number_other, number_short}
use Rattle.yaml_lines.proofs.Places.{next_place, next_within, char_at, some_here}
use Rattle.yaml_scalars.proofs.quoted.hex_number.Goals as goal

pub returns-then-is_empty-clause-value : goal.returns-then-is_empty-clause-value
returns-then-is_empty-clause-value c =
    let none : length c.loop-at.left ≡ 0 = eqb-true (length c.loop-at.left) 0 (sym c.is_empty.ensures ∙ c.if-is_empty.true) in
    let end : c.loop-at.at ≡ length c.args.text.now = omega (arith, none, ap length c.loop-at.invariant.place, length-drop c.loop-at.at c.args.text.now, c.loop-at.invariant.within) in
    sym (number_short c.args.count c.loop-at.at c.loop-at.value c.args.text.now c.loop-at-test.true end) ∙ c.loop-at.invariant.rest

pub returns-in_default-clause-value : goal.returns-in_default-clause-value
returns-in_default-clause-value c =
    let text = c.args.text.now in
    let i = c.loop-at.invariant in
    let room : c.loop-at.at + 1 ≤ length text = next_within text c.loop-at.left c.loop-at.at i.place (some_here c.loop-at.left c.first.result c.first.ensures) in
    sym (number_other c.args.count c.loop-at.at c.loop-at.value c.first.result text c.loop-at-test.true (omega (arith, room)) (char_at text c.loop-at.left c.loop-at.at c.first.result i.place c.first.ensures (omega (arith, room))) (sym c.hex_digit.ensures.value ∙ c.in_default.is)) ∙ i.rest

pub overflow_mul-value : goal.overflow_mul-value
overflow_mul-value c = let h : 16 * c.loop-at.value + 0 < 2 ^ 32 = fits c.loop-at.value 0 c.loop-at.at c.loop-at.invariant.small (omega arith) (lit< tt) in omega arith

pub overflow_add-value : goal.overflow_add-value
overflow_add-value c = let h : 16 * c.loop-at.value + c.in-Some.d < 2 ^ 32 = fits c.loop-at.value c.in-Some.d c.loop-at.at c.loop-at.invariant.small (omega arith) c.in-Some.ensures.small in omega arith

pub loop-at-preserved : goal.loop-at-preserved
loop-at-preserved c =
    let text = c.args.text.now in
    let i = c.loop-at.invariant in
    let room : c.loop-at.at + 1 ≤ length text = next_within text c.loop-at.left c.loop-at.at i.place (some_here c.loop-at.left c.first.result c.first.ensures) in
    record {
      place = next_place text c.loop-at.left c.rest-left.result c.loop-at.at i.place c.rest-left.ensures.value;
      within = room;
      few = omega arith;
      small = grows c.loop-at.value c.in-Some.d c.loop-at.at c.loop-at.invariant.small c.in-Some.ensures.small;
      rest = number_step c.args.count c.loop-at.at c.loop-at.value c.first.result c.in-Some.d text c.loop-at-test.true (omega (arith, room)) (char_at text c.loop-at.left c.loop-at.at c.first.result i.place c.first.ensures (omega (arith, room))) (sym c.in-Some.ensures.value) ∙ i.rest;
    }
