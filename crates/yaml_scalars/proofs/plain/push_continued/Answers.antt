use Rattle.std.proofs.Common.{arith, ◌∙◌, ap, sym, length, length-drop, ◌<◌, ◌∷◌, drop, drop-cons, take}
use Rattle.std.specs.String.{string_bytes}
use Rattle.yaml_lines.specs.Marks.{without_end, trimmed}
use Rattle.yaml_scalars.proofs.FoldOut.{GoesOn, line_on, line_last}
use Rattle.yaml_lines.proofs.Places.{some_left}
use Rattle.yaml_scalars.proofs.plain.push_continued.Goals as goal
use Rattle.yaml_scalars.proofs.plain.push_continued.Goals.{Else-not-is_empty, Else-not-are_quiet-2}

facts_at_end : (c : Else-not-are_quiet-2) → GoesOn c.args.indent c.index-left-0.result c.loop-left.left.now c.lines_from-rest.result.now c.without_gap-text.result c.from_place-tail.result (take c.len_without_end.result c.without_gap-text.result)
facts_at_end c =
    let l = c.index-left-0.result in
    let lt : 0 < length c.loop-left.left.now = some_left (length c.loop-left.left.now) (sym c.is_empty.ensures ∙ c.if-is_empty.false) in
    record {
      whole = drop-cons c.loop-left.left.now 0 l lt ∙ ap (λ x. x ∷ drop 1 c.loop-left.left.now) (sym c.index-left-0.is) ∙ ap (λ xs. l ∷ xs) (sym c.lines_from-rest.ensures);
      text_is = c.without_gap-text.ensures ∙ ap trimmed c.text.ensures;
      loud = sym c.is_nothing.ensures ∙ c.if-is_nothing.false;
      under = omega (arith, c.if-indent.false, c.indent.ensures);
      tail_is = c.from_place-tail.ensures.value ∙ c.cut_len-len.ensures.rest;
      value_is = c.len_without_end.ensures.value ∙ ap without_end c.cut_len-len.ensures.front;
    }

facts_before_next : (c : Else-not-is_empty) → GoesOn c.args.indent c.index-left-0.result c.loop-left.left.now c.lines_from-rest.result.now c.without_gap-text.result c.from_place-tail.result (take c.len_without_end.result c.without_gap-text.result)
facts_before_next c =
    let l = c.index-left-0.result in
    let lt : 0 < length c.loop-left.left.now = some_left (length c.loop-left.left.now) (sym c.is_empty.ensures ∙ c.if-is_empty.false) in
    record {
      whole = drop-cons c.loop-left.left.now 0 l lt ∙ ap (λ x. x ∷ drop 1 c.loop-left.left.now) (sym c.index-left-0.is) ∙ ap (λ xs. l ∷ xs) (sym c.lines_from-rest.ensures);
      text_is = c.without_gap-text.ensures ∙ ap trimmed c.text.ensures;
      loud = sym c.is_nothing.ensures ∙ c.if-is_nothing.false;
      under = omega (arith, c.if-indent.false, c.indent.ensures);
      tail_is = c.from_place-tail.ensures.value ∙ c.cut_len-len.ensures.rest;
      value_is = c.len_without_end.ensures.value ∙ ap without_end c.cut_len-len.ensures.front;
    }

pub returns-then-not-is_empty : goal.returns-then-not-is_empty
returns-then-not-is_empty c =
    sym c.loop-left.invariant.same ∙ line_last c.loop-left.empties (string_bytes c.loop-left.out) (string_bytes c.push_fold.new.out) (string_bytes c.push_chars.new.out) (facts_at_end c) (grind arith)
    (sym c.is_nothing-in-loop-left.ensures ∙ grind arith) (sym c.are_quiet-then-not-is_empty.ensures ∙ c.if-not-are_quiet-2.false) c.in_ok-push_fold.ensures c.in_ok-push_chars.ensures

pub loop-left-preserved : goal.loop-left-preserved
loop-left-preserved c = record {
  few = omega (arith, c.loop-left.invariant.few, ap length c.lines_from-rest.ensures, length-drop 1 c.loop-left.left.now);
  same = line_on c.loop-left.empties (string_bytes c.loop-left.out) (string_bytes c.push_fold.new.out) (string_bytes c.push_chars.new.out) (facts_before_next c) (grind arith) c.in_ok-push_fold.ensures c.in_ok-push_chars.ensures ∙ c.loop-left.invariant.same;
}
