use Rattle.std.proofs.Common.{arith, ◌∙◌, ap, sym, length, take}
use Rattle.std.proofs.lemmas.Bool.{eqb-true}
use Rattle.std.specs.String.{string_bytes}
use Rattle.yaml_lines.specs.Marks.{without_end}
use Rattle.yaml_scalars.proofs.FoldOut.{plain_on, plain_last}
use Rattle.yaml_scalars.proofs.plain.push_plain.Goals as goal

pub returns : goal.returns
returns c =
    plain_last c.args.indent c.args.text.now (take c.len_without_end-count.result c.args.text.now) c.from_place-tail.result (string_bytes c.args.out.now) (string_bytes c.push_chars-2.new.out) c.args.body.now
    (sym c.is_plain_start.ensures ∙ grind arith) (c.from_place-tail.ensures.value ∙ c.cut_len-len.ensures.rest) (c.len_without_end-count.ensures.value ∙ ap without_end c.cut_len-len.ensures.front)
    (grind arith) (sym c.is_nothing.ensures ∙ grind arith) (sym c.are_quiet.ensures ∙ grind arith) c.in_ok-push_chars-2.ensures

pub returns-then-is_empty : goal.returns-then-is_empty
returns-then-is_empty c =
    sym (plain_on c.args.indent c.args.text.now (take c.len_without_end-count.result c.args.text.now) c.from_place-tail.result (string_bytes c.args.out.now) (string_bytes c.push_chars.new.out) c.args.body.now
    (sym c.is_plain_start.ensures ∙ grind arith) (c.from_place-tail.ensures.value ∙ c.cut_len-len.ensures.rest) (c.len_without_end-count.ensures.value ∙ ap without_end c.cut_len-len.ensures.front)
    (eqb-true (length c.from_place-tail.result) 0 (sym c.is_empty.ensures ∙ c.if-is_empty.true)) c.in_ok-push_chars.ensures) ∙ c.in_ok-push_continued.ensures
