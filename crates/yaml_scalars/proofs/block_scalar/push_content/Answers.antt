use Rattle.std.proofs.Common.{arith, ◌≡◌, ◌∷◌, ◌++◌, ◌+◌, ◌∙◌, sym, ap, map, drop, drop-cons, add-one, suc, if◌then◌else◌, Bool, List}
use Rattle.std.specs.String.{string_bytes}
use Rattle.std.specs.Str.{encode_utf8_all, chars}
use Rattle.yaml_lines.specs.Line.{Line}
use Rattle.yaml_lines.specs.Marks.{indented}
use Rattle.yaml_scalars.specs.BlockScalar.{row_in, content, text_in}
use Rattle.yaml_scalars.proofs.Rows.{row_text, row_break, content_on}
use Rattle.yaml_scalars.proofs.block_scalar.push_content.Goals as goal

pub loop-line-preserved : goal.loop-line-preserved
loop-line-preserved c =
    let l = c.line-item.result in
    let column = c.args.column in
    let text = indented c.extra_spaces-extra.result (chars c.row_text-text.result.now) in
    let rest = drop (c.loop-line.line-index + 1) c.args.lines.now in
    let text_is : (row_in column l).0 ≡ text = row_text column l ∙ ap (λ n. indented n (text_in column l)) (sym c.extra_spaces-extra.ensures) ∙ ap (indented c.extra_spaces-extra.result) (sym c.row_text-text.ensures) in
    let h : c.break_count-has_break.result ≡ (if (row_in column l).1 then 1 else 0) = c.break_count-has_break.ensures.value ∙ ap (λ (b : Bool). if b then 1 else 0) (sym (row_break column l)) in
    let here : drop c.loop-line.line-index c.args.lines.now ≡ l ∷ rest =
    drop-cons c.args.lines.now c.loop-line.line-index l c.loop-line-test.true ∙ ap (λ x. x ∷ drop (suc c.loop-line.line-index) c.args.lines.now) (sym c.line-item.is)
    ∙ ap (λ i. l ∷ drop i c.args.lines.now) (sym (add-one c.loop-line.line-index)) in
    record {
      few = omega (arith, c.break_count-has_break.ensures.few);
      same = content_on c.args.header.folds c.args.header.chomp c.loop-line.before c.loop-line.breaks c.break_count-has_break.result c.does_row_begin_blank-is_blank_row.result (row_in column l) (map (row_in column) rest) text
          (string_bytes c.loop-line.out) (string_bytes c.push_between.new.out) (string_bytes c.push_row.new.out) text_is (sym c.is_empty_row.ensures ∙ c.if-is_empty_row.false) c.does_row_begin_blank-is_blank_row.ensures h c.in_ok-push_between.ensures c.in_ok-push_row.ensures
          ∙ ap (λ (ls : List Line). string_bytes c.loop-line.out ++ encode_utf8_all (content c.args.header.folds c.args.header.chomp c.loop-line.before c.loop-line.breaks (map (row_in column) ls))) (sym here) ∙ c.loop-line.invariant.same;
    }
