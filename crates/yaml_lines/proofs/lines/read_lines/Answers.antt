use Rattle.std.proofs.Common.{arith, ap, sym, ◌∙◌, ◌≡◌, [], subst, All, append-nil, true}
use Rattle.std.specs.Str.{chars}
use Rattle.std.proofs.lemmas.List.Elements.{All-push}
use Rattle.yaml_lines.specs.Line.{IsSmall}
use Rattle.yaml_lines.specs.Lines.{ended_line, without_return}
use Rattle.yaml_lines.proofs.Places.{some_left}
use Rattle.yaml_lines.proofs.LineLaws.{line_step}
use Rattle.yaml_lines.proofs.Texts.{chars_few}
use Rattle.yaml_lines.proofs.Breaks.{fed, unfed}
use Rattle.yaml_lines.proofs.lines.read_lines.Goals as goal

pub returns-in_default-clause-value : goal.returns-in_default-clause-value
returns-in_default-clause-value c =
    let left = c.loop-left.left.now in
    sym (append-nil c.push.new.self.items) ∙ line_step c.loop-left.lines.items c.push.new.self.items _ [] c.line_of.result _ (chars left) c.in_ok-push.ensures.items c.line_of.ensures.value
    (unfed left c.loop-left.invariant.utf8 c.in_default.ensures.cases (some_left _ (sym c.is_end.ensures ∙ c.loop-left-test.true))) c.loop-left.invariant.same

pub returns-in_default-clause-small : goal.returns-in_default-clause-small
returns-in_default-clause-small c =
    subst (All IsSmall) (sym c.in_ok-push.ensures.items) (All-push IsSmall c.loop-left.lines.items c.line_of.result c.loop-left.invariant.small
    (omega (arith, c.line_of.ensures.small, c.loop-left.invariant.few, chars_few c.args.text.now c.utf8.text)))

pub loop-left-smaller : goal.loop-left-smaller
loop-left-smaller c =
    let f = fed c.loop-left.left.now c.in-Some.front.now c.in-Some.rest.now c.loop-left.invariant.utf8 c.in-Some.ensures.cases in
    omega (arith, f.size)

pub loop-left-preserved : goal.loop-left-preserved
loop-left-preserved c =
    let l = c.line_of-in-loop-left.result in
    let front = c.in-Some.front.now in
    let f = fed c.loop-left.left.now front c.in-Some.rest.now c.loop-left.invariant.utf8 c.in-Some.ensures.cases in
    let is : l ≡ ended_line (without_return (chars front)) true = c.line_of-in-loop-left.ensures.value ∙ ap (λ xs. ended_line xs true) c.without_cr.ensures.value in
    record {
      utf8 = f.after;
      few = omega (arith, f.size, c.loop-left.invariant.few);
      small = subst (All IsSmall) (sym c.in_ok-push-2.ensures.items) (All-push IsSmall c.loop-left.lines.items l c.loop-left.invariant.small
          (omega (arith, c.line_of-in-loop-left.ensures.small, c.without_cr.ensures.within, f.size, c.loop-left.invariant.few, chars_few c.args.text.now c.utf8.text)));
      same = line_step c.loop-left.lines.items c.push-in-loop-left.new.self.items _ _ l _ (chars c.loop-left.left.now) c.in_ok-push-2.ensures.items is f.step c.loop-left.invariant.same;
    }
