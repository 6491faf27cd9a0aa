use Rattle.std.proofs.Common.{◌++◌, codes, sym, ap, subst}
use Rattle.std.specs.List.{All, flat_map}
use Rattle.std.proofs.lemmas.List.Elements.{All-nil}
use Rattle.clauses.specs.Clause.{IsNumber}
use Rattle.wv_cert.specs.Text.{number_text}
use Rattle.wv_cert.proofs.Chains.{as_kept, number_some, items_done, items_stuck, row_fine, row_so_far, row_shorter}
use Rattle.wv_cert.proofs.Items.{Ends, ends_less}
use Rattle.wv_cert.proofs.Shapes.{numbers_are, passed, passed_not}
use Rattle.wv_cert.proofs.reading.numbers.Goals as goal

pub loop-text-init : goal.loop-text-init
loop-text-init c =
    record {
      fine = subst (All IsNumber) (sym c.new-numbers.ensures) (All-nil IsNumber);
      ends = subst (λ list. Ends list c.args.text.now) (sym c.new-numbers.ensures) tt;
      so_far = ap (λ list. flat_map number_text list ++ c.args.text.now) c.new-numbers.ensures;
    }

pub returns-in_default : goal.returns-in_default
returns-in_default c =
    items_stuck IsNumber number_text (codes "\n") numbers_are c.loop-text.numbers c.args.text.now c.loop-text.text c.passes.new.self c.loop-text.invariant.fine
    c.loop-text.invariant.ends c.loop-text.invariant.so_far
    (passed_not (codes "\n") c.loop-text.text c.passes.new.self c.passes.result c.loop-text-test.true c.passes.ensures) c.in_default.ensures

pub loop-text-preserved : goal.loop-text-preserved
loop-text-preserved c =
    let read = c.in-Some.ensures in
    let word = passed_not (codes "\n") c.loop-text.text c.passes.new.self c.passes.result c.loop-text-test.true c.passes.ensures in
    record {
      fine = row_fine IsNumber c.loop-text.numbers c.push.new.self c.in-Some.number (as_kept c.loop-text.numbers c.push.new.self c.in-Some.number c.in_ok-push.ensures.ok read.0) c.loop-text.invariant.fine read.0;
      ends = ends_less c.push.new.self c.number.new.text read.2;
      so_far = row_so_far number_text c.loop-text.numbers c.push.new.self c.in-Some.number c.args.text.now c.loop-text.text c.passes.new.self c.number.new.text
          (as_kept c.loop-text.numbers c.push.new.self c.in-Some.number c.in_ok-push.ensures.ok read.0) c.loop-text.invariant.so_far word.0 read.1;
    }

pub loop-text-smaller : goal.loop-text-smaller
loop-text-smaller c =
    let read = c.in-Some.ensures in
    let word = passed_not (codes "\n") c.loop-text.text c.passes.new.self c.passes.result c.loop-text-test.true c.passes.ensures in
    row_shorter number_text c.in-Some.number c.loop-text.text c.passes.new.self c.number.new.text (number_some c.in-Some.number) word.0 read.1

pub returns : goal.returns
returns c =
    let word = passed (codes "\n") c.loop-text.text c.passes.new.self c.passes.result c.loop-text-test.false c.passes.ensures in
    (c.loop-text.invariant.fine, items_done number_text (codes "\n") c.loop-text.numbers c.args.text.now c.loop-text.text c.passes.new.self c.loop-text.invariant.so_far word)
