use Rattle.std.proofs.Common.{sym, ◌∙◌, arith}
use Rattle.wv_author.proofs.ValueLines.{no_digits, one_more_read, read_small}
use Rattle.wv_author.proofs.values.whole_number.Goals as goal

pub returns-then-not-is_ascii_digit-clause-value :
    goal.returns-then-not-is_ascii_digit-clause-value
returns-then-not-is_ascii_digit-clause-value c =
    no_digits c.args.digits.now c.loop-digit.digit-index c.loop-digit-test.true (sym c.is_ascii_digit.ensures.value ∙ c.if-not-is_ascii_digit.true)

pub one_more_digit-number-requires-clause-small : goal.one_more_digit-number-requires-clause-small
one_more_digit-number-requires-clause-small c =
    read_small c.args.digits.now c.loop-digit.digit-index c.loop-digit.number 19 c.loop-digit.invariant (omega arith) (omega arith)

pub loop-digit-preserved : goal.loop-digit-preserved
loop-digit-preserved c =
    one_more_read c.args.digits.now c.loop-digit.digit-index c.loop-digit.number c.one_more_digit-number.result c.loop-digit.invariant c.loop-digit-test.true
    (sym c.is_ascii_digit.ensures.value ∙ c.if-not-is_ascii_digit.false) c.one_more_digit-number.ensures

pub returns-clause-small : goal.returns-clause-small
returns-clause-small c =
    read_small c.args.digits.now c.loop-digit.digit-index c.loop-digit.number 20 c.loop-digit.invariant (omega arith) (omega arith)
