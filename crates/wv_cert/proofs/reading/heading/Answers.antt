use Rattle.std.proofs.Common.{arith, refl}
use Rattle.wv_cert.proofs.Logs.{line_read, line_second, no_line}
use Rattle.wv_cert.proofs.reading.heading.Goals as goal

pub between-requires : goal.between-requires
between-requires c = λ rest. refl

pub returns-in_err-number : goal.returns-in_err-number
returns-in_err-number c =
    let none = no_line c.args.text.now c.args.obligation (omega arith) c.in_err-number.ensures in
    rw c.from_residual.ensures none

pub returns-then-number-obligation : goal.returns-then-number-obligation
returns-then-number-obligation c = λ n rest small is.
    let read = c.in_ok-number.ensures in
    c.if-number-obligation.true (line_second c.args.text.now c.between.new.text rest c.in_ok-number.number c.args.obligation n read.0 read.1 (omega arith) is).0

pub between-requires-2 : goal.between-requires-2
between-requires-2 c = λ rest. refl

pub returns-in_err-count : goal.returns-in_err-count
returns-in_err-count c =
    let read = c.in_ok-number.ensures in
    rw c.from_residual-in_err-count.ensures (λ n rest small is. c.in_err-count.ensures n rest small
    (line_second c.args.text.now c.between.new.text rest c.in_ok-number.number c.args.obligation n read.0 read.1 (omega arith) is).1)

pub returns : goal.returns
returns c =
    let read = c.in_ok-number.ensures in
    let count = c.in_ok-count.ensures in (
      count.0,
      line_read c.args.text.now c.between.new.text c.between-2.new.text c.in_ok-number.number c.args.obligation c.in_ok-count.count read.1
          c.if-number-obligation.false count.1,
    )
