use Rattle.std.proofs.Common.{◌∷◌, ◌++◌, codes, decimal, refl, sym, ◌∙◌}
use Rattle.wv_cert.proofs.Shapes.{passed, passed_not, tail_same, step_first, step_read, step_second, step_shape}
use Rattle.wv_cert.proofs.numbers.step.Goals as goal

pub returns-then-not-passes : goal.returns-then-not-passes
returns-then-not-passes c = λ s rest fine ends is.
    (passed_not (codes " ") c.args.text.now c.passes.new.self c.passes.result c.if-not-passes.true c.passes.ensures).1
    (decimal s.with ++ (58 ∷ (decimal s.on ++ rest))) (is ∙ step_shape s rest)

pub returns-in_err-with : goal.returns-in_err-with
returns-in_err-with c =
    let blank = passed (codes " ") c.args.text.now c.passes.new.self c.passes.result c.if-not-passes.false c.passes.ensures in
    rw c.from_residual.ensures (λ s rest fine ends is.
    c.in_err-with.ensures s.with (58 ∷ (decimal s.on ++ rest)) fine.0 refl (step_first c.args.text.now c.passes.new.self rest s blank is))

pub returns-then-not-passes-2 : goal.returns-then-not-passes-2
returns-then-not-passes-2 c = λ s rest fine ends is.
    let blank = passed (codes " ") c.args.text.now c.passes.new.self c.passes.result c.if-not-passes.false c.passes.ensures in
    let read = c.in_ok-with.ensures in
    let none = passed_not (codes ":") c.small.new.text c.passes-2.new.self c.passes-2.result c.if-not-passes-2.true c.passes-2.ensures in
    none.1 (decimal s.on ++ rest) (step_second c.args.text.now c.passes.new.self c.small.new.text rest s c.in_ok-with.with blank read.0 read.1 read.2 fine is)

pub returns-in_err-on : goal.returns-in_err-on
returns-in_err-on c =
    let blank = passed (codes " ") c.args.text.now c.passes.new.self c.passes.result c.if-not-passes.false c.passes.ensures in
    let read = c.in_ok-with.ensures in
    let colon = passed (codes ":") c.small.new.text c.passes-2.new.self c.passes-2.result c.if-not-passes-2.false c.passes-2.ensures in
    rw c.from_residual-in_err-on.ensures (λ s rest fine ends is.
    c.in_err-on.ensures s.on rest fine.1 ends (tail_same 58 58 c.passes-2.new.self (decimal s.on ++ rest)
    (sym colon ∙ step_second c.args.text.now c.passes.new.self c.small.new.text rest s c.in_ok-with.with blank read.0 read.1 read.2 fine is)))

pub returns : goal.returns
returns c =
    let blank = passed (codes " ") c.args.text.now c.passes.new.self c.passes.result c.if-not-passes.false c.passes.ensures in
    let colon = passed (codes ":") c.small.new.text c.passes-2.new.self c.passes-2.result c.if-not-passes-2.false c.passes-2.ensures in
    let first = c.in_ok-with.ensures in
    let second = c.in_ok-on.ensures in (
      (first.0, second.0),
      step_read c.args.text.now c.passes.new.self c.small.new.text c.passes-2.new.self c.small-2.new.text
          (record { with = c.in_ok-with.with; on = c.in_ok-on.on }) blank first.1 colon second.1,
      second.2,
    )
