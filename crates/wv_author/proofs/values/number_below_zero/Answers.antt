use Rattle.std.proofs.Common.{subst, sym}
use Rattle.std.specs.Prelude.{SomeIff}
use Rattle.std.specs.Str.Parse.{digits_value}
use Rattle.std.proofs.lemmas.List.{take_rest}
use Rattle.wv_author.specs.Values.{AreDigits, ReadsNumber}
use Rattle.wv_author.proofs.ValueLines.{signed_reads}
use Rattle.wv_author.proofs.values.number_below_zero.Goals as goal

pub returns : goal.returns
returns c =
    let line = c.args.line.now in
    let size = c.whole_number-size.result in
    let read = subst (λ ds. SomeIff size (AreDigits ds) (digits_value 10 ds)) (take_rest line 1) c.whole_number-size.ensures.value in
    subst (ReadsNumber line) (sym c.below_zero.ensures) (signed_reads line size c.requires.some c.requires.minus read)
