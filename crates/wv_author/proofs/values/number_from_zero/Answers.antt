use Rattle.std.proofs.Common.{subst, sym}
use Rattle.wv_author.specs.Values.{ReadsNumber}
use Rattle.wv_author.proofs.ValueLines.{unsigned_reads}
use Rattle.wv_author.proofs.values.number_from_zero.Goals as goal

pub returns : goal.returns
returns c =
    let read = unsigned_reads c.args.line.now c.whole_number-size.result c.requires c.whole_number-size.ensures.value in
    subst (ReadsNumber c.args.line.now) (sym c.from_zero.ensures) read
