use Rattle.std.proofs.Common.{refl, sym, subst, ◌+◌, Some}
use Rattle.wv_weed.specs.Rounds.{IsKeptFirst}
use Rattle.wv_weed.specs.declared.rounds.Open.{Open}
use Rattle.wv_weed.proofs.rounds.keep.Goals as goal

pub returns-in-None : goal.returns-in-None
returns-in-None c =
    let added : Open = record { number = c.args.at + 1; at = c.args.spent } in
    subst (λ was. IsKeptFirst was c.args.at c.args.spent (Some added)) (sym c.in-None.is)
    (record { added = added; is = refl; number = refl; kept = refl })
