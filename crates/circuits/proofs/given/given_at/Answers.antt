use Rattle.std.proofs.Common.{◌∙◌, ◌++◌, ◌∷◌, [], ap, subst, sym}
use Rattle.std.proofs.lemmas.Result.{IfOk-weaker}
use Rattle.circuits.specs.Net.{holds}
use Rattle.circuits.specs.Facts.{AllFollow}
use Rattle.circuits.proofs.FactLaws.{follow_own}
use Rattle.circuits.proofs.given.given_at.Goals as goal

pub returns : goal.returns
returns c =
    let net = c.args.nodes.now in
    let own = subst (λ l. AllFollow net (λ v. holds v net c.args.live) l) (ap (λ l. l ++ c.args.live ∷ []) (sym c.new-known.ensures.items) ∙ sym c.in_ok-push.ensures.items) (follow_own net c.args.live c.requires.live_in) in
    IfOk-weaker c.given_by.result _ _ (λ r g. g (λ v. holds v net c.args.live) (c.in_ok-bits.ensures (λ v. holds v net c.args.live) own)) c.given_by.ensures
