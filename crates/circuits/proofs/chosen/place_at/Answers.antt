use Rattle.std.proofs.Common.{◌∷◌, [], ◌++◌, ◌&&◌, subst, sym, ◌∙◌, ap}
use Rattle.circuits.specs.Net.{holds}
use Rattle.circuits.specs.Facts.{AllFollow}
use Rattle.circuits.proofs.FactLaws.{follow_own}
use Rattle.circuits.proofs.ChosenLaws.{in_arms}
use Rattle.circuits.proofs.chosen.place_at.Goals as goal

pub returns-in_default : goal.returns-in_default
returns-in_default c =
    let net = c.args.nodes.now in
    let own = subst (λ l. AllFollow net (λ v. holds v net c.args.live) l) (ap (λ l. l ++ c.args.live ∷ []) (sym c.new-bits.ensures.items) ∙ sym c.in_ok-push.ensures.items) (follow_own net c.args.live c.requires.live_in) in
    c.in_ok-known.ensures (λ v. holds v net c.args.live) own

pub returns : goal.returns
returns c =
    let net = c.args.nodes.now in
    let arms = c.in-Some.arms in
    let own = subst (λ l. AllFollow net (λ v. holds v net c.args.live) l) (ap (λ l. l ++ c.args.live ∷ []) (sym c.new-bits.ensures.items) ∙ sym c.in_ok-push.ensures.items) (follow_own net c.args.live c.requires.live_in) in
    let known : AllFollow net (λ v. holds v net c.args.live) c.in_ok-known.known.items = c.in_ok-known.ensures (λ v. holds v net c.args.live) own in
    c.either.ensures net (λ v. holds v net c.args.live) (λ v. holds v net c.args.live && holds v net arms.left) (λ v. holds v net c.args.live && holds v net arms.right)
    (in_arms arms.left arms.right c.in-Some.ensures (rw c.deref.ensures.value known))
    (c.in_ok-first.ensures (λ v. holds v net c.args.live) (rw c.deref-2.ensures.value known))
    (c.in_ok-second.ensures (λ v. holds v net c.args.live) (rw c.deref-3.ensures.value known))
