use Rattle.std.proofs.Common.{◌≡◌, ◌++◌, ◌∷◌, [], ◌&&◌, ◌∙◌, ap, subst, sym}
use Rattle.std.proofs.lemmas.Result.{IfOk-weaker}
use Rattle.circuits.specs.Net.{holds}
use Rattle.circuits.specs.Facts.{Condition, AllFollow}
use Rattle.circuits.proofs.FactLaws.{follow_assumed, follow_left_out}
use Rattle.circuits.proofs.parts.assumed.Goals as goal
use Rattle.circuits.proofs.parts.assumed.Goals.{in-Some+in_ok-push-2, in_default}

known_pushed : (c : goal.After-taken_apart) → c.args.known.now ++ c.args.bit ∷ [] ≡ c.push.new.self.items
known_pushed c = ap (λ l. l ++ c.args.bit ∷ []) (sym (c.in_ok-all.ensures.items_if_clones_equal (λ x y e. e))) ∙ sym c.in_ok-push.ensures.items

given : (c : goal.After-taken_apart) (here : Condition) → AllFollow c.args.nodes.now here c.args.known.now
    → AllFollow c.args.nodes.now (λ v. here v && holds v c.args.nodes.now c.args.bit) c.match-left_out.all.items
given c here f =
    let it = subst (λ l. AllFollow c.args.nodes.now (λ v. here v && holds v c.args.nodes.now c.args.bit) l) (known_pushed c) (follow_assumed c.args.known.now c.args.bit c.requires.bit_in f) in
    elim c.match-left_out.branch [
      | in-Some+in_ok-push-2 w ↦ rw (w.all-is, w.in_ok-push-2.ensures.items) (follow_left_out c.args.known.now _ c.args.bit _ w.in-Some.ensures f it)
      | in_default w ↦ rw w.all-is it
    ]

pub returns : goal.returns
returns c = IfOk-weaker c.taken_apart.result _ _ (λ r g here f. g (λ v. here v && holds v c.args.nodes.now c.args.bit) (given c here f)) c.taken_apart.ensures
