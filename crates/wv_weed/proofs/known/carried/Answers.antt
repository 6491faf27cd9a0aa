use Rattle.std.proofs.Common.{◌≡◌, ◌∙◌, ◌*◌, ◌-◌, ◌++◌, ap, false, take, Bool, List, ℕ}
use Rattle.std.specs.Prelude.{replicate}
use Rattle.wv_weed.proofs.Shared.{carried_over}
use Rattle.wv_weed.proofs.known.carried.Goals as goal

pub returns : goal.returns
returns c =
    let flags = c.args.known.never.items in
    let n = c.shared-same.result in
    let after = c.extend_from_slice.new.self.items in
    let pieces : after ≡ c.truncate.new.self.items ++ c.deref.result.now = c.in_ok-extend_from_slice.ensures.items in
    let others =
    c.deref.ensures.value ∙ c.in_ok-others.ensures.items_if_clones_equal (λ y e. e)
    ∙ ap (λ (k : ℕ). replicate (2 * (k - n)) false) c.nodes-many.ensures.count in
    carried_over c.args.known.net c.args.net.now n flags after c.shared-same.ensures c.requires.known
    (pieces ∙ ap (λ (xs : List Bool). xs ++ c.deref.result.now) c.truncate.ensures.items
    ∙ ap (λ (xs : List Bool). take (2 * n) flags ++ xs) others)
