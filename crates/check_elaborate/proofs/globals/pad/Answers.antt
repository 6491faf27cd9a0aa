use Rattle.std.proofs.Common.{rules, ◌≡◌, ◌++◌, ◌+◌, ◌∷◌, [], ℤ, pos, List, replicate, sym, ap, ◌∙◌}
use Rattle.std.proofs.lemmas.List.{append-nil, append_assoc, replicate_more}
use Rattle.check_elaborate.proofs.globals.pad.Goals as goal

pub loop-init : goal.loop-init
loop-init c = sym (append-nil c.args.values.now)

pub loop-preserved : goal.loop-preserved
loop-preserved c =
    let old = c.args.values.now in
    let zeros = replicate c.loop.counter (pos 0) in
    let pushed : c.push.new.self ≡ c.loop.values ++ pos 0 ∷ [] = search rules in
    pushed ∙ ap (λ (xs : List ℤ). xs ++ pos 0 ∷ []) c.loop.invariant ∙ append_assoc old zeros (pos 0 ∷ []) ∙ ap (λ (xs : List ℤ). old ++ xs) (replicate_more c.loop.counter (pos 0))
