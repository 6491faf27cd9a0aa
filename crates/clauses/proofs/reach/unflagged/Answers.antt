use Rattle.std.proofs.Common.{◌∙◌, ap, false, ◌++◌, ◌∷◌, [], arith, ◌≡◌}
use Rattle.std.proofs.lemmas.List.{replicate_more}
use Rattle.std.proofs.Math.ListN.{replicate}
use Rattle.clauses.proofs.reach.unflagged.Goals as goal

pub loop-i-preserved : goal.loop-i-preserved
loop-i-preserved c = c.in_ok-push.ensures.items ∙ ap (λ l. l ++ false ∷ []) c.loop-i.invariant ∙ replicate_more c.loop-i.i false

pub returns : goal.returns
returns c = let n : c.loop-i.i ≡ c.args.n = omega arith in c.loop-i.invariant ∙ ap (λ k. replicate k false) n
