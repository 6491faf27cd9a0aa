use Rattle.std.proofs.Common.{◌≡◌, drop}
use Rattle.wv_author.specs.Authored.{first_free}
use Rattle.wv_author.proofs.authoring.first_free.Given as goal

abbrev pub invariant-loop-draw : goal.invariant-loop-draw
invariant-loop-draw l = (first_free (drop l.draw-index l.draws) ≡ first_free l.draws)
