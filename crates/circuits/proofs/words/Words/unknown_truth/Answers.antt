use Rattle.std.proofs.Common.{◌≡◌, ◌+◌, ◌*◌, Some, slice_get, [], ◌∷◌}
use Rattle.circuits.specs.Words.{bits_of}
use Rattle.circuits.proofs.Unknowns.{IsUnknown, unknown_some, some_weaker, tells_lowest}
use Rattle.circuits.proofs.words.Words.unknown_truth.Goals as goal
use Rattle.circuits.proofs.words.Words.unknown_truth.Goals.{in-Some, in-None+in_ok-at-in-None}

pub returns-clause-tells : goal.returns-clause-tells
returns-clause-tells c =
    let place : Some (c.args.bit ∷ []) ≡ slice_get (bits_of c.match-find.self.list.items) c.match-find.at = elim c.match-find.branch [
      | in-Some w ↦ rw (w.self-is, w.at-is) w.in-Some.ensures.found
      | in-None+in_ok-at-in-None w ↦ rw (w.self-is, w.at-is) w.in_ok-at-in-None.ensures.own
    ] in
    some_weaker (λ p. IsUnknown (2 * c.match-find.at + 3) p) _ _ (unknown_some _ _ _ c.ok.ensures.value c.unknown.ensures.value c.unknown.ensures.within) (λ p u. tells_lowest _ _ place u)
