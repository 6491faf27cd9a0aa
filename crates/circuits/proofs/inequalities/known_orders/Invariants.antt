use Rattle.std.proofs.Common.{◌≤◌}
use Rattle.std.specs.List.{All}
use Rattle.circuits.specs.Words.{bits_of}
use Rattle.circuits.specs.Facts.{AllFollow, Condition}
use Rattle.circuits.specs.Inequalities.{AreKnown}
use Rattle.circuits.proofs.inequalities.known_orders.Given as goal

abbrev pub invariant-loop-bit : goal.invariant-loop-bit
invariant-loop-bit l =
    All (λ k. k.width ≤ 64) l.found.items × ((here : Condition) → AllFollow l.nodes here l.known → AreKnown l.nodes (bits_of l.hints.words.list.items) here l.found.items)
