use Rattle.std.proofs.Common.{◌≡◌, ◌≤◌, ◌+◌, ℕ, List, length}
use Rattle.c_tokens.specs.declared.place.Place.{Place}
use Rattle.c_tokens.specs.Reading.{Leads, start}
use Rattle.c_tokens.proofs.leading.lead.Given as goal

-- what leads the rest leads the text, behind what was passed
abbrev pub invariant-loop-passed : goal.invariant-loop-passed
invariant-loop-passed l =
    ((k : ℕ) (there : Place) (end : List ℕ) → Leads l.place l.rest k there end → Leads start l.fn.bytes (l.parens + k) there end)
    × (l.parens ≤ l._passed)
    × (length l.rest + l._passed ≤ length l.fn.bytes)
