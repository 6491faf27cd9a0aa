use Rattle.std.proofs.Common.{◌≡◌, List, [], sym, ap, subst, ◌∙◌}
use Rattle.c_meaning.specs.Memory.{Held}
use Rattle.c_meaning.specs.Slots.{names_of, IsKept, IsPlaced}
use Rattle.c_meaning.specs.declared.memory.Live.{Live}
use Rattle.c_meaning.proofs.Innermost.{no_cells}
use Rattle.c_meaning.proofs.Tables.{kept_none}
use Rattle.c_meaning.proofs.memory.Memory.lay_out.Goals as goal

pub invariant_of-self : goal.invariant_of-self
invariant_of-self c =
    let starts = c.self.inside.starts.items in
    let places = c.self.inside.places.items in
    let slots = c.self.inside.slots.items in
    let tops = c.in_ok-starts.starts.items in
    let anew = c.in_ok-self-inside.field-0.items in
    let none : c.self.inside.cells.items ≡ [] = no_cells c.self.inside.cells.items (ap (λ (m : Held). m.cells) c.self.view_is ∙ c.cut.ensures.cells) in
    let kept : IsKept starts places [] slots = subst (λ (ls : List Live). IsKept starts places (names_of ls) slots) none c.self.invariant.0 in
    let placed : IsPlaced tops [] anew = subst (λ s. IsPlaced s [] anew) c.as_slice.ensures.value c.in_ok-self-inside.ensures in
    (subst (λ (ls : List Live). IsKept tops anew (names_of ls) slots) (sym none) (kept_none starts tops places anew slots kept c.in_ok-starts.ensures placed), c.self.invariant.1)
