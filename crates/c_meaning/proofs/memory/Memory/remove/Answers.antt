use Rattle.std.proofs.Common.{◌≡◌, ◌-◌, ◌∷◌, ◌<◌, length, length-set, take, vec_len, Some, None, sym, ap, subst, ◌∙◌, rules, arith}
use Rattle.c_meaning.specs.Memory.{cells_of}
use Rattle.c_meaning.specs.Layout.{number_of}
use Rattle.c_meaning.specs.Slots.{names_of, name_of, slot_of, Ends, IsKept}
use Rattle.c_meaning.proofs.Innermost.{cells_take, length_cells}
use Rattle.c_meaning.proofs.Tables.{kept_free, kept_fewer, kept_fewer_placed, names_length, names_more}
use Rattle.c_meaning.proofs.memory.Memory.remove.Goals as goal

pub index_mut-requires : goal.index_mut-requires
index_mut-requires c =
    let last = c.in-Some.last in
    let name = c.in-Some-number.name in
    let places = c.self.inside.places.items in
    let numbered : number_of c.self.inside.starts.items (name_of last).key ≡ Some name = subst (λ s. number_of s (name_of last).key ≡ Some name) c.as_slice.ensures.value (sym c.in-Some-number.ensures) in
    let e : vec_len c.self.inside.places ≡ length places = search rules in
    let within : name < length places = (c.self.invariant.0.placed (name_of last).key name numbered).0 in
    omega (arith, within, e)

pub invariant_of-self : goal.invariant_of-self
invariant_of-self c =
    let last = c.in-Some.last in
    let name = c.in-Some-number.name in
    let starts = c.self.inside.starts.items in
    let places = c.self.inside.places.items in
    let slots = c.self.inside.slots.items in
    let left = names_of c.pop.new.self.items in
    let numbered : number_of starts (name_of last).key ≡ Some name = subst (λ s. number_of s (name_of last).key ≡ Some name) c.as_slice.ensures.value (sym c.in-Some-number.ensures) in
    let names : names_of c.self.inside.cells.items ≡ name_of last ∷ left = ap names_of c.in-Some.ensures.items ∙ names_more c.pop.new.self.items last in
    let kept : IsKept starts places (name_of last ∷ left) slots = subst (λ ns. IsKept starts places ns slots) names c.self.invariant.0 in
    (kept_fewer_placed starts places (name_of last) left slots name numbered kept, omega (arith, c.pop.ensures.capacity, c.self.invariant.1))

pub returns-in-Some-number-clause-cells : goal.returns-in-Some-number-clause-cells
returns-in-Some-number-clause-cells c =
    let cells = c.self.inside.cells.items in
    let e : vec_len c.self.inside.cells ≡ length cells = search rules in
    rw (← c.self.view_is) (ap cells_of c.pop.ensures.rest ∙ cells_take (vec_len c.self.inside.cells - 1) cells ∙ ap (λ n. take (n - 1) (cells_of cells)) (e ∙ sym (length_cells cells)))

pub seek-at-requires : goal.seek-at-requires
seek-at-requires c =
    let cells = c.self.inside.cells.items in
    let e : vec_len c.self.inside.cells ≡ length cells = search rules in
    rw c.as_slice-in-Some.ensures.value (kept_free c.self.inside.starts.items c.self.inside.places.items (names_of cells) c.self.inside.slots.items c.self.invariant.0 (omega (arith, c.self.invariant.0.half, names_length cells, e, c.in-Some.ensures.len)))

pub invariant_of-self-in-Some : goal.invariant_of-self-in-Some
invariant_of-self-in-Some c =
    let last = c.in-Some.last in
    let starts = c.self.inside.starts.items in
    let places = c.self.inside.places.items in
    let slots = c.self.inside.slots.items in
    let left = names_of c.pop.new.self.items in
    let none : number_of starts (name_of last).key ≡ None = subst (λ s. number_of s (name_of last).key ≡ None) c.as_slice.ensures.value (sym c.in_default-number.ensures) in
    let ends : Ends (name_of last).key (length slots) slots c.seek-at.result = subst (λ t. Ends (name_of last).key (length t) t c.seek-at.result) c.as_slice-in-Some.ensures.value c.seek-at.ensures in
    let names : names_of c.self.inside.cells.items ≡ name_of last ∷ left = ap names_of c.in-Some.ensures.items ∙ names_more c.pop.new.self.items last in
    let kept : IsKept starts places (name_of last ∷ left) slots = subst (λ ns. IsKept starts places ns slots) names c.self.invariant.0 in
    rw c.slot_of.ensures
    (kept_fewer starts places (name_of last) left slots c.seek-at.result none kept ends, omega (arith, c.pop.ensures.capacity, c.self.invariant.1, length-set slots c.seek-at.result (slot_of (name_of last).key last.hides)))

pub returns-in_default-number-clause-cells : goal.returns-in_default-number-clause-cells
returns-in_default-number-clause-cells c =
    let cells = c.self.inside.cells.items in
    let e : vec_len c.self.inside.cells ≡ length cells = search rules in
    rw (← c.self.view_is) (ap cells_of c.pop.ensures.rest ∙ cells_take (vec_len c.self.inside.cells - 1) cells ∙ ap (λ n. take (n - 1) (cells_of cells)) (e ∙ sym (length_cells cells)))
