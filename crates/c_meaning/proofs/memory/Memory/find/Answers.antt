use Rattle.std.proofs.Common.{◌≡◌, ◌<◌, length, vec_len, Some, None, sym, ap, subst, ◌∙◌, rules, arith}
use Rattle.std.proofs.lemmas.List.{get_or_read}
use Rattle.c_meaning.specs.Cells.{Key}
use Rattle.c_meaning.specs.Layout.{number_of}
use Rattle.c_meaning.specs.Slots.{names_of, place_of, place_in, slot, Ends}
use Rattle.c_meaning.proofs.Tables.{kept_free, kept_found, names_length, located}
use Rattle.c_meaning.proofs.memory.Memory.find.Goals as goal

pub index-requires : goal.index-requires
index-requires c =
    let k : Key = record { object = c.args.object; index = c.args.index } in
    let numbered : number_of c.self.inside.starts.items k ≡ Some c.in-Some.name = subst (λ s. number_of s k ≡ Some c.in-Some.name) c.as_slice.ensures.value (sym c.in-Some.ensures) in
    let e : vec_len c.self.inside.places ≡ length c.self.inside.places.items = search rules in
    let within : c.in-Some.name < length c.self.inside.places.items = (c.self.invariant.0.placed k c.in-Some.name numbered).0 in
    omega (arith, within, e)

pub returns-in-Some : goal.returns-in-Some
returns-in-Some c =
    let k : Key = record { object = c.args.object; index = c.args.index } in
    let numbered : number_of c.self.inside.starts.items k ≡ Some c.in-Some.name = subst (λ s. number_of s k ≡ Some c.in-Some.name) c.as_slice.ensures.value (sym c.in-Some.ensures) in
    let places = c.self.inside.places.items in
    let placed = c.self.invariant.0.placed k c.in-Some.name numbered in
    let there : c.index.result.now ≡ place_of k (names_of c.self.inside.cells.items) = get_or_read places c.in-Some.name c.index.result.now placed.0 c.index.ensures None ∙ placed.1 in
    rw (there, ← c.self.view_is) (located k c.self.inside.cells.items)

pub seek-at-requires : goal.seek-at-requires
seek-at-requires c =
    let cells = c.self.inside.cells.items in
    let e : vec_len c.self.inside.cells ≡ length cells = search rules in
    rw c.as_slice-2.ensures.value (kept_free c.self.inside.starts.items c.self.inside.places.items (names_of cells) c.self.inside.slots.items c.self.invariant.0 (omega (arith, c.self.invariant.0.half, names_length cells, e, c.len.ensures)))

pub returns : goal.returns
returns c =
    let k : Key = record { object = c.args.object; index = c.args.index } in
    let starts = c.self.inside.starts.items in
    let places = c.self.inside.places.items in
    let cells = c.self.inside.cells.items in
    let slots = c.self.inside.slots.items in
    let none : number_of starts k ≡ None = subst (λ s. number_of s k ≡ None) c.as_slice.ensures.value (sym c.in_default.ensures) in
    let ends : Ends k (length slots) slots c.seek-at.result = subst (λ t. Ends k (length t) t c.seek-at.result) c.as_slice-2.ensures.value c.seek-at.ensures in
    let there : c.index-2.result.now ≡ slot slots c.seek-at.result = get_or_read slots c.seek-at.result c.index-2.result.now ends.within c.index-2.ensures None in
    let place : c.place_in.result ≡ place_of k (names_of cells) = c.place_in.ensures ∙ ap place_in there ∙ kept_found starts places (names_of cells) slots k c.seek-at.result none c.self.invariant.0 ends in
    rw (place, ← c.self.view_is) (located k cells)
