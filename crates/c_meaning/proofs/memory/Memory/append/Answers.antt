use Rattle.std.proofs.Common.{◌≡◌, ◌∷◌, ◌<◌, length, length-set, vec_len, Some, None, sym, ap, subst, ◌∙◌, rules, arith}
use mir.Val.{SFits}
use mir.Syntax.{w128}
use Rattle.std.proofs.lemmas.Int.{to_z-of_z}
use Rattle.std.proofs.lemmas.List.{get_or_read}
use Rattle.std.specs.Prelude.{slice_index_or}
use Rattle.c_meaning.specs.Cells.{Key}
use Rattle.c_meaning.specs.Layout.{number_of}
use Rattle.c_meaning.specs.Memory.{cells_of}
use Rattle.c_meaning.specs.Slots.{names_of, name_of, place_in, slot_of, slot, Ends}
use Rattle.c_meaning.specs.declared.memory.Live.{Live}
use Rattle.c_meaning.proofs.Innermost.{cells_append, length_cells}
use Rattle.c_meaning.proofs.Tables.{kept_free, kept_more, kept_more_placed, names_length, names_more}
use Rattle.c_meaning.proofs.memory.Memory.append.Goals as goal

pub index-requires : goal.index-requires
index-requires c =
    let k : Key = record { object = c.args.object; index = c.args.index } in
    let name = c.in-Some.name in
    let places = c.self.inside.places.items in
    let numbered : number_of c.self.inside.starts.items k ≡ Some name = subst (λ s. number_of s k ≡ Some name) c.as_slice.ensures.value (sym c.in-Some.ensures) in
    let e : vec_len c.self.inside.places ≡ length places = search rules in
    let within : name < length places = (c.self.invariant.0.placed k name numbered).0 in
    omega (arith, within, e)

pub returns-in_err-push-clause-cells : goal.returns-in_err-push-clause-cells
returns-in_err-push-clause-cells c =
    let e : vec_len c.self.inside.cells ≡ length c.self.inside.cells.items = search rules in
    let room = rw (← c.self.view_is) at c.requires in
    absurd (omega (arith, room, e, length_cells c.self.inside.cells.items, c.self.invariant.1, c.in_err-push.ensures.full))

pub returns-in_err-push-clause-ok : goal.returns-in_err-push-clause-ok
returns-in_err-push-clause-ok c =
    let e : vec_len c.self.inside.cells ≡ length c.self.inside.cells.items = search rules in
    let room = rw (← c.self.view_is) at c.requires in
    absurd (omega (arith, room, e, length_cells c.self.inside.cells.items, c.self.invariant.1, c.in_err-push.ensures.full))

pub index_mut-requires : goal.index_mut-requires
index_mut-requires c =
    let k : Key = record { object = c.args.object; index = c.args.index } in
    let name = c.in-Some.name in
    let places = c.self.inside.places.items in
    let numbered : number_of c.self.inside.starts.items k ≡ Some name = subst (λ s. number_of s k ≡ Some name) c.as_slice.ensures.value (sym c.in-Some.ensures) in
    let e : vec_len c.self.inside.places ≡ length places = search rules in
    let within : name < length places = (c.self.invariant.0.placed k name numbered).0 in
    omega (arith, within, e)

pub invariant_of-self-in-Some : goal.invariant_of-self-in-Some
invariant_of-self-in-Some c =
    let k : Key = record { object = c.args.object; index = c.args.index } in
    let name = c.in-Some.name in
    let starts = c.self.inside.starts.items in
    let places = c.self.inside.places.items in
    let cells = c.self.inside.cells.items in
    let slots = c.self.inside.slots.items in
    let z : SFits w128 c.args.value = search rules in
    let l : Live = record { object = c.args.object; index = c.args.index; value = c.args.value; hides = c.index.result.now } in
    let e : vec_len c.self.inside.cells ≡ length cells = search rules in
    let room = rw (← c.self.view_is) at c.requires in
    let numbered : number_of starts k ≡ Some name = subst (λ s. number_of s k ≡ Some name) c.as_slice.ensures.value (sym c.in-Some.ensures) in
    let there : c.index.result.now ≡ slice_index_or places name None = get_or_read places name c.index.result.now (c.self.invariant.0.placed k name numbered).0 c.index.ensures None in
    let h = simp to_z-of_z at c.in_ok-push.ensures.items in
    let names : names_of c.push.new.self.items ≡ name_of l ∷ names_of cells = ap names_of h ∙ names_more cells l in
    rw names (
      kept_more_placed starts places (names_of cells) slots k name c.len-place.result c.index.result.now numbered c.self.invariant.0 (omega (arith, room, length_cells cells, names_length cells)) there
          (c.len-place.ensures ∙ e ∙ sym (names_length cells)),
      omega (arith, c.in_ok-push.ensures.capacity, c.self.invariant.1),
    )

pub returns-in-Some-clause-cells : goal.returns-in-Some-clause-cells
returns-in-Some-clause-cells c =
    let z : SFits w128 c.args.value = search rules in
    let h = simp to_z-of_z at c.in_ok-push.ensures.items in
    rw (← c.self.view_is) (ap cells_of h ∙ cells_append c.self.inside.cells.items (record { object = c.args.object; index = c.args.index; value = c.args.value; hides = c.index.result.now }))

pub seek-at-requires : goal.seek-at-requires
seek-at-requires c =
    let cells = c.self.inside.cells.items in
    let room = rw (← c.self.view_is) at c.requires in
    rw c.as_slice-2.ensures.value (kept_free c.self.inside.starts.items c.self.inside.places.items (names_of cells) c.self.inside.slots.items c.self.invariant.0 (omega (arith, room)))

pub returns-in_err-push-2-clause-cells : goal.returns-in_err-push-2-clause-cells
returns-in_err-push-2-clause-cells c =
    let e : vec_len c.self.inside.cells ≡ length c.self.inside.cells.items = search rules in
    let room = rw (← c.self.view_is) at c.requires in
    absurd (omega (arith, room, e, length_cells c.self.inside.cells.items, c.self.invariant.1, c.in_err-push-2.ensures.full))

pub returns-in_err-push-2-clause-ok : goal.returns-in_err-push-2-clause-ok
returns-in_err-push-2-clause-ok c =
    let e : vec_len c.self.inside.cells ≡ length c.self.inside.cells.items = search rules in
    let room = rw (← c.self.view_is) at c.requires in
    absurd (omega (arith, room, e, length_cells c.self.inside.cells.items, c.self.invariant.1, c.in_err-push-2.ensures.full))

pub invariant_of-self-2 : goal.invariant_of-self-2
invariant_of-self-2 c =
    let k : Key = record { object = c.args.object; index = c.args.index } in
    let starts = c.self.inside.starts.items in
    let places = c.self.inside.places.items in
    let cells = c.self.inside.cells.items in
    let slots = c.self.inside.slots.items in
    let z : SFits w128 c.args.value = search rules in
    let l : Live = record { object = c.args.object; index = c.args.index; value = c.args.value; hides = c.place_in.result } in
    let e : vec_len c.self.inside.cells ≡ length cells = search rules in
    let room = rw (← c.self.view_is) at c.requires in
    let none : number_of starts k ≡ None = subst (λ s. number_of s k ≡ None) c.as_slice.ensures.value (sym c.in_default.ensures) in
    let ends : Ends k (length slots) slots c.seek-at.result = subst (λ t. Ends k (length t) t c.seek-at.result) c.as_slice-2.ensures.value c.seek-at.ensures in
    let there : c.index-2.result.now ≡ slot slots c.seek-at.result = get_or_read slots c.seek-at.result c.index-2.result.now ends.within c.index-2.ensures None in
    let h = simp to_z-of_z at c.in_ok-push-2.ensures.items in
    let names : names_of c.push-2.new.self.items ≡ name_of l ∷ names_of cells = ap names_of h ∙ names_more cells l in
    rw (c.slot_of.ensures, names) (
      kept_more starts places (names_of cells) slots k c.seek-at.result c.len-place.result c.place_in.result none c.self.invariant.0 (omega (arith, room, length_cells cells, names_length cells)) ends
          (c.place_in.ensures ∙ ap place_in there) (c.len-place.ensures ∙ e ∙ sym (names_length cells)),
      omega (arith, c.in_ok-push-2.ensures.capacity, c.self.invariant.1, length-set slots c.seek-at.result (slot_of k (Some c.len-place.result))),
    )

pub returns-clause-cells : goal.returns-clause-cells
returns-clause-cells c =
    let z : SFits w128 c.args.value = search rules in
    let h = simp to_z-of_z at c.in_ok-push-2.ensures.items in
    rw (← c.self.view_is) (ap cells_of h ∙ cells_append c.self.inside.cells.items (record { object = c.args.object; index = c.args.index; value = c.args.value; hides = c.place_in.result }))
