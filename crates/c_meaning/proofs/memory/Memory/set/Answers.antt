use Rattle.std.proofs.Common.{◌≡◌, ◌<◌, length, sym, ◌∙◌, ap, rules, arith, vec_len, slice_set}
use mir.Val.{SFits}
use mir.Syntax.{w128}
use Rattle.std.proofs.lemmas.Int.{to_z-of_z}
use Rattle.c_meaning.specs.Cells.{Key}
use Rattle.c_meaning.specs.Memory.{cell_of, cells_of}
use Rattle.c_meaning.proofs.Innermost.{cell_at, cells_set, put_at, put_none, length_cells}
use Rattle.c_meaning.specs.Slots.{name_of}
use Rattle.c_meaning.proofs.Tables.{names_same}
use Rattle.c_meaning.proofs.memory.Memory.set.Goals as goal

pub index_mut-requires : goal.index_mut-requires
index_mut-requires c =
    let items = c.self.inside.cells.items in
    let h = rw (← c.self.view_is) at c.in-Some.ensures in
    let e : vec_len c.self.inside.cells ≡ length items = search rules in
    omega (arith, h.within, length_cells items)

pub invariant_of-self : goal.invariant_of-self
invariant_of-self c =
    let items = c.self.inside.cells.items in
    let z : SFits w128 c.args.value = search rules in
    let h = rw (← c.self.view_is) at c.in-Some.ensures in
    let below : c.in-Some.at < length items = omega (arith, h.within, length_cells items) in
    rw (to_z-of_z w128 c.args.value z)
    (rw (names_same items c.in-Some.at (record c.index_mut.result.now { value = c.args.value }) c.index_mut.result.now below (ap name_of c.index_mut.ensures.value)) c.self.invariant.0, c.self.invariant.1)

pub returns-in-Some-clause-cells : goal.returns-in-Some-clause-cells
returns-in-Some-clause-cells c =
    let k : Key = record { object = c.args.object; index = c.args.index } in
    let items = c.self.inside.cells.items in
    let z : SFits w128 c.args.value = search rules in
    let h = rw (← c.self.view_is) at c.in-Some.ensures in
    let below : c.in-Some.at < length items = omega (arith, h.within, length_cells items) in
    let there = cell_at items c.in-Some.at c.index_mut.result.now below ∙ ap cell_of (sym c.index_mut.ensures.value) in
    rw (to_z-of_z w128 c.args.value z, ← c.self.view_is)
    (cells_set items c.in-Some.at (record { object = c.index_mut.result.now.object; index = c.index_mut.result.now.index; value = c.args.value; hides = c.index_mut.result.now.hides })
    ∙ ap (λ (d : _). slice_set (cells_of items) c.in-Some.at (record d { value = c.args.value })) (sym there)
    ∙ sym (put_at k c.args.value (cells_of items) c.in-Some.at h.within h.here h.none_behind))

pub returns-in_default-clause-cells : goal.returns-in_default-clause-cells
returns-in_default-clause-cells c = sym (put_none _ c.args.value c.args.self.now.cells c.in_default.ensures)
