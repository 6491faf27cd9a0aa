use Rattle.std.proofs.Common.{◌≡◌, ◌<◌, length, sym, ◌∙◌, ap, rules, vec_len, arith, Some}
use mir.Val.{SFits}
use mir.Syntax.{w128}
use Rattle.std.proofs.lemmas.Int.{to_z-of_z}
use Rattle.c_meaning.specs.Cells.{Key}
use Rattle.c_meaning.specs.Memory.{cell_of, cells_of}
use Rattle.c_meaning.proofs.Innermost.{cell_at, found_at, found_none, length_cells}
use Rattle.c_meaning.proofs.memory.Memory.cell.Goals as goal

pub index-requires : goal.index-requires
index-requires c =
    let items = c.self.inside.cells.items in
    let h = rw (← c.self.view_is) at c.in-Some.ensures in
    let e : vec_len c.self.inside.cells ≡ length items = search rules in
    omega (arith, h.within, length_cells items)

pub returns-in-Some : goal.returns-in-Some
returns-in-Some c =
    let k : Key = record { object = c.args.object; index = c.args.index } in
    let items = c.self.inside.cells.items in
    let z : SFits w128 c.index.result.now.value = search rules in
    let h = rw (← c.self.view_is) at c.in-Some.ensures in
    let below : c.in-Some.at < length items = omega (arith, h.within, length_cells items) in
    let there = cell_at items c.in-Some.at c.index.result.now below ∙ ap cell_of (sym c.index.ensures) in
    rw (to_z-of_z w128 c.index.result.now.value z, ← c.self.view_is)
    (sym (found_at k (cells_of items) c.in-Some.at h.within h.here h.none_behind ∙ ap (λ (d : _). Some d.value) there))

pub returns-in-None : goal.returns-in-None
returns-in-None c = sym (found_none _ c.args.self.now.cells c.in-None.ensures)
