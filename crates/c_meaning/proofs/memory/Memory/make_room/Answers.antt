use Rattle.std.proofs.Common.{◌≡◌, length, vec_len, sym, ap, ◌∙◌, rules, arith}
use Rattle.std.proofs.lemmas.Result.{on_ok_weaker}
use Rattle.c_meaning.specs.Memory.{Held}
use Rattle.c_meaning.proofs.Innermost.{length_cells}
use Rattle.c_meaning.proofs.Tables.{names_length}
use Rattle.c_meaning.proofs.memory.Memory.make_room.Goals as goal

pub returns-then-len-size-clause-room : goal.returns-then-len-size-clause-room
returns-then-len-size-clause-room c =
    let cells = c.self.inside.cells.items in
    let e : vec_len c.self.inside.cells ≡ length cells = search rules in
    let f : vec_len c.self.inside.slots ≡ length c.self.inside.slots.items = search rules in
    rw (← c.self.view_is) (omega (arith, e, f, length_cells cells, c.len-size.ensures, c.len.ensures, c.if-len-size.true))

pub returns-clause-room : goal.returns-clause-room
returns-clause-room c =
    let cells = c.self.inside.cells.items in
    let e : vec_len c.self.inside.cells ≡ length cells = search rules in
    let f : vec_len c.self.inside.slots ≡ length c.self.inside.slots.items = search rules in
    let n : length c.grow.new.self.cells ≡ length cells = ap length (c.grow.ensures.cells ∙ ap (λ (m : Held). m.cells) (sym c.self.view_is)) ∙ length_cells cells in
    on_ok_weaker c.grow.result (λ h. omega (arith, h, n, e, f, c.self.invariant.0.half, names_length cells)) c.grow.ensures.room

pub returns-clause-within : goal.returns-clause-within
returns-clause-within c =
    let cells = c.self.inside.cells.items in
    let e : vec_len c.self.inside.cells ≡ length cells = search rules in
    let f : vec_len c.self.inside.slots ≡ length c.self.inside.slots.items = search rules in
    rw (← c.self.view_is) (λ h. absurd (omega (arith, h, e, f, length_cells cells, c.len-size.ensures, c.len.ensures, c.if-len-size.false)))
