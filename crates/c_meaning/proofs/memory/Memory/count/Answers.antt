use Rattle.std.proofs.Common.{◌≡◌, sym, ◌∙◌, length, vec_len, rules}
use Rattle.c_meaning.proofs.Innermost.{length_cells}
use Rattle.c_meaning.proofs.memory.Memory.count.Goals as goal

pub returns : goal.returns
returns c =
    let e : vec_len c.self.inside.cells ≡ length c.self.inside.cells.items = search rules in
    rw (← c.self.view_is) (c.len.ensures ∙ e ∙ sym (length_cells c.self.inside.cells.items))
