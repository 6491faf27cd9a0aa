use Rattle.std.proofs.Common.{◌∙◌, ◌++◌, ap, refl}
use Rattle.c_core.specs.Types.{is_signed}
use Rattle.sym_elements.proofs.Placed.{row_placed}
use Rattle.sym_elements.proofs.placing.place_among.Goals as goal

pub returns : goal.returns
returns c =
    rw (c.from_vec-bits.ensures)
    (row_placed _ _ _ _ _ _ _ _ c.from_vec-digits.result c.in_ok-first.first c.in_ok-last.last (is_signed c.args.row_type) (is_signed c.args.column_type) c.args.rows c.args.columns _ c.requires.here_in c.requires.row_in c.requires.column_in c.requires.some
    c.in_ok-first.ensures c.in_ok-last.ensures (rw (c.as_slice.ensures, c.as_slice-2.ensures) at c.in_ok-places.ensures)
    (c.from_vec-digits.ensures ∙ c.in_ok-extend_from_slice.ensures.items ∙ ap (λ l. l ++ c.args.row.now) (c.in_ok-both.ensures.items_if_clones_equal (λ x y e. e))) refl)
