use Rattle.c_core.specs.Types.{is_signed}
use Rattle.sym_elements.proofs.Placed.{index_placed}
use Rattle.sym_elements.proofs.placing.place_index.Goals as goal

pub returns : goal.returns
returns c =
    rw (c.from_vec-bits.ensures, c.from_vec-digits.ensures, c.in_ok-copy.ensures.items_if_clones_equal (λ x y e. e))
    (index_placed _ _ _ _ _ _ _ _ (is_signed c.args.ty) c.args.count c.requires.index_in c.not_negative-inside.ensures c.in_ok-there.ensures.grown c.in_ok-there.ensures.value c.in_ok-places.ensures)
