use Rattle.std.proofs.Common.{◌∙◌, sym, ap, length}
use Rattle.circuits.proofs.Feeding.{typed_later}
use Rattle.circuits.proofs.Noted.{operands_of, product_noted}
use Rattle.circuits.proofs.products.multiply.Goals as goal

pub note_product-requires-clause-operands : goal.note_product-requires-clause-operands
note_product-requires-clause-operands c =
    let g = c.in_ok-out.ensures.grown in
    operands_of (typed_later g c.requires.a_in) (typed_later g c.requires.b_in)

pub note_product-requires-clause-out_in : goal.note_product-requires-clause-out_in
note_product-requires-clause-out_in c = rw c.as_slice.ensures c.in_ok-out.ensures.value.value.inside

pub note_product-requires-clause-wide : goal.note_product-requires-clause-wide
note_product-requires-clause-wide c = ap length c.as_slice.ensures ∙ c.in_ok-out.ensures.value.value.wide ∙ sym c.requires.a_in.wide

pub note_product-requires-clause-is : goal.note_product-requires-clause-is
note_product-requires-clause-is c = product_noted _ _ c.requires.promoted c.in_ok-out.ensures.grown c.requires.a_in c.requires.b_in c.in_ok-out.ensures.value c.as_slice.ensures

pub returns-clause-grown : goal.returns-clause-grown
returns-clause-grown c = rw c.note_product.ensures c.in_ok-out.ensures.grown

pub returns-clause-value : goal.returns-clause-value
returns-clause-value c = rw c.note_product.ensures c.in_ok-out.ensures.value
