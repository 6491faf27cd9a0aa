use Rattle.c_core.specs.View.{program_view}
use Rattle.sym_elements.proofs.Stored.{places_reckoned, element_stores}
use Rattle.sym_elements.proofs.writing.store_element.Goals as goal

pub write_element-requires-clause-places_of : goal.write_element-requires-clause-places_of
write_element-requires-clause-places_of c = places_reckoned (program_view c.args.program.now) c.args.object c.requires.places_of c.in_ok-bits.ensures

pub returns : goal.returns
returns c W =
    element_stores (program_view c.args.program.now) c.args.object c.args.places.now.bits c.args.value.now.bits W c.args.from c.args.to c.requires.typed c.requires.places_of.inside c.in_ok-bits.ensures
    c.in_ok-write_element.ensures
