use Rattle.witval.proofs.authoring.author_segments.Goals as goal

pub write_witness-requires : goal.write_witness-requires
write_witness-requires c = (c.in_ok-witness.ensures.text c.requires).fits
