use Rattle.c_core.proofs.Fits.{in_range_wider, fit_wider, IsWithin-promote_of}
use Rattle.c_core.proofs.Promoted.{IsPromoted-promote_of}
use Rattle.c_core.proofs.laws.wider_types_keep.Goals as goal

pub returns : goal.returns
returns c = record { in_range = in_range_wider; kept = fit_wider; promotion = IsWithin-promote_of; promoted = IsPromoted-promote_of }
