-- The invariants of a whole witness.
use Rattle.std.proofs.Common.{◌≡◌, sym, ap, ◌∙◌, subst, ◌+◌, IsErrAnd, List, [], ◌++◌, length, Result, Ok, Err}
use Rattle.c_core.specs.View.{program_view}
use Rattle.c_core.specs.Tree.{Program}
use Rattle.c_core.specs.declared.program.Program as stored
use Rattle.c_meaning.specs.declared.run.PlacedInvariant.{PlacedInvariant}
use Rattle.c_meaning.specs.Placing.{placed_view}
use Rattle.wv_schema.specs.declared.witness.Invariant.{Invariant}
use Rattle.wv_schema.specs.declared.witness.Entry.{Entry}
use Rattle.wv_schema.specs.declared.witness.Witness.{Witness}
use Rattle.way_bind.specs.declared.fault.BindFault.{BindFault}
use Rattle.way_bind.specs.InOrder.{AllBound, TellsLeast}
use Rattle.way_invariants.specs.Invariants.{BindsInvariant, BindsInvariants, invariants_among, invariants_of}
use Rattle.way_invariants.specs.Steps.{BindsNext}

from_none : (p : Program) (vs : List Invariant) (old new : List PlacedInvariant) → old ≡ [] → BindsNext p vs old new (Ok tt) → AllBound (BindsInvariant p) vs (placed_view new)
from_none p vs old new none h =
    subst (λ l. AllBound (BindsInvariant p) vs l) (sym (h.1 ∙ ap (λ l. placed_view l ++ h.0) none)) h.2

-- over the program of an index
pub whole_bound : (q p : stored.Program) (w : Witness) (es : List Entry) (old new : List PlacedInvariant) → q ≡ p → old ≡ [] → es ≡ w.entries → BindsNext (program_view q) (invariants_among es) old new (Ok tt) → AllBound (BindsInvariant (program_view p)) (invariants_of w) (placed_view new)
whole_bound q p w es old new program none entries h =
    subst (λ (x : stored.Program). AllBound (BindsInvariant (program_view x)) (invariants_of w) (placed_view new)) program
    (subst (λ l. AllBound (BindsInvariant (program_view q)) (invariants_among l) (placed_view new)) entries
    (from_none (program_view q) (invariants_among es) old new none h))

pub whole_told : (q p : stored.Program) (w : Witness) (es : List Entry) (old : List PlacedInvariant) (f : BindFault) (r : Result (List PlacedInvariant) BindFault) → q ≡ p → old ≡ [] → es ≡ w.entries → IsErrAnd r (λ g. g ≡ f) → TellsLeast (BindsInvariant (program_view q)) (length old + 1) (invariants_among es) f → BindsInvariants (program_view p) w r
whole_told q p w es old f (Ok xs) program none entries from h = elim from [ ]
whole_told q p w es old f (Err g) program none entries from h =
    subst (λ g. TellsLeast (BindsInvariant (program_view p)) 1 (invariants_of w) g) (sym from)
    (subst (λ (x : stored.Program). TellsLeast (BindsInvariant (program_view x)) 1 (invariants_of w) f) program
    (subst (λ l. TellsLeast (BindsInvariant (program_view q)) 1 (invariants_among l) f) entries
    (subst (λ l. TellsLeast (BindsInvariant (program_view q)) (length l + 1) (invariants_among es) f) none h)))
