-- The bits of one waypoint, by the event.
use Rattle.std.proofs.Common.{◌≡◌, sym, subst}
use Rattle.c_core.specs.Tree.{Program}
use Rattle.circuits.specs.declared.net.Bit.{Bit}
use Rattle.circuits.specs.Net.{Means}
use Rattle.sym_state.specs.declared.state.Sym.{Sym}
use Rattle.sym_state.specs.Standing.{stand, IsState}
use Rattle.way_match.specs.Points.{Point}
use Rattle.way_match.specs.Passing.{passes}
use Rattle.seek_passes.specs.declared.event.SymEvent.{SymEvent}
use Rattle.seek_passes.specs.Charges.{point_weight}
use Rattle.seek_passes.specs.Event.{event_in}
use Rattle.seek_passes.specs.Passing.{CanTell, PassesPoint}
use Rattle.seek_passes.proofs.Kept.{same_decided}

module _ (p : Program) (x : Point) {e f : SymEvent} (q : e ≡ f) where
  -- the same event by another name
  pub can_as : {s : Sym} → CanTell p e s (point_weight p e x) → CanTell p f s (point_weight p f x)
  can_as {s} h = subst (λ u. CanTell p u s (point_weight p u x)) q h

  pub passes_as : {a b : Sym} {r : Bit} → PassesPoint p f x a b r → PassesPoint p e x a b r
  passes_as {a} {b} {r} h = subst (λ u. PassesPoint p u x a b r) (sym q) h

-- a bit that was there
pub passes_there : (p : Program) (e : SymEvent) (x : Point) (s : Sym) (r : Bit) → IsState p s → Means s.net r (λ v. passes p x (event_in p s.net e v) (stand p v s).cells) → PassesPoint p e x s s r
passes_there p e x s r h m = same_decided (point_weight p e x) p s r (λ v. passes p x (event_in p s.net e v) (stand p v s).cells) h m
