-- What the checker of the order keeps, and what its answers tell.
use Rattle.std.specs.Prelude.{◌≡◌, ℕ, Bool, true, false, List, Some}
use Rattle.std.specs.List.{list_any}
use Rattle.std.specs.Ordering.{nat_cmp}
use Rattle.std.specs.BTreeMap.{get}
use Rattle.std.specs.BTreeSet.{contains}
use Rattle.std.specs.declared.vec.Vec.{Vec}
use Rattle.std.specs.declared.alloc.Global.{Global}
use Rattle.check_sequencing.specs.declared.effect.Effect.{Effect}
use Rattle.check_sequencing.specs.declared.memo.Memo.{Memo}
use Rattle.c_core.specs.declared.tree.Object.{Object}
use Rattle.check_sequencing.specs.declared.clash.Source.{Source}
use Rattle.check_sequencing.specs.declared.seen.Seen.{Seen}
use Rattle.check_sequencing.specs.Effects.{AreMarks, changes, is_call, touches, wanted}

-- true exactly where it is so
abbrev pub Tells : Bool → Type 0 → Type 0
Tells b P = (b ≡ true → P) × (P → b ≡ true)

-- all marks that are kept are right
abbrev pub IsRight : Memo → Type 0
IsRight m = (o : ℕ) (marks : Vec Bool Global) → get nat_cmp m.made o ≡ Some marks → AreMarks m.bodies.now (wanted m.only_changes o) marks.items

-- the sets are those of these effects
pub record IsSeen (seen : Seen) (es : List Effect) : Type 0 where
  pub changed : (o : ℕ) → contains nat_cmp seen.changed o ≡ list_any (changes o) es
  pub touched : (o : ℕ) → contains nat_cmp seen.touched o ≡ list_any (touches o) es
  pub calling : seen.is_calling ≡ list_any is_call es

abbrev pub bodies_of : Source → List (List Effect)
bodies_of source = source.changed.bodies.now

abbrev pub objects_of : Source → List Object
objects_of source = source.declared.objects.now

-- this many functions have a body
abbrev pub count_of : Source → ℕ
count_of source = source.declared.bodies

-- what is kept is right
pub record IsKnown (source : Source) : Type 0 where
  pub same_bodies : source.touched.bodies.now ≡ source.changed.bodies.now
  pub changed_alone : source.changed.only_changes ≡ true
  pub reads_too : source.touched.only_changes ≡ false
  pub changed : IsRight source.changed
  pub touched : IsRight source.touched

-- more may be kept of the same source
pub record IsSameSource (old new : Source) : Type 0 where
  pub bodies : bodies_of new ≡ bodies_of old
  pub objects : objects_of new ≡ objects_of old
  pub count : count_of new ≡ count_of old
  pub known : IsKnown new
