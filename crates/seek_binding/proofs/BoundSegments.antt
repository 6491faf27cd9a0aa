-- Segments that are bound can be followed.
use Rattle.std.proofs.Common.{◌≡◌, ℕ, Bool, true, false, cond, List, [], ◌∷◌, Option, Some, None, unwrap_or, Result, Ok, Err, refl, sym, ap, subst}
use Rattle.std.proofs.lemmas.List.Elements.{All-from_recursion}
use Rattle.std.specs.List.{All, AllByRecursion}
use Rattle.c_core.specs.Operators.{is_comparison}
use Rattle.c_core.specs.Tree.{Program}
use Rattle.c_core.specs.declared.number.BinOp.{BinOp}
use Rattle.c_core.specs.declared.number.BinOp.TheVariants as op
use Rattle.c_core.specs.declared.number.Spot.{Spot}
use Rattle.c_core.specs.declared.place.PlaceKind.TheVariants as place
use Rattle.c_meaning.specs.declared.run.Way.{Way}
use Rattle.c_parser.specs.Witness.{compares}
use Rattle.c_tokens.specs.declared.token.Punct.{Punct}
use Rattle.c_tokens.specs.declared.token.Punct.TheVariants as sign
use Rattle.seek_passes.specs.Passing.{IsPoint, IsSegment}
use Rattle.way_bind.specs.Binding.{AreBound, AreBoundTo, Binds, BindsAssumption, BindsBranching, BindsEntry, BindsKind, BindsPoint, BindsReturn, BindsTested, WherePlaced, branching_by, is_suitable, place_named, segments_of, text_of}
use Rattle.way_bind.specs.Ways.{way_at}
use Rattle.way_bind.specs.declared.fault.Unbound.{Unbound}
use Rattle.way_invariants.proofs.TypedTests.{test_fits}
use Rattle.way_match.specs.Points.{Point, Assume, Target, Enter, Return, Branch, BoundSegment, Aim}
use Rattle.way_match.specs.View.{segments_view}
use Rattle.way_match.specs.declared.point.Bound.{Bound}
use Rattle.way_names.specs.Visible.{names_at}
use Rattle.wv_schema.specs.declared.witness.Constraint.{Constraint}
use Rattle.wv_schema.specs.declared.witness.Location.{Location}
use Rattle.wv_schema.specs.declared.witness.Segment.{Segment}
use Rattle.wv_schema.specs.declared.witness.WayKind.{WayKind}
use Rattle.wv_schema.specs.declared.witness.WayKind.TheVariants.{Assumption, Target as TargetKind, FunctionEnter, FunctionReturn, Branching}
use Rattle.wv_schema.specs.declared.witness.Waypoint.{Waypoint}
use Rattle.wv_schema.specs.declared.witness.Witness.{Witness}

-- ---- a sign that compares

is_this : (o b : BinOp) → is_comparison o ≡ true → Some o ≡ Some b → is_comparison b ≡ true
is_this o b h e = subst (λ a. is_comparison a ≡ true) (ap (λ a. unwrap_or a o) e) h

compared : (s : Punct) (o : BinOp) → compares s ≡ Some o → is_comparison o ≡ true
compared sign.Equal o e = is_this op.Eq o refl e
compared sign.NotEqual o e = is_this op.Ne o refl e
compared sign.Less o e = is_this op.Lt o refl e
compared sign.LessEqual o e = is_this op.Le o refl e
compared sign.Greater o e = is_this op.Gt o refl e
compared sign.GreaterEqual o e = is_this op.Ge o refl e
compared s o e = absurd (cc)

-- ---- one waypoint

-- what was bound, if anything was
abbrev point_of : Point → Result Point Unbound → Point
point_of d (Ok x) = x
point_of d (Err lack) = d

module _ (p : Program) where
  as_bound : (x : Point) (answer : Result Point Unbound) → IsPoint p (point_of x answer) → Ok x ≡ answer → IsPoint p x
  as_bound x answer h e = subst (IsPoint p) (sym (ap (point_of x) e)) h

  assumed : (text : List ℕ) (spot : Spot) (x : Point) → BindsAssumption p text spot (Ok x) → IsPoint p x
  assumed text spot x h =
      let fits = test_fits p (names_at p place.Statement spot) text h.1.0 h.0 h.1.1.spelled h.1.2 in
      let typed : IsPoint p (Assume spot h.0) = (fits.0, fits.1) in
      subst (IsPoint p) (sym h.2) typed

  tested : (text : List ℕ) (close : Spot) (x : Point) → BindsTested p text close (Ok x) → IsPoint p x
  tested text close x h =
      let compares : IsPoint p (Return close (Some h.0)) = compared h.1.1.spelled.s h.0.op h.1.1.spelled.compares in
      subst (IsPoint p) (sym h.2) compares

  returned : (v : Option Constraint) (close : Spot) (x : Point) → BindsReturn p v close (Ok x) → IsPoint p x
  returned None close x h = as_bound x (Ok (Return close None)) tt h
  returned (Some v) close x h = tested v.value close x h

  entered : (close : Spot) (x : Point) → BindsEntry close (Ok x) → IsPoint p x
  entered close x h = as_bound x (Ok (Enter close)) tt h

  branched : (spot : Spot) (way : Option Way) (x : Point) → Ok x ≡ branching_by spot way → IsPoint p x
  branched spot None x h = absurd (cc)
  branched spot (Some way) x h = as_bound x (Ok (Branch spot way)) tt h

  aimed : (aim : Aim) (suits : Bool) (lack : Unbound) (x : Point) → Ok x ≡ cond suits (Ok (Target aim)) (Err lack) → IsPoint p x
  aimed aim true lack x h = as_bound x (Ok (Target aim)) tt h
  aimed aim false lack x h = absurd (cc)

  placed : (spot : Option Spot) (binds : Spot → Result Point Unbound → Type 0) (x : Point) → ((at : Spot) → binds at (Ok x) → IsPoint p x) → WherePlaced spot binds (Ok x) → IsPoint p x
  placed None binds x each h = absurd (cc)
  placed (Some at) binds x each h = each at h

  by_kind : (kind : WayKind) (at : Location) (v : Option Constraint) (x : Point) → BindsKind p kind at v (Ok x) → IsPoint p x
  by_kind Assumption at v x h = placed (place_named p place.Statement at) (BindsAssumption p (text_of v)) x (λ spot. assumed (text_of v) spot x) h
  by_kind TargetKind at v x h = aimed _ (is_suitable p at) _ x h
  by_kind FunctionEnter at v x h = placed (place_named p place.CallEnd at) BindsEntry x (λ spot. entered spot x) h
  by_kind FunctionReturn at v x h = placed (place_named p place.CallEnd at) (BindsReturn p v) x (λ spot. returned v spot x) h
  by_kind Branching at v x h = placed (place_named p place.Branch at) (BindsBranching p (text_of v)) x (λ spot. branched spot (way_at p spot (text_of v)) x) h

  point : (v : Waypoint) (x : Point) → BindsPoint p v (Ok x) → IsPoint p x
  point v x h = by_kind v.kind v.location v.constraint x h

  -- ---- segments

  points : (vs : List Waypoint) (xs : List Point) → AreBound p vs xs → AllByRecursion (IsPoint p) xs
  points [] [] h = tt
  points [] (x ∷ xs) h = absurd h
  points (v ∷ vs) [] h = absurd h
  points (v ∷ vs) (x ∷ xs) h = (point v x h.0, points vs xs h.1)

  segments : (ss : List Segment) (bs : List BoundSegment) → AreBoundTo p ss bs → AllByRecursion (IsSegment p) bs
  segments [] [] h = tt
  segments [] (b ∷ bs) h = absurd h
  segments (s ∷ ss) [] h = absurd h
  segments (s ∷ ss) (b ∷ bs) h = (
    record {
      avoids = All-from_recursion (IsPoint p) b.avoids (points s.avoids b.avoids h.0.0);
      follow = point s.follow b.follow h.0.1;
    },
    segments ss bs h.1,
  )

pub can_be_followed : (p : Program) (w : Witness) (bound : Bound) → Binds p w (Ok bound) → All (IsSegment p) (segments_view bound)
can_be_followed p w bound h = All-from_recursion (IsSegment p) (segments_view bound) (segments p (segments_of w) (segments_view bound) h)
