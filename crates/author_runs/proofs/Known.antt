-- In a checked program the call that ends at a place is known by it, and so is the input call that begins at one.
use Rattle.std.proofs.Common.{◌≡◌, Bool, true, false, cond, Option, Some, None, refl, ap, ◌∙◌}
use Rattle.std.proofs.lemmas.Bool.{false≢true, or_left, or_right}
use Rattle.std.specs.List.{Contains}
use Rattle.c_core.specs.Tree.{Exp, Expr, Call, Exps, Program}
use Rattle.c_core.specs.Parts.{same_spot, exps_of_program}
use Rattle.c_core.specs.Places.{call_at, ends_at, input_at, input_if}
use Rattle.c_core.specs.Program.{places_rise}
use Rattle.c_core.specs.declared.number.IntType.{IntType}
use Rattle.c_core.specs.declared.number.Spot.{Spot}
use Rattle.c_core.specs.declared.tree.Callee.{Callee}
use Rattle.c_core.specs.declared.tree.Callee.TheVariants.{Defined, Input as InputFunction, ReachError, Abort, Exit}
use Rattle.c_core.proofs.TextOrderLaws.{same_spot-self}
use Rattle.author_runs.specs.Returning.{end_from, end_of_input, end_of_node}
use Rattle.author_runs.proofs.Each.{Each, each_contained, find_first, only}
use Rattle.author_runs.proofs.OneCall.{one_call, touches}
use Rattle.author_runs.proofs.Traversed.{IsKnown}

ends_touch : (close : Spot) (e : Exp) → ends_at close e ≡ true → touches close e ≡ true
ends_touch close (Expr spot ty (Call callee es end)) h = or_right (same_spot spot close) (same_spot end close) h
ends_touch close (Expr spot ty _) h = absurd (false≢true h)

if_some : (t : Bool) (e f : Exp) → cond t (Some e) None ≡ Some f → t ≡ true
if_some true e f h = refl
if_some false e f h = absurd (cc)

no_end : (t : Bool) (close : Spot) → cond t None None ≡ Some close → ⊥
no_end true close h = absurd (cc)
no_end false close h = absurd (cc)

start_by : (t : Bool) (o : Option Spot) (close : Spot) → cond t o None ≡ Some close → t ≡ true
start_by true o close h = refl
start_by false o close h = absurd (cc)

starts_touch : (start : Spot) (e : Exp) (close : Spot) → end_from start e ≡ Some close → touches start e ≡ true
starts_touch start (Expr spot ty (Call callee es end)) close h =
    or_left (same_spot spot start) (same_spot end start)
    (start_by (same_spot spot start) (end_of_node (Call callee es end)) close h)
starts_touch start (Expr spot ty _) close h = absurd (no_end (same_spot spot start) close h)

module _ (p : Program) where
  -- an input call is known by its end and its start; no input call ends where the call of a defined function does
  abbrev pub Ends : Callee → Spot → Spot → Type 0
  Ends (InputFunction ty) spot close =
      (input_at p close ≡ Some (record { spot = spot; ty = ty })) × (end_of_input p spot ≡ Some close)
  Ends (Defined f) spot close = input_at p close ≡ None
  Ends ReachError spot close = Unit {0}
  Ends Abort spot close = Unit {0}
  Ends Exit spot close = Unit {0}

  module _ (rise : places_rise p ≡ true) where
    call_there : (spot : Spot) (ty : Option IntType) (callee : Callee) (es : Exps) (close : Spot)
        → Contains (exps_of_program p) (Expr spot ty (Call callee es close))
        → call_at p close ≡ Some (Expr spot ty (Call callee es close))
    call_there spot ty callee es close c =
        find_first (ends_at close) (exps_of_program p)
        ∙ only (touches close) (λ e. cond (ends_at close e) (Some e) None)
        (λ e f h. ends_touch close e (if_some (ends_at close e) e f h)) (exps_of_program p)
        (Expr spot ty (Call callee es close)) (Expr spot ty (Call callee es close)) (one_call p rise close) c
        (rw (same_spot-self close) refl)

    start_there : (spot : Spot) (t : Option IntType) (ty : IntType) (es : Exps) (close : Spot)
        → Contains (exps_of_program p) (Expr spot t (Call (InputFunction ty) es close))
        → end_of_input p spot ≡ Some close
    start_there spot t ty es close c =
        only (touches spot) (end_from spot) (starts_touch spot) (exps_of_program p)
        (Expr spot t (Call (InputFunction ty) es close)) close
        (one_call p rise spot) c (rw (same_spot-self spot) refl)

    known : (e : Exp) → Contains (exps_of_program p) e → IsKnown Ends e
    known (Expr spot t (Call (InputFunction ty) es close)) c =
        (ap input_if (call_there spot t (InputFunction ty) es close c), start_there spot t ty es close c)
    known (Expr spot t (Call (Defined f) es close)) c = ap input_if (call_there spot t (Defined f) es close c)
    known (Expr spot t (Call ReachError es close)) c = tt
    known (Expr spot t (Call Abort es close)) c = tt
    known (Expr spot t (Call Exit es close)) c = tt
    known (Expr spot t _) c = tt

    pub all_known : Each (IsKnown Ends) (exps_of_program p)
    all_known = each_contained (IsKnown Ends) (exps_of_program p) known
