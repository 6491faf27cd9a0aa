-- What each mode does of an event, as the one mode of a walk.
use Rattle.std.proofs.Common.{◌≡◌, ℕ, suc, ◌+◌, ◌≤◌, ◌<◌, ◌^◌, Bool, true, false, not, ℤ, List, length, map, refl, sym, ◌∙◌, ap, subst, arith, Option, Some, None}
use Rattle.std.specs.List.{All, list_any}
use Rattle.c_core.specs.Tree.{Program}
use Rattle.c_core.specs.Typing.{labels_in}
use Rattle.c_core.specs.View.{switch_view}
use Rattle.c_core.specs.declared.number.IntType.{IntType}
use Rattle.c_core.specs.declared.number.Spot.{Spot}
use Rattle.c_core.specs.declared.tree.Arm.{Arm}
use Rattle.c_core.specs.declared.tree.Label.{Label as ArmLabel}
use Rattle.c_meaning.specs.declared.run.Event.{Event}
use Rattle.c_meaning.specs.declared.run.Event.TheVariants as event
use Rattle.c_meaning.specs.declared.run.DutyKind.TheVariants.{Location}
use Rattle.c_meaning.specs.Run.{is_case, way_for}
use Rattle.circuits.specs.declared.net.Bit.{Bit}
use Rattle.circuits.specs.Net.{holds, Means}
use Rattle.circuits.specs.Numbers.{typed, AreIn, AreTyped}
use Rattle.seek_mode.specs.SeekingMode.{seeking_mode}
use Rattle.seek_passes.specs.declared.event.SymEvent.{SymEvent}
use Rattle.seek_passes.specs.declared.event.SymEvent.TheVariants.{At, Enter, Return, Branch, Select}
use Rattle.seek_passes.specs.Charges.{told_weight}
use Rattle.seek_passes.specs.Event.{given_if, AreCasesOf, IsSelection}
use Rattle.seek_passes.specs.Passing.{IsSegment, CanTell}
use Rattle.seek_passes.specs.Telling.{FollowsSegments, Tells, Counts}
use Rattle.seek_passes.proofs.Paying.{placed_paid, free_paid}
use Rattle.seek_weight.specs.Tolls.{AStatement, ACall}
use Rattle.sym_choices.proofs.ArmLaws.{any_of_all}
use Rattle.sym_flow.specs.Calling.{value_given}
use Rattle.sym_invariants.specs.Obliged as obliged
use Rattle.sym_invariants.specs.declared.obliged.Obliging.{Obliging}
use Rattle.sym_meaning.specs.Mode.{Mode}
use Rattle.sym_state.specs.declared.state.Sym.{Sym}
use Rattle.sym_state.specs.declared.state.Around.{Around}
use Rattle.sym_state.specs.Standing.{Stand, IsState, Turned}
use Rattle.sym_state.specs.Telling.{telling}
use Rattle.sym_choices.proofs.Held.{all_held}
use Rattle.sym_state.proofs.Nets.{typed_added, are_typed_added, all_added}
use Rattle.sym_state.proofs.Telling.{told_as, told_follows, untold_turned}
use Rattle.sym_state.proofs.Turning.{turned_then}
use Rattle.sym_values.specs.Valuing.{IsDutyAt, CountsWhere, Decided}
use Rattle.way_match.specs.Points.{BoundSegment}
use Rattle.sym_walk.specs.declared.walk.Judging.TheVariants.{Obliges, Seeks}
use Rattle.sym_walk.specs.declared.walk.Seeking.{Seeking}
use Rattle.sym_walk.specs.declared.walk.Walk.{Walk}
use Rattle.sym_walk.specs.Walking.{program_of, obliged_by, segments_of, mode_by, mode_of, IsJudging, IsWalk}
use Rattle.sym_walk.specs.Hooks.{has_given, Begins, event_cost, IsReady, IsTold, ComesBack}

-- the same, with more and-nodes allowed
pub turned_within : {p : Program} {i j : ℕ} {a b : Sym} {f : (ℕ → Bool) → Stand → Stand} (k : ℕ) → Turned p i j a b f → i ≤ k → Turned p k j a b f
turned_within k x h = record {
  fits = x.fits;
  added = record { more = x.added.more; is = x.added.is; gates = omega (arith, x.added.gates, h); feeds = x.added.feeds; few = omega (arith, x.added.few, h) };
  level = x.level;
  result = x.result;
  is = x.is;
}

-- ---- obligations follow no event
module _ (w : Walk) (mode : Obliging) (q : w.mode ≡ Obliges mode) where
  -- an event leaves each state as it is
  pub untold : (k : ℕ) (a : Sym) (e : (ℕ → Bool) → Event) → IsState (program_of w) a → Turned (program_of w) k 0 a a (λ v. telling (mode_of w) (e v))
  untold k a e h =
      subst (λ m. Turned (program_of w) k 0 a a (λ v. telling (mode_by w m) (e v))) (sym q)
      (turned_within k (untold_turned (program_of w) (obliged.mode_of (obliged_by w mode)) (λ e cells completed. refl) a e h) (omega arith))

  pub obliged_walk : IsWalk w → obliged.IsObliged (obliged_by w mode)
  obliged_walk h = subst (IsJudging w) q h

  -- the invariants of a statement are tested
  pub obliged_begins : (spot : Spot) (a b : Sym) → obliged.Tests (obliged_by w mode) 0 (obliged.invariants_of (obliged_by w mode)) false spot Location a b → Begins (program_of w) (mode_of w) spot a b
  obliged_begins spot a b x = subst (λ m. Begins (program_of w) (mode_by w m) spot a b) (sym q) x

  pub obliged_room : (spot : Spot) (a : Sym) → length a.net + (mode_of w).scale.statement spot < 2 ^ 27 → obliged.HasRoom (obliged_by w mode) (obliged.invariants_of (obliged_by w mode)) false spot a
  obliged_room spot a h = subst (λ m. length a.net + (mode_by w m).scale.statement spot < 2 ^ 27) q h

  pub obliged_duty : (at : Around) → IsDutyAt (program_of w) (obliged.mode_of (obliged_by w mode)) at → IsDutyAt (program_of w) (mode_of w) at
  obliged_duty at x = subst (λ m. IsDutyAt (program_of w) (mode_by w m) at) (sym q) x

  -- each violation counts
  pub obliged_counts : (at : Around) (call : Option Spot) (a : Sym) (b : Bit) → Means a.net b (λ v. true) → CountsWhere (program_of w) (mode_of w) at call a b
  obliged_counts at call a b x = subst (λ m. CountsWhere (program_of w) (mode_by w m) at call a b) (sym q) x

-- ---- runs that seek follow the segments
module _ (p : Program) (ss : List BoundSegment) (k : ℕ) where
  follows : FollowsSegments p ss (seeking_mode p ss k)
  follows = record { next = λ e cells completed. refl; counts = λ e cells completed. refl }

  -- the scale pays for each event
  pub paid : (e : SymEvent) → told_weight p e ss ≤ event_cost p (seeking_mode p ss k) e
  paid (At spot) = omega (arith, placed_paid p AStatement spot (At spot) (λ x. refl) ss)
  paid (Enter close) = omega (arith, free_paid p (Enter close) (λ x. refl) ss)
  paid (Return close ty bits gave) = omega (arith, placed_paid p ACall close (Return close ty bits gave) (λ x. refl) ss)
  paid (Branch spot truth) = omega (arith, free_paid p (Branch spot truth) (λ x. refl) ss)
  paid (Select spot ty value arms cases none) = omega (arith, free_paid p (Select spot ty value arms cases none) (λ x. refl) ss)

  pub sought_told : {e : SymEvent} {a b : Sym} → Tells p ss e a b → IsTold p (seeking_mode p ss k) e a b
  sought_told {e} x = turned_within (event_cost p (seeking_mode p ss k) e) (x.told (seeking_mode p ss k) follows) (paid e)

  pub sought_begins : (spot : Spot) {a b : Sym} → Tells p ss (At spot) a b → Begins p (seeking_mode p ss k) spot a b
  sought_begins spot x = told_follows p (seeking_mode p ss k) (λ v. event.At spot) (sought_told x)

module _ (w : Walk) (mode : Seeking) (q : w.mode ≡ Seeks mode) where
  pub sought_walk : IsWalk w → All (IsSegment (program_of w)) (segments_of mode)
  sought_walk h = subst (IsJudging w) q h

  pub sought_ready : {e : SymEvent} {a : Sym} → IsReady (program_of w) (mode_of w) e a → CanTell (program_of w) e a (told_weight (program_of w) e (segments_of mode))
  sought_ready {e} {a} h =
      let r = subst (λ m. IsReady (program_of w) (mode_by w m) e a) q h in
      record { fits = r.fits; event = r.event; room = omega (arith, r.room, paid (program_of w) (segments_of mode) mode.turns e) }

  pub begin_ready : (spot : Spot) {a : Sym} → IsState (program_of w) a → length a.net + (mode_of w).scale.statement spot < 2 ^ 27 → CanTell (program_of w) (At spot) a (told_weight (program_of w) (At spot) (segments_of mode))
  begin_ready spot h r = sought_ready record { fits = h; event = tt; room = r }

  pub seeks_begins : (spot : Spot) {a b : Sym} → Tells (program_of w) (segments_of mode) (At spot) a b → Begins (program_of w) (mode_of w) spot a b
  seeks_begins spot {a} {b} x = subst (λ m. Begins (program_of w) (mode_by w m) spot a b) (sym q) (sought_begins (program_of w) (segments_of mode) mode.turns spot x)

  pub seeks_told : {e : SymEvent} {a b : Sym} → Tells (program_of w) (segments_of mode) e a b → IsTold (program_of w) (mode_of w) e a b
  seeks_told {e} {a} {b} x = subst (λ m. IsTold (program_of w) (mode_by w m) e a b) (sym q) (sought_told (program_of w) (segments_of mode) mode.turns x)

  -- the hit is the one duty
  pub seeks_duty : (at : Around) → at.duty ≡ 0 → IsDutyAt (program_of w) (mode_of w) at
  seeks_duty at e = subst (λ m. IsDutyAt (program_of w) (mode_by w m) at) (sym q) (ap suc (sym e))

  pub seeks_counts : (at : Around) (call : Option Spot) (a : Sym) (b : Bit) → Counts (program_of w) (segments_of mode) at.statement at.full call a b → CountsWhere (program_of w) (mode_of w) at call a b
  seeks_counts at call a b x =
      subst (λ m. CountsWhere (program_of w) (mode_by w m) at call a b) (sym q)
      (x (seeking_mode (program_of w) (segments_of mode) mode.turns) (follows (program_of w) (segments_of mode) mode.turns))

-- ---- what came back
module _ (p : Program) (W : Mode) where
  -- a value, where the bit is true everywhere
  pub value_told : {a b : Sym} (close : Spot) (ty : IntType) (bits : List Bit) (gave : Bit) → Means a.net gave (λ v. true)
      → Turned p (W.scale.returns close) 0 a b (λ v. telling W (event.Return close (given_if (holds v a.net gave) (typed p.model ty v a.net bits))))
      → Turned p (W.scale.returns close) 0 a b (λ v. telling W (event.Return close (Some (typed p.model ty v a.net bits))))
  value_told {a} close ty bits gave m x =
      told_as p W (λ v. event.Return close (Some (typed p.model ty v a.net bits))) x (λ v. ap (λ t. event.Return close (given_if t (typed p.model ty v a.net bits))) (m.is v))

  same_given : (gives : Option IntType) (t : Bool) (z : ℤ) → given_if (has_given gives t) z ≡ value_given gives t z
  same_given None t z = refl
  same_given (Some ty) true z = refl
  same_given (Some ty) false z = refl

  pub return_told : {a b : Sym} (close : Spot) (gives : Option IntType) (ty : IntType) (bits : List Bit) (gave given : Bit) → Means a.net given (λ v. has_given gives (holds v a.net gave))
      → Turned p (W.scale.returns close) 0 a b (λ v. telling W (event.Return close (given_if (holds v a.net given) (typed p.model ty v a.net bits)))) → ComesBack p W close gives ty bits gave a b
  return_told {a} close gives ty bits gave given m x =
      told_as p W (λ v. event.Return close (value_given gives (holds v a.net gave) (typed p.model ty v a.net bits))) x
      (λ v. ap (λ t. event.Return close (given_if t (typed p.model ty v a.net bits))) (m.is v) ∙ ap (event.Return close) (same_given gives (holds v a.net gave) (typed p.model ty v a.net bits)))

  -- ---- the value of a switch
  pub can_choose : {a m : Sym} (ty : IntType) (value : List Bit) (arms : List Arm) (cases : List Bit) (none : Bit) {k : ℕ} → AreTyped p.model ty a.net value → AreIn a.net cases → AreCasesOf a.net cases arms (λ v. typed p.model ty v a.net value)
      → Decided p k a m none (λ v. not (list_any (λ b. holds v a.net b) cases)) → IsSelection p.model m.net ty value arms cases none
  can_choose {a} {m} ty value arms cases none h i e d =
      let ls = labels_in (switch_view arms) in
      let z : (ℕ → Bool) → ℤ = λ v. typed p.model ty v a.net value in
      let same : (v : ℕ → Bool) → z v ≡ typed p.model ty v m.net value = λ v. sym (typed_added d.turned.added p.model ty v value h) in
      record {
        value_in = are_typed_added d.turned.added h;
        cases_in = all_added d.turned.added cases i;
        none_in = d.means.inside;
        cases_are = λ v. all_held d.turned.added v cases i ∙ e v ∙ ap (λ y. map (is_case y) ls) (same v);
        none_is = λ v.
            d.means.is v ∙ ap not (any_of_all (λ b. holds v a.net b) cases ∙ ap (list_any (λ b. b)) (e v) ∙ sym (any_of_all (is_case (z v)) ls))
            ∙ ap (λ y. not (list_any (is_case y) ls)) (same v);
      }

  pub choice_told : {a m n : Sym} (spot : Spot) (ty : IntType) (value : List Bit) (ls : List ArmLabel) (j k : ℕ) → AreTyped p.model ty a.net value → Turned p j 0 a m (λ v z. z)
      → Turned p k 0 m n (λ v. telling W (event.Branch spot (way_for (typed p.model ty v m.net value) ls))) → Turned p (j + k) 0 a n (λ v. telling W (event.Branch spot (way_for (typed p.model ty v a.net value) ls)))
  choice_told {a} {m} spot ty value ls j k h x y =
      told_as p W (λ v. event.Branch spot (way_for (typed p.model ty v a.net value) ls)) (turned_then p (j + k) 0 x y (omega arith) (omega arith))
      (λ v. ap (λ z. event.Branch spot (way_for z ls)) (typed_added x.added p.model ty v value h))
