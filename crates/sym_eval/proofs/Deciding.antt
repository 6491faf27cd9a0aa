-- Full expressions, and what a loop does by its controlling expression.
use Rattle.std.proofs.Common.{◌≡◌, ℕ, ◌+◌, ◌≤◌, ◌<◌, ◌^◌, Bool, true, false, cond, not, ◌&&◌, ◌||◌, ℤ, List, [], length, refl, sym, ◌∙◌, ap, ap₂, subst, arith, append-nil, Option, Some, None, IsTrue}
use Rattle.c_core.specs.Tree.{Program, Exp, Expr}
use Rattle.c_core.specs.Types.{width_of, is_zero}
use Rattle.c_core.specs.Parts.{type_of as type_if, spot_of}
use Rattle.c_core.specs.Typing.{has_value, is_typed}
use Rattle.c_core.specs.declared.number.IntType.{IntType}
use Rattle.c_core.specs.declared.number.IntType.TheVariants.{Bool as BoolType}
use Rattle.c_core.specs.declared.number.Spot.{Spot}
use Rattle.c_meaning.specs.declared.run.Duty.{Duty}
use Rattle.c_meaning.specs.Acts.{Res, Go, Next, Broken, bind}
use Rattle.c_meaning.specs.Eval.{eval}
use Rattle.c_meaning.specs.Exec.{full}
use Rattle.c_meaning.specs.Havoc.{Stopped}
use Rattle.sym_meaning.specs.Mode.{JudgedState, Mode}
use Rattle.c_meaning.specs.declared.run.Event.TheVariants.{Branch}
use Rattle.c_meaning.specs.declared.run.Way.TheVariants.{Truth}
use Rattle.sym_meaning.specs.Judged.{judged, tell}
use Rattle.c_meaning.specs.Meaning.{Use, Used, Unused}
use Rattle.c_meaning.specs.Objects.{type_of}
use Rattle.c_meaning.proofs.TypeFacts.{both, some_type}
use Rattle.circuits.specs.declared.net.Bit.{Bit}
use Rattle.circuits.specs.Net.{holds, IsIn, opposite}
use Rattle.circuits.specs.Numbers.{typed, AreTyped}
use Rattle.circuits.specs.Outcome.{conversion_cost}
use Rattle.circuits.proofs.Nets.{holds-opposite}
use Rattle.sym_state.specs.declared.state.Sym.{Sym}
use Rattle.sym_state.specs.declared.state.Around.{Around}
use Rattle.sym_state.specs.Standing.{Stand, stand, IsState, Kept, IsHere, Turned, with_live}
use Rattle.sym_state.specs.Telling.{telling}
use Rattle.sym_state.specs.Following.{left_of, Follows, AreOf, IsNumber}
use Rattle.sym_state.proofs.Nets.{added_then, longer_by, holds_added, in_added}
use Rattle.sym_state.proofs.Telling.{told_follows, follows_map}
use Rattle.sym_state.proofs.Composed.{follows_then, follows_as, net_follows}
use Rattle.sym_values.specs.Valuing.{where_of, IsDutyAt, Decided}
use Rattle.sym_flow.specs.Leaving.{Went, Runs}
use Rattle.sym_flow.specs.Ways.{Became, leaving}
use Rattle.sym_flow.proofs.Bools.{and_no, and_yes, or_no, or_yes, count_cells, same_level}
use Rattle.sym_flow.proofs.Draws.{after_both}
use Rattle.sym_flow.proofs.Statements.{follows_runs, runs_as, became_runs, skip_runs}
use Rattle.sym_exprs.proofs.Costs.{test_costs}
use Rattle.sym_exprs.specs.Evaluating.{Ready, Values}
use Rattle.sym_eval.specs.Doing.{calls, weight_of_control, bits_of_control, ControlReady, Decides}
use Rattle.sym_eval.specs.Control.{parting, test_glue, FullReady, FullGives, TestReady, TestDoes, TestIfReady, TestIfDoes, weight_of_step, bits_of_step, StepReady, StepDoes}

-- a typed expression's type, where it isn't void
has_one : (e : Exp) → IsTrue (has_value e) → type_if e ≡ Some (type_of e)
has_one (Expr spot ty node) h = some_type ty h

pub at_once : {A : Type 0} (t : Bool) (f g : JudgedState → A) (s : JudgedState) → (cond t f g) s ≡ cond t (f s) (g s)
at_once true f g s = refl
at_once false f g s = refl

-- ---- runs part where a bit is false
module _ (p : Program) where
  pub parting_became : {a b c d : Sym} (bit other : Bit) → IsState p a → IsIn a.net bit → other ≡ opposite bit
      → Turned p 1 0 a b (λ v. with_live (holds v a.net a.live && holds v a.net other)) → Became p 1 b c (λ v. leaving)
      → Turned p 1 0 c d (λ v. with_live (holds v c.net a.live && holds v c.net bit)) → Became p 3 a d (λ v. parting (holds v a.net bit))
  parting_became {a} {b} {c} {d} bit other h bit_in e x y z =
      let ac = added_then 2 0 x.added y.added (omega arith) (omega arith) in
      record {
        fits = z.fits;
        added = added_then 3 0 ac z.added (omega arith) (omega arith);
        result = z.result ∙ y.result ∙ x.result;
        is = λ v.
            let A = stand p v a in
            let q : holds v a.net other ≡ not (holds v a.net bit) = ap (holds v a.net) e ∙ holds-opposite v a.net bit in
            z.is v ∙ ap₂ (λ l t. with_live (l && t) (stand p v c)) (holds_added ac v a.live h.live) (holds_added ac v bit bit_in)
            ∙ ap (with_live (A.live && holds v a.net bit)) (y.is v ∙ ap leaving (x.is v)) ∙ (λ i. record A { live = A.live && holds v a.net bit; broken = A.broken || (A.live && q i) });
      }

parting_dead : (t : Bool) (a : Stand) → a.live ≡ false → Kept a (parting t a)
parting_dead t a d = record {
  live = ap (λ l. l && t) d ∙ sym d;
  broken = ap (λ l. a.broken || (l && not t)) d ∙ or_no a.broken;
  again = refl;
  gave = refl;
  given = refl;
  failing = refl;
  completed = refl;
  draws = refl;
  junk = [];
  cells = sym (append-nil a.cells);
}

-- a run that is here goes on, or leaves the loop
parted : (ds : List Duty) (gives : Option IntType) (k : ℕ) (t : Bool) (a : Stand) (rest : List ℤ) → k ≤ length a.cells → IsHere (length ds) a
    → Went ds gives k (parting t a) rest (cond t (Go Next (left_of a rest)) (Go Broken (left_of a rest)))
parted ds gives k true a rest few h = (
  record { live = and_yes a.live ∙ h.live; broken = ap (λ b. a.broken || b) (and_no a.live) ∙ or_no a.broken ∙ h.broken; again = h.again; gave = h.gave; failing = h.failing },
  refl,
)
parted ds gives k false a rest few h = record {
  live = and_no a.live;
  broken = ap (λ b. a.broken || b) (and_yes a.live ∙ h.live) ∙ or_yes a.broken;
  again = h.again;
  gave = h.gave;
  failing = h.failing;
  values = refl;
  draws = refl;
  completed = refl;
  least = few;
  junk = [];
  cells = sym (append-nil a.cells);
}

module _ (p : Program) (ds : List Duty) (gives : Option IntType) where
  pub parting_runs : {a b : Sym} (t : (ℕ → Bool) → Bool) → Became p 3 a b (λ v. parting (t v)) → Runs ds p gives 3 0 a b (λ v s. cond (t v) (Go Next s) (Go Broken s))
  parting_runs {a} {b} t x =
      became_runs p ds gives (λ v. parting (t v)) x (omega (arith, same_level {a = a} {b = b} p (λ v. parting (t v)) x (λ v s. refl))) (λ v. refl) (λ v d. parting_dead (t v) (stand p v a) d)
      (λ v h rest. parted ds gives (length a.cells.items) (t v) (stand p v a) rest (omega (arith, count_cells p v a)) h)

-- calls at most n deep
module _ (p : Program) (W : Mode) (n : ℕ) where
  -- ---- full expressions
  pub full_ready : {s : Sym} {e : Exp} (place : Around) → IsDutyAt p W place → FullReady p W n s e → Ready p W n place s e
  full_ready place d h = record { fits = h.fits; types = h.types; duty = d; room = h.room }

  pub full_gives : {s m : Sym} {bits : List Bit} (at : Spot) (place : Around) (want : Use) (e : Exp) → where_of place ≡ record { statement = at; full = spot_of e } → Values p W n place want e s m bits
      → FullGives p W n at want e s m bits
  full_gives at place want e w x = record {
    bits_in = x.bits_in;
    follows = follows_as p W.duties x.follows (λ v z t. t) (λ v s. ap (λ q. eval p (judged p W) (calls p W n) q want e s) w) (omega arith) (omega arith);
  }

  -- ---- a controlling expression
  pub control_ready : {at : Spot} {s : Sym} {e : Exp} → ControlReady p W n at s e → FullReady p W n s e
  control_ready h = record { fits = h.fits; types = h.types; room = omega (arith, h.room) }

  -- there is room for the event
  pub control_room : {s x y : Sym} {bits : List Bit} {k : ℕ} {f : (ℕ → Bool) → Bool} {bit : Bit} (at : Spot) (e : Exp) → ControlReady p W n at s e → FullGives p W n at Used e s x bits → Decided p k x y bit f → k ≤ width_of p.model (type_of e)
      → length y.net + W.scale.test at < 2 ^ 27
  control_room at e h g d le = omega (arith, h.room, (longer_by g.follows.added).1, (longer_by d.turned.added).1, le)

  pub control_bits : {s m : Sym} {bits : List Bit} (at : Spot) (e : Exp) (ty : IntType) → ty ≡ type_of e → IsTrue (has_value e) → FullGives p W n at Used e s m bits → AreTyped p.model ty m.net bits
  control_bits {m = m} {bits = bits} at e ty te h g = subst (λ t. AreOf p.model t m.net bits) (has_one e h ∙ ap Some (sym te)) g.bits_in

  pub decides : {s x y z : Sym} {bits : List Bit} (at : Spot) (e : Exp) (ty : IntType) (bit : Bit) → ty ≡ type_of e → IsTrue (has_value e) → FullGives p W n at Used e s x bits
      → Decided p (conversion_cost p.model ty BoolType) x y bit (λ v. not (is_zero (typed p.model ty v x.net bits)))
      → Turned p (W.scale.test at) 0 y z (λ v. telling W (Branch at (Truth (holds v y.net bit)))) → Decides p W n at e s z bit
  decides {s} {x} {y} {z} {bits} at e ty bit te h g d ev =
      let one : type_if e ≡ Some ty = has_one e h ∙ ap Some (sym te) in
      let cost : conversion_cost p.model ty BoolType ≤ width_of p.model (type_of e) = subst (λ t. conversion_cost p.model ty BoolType ≤ width_of p.model t) te (test_costs p.model ty) in
      let T : (ℕ → Bool) → Bool = λ v. not (is_zero (typed p.model ty v x.net bits)) in
      let here : (v : ℕ → Bool) → holds v z.net bit ≡ holds v y.net bit = λ v. holds_added ev.added v bit d.means.inside in
      let told : Follows W.duties p (W.scale.test at) 0 y z (λ v t. t ≡ holds v z.net bit) (λ v s. bind (tell p W (Branch at (Truth (holds v y.net bit))) s) (λ u s. Go (holds v y.net bit) s)) =
      follows_map p W (λ v u. holds v y.net bit) (told_follows p W (λ v. Branch at (Truth (holds v y.net bit))) ev) (λ v u q. sym (here v)) in
      record {
        bit_in = in_added ev.added bit d.means.inside;
        follows = follows_then p W.duties (weight_of_control p W n at e) (bits_of_control p W n at e) (λ v w s. bind (tell p W (Branch at (Truth (not (is_zero w)))) s) (λ u s. Go (not (is_zero w)) s)) g.follows
            (follows_then p W.duties (width_of p.model (type_of e) + W.scale.test at) 0 (λ v u s. bind (tell p W (Branch at (Truth (T v))) s) (λ u s. Go (T v) s))
            (net_follows p W.duties {A = Unit {0}} {S = λ v u. Unit {0}} (λ v. tt) d.turned (λ v. tt)) told
            (λ v u q s. ap (λ t. bind (tell p W (Branch at (Truth t)) s) (λ u s. Go t s)) (sym (d.means.is v))) (omega (arith, cost)) (omega arith))
            (λ v w q s. ap (λ w. bind (tell p W (Branch at (Truth (not (is_zero w)))) s) (λ u s. Go (not (is_zero w)) s)) (subst (λ t. IsNumber p.model t x.net bits v w) one q)) (omega arith) (omega arith);
      }

  -- ---- a loop's test
  pub test_ready : {at : Spot} {s : Sym} {e : Exp} → TestReady p W n at s e → ControlReady p W n at s e
  test_ready h = record { fits = h.fits; types = h.types; value = h.value; room = omega (arith, h.room) }

  pub test_does : {s x y : Sym} (at : Spot) (e : Exp) (bit : Bit) → Decides p W n at e s x bit → Became p 3 x y (λ v. parting (holds v x.net bit)) → TestDoes p W n at e s y
  test_does {x = x} at e bit d b gives =
      runs_as p W.duties gives
      (follows_runs p W.duties gives (test_glue + weight_of_control p W n at e) (bits_of_control p W n at e) (λ v t s. cond t (Go Next s) (Go Broken s)) d.follows (parting_runs p W.duties gives (λ v. holds v x.net bit) b)
      (λ v t q s. ap (λ u. cond u (Go Next s) (Go Broken s)) q) (omega arith) (omega arith))
      (λ v s.
      let one : JudgedState → Res Stopped JudgedState ℤ = full p (judged p W) (calls p W n) at Used e in
      let test : ℤ → JudgedState → Res Stopped JudgedState Bool = λ z s. bind (tell p W (Branch at (Truth (not (is_zero z)))) s) (λ u s. Go (not (is_zero z)) s) in
      sym (after_both p (one s) test (λ t s. cond t (Go Next s) (Go Broken s)))
      ∙ (λ i. bind (one s) (λ z s. bind (tell p W (Branch at (Truth (not (is_zero z)))) s) (λ u s. sym (at_once (not (is_zero z)) (λ s. Go Next s) (λ s. Go Broken s) s) i))))
      (omega arith) (omega arith)

  -- ---- the parts of a `for`
  pub some_test_ready : {at : Spot} {s : Sym} {e : Exp} → TestIfReady p W n at s (Some e) → TestReady p W n at s e
  some_test_ready {e = e} h = let t = both (has_value e) (is_typed p e) h.types in record { fits = h.fits; types = t.1; value = t.0; room = h.room }

  pub no_test : {s : Sym} (at : Spot) → TestIfReady p W n at s None → TestIfDoes p W n at None s s
  no_test {s = s} at h gives = runs_as p W.duties gives (skip_runs p W.duties gives s h.fits) (λ v s. refl) (omega arith) (omega arith)

  pub some_step_ready : {s : Sym} {e : Exp} → StepReady p W n s (Some e) → FullReady p W n s e
  some_step_ready h = record { fits = h.fits; types = h.types; room = h.room }

  pub no_step : {s : Sym} (at : Spot) → StepReady p W n s None → StepDoes p W n at None s s
  no_step {s = s} at h gives = skip_runs p W.duties gives s h.fits

  pub some_step : {s x : Sym} {bits : List Bit} (at : Spot) (e : Exp) → FullGives p W n at Unused e s x bits → StepDoes p W n at (Some e) s x
  some_step {x = x} at e g gives =
      follows_runs p W.duties gives (weight_of_step p W n (Some e)) (bits_of_step p W n (Some e)) (λ v z s. Go Next s) g.follows (skip_runs p W.duties gives x g.follows.fits) (λ v z q s. refl) (omega arith) (omega arith)
