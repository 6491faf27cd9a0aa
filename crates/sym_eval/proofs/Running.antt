-- A function that is run: its parameters, its body, and what comes back from it.
use Rattle.std.proofs.Common.{◌≡◌, ℕ, suc, ◌+◌, ◌<◌, ◌^◌, ℤ, Bool, not, ◌&&◌, List, length, sym, ◌∙◌, ap, ap₂, subst, arith, Option, true, refl}
use Rattle.c_core.specs.Tree.{Program, Form, Stmt, Function}
use Rattle.c_core.specs.declared.number.IntType.{IntType}
use Rattle.c_core.specs.declared.number.Spot.{Spot}
use Rattle.c_meaning.specs.Acts.{bind, go_on}
use Rattle.c_meaning.specs.Exec.{form, with_params, run_in}
use Rattle.c_meaning.specs.Fitting.{calls_in}
use Rattle.c_meaning.specs.declared.run.Event.TheVariants.{Return}
use Rattle.sym_meaning.specs.Mode.{Mode}
use Rattle.sym_meaning.specs.Judged.{judged}
use Rattle.c_meaning.specs.Objects.{type_or_int}
use Rattle.circuits.specs.declared.net.Bit.{Bit}
use Rattle.circuits.specs.declared.net.NetNode.{NetNode}
use Rattle.circuits.specs.Net.{holds, IsIn}
use Rattle.circuits.specs.Numbers.{typed, AreTyped}
use Rattle.sym_state.specs.declared.state.Sym.{Sym}
use Rattle.sym_state.specs.Standing.{stand, IsState, Added, Turned, stopped}
use Rattle.sym_state.specs.Telling.{telling}
use Rattle.sym_state.proofs.Composed.{follows_as}
use Rattle.sym_state.proofs.Nets.{added_then, longer_by, in_added, holds_added, typed_added, are_typed_added}
use Rattle.sym_state.proofs.Telling.{told_as}
use Rattle.sym_state.proofs.Turning.{turned_as}
use Rattle.sym_walk.specs.Hooks.{ComesBack}
use Rattle.c_meaning.specs.Meaning.{Site}
use Rattle.sym_flow.specs.declared.calling.Caller.{Caller}
use Rattle.sym_flow.specs.Calling.{value_given, is_value, Enters, IsAround, IsAroundIn, CameBack}
use Rattle.sym_flow.specs.Leaving.{Runs}
use Rattle.sym_flow.proofs.Statements.{runs_then, runs_as}
use Rattle.sym_flow.proofs.Calls.{called_follows, came_returns, returned_follows}
use Rattle.sym_eval.specs.Calling.{values_at, AreArguments, set_cost, Sets, weight_of_run, bits_of_run, RunReady, HasRun}
use Rattle.sym_eval.specs.Doing.{form_glue, weight_of_form, bits_of_form, FormReady, FormDoes}
use Rattle.sym_eval.specs.declared.parameters.Argument.{Argument}
use Rattle.sym_eval.proofs.Setting.{next, values_added, arguments_added, params_then}

-- what is kept of the caller is the net's
pub around_in : {i j : ℕ} {net : List NetNode} (p : Program) (r : Caller) (a : Sym) → IsState p a → IsAround r a → Added i j a.net net → IsAroundIn p r net
around_in {net = net} p r a h x g = record {
  broken = subst (IsIn net) (sym x.broken) (in_added g a.broken h.broken);
  again = subst (IsIn net) (sym x.again) (in_added g a.again h.again);
  gave = subst (IsIn net) (sym x.gave) (in_added g a.gave h.gave);
  given = subst (λ z. AreTyped p.model z net r.given.bits) (sym x.result) (subst (λ z. AreTyped p.model a.result net z.bits) (sym x.given) (are_typed_added g h.given));
}

abbrev function : Option IntType → List ℕ → Spot → Form → Function
function result params at f = record { result = result; params = params; body = Stmt at f }

module _ (p : Program) (W : Mode) (n : ℕ) (close : Spot) (needed : Bool) (result : Option IntType) (params : List ℕ) (at : Spot) (f : Form) (xs : List Argument) where
  abbrev fn : Function
  fn = function result params at f

  module _ {a b : Sym} (ty : IntType) (h : RunReady p W n close needed fn a xs) (x : Enters p ty a b) where
    pub entered_arguments : AreArguments p b.net xs
    entered_arguments = arguments_added p x.added xs h.arguments

    pub entered_room : length b.net + set_cost p params xs < 2 ^ 28
    entered_room = omega (arith, h.room, (longer_by x.added).1)

    module _ {c : Sym} (e : ty ≡ type_or_int result) (y : Sets p params xs b c) where
      pub body_ready : FormReady p W n result at c f
      body_ready = record {
        fits = (y W result).fits;
        result = (y W result).result ∙ x.result ∙ e;
        types = h.types;
        room = omega (arith, h.room, (longer_by x.added).1, (longer_by (y W result).added).1);
      }

      module _ {d : Sym} (z : FormDoes p W n result at f c d) where
        whole_added : Added (set_cost p params xs + (form_glue + weight_of_form p W n result at f)) (bits_of_form p W n result at f) a.net d.net
        whole_added = added_then _ _ (added_then (set_cost p params xs) 0 x.added (y W result).added (omega arith) (omega arith)) z.added (omega arith) (omega arith)

        pub back_around : (r : Caller) → IsAround r a → IsAroundIn p r d.net
        back_around r k = around_in p r a h.fits k whole_added

        pub back_room : length d.net < 2 ^ 28
        back_room = omega (arith, h.room, (longer_by whole_added).1)

        -- parameters and body
        whole_runs : Runs W.duties p result (set_cost p params xs + (form_glue + weight_of_form p W n result at f)) (bits_of_run p W n fn) b d (λ v. with_params p (judged p W) params (values_at p v a.net xs) (run_in p (judged p W) (suc n) fn) true)
        whole_runs =
            runs_as p W.duties result (runs_then p W.duties result (set_cost p params xs + (form_glue + weight_of_form p W n result at f)) (bits_of_run p W n fn) (y W result) z (omega arith) (omega arith))
            (λ v s.
            ap (λ w. bind (with_params p (judged p W) params w (next p W) true s) (go_on (form p (judged p W) (calls_in p (judged p W) n) result at f true))) (values_added p x.added v xs h.arguments)
            ∙ sym (params_then p W params (values_at p v a.net xs) (run_in p (judged p W) (suc n) fn) s))
            (omega arith) (omega arith)

        back_in : {g : Sym} {bits : List Bit} {gave : Bit} {r : Caller} {k : ℕ} → CameBack p r k d g bits gave → AreTyped p.model (type_or_int result) g.net bits
        back_in {g} {bits} w = subst (λ t. AreTyped p.model t g.net bits) (z.result ∙ (y W result).result ∙ x.result ∙ e) w.bits_in

        -- the value is of the function's type, and there is room for its event
        pub told_in : {g : Sym} {bits : List Bit} {gave : Bit} {r : Caller} {k : ℕ} → CameBack p r k d g bits gave → AreTyped p.model ty g.net bits
        told_in {g} {bits} w = subst (λ t. AreTyped p.model t g.net bits) (sym e) (back_in w)

        pub told_room : {g : Sym} {bits : List Bit} {gave : Bit} {r : Caller} {k : ℕ} → CameBack p r k d g bits gave → length g.net + W.scale.returns close < 2 ^ 27
        told_room w = omega (arith, h.room, (longer_by whole_added).1, (longer_by w.added).1)

        module _ {g t : Sym} {bits : List Bit} {gave : Bit} (r : Caller) (k : ℕ) (w : CameBack p r k d g bits gave) (ev : ComesBack p W close result ty bits gave g t) where
          pub need_in : IsIn t.net gave
          need_in = in_added ev.added gave w.gave_in

          pub need_room : length t.net < 2 ^ 28
          need_room = omega (arith, h.room, (longer_by whole_added).1, (longer_by w.added).1, (longer_by ev.added).1)

          pub function_run : IsAround r a → k ≡ length a.cells.items → {m : Sym} → Turned p 1 0 t m (λ v. stopped (needed && not (holds v t.net gave))) → HasRun p W n close needed fn xs a m bits
          function_run u ek {m} y1 =
              let value : (ℕ → Bool) → ℤ = λ v. typed p.model (type_or_int result) v g.net bits in
              let bits_in : AreTyped p.model (type_or_int result) g.net bits = back_in w in
              let same : d.result ≡ type_or_int result = z.result ∙ (y W result).result ∙ x.result ∙ e in
              let back = called_follows p W.duties result (set_cost p params xs + (form_glue + weight_of_form p W n result at f) + 3) ty (λ v. holds v g.net gave) value x whole_runs
              (came_returns p r k a d g bits gave h.fits u whole_added ek w) (λ v. w.gave v) (λ v. ap (λ t. typed p.model t v g.net bits) (sym same) ∙ w.value v) (omega arith) in
              let event : (site : Site) → site.close ≡ close → Turned p (W.scale.returns close) 0 g t (λ v. telling W (Return site.close (value_given result (holds v g.net gave) (value v)))) =
              λ site ec. told_as p W (λ v. Return site.close (value_given result (holds v g.net gave) (value v))) ev (λ v. ap₂ (λ c i. Return c (value_given result (holds v g.net gave) (typed p.model i v g.net bits))) (sym ec) e) in
              let stays : (v : ℕ → Bool) → holds v t.net gave ≡ holds v g.net gave = λ v. holds_added ev.added v gave w.gave_in in
              record {
                bits_in = are_typed_added y1.added (are_typed_added ev.added bits_in);
                follows = λ site ec en.
                    let end : Turned p 1 0 t m (λ v. stopped (site.needed && not (holds v g.net gave))) =
                    turned_as p (λ v. stopped (site.needed && not (holds v g.net gave))) (subst (λ b. Turned p 1 0 t m (λ v. stopped (b && not (holds v t.net gave)))) (sym en) y1)
                    (λ v. ap (λ b. stopped (site.needed && not b) (stand p v t)) (stays v)) in
                    let same_value : (v : ℕ → Bool) → typed p.model (type_or_int result) v m.net bits ≡ value v = λ v.
                    typed_added y1.added p.model (type_or_int result) v bits (are_typed_added ev.added bits_in) ∙ typed_added ev.added p.model (type_or_int result) v bits bits_in in
                    let done = returned_follows p W result site (λ q. en ∙ h.void q) (λ v. with_params p (judged p W) params (values_at p v a.net xs) (run_in p (judged p W) (suc n) fn) true) (W.scale.returns close + weight_of_run p W n fn xs) (λ v. holds v g.net gave) value back (event site ec) end (omega arith) in
                    follows_as p W.duties done (λ v o q. subst (λ b. is_value b (typed p.model (type_or_int result) v m.net bits) o) en (subst (λ t. is_value site.needed t o) (sym (same_value v)) q)) (λ v s. refl) (omega arith) (omega arith);
              }
