-- Calls of functions, part by part.
use Rattle.std.proofs.Common.{◌≡◌, ℕ, zero, suc, ℤ, List, [], ◌∷◌, ◌++◌, length, drop, slice_get, Some, None, Result, Ok, Err, refl, sym, ap, subst, ◌∙◌}
use Rattle.c_core.specs.Tree.{Program, Function}
use Rattle.c_core.specs.declared.number.IntType.{IntType}
use Rattle.c_meaning.specs.declared.run.End.TheVariants.{Ended}
use Rattle.c_meaning.specs.declared.run.Event.{Event}
use Rattle.c_core.specs.Types.{fit}
use Rattle.c_meaning.specs.Cells.{Cell, put, cells_from}
use Rattle.c_meaning.specs.Meaning.{Site, AParameter}
use Rattle.c_meaning.specs.Objects.{type_of_object}
use Rattle.c_meaning.specs.Acts as acts
use Rattle.c_meaning.specs.Acts.{Go, Stop}
use Rattle.c_meaning.specs.Eval.{store}
use Rattle.c_meaning.specs.Exec.{ticks, with_params, run_in, call_of}
use Rattle.c_meaning.specs.Run.{State, with_cells}
use Rattle.run_state.specs.Interpreting.{Gives, same, flow_of, pairs_of, other_pairs, watched, roomed, parameter_set, next_set, parameters_set, in_function, with_arguments, called_with, function_called, number_called}
use Rattle.run_state.specs.declared.machine.Typed.{Typed}
use Rattle.run_state.specs.declared.machine.Flow.{Flow}
use Rattle.run_state.specs.declared.machine.Halt.{Halt}
use Rattle.run_state.specs.declared.machine.Halt.TheVariants.{NoMemory}
use Rattle.run_state.proofs.Giving.{Behind, halted, passed, went, starts, left_behind, halted_behind}
use Rattle.run_state.specs.Ways.{Ran, here, bound}

others_at : (vs : List Typed) (i : ℕ) → other_pairs (pairs_of (drop i vs)) ≡ pairs_of (drop (suc i) vs)
others_at [] zero = refl
others_at [] (suc i) = refl
others_at (w ∷ vs) zero = refl
others_at (w ∷ vs) (suc i) = others_at vs i

module _ (p : Program) (S : Type 0) (after : Event → List Cell → S → S) where
  pub parameter_stored : (o : ℕ) (from ty : IntType) (v w : ℤ) (s u : State S) → ty ≡ type_of_object p o
      → Gives same (Ok w) u (store p (watched p S after) (record { object = o; index = 0 }) from ty v (with_cells (s.cells ++ cells_from o 0 1 []) s))
      → Gives same (Ok tt) u (parameter_set p S after o v from s)
  parameter_stored o from ty v w s u e h =
      went w u (store p (watched p S after) (record { object = o; index = 0 }) from (type_of_object p o) v (with_cells (s.cells ++ cells_from o 0 1 []) s)).result (λ _ a. Go tt a) (Go tt u)
      (subst (λ k. Gives same (Ok w) u (store p (watched p S after) (record { object = o; index = 0 }) from k v (with_cells (s.cells ++ cells_from o 0 1 []) s))) e h) refl

  -- parameters in turn
  module _ (os : List ℕ) (vs : List Typed) (i o : ℕ) (s u : State S) (whole : Ran S (Unit {0})) where
    abbrev behind : Type 0
    behind = drop i os ≡ o ∷ drop (suc i) os

    abbrev left_to_set : Type 0
    left_to_set = Behind (parameters_set p S after (drop i os) (pairs_of (drop i vs)) s) whole

    next_parameter : behind → left_to_set → Behind (bound (next_set p S after o (pairs_of (drop i vs)) s) (λ _. parameters_set p S after (drop (suc i) os) (pairs_of (drop (suc i) vs)))) whole
    next_parameter d l =
        starts _ _ whole
        (ap (λ ps. bound (next_set p S after o (pairs_of (drop i vs)) s) (λ _. parameters_set p S after (drop (suc i) os) ps)) (sym (others_at vs i))
        ∙ ap (λ xs. parameters_set p S after xs (pairs_of (drop i vs)) s) (sym d)) l

    pub set_on : behind → left_to_set → Gives same (Ok tt) u (next_set p S after o (pairs_of (drop i vs)) s) → Behind (parameters_set p S after (drop (suc i) os) (pairs_of (drop (suc i) vs)) u) whole
    set_on d l g = left_behind same tt u (next_set p S after o (pairs_of (drop i vs)) s) (λ _. parameters_set p S after (drop (suc i) os) (pairs_of (drop (suc i) vs))) whole g (next_parameter d l)

    pub set_halted : (h : Halt) → behind → left_to_set → Gives same (Err h) u (next_set p S after o (pairs_of (drop i vs)) s) → Gives same (Err h) u whole
    set_halted h d l g = halted_behind same same h u (next_set p S after o (pairs_of (drop i vs)) s) (λ _. parameters_set p S after (drop (suc i) os) (pairs_of (drop (suc i) vs))) whole (next_parameter d l) g

  -- parameters, then what follows them
  with_params_is : (os : List ℕ) (vs : List (ℤ × IntType)) (k : State S → Ran S acts.Flow) (s : State S)
      → with_params p (watched p S after) os vs k s ≡ bound (parameters_set p S after os vs s) (λ _. k)
  with_params_is [] vs k s = refl
  with_params_is (o ∷ os) [] k s = ap (λ q. record { result = q.result; way = s.seen ∷ q.way }) (with_params_is os [] k (with_cells (s.cells ++ cells_from o 0 1 []) s))
  with_params_is (o ∷ os) (v ∷ vs) k s =
      ap (λ q. record { result = q.result; way = s.seen ∷ q.way })
      (with_params_is os vs k (with_cells (put (record { object = o; index = 0 }) (fit p.model (type_of_object p o) v.0) (s.cells ++ cells_from o 0 1 [])) s))

  module _ (n : ℕ) where
    pub parameters_halted : (f : Function) (vs : List (ℤ × IntType)) (s u : State S) (h : Halt)
        → Gives same (Err h) u (parameters_set p S after f.params vs s) → Gives flow_of (Err h) u (with_arguments p S after n f vs s)
    parameters_halted f vs s u h g =
        subst (Gives flow_of (Err h) u) (sym (with_params_is f.params vs (run_in p (watched p S after) n f) s)) (halted same flow_of h u (parameters_set p S after f.params vs s) _ g)

    pub parameters_passed : (f : Function) (vs : List (ℤ × IntType)) (s t u : State S) (r : Result Flow Halt)
        → Gives same (Ok tt) t (parameters_set p S after f.params vs s) → Gives flow_of r u (in_function p S after n f t) → Gives flow_of r u (with_arguments p S after n f vs s)
    parameters_passed f vs s t u r g h =
        subst (Gives flow_of r u) (sym (with_params_is f.params vs (run_in p (watched p S after) n f) s)) (passed same flow_of tt t u (parameters_set p S after f.params vs s) _ r g h)

    -- steps for parameters, room, then the call
    pub call_few_steps : (site : Site) (f : Function) (vs : List (ℤ × IntType)) (s u : State S) (h : Halt)
        → Gives same (Err h) u (ticks p (watched p S after) AParameter (length f.params) s) → Gives same (Err h) u (function_called p S after n site f vs s)
    call_few_steps site f vs s u h g = halted same same h u (ticks p (watched p S after) AParameter (length f.params) s) _ g

    pub call_no_room : (site : Site) (f : Function) (vs : List (ℤ × IntType)) (k : ℕ) (s t u : State S) (h : Halt) → k ≡ suc (length f.params)
        → Gives same (Ok tt) t (ticks p (watched p S after) AParameter (length f.params) s) → Gives same (Err h) u (roomed p S after k t)
        → Gives same (Err h) u (function_called p S after n site f vs s)
    call_no_room site f vs k s t u h e g m =
        passed same same tt t u (ticks p (watched p S after) AParameter (length f.params) s) _ (Err h) g
        (halted same same h u (roomed p S after (suc (length f.params)) t) _ (subst (λ j. Gives same (Err h) u (roomed p S after j t)) e m))

    -- no memory to count its cells
    pub call_full : (site : Site) (f : Function) (vs : List (ℤ × IntType)) (s t : State S)
        → Gives same (Ok tt) t (ticks p (watched p S after) AParameter (length f.params) s) → Gives same (Err NoMemory) t (function_called p S after n site f vs s)
    call_full site f vs s t g = passed same same tt t t (ticks p (watched p S after) AParameter (length f.params) s) _ (Err NoMemory) g (here _)

    pub call_all : (site : Site) (f : Function) (vs : List (ℤ × IntType)) (k : ℕ) (s t v u : State S) (r : Result ℤ Halt) → k ≡ suc (length f.params)
        → Gives same (Ok tt) t (ticks p (watched p S after) AParameter (length f.params) s) → Gives same (Ok tt) v (roomed p S after k t)
        → Gives same r u (called_with p S after n site f vs v) → Gives same r u (function_called p S after n site f vs s)
    call_all site f vs k s t v u r e g m h =
        passed same same tt t u (ticks p (watched p S after) AParameter (length f.params) s) _ r g
        (passed same same tt v u (roomed p S after (suc (length f.params)) t) _ r (subst (λ j. Gives same (Ok tt) v (roomed p S after j t)) e m) h)

    pub number_found : (site : Site) (g : ℕ) (f : Function) (vs : List (ℤ × IntType)) (s : State S) → slice_get p.functions g ≡ Some f
        → number_called p S after n site g vs s ≡ function_called p S after n site f vs s
    number_found site g f vs s h = ap (λ x. call_of p (watched p S after) (run_in p (watched p S after) n) site x vs s) h

    pub number_missing : (site : Site) (g : ℕ) (vs : List (ℤ × IntType)) (s : State S) → slice_get p.functions g ≡ None → (number_called p S after n site g vs s).result ≡ Stop Ended s
    number_missing site g vs s h = ap (λ x. (call_of p (watched p S after) (run_in p (watched p S after) n) site x vs s).result) h
