-- Calls of functions, part by part.
use Rattle.std.proofs.Common.{◌≡◌, ℕ, ℤ, List, [], ◌∷◌, ◌++◌, length, slice_get, Some, None, Result, Ok, Err, refl, sym, ap, subst, ◌∙◌}
use Rattle.c_core.specs.Tree as t
use Rattle.c_core.specs.Tree.{Program, Function}
use Rattle.c_core.specs.declared.number.IntType.{IntType}
use Rattle.c_meaning.specs.Cells.{cells_from}
use Rattle.c_meaning.specs.Meaning.{Site, AParameter}
use Rattle.c_meaning.specs.Acts as acts
use Rattle.c_meaning.specs.Acts.{Res, Go, Stop, bind}
use Rattle.c_meaning.specs.Duties.{Placed}
use Rattle.c_meaning.specs.Exec.{with_params, run_in, run_if, call_of}
use Rattle.c_meaning.specs.Havoc.{Stopped, Left, Passes, with_cells_left}
use Rattle.run_state.specs.Interpreting.{same, flow_of}
use Rattle.run_state.specs.declared.machine.Flow.{Flow}
use Rattle.havoc_state.specs.Havocking.{Gives, havocked, parameter_set, parameters_set, in_function, in_main, with_arguments, called_with, number_called}
use Rattle.havoc_state.specs.declared.machine.Halt.{Halt}
use Rattle.havoc_state.proofs.Giving.{halted, passed}
use Rattle.c_havoc.proofs.Executing.{free}

module _ (p : Program) (I : List Placed) where
  abbrev set_in : Res Stopped Left (Unit {0}) → Left → Left
  set_in (Go x u) s = u
  set_in (Stop e u) s = s

  -- parameters, then what follows them
  with_params_is : (os : List ℕ) (vs : List (ℤ × IntType)) (k : Left → Res Stopped Left acts.Flow) (s : Left)
      → with_params p (havocked p I) os vs k s ≡ bind (parameters_set p I os vs s) (λ _. k)
  with_params_is [] vs k s = refl
  with_params_is (o ∷ os) [] k s = with_params_is os [] k (with_cells_left (s.cells ++ cells_from o 0 1 []) s)
  with_params_is (o ∷ os) (v ∷ vs) k s = with_params_is os vs k (set_in (parameter_set p I o v.0 v.1 s) s)

  module _ (n : ℕ) where
    pub parameters_halted : (f : Function) (vs : List (ℤ × IntType)) (s u : Left) (h : Halt)
        → Gives same (Err h) u (parameters_set p I f.params vs s) → Gives flow_of (Err h) u (with_arguments p I n f vs s)
    parameters_halted f vs s u h g =
        subst (Gives flow_of (Err h) u) (sym (with_params_is f.params vs (run_in p (havocked p I) n f) s)) (halted same flow_of h u (parameters_set p I f.params vs s) _ g)

    pub parameters_passed : (f : Function) (vs : List (ℤ × IntType)) (s t u : Left) (r : Result Flow Halt)
        → Gives same (Ok tt) t (parameters_set p I f.params vs s) → Gives flow_of r u (in_function p I n f t) → Gives flow_of r u (with_arguments p I n f vs s)
    parameters_passed f vs s t u r g h =
        subst (Gives flow_of r u) (sym (with_params_is f.params vs (run_in p (havocked p I) n f) s)) (passed same flow_of tt t u (parameters_set p I f.params vs s) _ r g h)

    pub number_found : (site : Site) (g : ℕ) (f : Function) (vs : List (ℤ × IntType)) (s : Left) → slice_get p.functions g ≡ Some f
        → number_called p I n site g vs s ≡ called_with p I n site f vs s
    number_found site g f vs s h =
        ap (λ x. call_of p (havocked p I) (run_in p (havocked p I) n) site x vs s) h
        ∙ ap (λ q. bind q (λ _ u. called_with p I n site f vs u)) (free p I AParameter (length f.params) s)

    pub number_missing : (site : Site) (g : ℕ) (vs : List (ℤ × IntType)) (s : Left) → slice_get p.functions g ≡ None → number_called p I n site g vs s ≡ Stop Passes s
    number_missing site g vs s h = ap (λ x. call_of p (havocked p I) (run_in p (havocked p I) n) site x vs s) h

    pub main_is : (f : t.Function) (s : Left) → slice_get p.functions p.main ≡ Some f → in_main p I n s ≡ in_function p I n f s
    main_is f s h = ap (λ x. run_if p (havocked p I) n x s) h

    pub no_main : (s : Left) → slice_get p.functions p.main ≡ None → in_main p I n s ≡ Go acts.Next s
    no_main s h = ap (λ x. run_if p (havocked p I) n x s) h
