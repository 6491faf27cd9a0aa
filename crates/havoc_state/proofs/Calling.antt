-- Parameters that get the values of arguments.
use Rattle.std.proofs.Common.{◌≡◌, ℕ, zero, suc, ℤ, List, [], ◌∷◌, ◌++◌, drop, Err, refl, sym, ap, subst, ◌∙◌}
use Rattle.c_core.specs.Tree.{Program}
use Rattle.c_core.specs.declared.number.IntType.{IntType}
use Rattle.c_meaning.specs.Cells.{cells_from}
use Rattle.c_meaning.specs.Objects.{type_of_object}
use Rattle.c_meaning.specs.Acts.{Res, Go, bind}
use Rattle.c_meaning.specs.Duties.{Placed}
use Rattle.c_meaning.specs.Eval.{store}
use Rattle.c_meaning.specs.Havoc.{Stopped, Left, with_cells_left}
use Rattle.run_state.specs.Interpreting.{same, pairs_of, other_pairs}
use Rattle.run_state.specs.declared.machine.Typed.{Typed}
use Rattle.havoc_state.specs.Havocking.{Gives, havocked, parameter_set, next_set, parameters_set}
use Rattle.havoc_state.specs.declared.machine.Halt.{Halt}
use Rattle.havoc_state.proofs.Giving.{halted}

others_at : (vs : List Typed) (i : ℕ) → other_pairs (pairs_of (drop i vs)) ≡ pairs_of (drop (suc i) vs)
others_at [] zero = refl
others_at [] (suc i) = refl
others_at (w ∷ vs) zero = refl
others_at (w ∷ vs) (suc i) = others_at vs i

module _ (p : Program) (I : List Placed) where
  pub parameter_stored : (o : ℕ) (from ty : IntType) (v w : ℤ) (s u : Left) → ty ≡ type_of_object p o
      → store p (havocked p I) (record { object = o; index = 0 }) from ty v (with_cells_left (s.cells ++ cells_from o 0 1 []) s) ≡ Go w u
      → parameter_set p I o v from s ≡ Go tt u
  parameter_stored o from ty v w s u e h =
      ap (λ q. bind q (λ _ a. Go tt a)) (ap (λ k. store p (havocked p I) (record { object = o; index = 0 }) from k v (with_cells_left (s.cells ++ cells_from o 0 1 []) s)) (sym e) ∙ h)

  -- parameters in turn
  module _ (os : List ℕ) (vs : List Typed) (i o : ℕ) (s u : Left) (whole : Res Stopped Left (Unit {0})) (behind : drop i os ≡ o ∷ drop (suc i) os) (rest : parameters_set p I (drop i os) (pairs_of (drop i vs)) s ≡ whole) where
    next_parameter : bind (next_set p I o (pairs_of (drop i vs)) s) (λ _. parameters_set p I (drop (suc i) os) (pairs_of (drop (suc i) vs))) ≡ whole
    next_parameter =
        ap (λ ps. bind (next_set p I o (pairs_of (drop i vs)) s) (λ _. parameters_set p I (drop (suc i) os) ps)) (sym (others_at vs i))
        ∙ ap (λ xs. parameters_set p I xs (pairs_of (drop i vs)) s) (sym behind) ∙ rest

    pub set_on : next_set p I o (pairs_of (drop i vs)) s ≡ Go tt u → parameters_set p I (drop (suc i) os) (pairs_of (drop (suc i) vs)) u ≡ whole
    set_on g = ap (λ q. bind q (λ _. parameters_set p I (drop (suc i) os) (pairs_of (drop (suc i) vs)))) (sym g) ∙ next_parameter

    pub set_halted : (h : Halt) → Gives same (Err h) u (next_set p I o (pairs_of (drop i vs)) s) → Gives same (Err h) u whole
    set_halted h g = subst (Gives same (Err h) u) next_parameter (halted same same h u (next_set p I o (pairs_of (drop i vs)) s) (λ _. parameters_set p I (drop (suc i) os) (pairs_of (drop (suc i) vs))) g)
