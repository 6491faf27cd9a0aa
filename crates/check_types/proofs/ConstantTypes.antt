-- Values of types, and the lists of types of constants.
use Rattle.std.proofs.Common.{◌≡◌, Bool, true, false, nat_eq, ℤ, refl, sym, ap, ◌∙◌}
use Rattle.std.proofs.lemmas.Bool.{eqb-true, eq-eqb, false≢true, false_from_ne_true}
use Rattle.std.proofs.lemmas.Int.{to_z-of_z}
use mir.Val.{SFits, of_z, to_z}
use mir.Syntax.{w128}
use Rattle.c_core.specs.Types.{fit, in_range}
use Rattle.c_core.specs.declared.number.IntType.{IntType}
use Rattle.c_core.specs.declared.number.DataModel.{DataModel}
use Rattle.c_core.proofs.Fits.{fit_kept, fit_in_range}

pub same_number : (a b : ℤ) → SFits w128 a → SFits w128 b → of_z w128 a ≡ of_z w128 b → a ≡ b
same_number a b f g e = sym (to_z-of_z w128 a f) ∙ ap (to_z w128) e ∙ to_z-of_z w128 b g

-- a value of a type is one that conversion keeps
pub kept_by_value : (m : DataModel) (ty : IntType) (k v : ℤ) → SFits w128 k → SFits w128 v → k ≡ fit m ty v → nat_eq (of_z w128 k) (of_z w128 v) ≡ in_range m ty v
kept_by_value m ty k v f g e = by_range (in_range m ty v) refl
  where
    by_range : (b : Bool) → in_range m ty v ≡ b → nat_eq (of_z w128 k) (of_z w128 v) ≡ in_range m ty v
    by_range true h = eq-eqb _ _ (ap (of_z w128) (e ∙ fit_kept m ty v h)) ∙ sym h
    by_range false h =
        let differ : nat_eq (of_z w128 k) (of_z w128 v) ≡ true → ⊥ = λ q.
        false≢true (sym h ∙ ap (in_range m ty) (sym (same_number k v f g (eqb-true _ _ q))) ∙ ap (in_range m ty) e ∙ fit_in_range m ty v) in
        false_from_ne_true _ differ ∙ sym h
