-- The sides of `?:`, in the type of the whole.
use Rattle.std.proofs.Common.{◌≡◌, ℤ, List, refl, sym, subst, Option, Some, None}
use Rattle.c_core.specs.Tree.{Program}
use Rattle.c_core.specs.Types.{fit}
use Rattle.c_core.specs.declared.number.IntType.{IntType}
use Rattle.c_meaning.specs.Value.{and_then, converted}
use Rattle.circuits.specs.declared.net.Bit.{Bit}
use Rattle.circuits.specs.declared.net.NetNode.{NetNode}
use Rattle.circuits.specs.Numbers.{AreTyped}
use Rattle.circuits.specs.Outcome.{conversion_cost}
use Rattle.sym_state.specs.declared.state.Sym.{Sym}
use Rattle.sym_state.specs.Standing.{IsState}
use Rattle.sym_state.specs.Following.{AreOf}
use Rattle.sym_state.proofs.Nets.{unchanged}
use Rattle.sym_weight.specs.Table.{conversion, conversion_to}
use Rattle.sym_invariants.specs.Valued.{Perhaps, IsSeen, Sees, then_value, side_type}
use Rattle.sym_exprs.proofs.Costs.{conversion_costs}
use Rattle.sym_invariants.proofs.Seeing.{seen_as, sees_within}

pub then_itself : (o : Option ℤ) → o ≡ and_then o (λ z. Some z)
then_itself None = refl
then_itself (Some z) = refl

module _ (p : Program) (ty : Option IntType) (from : IntType) where
  pub some_side : {net : List NetNode} {bits : List Bit} (to : IntType) → ty ≡ Some to → AreOf p.model (side_type ty from) net bits → AreTyped p.model from net bits
  some_side {net} {bits} to e h = subst (λ t. AreOf p.model (side_type t from) net bits) e h

  pub typed_side : {s m : Sym} {xs rs : List Bit} {d r : Bit} (to : IntType) → ty ≡ Some to
      → ((f : Perhaps) → IsSeen p.model (Some from) s.net xs d f → Sees p (conversion_cost p.model from to) s m (Some to) rs r (then_value f (λ z. Some (fit p.model to z))))
      → (f : Perhaps) → IsSeen p.model (side_type ty from) s.net xs d f → Sees p (conversion_to p.model ty from) s m ty rs r (then_value f (λ z. Some (converted p ty z)))
  typed_side {s} {m} {xs} {rs} {d} {r} to e k f x =
      let made = sees_within p (conversion p.model from to) (k f (subst (λ t. IsSeen p.model (side_type t from) s.net xs d f) e x)) (conversion_costs p.model from to) in
      subst (λ t. Sees p (conversion_to p.model t from) s m t rs r (then_value f (λ z. Some (converted p t z)))) (sym e) made

  pub void_side : {s : Sym} {xs : List Bit} {d : Bit} → ty ≡ None → IsState p s → (f : Perhaps) → IsSeen p.model (side_type ty from) s.net xs d f
      → Sees p (conversion_to p.model ty from) s s ty xs d (then_value f (λ z. Some (converted p ty z)))
  void_side {s} {xs} {d} e h f x =
      let left : Sees p 0 s s None xs d (then_value f (λ z. Some z)) = record {
        turned = record { fits = h; added = unchanged 0 s.net; level = refl; result = refl; is = λ v. refl };
        seen = seen_as p.model (then_value f (λ z. Some z)) (subst (λ t. IsSeen p.model (side_type t from) s.net xs d f) e x) (λ v. then_itself (f v));
      } in
      subst (λ t. Sees p (conversion_to p.model t from) s s t xs d (then_value f (λ z. Some (converted p t z)))) (sym e) left
