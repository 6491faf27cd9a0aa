-- Values as bits with a bit that says where there is one: over larger nets, and told otherwise.
use Rattle.std.proofs.Common.{◌≡◌, ℕ, ◌+◌, ◌≤◌, Bool, true, ℤ, pos, List, refl, sym, ◌∙◌, ap, subst, arith, Option, Some, None, IfSome, is_some}
use Rattle.c_core.specs.Tree.{Program}
use Rattle.c_core.specs.declared.number.DataModel.{DataModel}
use Rattle.c_core.specs.declared.number.IntType.{IntType}
use Rattle.c_meaning.specs.Value.{and_then}
use Rattle.circuits.specs.declared.net.Bit.{Bit}
use Rattle.circuits.specs.declared.net.NetNode.{NetNode}
use Rattle.circuits.specs.Net.{Means, opposite}
use Rattle.circuits.specs.Numbers.{typed, Reads}
use Rattle.circuits.proofs.Nets.{means_by, opp}
use Rattle.sym_state.specs.declared.state.Sym.{Sym}
use Rattle.sym_state.specs.Standing.{Stand, stand, Added, Turned}
use Rattle.sym_state.specs.Following.{IsNumber}
use Rattle.sym_state.proofs.Nets.{in_added, holds_added, typed_added, are_typed_added}
use Rattle.sym_state.proofs.Turning.{turned_then}
use Rattle.sym_values.specs.Valuing.{Reckoned}
use Rattle.sym_invariants.specs.Valued.{Perhaps, IsSeen, Sees, then_value}

-- of each value there is, what follows from what was known
pub some_map : {P Q : ℤ → Type 0} (o : Option ℤ) → ((z : ℤ) → P z → Q z) → IfSome o P → IfSome o Q
some_map None f h = tt
some_map (Some z) f h = f z h

pub void_some : (o : Option ℤ) → IfSome o (λ z. Unit {0})
void_some None = tt
void_some (Some z) = tt

pub means_added : {i j : ℕ} {old new : List NetNode} {b : Bit} {f : (ℕ → Bool) → Bool} → Added i j old new → Means old b f → Means new b f
means_added {b = b} g m = record { inside = in_added g b m.inside; is = λ v. holds_added g v b m.inside ∙ m.is v }

module _ (m : DataModel) where
  -- told by values that are the same
  pub seen_as : {ty : Option IntType} {net : List NetNode} {bits : List Bit} {d : Bit} {f : Perhaps} (g : Perhaps) → IsSeen m ty net bits d f → ((v : ℕ → Bool) → f v ≡ g v) → IsSeen m ty net bits d g
  seen_as {ty} {net} {bits} {d} {f} g x e = record {
    bits_in = x.bits_in;
    defined = means_by net d (λ v. is_some (f v)) (λ v. is_some (g v)) x.defined (λ v. ap is_some (e v));
    is = λ v. subst (λ z. IfSome z (IsNumber m ty net bits v)) (e v) (x.is v);
  }

  -- in a type that is the same
  pub seen_typed : {ty to : Option IntType} {net : List NetNode} {bits : List Bit} {d : Bit} {f : Perhaps} → ty ≡ to → IsSeen m ty net bits d f → IsSeen m to net bits d f
  seen_typed {net = net} {bits = bits} {d = d} {f = f} e x = subst (λ t. IsSeen m t net bits d f) e x

  -- over a larger net
  pub seen_added : {i j : ℕ} {old new : List NetNode} {bits : List Bit} {d : Bit} {f : Perhaps} (ty : Option IntType) → Added i j old new → IsSeen m ty old bits d f → IsSeen m ty new bits d f
  seen_added {f = f} None g x = record { bits_in = tt; defined = means_added g x.defined; is = λ v. void_some (f v) }
  seen_added {bits = bits} {f = f} (Some t) g x = record {
    bits_in = are_typed_added g x.bits_in;
    defined = means_added g x.defined;
    is = λ v. some_map (f v) (λ z e. e ∙ sym (typed_added g m t v bits x.bits_in)) (x.is v);
  }

  pub constant_seen : (ty : IntType) (net : List NetNode) (bits : List Bit) (d : Bit) (z : ℤ) → Reads m ty net bits (λ v. z) → Means net d (λ v. true) → IsSeen m (Some ty) net bits d (λ v. Some z)
  constant_seen ty net bits d z r y = record { bits_in = r.bits_in; defined = y; is = λ v. sym (r.is v) }

  pub nothing_seen : (ty : IntType) (net : List NetNode) (bits : List Bit) (always d : Bit) → Reads m ty net bits (λ v. pos 0) → Means net always (λ v. true) → d ≡ opposite always → IsSeen m (Some ty) net bits d (λ v. None)
  nothing_seen ty net bits always d r y e = record { bits_in = r.bits_in; defined = opp e y; is = λ v. tt }

-- ---- one call after the other
module _ (p : Program) where
  pub turned_after : {i j : ℕ} {a b c : Sym} (n : ℕ) → Turned p i 0 a b (λ v s. s) → Turned p j 0 b c (λ v s. s) → i + j ≤ n → Turned p n 0 a c (λ v s. s)
  turned_after n x y h = turned_then p n 0 x y h (omega arith)

  pub turned_within : {i : ℕ} {a b : Sym} (n : ℕ) → Turned p i 0 a b (λ v s. s) → i ≤ n → Turned p n 0 a b (λ v s. s)
  turned_within n x h = record {
    fits = x.fits;
    added = record { more = x.added.more; is = x.added.is; gates = omega (arith, x.added.gates, h); feeds = x.added.feeds; few = omega (arith, x.added.few, h) };
    level = x.level;
    result = x.result;
    is = x.is;
  }

  pub same_cells : {i : ℕ} {a b : Sym} → Turned p i 0 a b (λ v s. s) → (v : ℕ → Bool) → (stand p v b).cells ≡ (stand p v a).cells
  same_cells x v = ap (λ (s : Stand). s.cells) (x.is v)

  pub sees_within : {i : ℕ} {a b : Sym} {ty : Option IntType} {bits : List Bit} {d : Bit} {f : Perhaps} (n : ℕ) → Sees p i a b ty bits d f → i ≤ n → Sees p n a b ty bits d f
  sees_within n x h = record { turned = turned_within n x.turned h; seen = x.seen }

  some_then : (o : Option ℤ) (h : ℤ → ℤ) → is_some o ≡ is_some (and_then o (λ z. Some (h z)))
  some_then None h = refl
  some_then (Some z) h = refl

  number_then : (o : Option ℤ) (h : ℤ → ℤ) (t u : ℤ) → IfSome o (λ z. z ≡ t) → h t ≡ u → IfSome (and_then o (λ z. Some (h z))) (λ w. w ≡ u)
  number_then None h t u e q = tt
  number_then (Some z) h t u e q = ap h e ∙ q

  -- another number, made of the bits
  pub reckoned_sees : {k : ℕ} {a b : Sym} {xs rs : List Bit} {d : Bit} {f : Perhaps} (from to : IntType) (h : ℤ → ℤ) → IsSeen p.model (Some from) a.net xs d f → Reckoned p k a b to rs (λ v. h (typed p.model from v a.net xs))
      → Sees p k a b (Some to) rs d (then_value f (λ z. Some (h z)))
  reckoned_sees {a = a} {b = b} {xs = xs} {d = d} {f = f} from to h x r = record {
    turned = r.turned;
    seen = record {
      bits_in = r.bits_in;
      defined = means_by b.net d (λ v. is_some (f v)) (λ v. is_some (and_then (f v) (λ z. Some (h z)))) (means_added r.turned.added x.defined) (λ v. some_then (f v) h);
      is = λ v. number_then (f v) h (typed p.model from v a.net xs) _ (x.is v) (sym (r.is v));
    };
  }
