-- A net with more nodes: bits keep their values, and so does a state over them.
use Rattle.std.proofs.Common.{◌≡◌, ℕ, ◌+◌, ◌*◌, ◌≤◌, Bool, List, [], ◌∷◌, ◌++◌, length, map, refl, sym, ◌∙◌, ap, ap₂, subst, arith, length-append, append_assoc, append-nil}
use Rattle.std.specs.List.{All}
use Rattle.std.specs.declared.vec.Vec.{Vec}
use Rattle.std.specs.declared.alloc.Global.{Global}
use Rattle.std.proofs.lemmas.List.Elements.{All-head, All-tail, All-cons, All-nil}
use Rattle.c_core.specs.Tree.{Program}
use Rattle.c_core.specs.Types.{width_of, is_signed}
use Rattle.c_core.specs.declared.number.DataModel.{DataModel}
use Rattle.c_core.specs.declared.number.IntType.{IntType}
use Rattle.c_meaning.specs.Objects.{type_of_object}
use Rattle.circuits.specs.declared.net.Bit.{Bit}
use Rattle.circuits.specs.declared.net.NetNode.{NetNode}
use Rattle.circuits.specs.declared.net.NetNode.TheVariants.{Constant, Input, And}
use Rattle.circuits.specs.Net.{holds, IsIn, Grown, count_ands, count_inputs}
use Rattle.circuits.specs.Numbers.{number, digit, read, typed, AreIn, AreTyped, Counts}
use Rattle.circuits.proofs.Nets.{holds-append, count_ands-append, inputs-append}
use Rattle.sym_state.specs.declared.state.Sym.{Sym}
use Rattle.sym_state.specs.declared.state.SymCell.{SymCell}
use Rattle.sym_state.specs.declared.state.DrawSite.{DrawSite}
use Rattle.sym_state.specs.Standing.{stand, cell_at, key_of, draws_at, IsCell, IsSite, AreSites, IsState, Added}

pub added_then : {i j k l : ℕ} {a b c : List NetNode} (m n : ℕ) → Added i j a b → Added k l b c → i + k ≤ m → j + l ≤ n → Added m n a c
added_then {i} {j} {k} {l} {a} {b} {c} m n x y h g = record {
  more = x.more ++ y.more;
  is = y.is ∙ ap (λ z. z ++ y.more) x.is ∙ append_assoc a x.more y.more;
  gates = omega (arith, count_ands-append x.more y.more, x.gates, y.gates);
  feeds = omega (arith, inputs-append x.more y.more, x.feeds, y.feeds);
  few = omega (arith, length-append x.more y.more, x.few, y.few);
}

pub counts_few : (ns : List NetNode) → count_ands ns + count_inputs ns ≤ length ns
unfolding count_ands count_inputs
counts_few [] = omega arith
counts_few (Constant c ∷ ns) = omega (arith, counts_few ns)
counts_few (Input k ∷ ns) = omega (arith, counts_few ns)
counts_few (And a b ∷ ns) = omega (arith, counts_few ns)

-- a circuit adds no inputs
pub added_of : {k : ℕ} {a b : List NetNode} → Grown k a b → Added k 0 a b
added_of {k} {a} {b} g = record {
  more = g.more;
  is = g.is;
  gates = omega (arith, g.gates, g.few);
  feeds = omega (arith, g.gates, counts_few g.more);
  few = omega (arith, g.few);
}

-- nothing
pub unchanged : (k : ℕ) (net : List NetNode) → Added k 0 net net
unfolding count_ands count_inputs
unchanged k net = record { more = []; is = sym (append-nil net); gates = omega arith; feeds = omega arith; few = omega arith }

inputs_kept : {k : ℕ} {a b : List NetNode} → Grown k a b → count_inputs b ≡ count_inputs a
inputs_kept {k} {a} {b} g = omega (arith, ap count_inputs g.is, inputs-append a g.more, g.gates, counts_few g.more)

-- how long the larger net is at most
pub longer_by : {i j : ℕ} {a b : List NetNode} → Added i j a b → (length a ≤ length b) × (length b ≤ length a + (i + j))
longer_by {i} {j} {a} {b} g = (omega (arith, ap length g.is, length-append a g.more), omega (arith, ap length g.is, length-append a g.more, g.few))

module _ {i j : ℕ} {old new : List NetNode} (g : Added i j old new) where
  pub in_added : (b : Bit) → IsIn old b → IsIn new b
  in_added b h = omega (arith, h, ap length g.is, length-append old g.more)

  pub holds_added : (v : ℕ → Bool) (b : Bit) → IsIn old b → holds v new b ≡ holds v old b
  holds_added v b h = rw g.is (holds-append v old g.more b h)

  pub all_added : (bs : List Bit) → AreIn old bs → AreIn new bs
  all_added [] h = All-nil (λ b. IsIn new b)
  all_added (b ∷ bs) h = All-cons (λ b. IsIn new b) b bs (in_added b (All-head (λ b. IsIn old b) b bs h)) (all_added bs (All-tail (λ b. IsIn old b) b bs h))

  pub number_added : (v : ℕ → Bool) (bs : List Bit) → AreIn old bs → number v new bs ≡ number v old bs
  unfolding number
  number_added v [] h = refl
  number_added v (b ∷ bs) h = ap₂ (λ x y. digit x + 2 * y) (holds_added v b (All-head (λ b. IsIn old b) b bs h)) (number_added v bs (All-tail (λ b. IsIn old b) b bs h))

  pub typed_added : (m : DataModel) (ty : IntType) (v : ℕ → Bool) (bs : List Bit) → AreTyped m ty old bs → typed m ty v new bs ≡ typed m ty v old bs
  typed_added m ty v bs h = ap (read (width_of m ty) (is_signed ty)) (number_added v bs h.inside)

  pub are_typed_added : {m : DataModel} {ty : IntType} {bs : List Bit} → AreTyped m ty old bs → AreTyped m ty new bs
  are_typed_added {bs = bs} h = record { inside = all_added bs h.inside; wide = h.wide }

  counts_added : {bs : List Bit} {n : ℕ} {f : (ℕ → Bool) → ℕ} → Counts old bs n f → Counts new bs n f
  counts_added {bs} h = record { inside = all_added bs h.inside; wide = h.wide; is = λ v. number_added v bs h.inside ∙ h.is v }

  all_held : (v : ℕ → Bool) (bs : List Bit) → AreIn old bs → map (holds v new) bs ≡ map (holds v old) bs
  all_held v [] h = refl
  all_held v (b ∷ bs) h = ap₂ (λ x y. x ∷ y) (holds_added v b (All-head (λ b. IsIn old b) b bs h)) (all_held v bs (All-tail (λ b. IsIn old b) b bs h))

  site_added : {m : DataModel} {base : ℕ} {d : DrawSite} → IsSite m old base d → IsSite m new base d
  site_added h = record {
    before = h.before;
    after = h.after ++ g.more;
    is = g.is ∙ ap (λ z. z ++ g.more) h.is ∙ append_assoc h.before h.after g.more;
    live = h.live;
    inputs = h.inputs;
    bits = counts_added h.bits;
  }

  site_live : {m : DataModel} {base : ℕ} {d : DrawSite} → IsSite m old base d → IsIn old d.live
  site_live {d = d} h = omega (arith, h.live, ap length h.is, length-append h.before h.after)

  site_bits : {m : DataModel} {base : ℕ} {d : DrawSite} → IsSite m old base d → AreTyped m d.ty old d.bits.bits
  site_bits h = record { inside = h.bits.inside; wide = h.bits.wide }

  pub sites_added : (m : DataModel) (base top : ℕ) (ds : List DrawSite) → AreSites m old base ds top → AreSites m new base ds top
  sites_added m base top [] h = h
  sites_added m base top (d ∷ ds) h = (site_added h.0, sites_added m (base + width_of m d.ty) top ds h.1)

  module _ (p : Program) where
    cells_held : (v : ℕ → Bool) (cs : List SymCell) → All (IsCell p old) cs → map (cell_at p v new) cs ≡ map (cell_at p v old) cs
    cells_held v [] h = refl
    cells_held v (c ∷ cs) h =
        ap₂ (λ x y. x ∷ y) (ap (λ z. record { key = key_of c; value = z }) (typed_added p.model (type_of_object p c.object) v c.bits.bits (All-head (IsCell p old) c cs h)))
        (cells_held v cs (All-tail (IsCell p old) c cs h))

    cells_in : (cs : List SymCell) → All (IsCell p old) cs → All (IsCell p new) cs
    cells_in [] h = All-nil (IsCell p new)
    cells_in (c ∷ cs) h = All-cons (IsCell p new) c cs (are_typed_added (All-head (IsCell p old) c cs h)) (cells_in cs (All-tail (IsCell p old) c cs h))

    draws_held : (v : ℕ → Bool) (base top : ℕ) (ds : List DrawSite) → AreSites p.model old base ds top → draws_at p v new ds ≡ draws_at p v old ds
    draws_held v base top [] h = refl
    draws_held v base top (d ∷ ds) h =
        rw (holds_added v d.live (site_live h.0), typed_added p.model d.ty v d.bits.bits (site_bits h.0), draws_held v (base + width_of p.model d.ty) top ds h.1) refl

module _ {i j : ℕ} {s : Sym} {new : List NetNode} (g : Added i j s.net new) (p : Program) where
  -- a state over a larger net, with sites for its inputs
  pub state_sited : (sites : Vec DrawSite Global) → IsState p s → AreSites p.model new 0 sites.items (count_inputs new) → IsState p (record s { net = new; sites = sites })
  state_sited sites h t = record {
    live = in_added g s.live h.live;
    broken = in_added g s.broken h.broken;
    again = in_added g s.again h.again;
    gave = in_added g s.gave h.gave;
    given = are_typed_added g h.given;
    failing = all_added g s.failing.items h.failing;
    completed = all_added g s.completed.items h.completed;
    cells = cells_in g p s.cells.items h.cells;
    sites = t;
  }

  -- the same with the sites that it has, where there are no more inputs
  pub state_added : IsState p s → count_inputs new ≡ count_inputs s.net → IsState p (record s { net = new })
  state_added h e = state_sited s.sites h (subst (AreSites p.model new 0 s.sites.items) (sym e) (sites_added g p.model 0 (count_inputs s.net) s.sites.items h.sites))

  pub stand_added : (v : ℕ → Bool) → IsState p s → stand p v (record s { net = new }) ≡ stand p v s
  stand_added v h = λ i. record {
    live = holds_added g v s.live h.live i;
    broken = holds_added g v s.broken h.broken i;
    again = holds_added g v s.again h.again i;
    gave = holds_added g v s.gave h.gave i;
    given = typed_added g p.model s.result v s.given.bits h.given i;
    failing = all_held g v s.failing.items h.failing i;
    completed = all_held g v s.completed.items h.completed i;
    cells = cells_held g p v s.cells.items h.cells i;
    draws = draws_held g p v 0 (count_inputs s.net) s.sites.items h.sites i;
  }

-- a state over a net that a circuit grew
pub state_grown : {k : ℕ} {s : Sym} {new : List NetNode} (p : Program) → Grown k s.net new → IsState p s → IsState p (record s { net = new })
state_grown p g h = state_added (added_of g) p h (inputs_kept g)

pub stand_grown : {k : ℕ} {s : Sym} {new : List NetNode} (p : Program) (v : ℕ → Bool) → Grown k s.net new → IsState p s → stand p v (record s { net = new }) ≡ stand p v s
stand_grown p v g h = stand_added (added_of g) p v h

-- one more site, behind the inputs of all others
pub sites_snoc : (m : DataModel) (net : List NetNode) (base top end : ℕ) (ds : List DrawSite) (d : DrawSite) → AreSites m net base ds top → IsSite m net top d → end ≡ top + width_of m d.ty
    → AreSites m net base (ds ++ d ∷ []) end
sites_snoc m net base top end [] d h s e = (subst (λ b. IsSite m net b d) (sym h) s, ap (λ b. b + width_of m d.ty) h ∙ sym e)
sites_snoc m net base top end (x ∷ xs) d h s e = (h.0, sites_snoc m net (base + width_of m x.ty) top end xs d h.1 s e)
