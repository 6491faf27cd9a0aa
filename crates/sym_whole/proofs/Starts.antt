-- The state from which each run sets out.
use Rattle.std.proofs.Common.{◌≡◌, ℕ, zero, suc, ◌+◌, ◌<◌, Bool, true, false, cond, ℤ, pos, List, [], ◌∷◌, ◌++◌, length, map, drop, replicate, slice_get, unwrap_or, IsTrue, refl, sym, ◌∙◌, ap, ap₂, subst, arith, append-nil, append_assoc, length-append}
use Rattle.std.proofs.Math.ListN.{set}
use Rattle.std.specs.List.{All}
use Rattle.std.specs.declared.vec.Vec.{Vec}
use Rattle.std.specs.declared.alloc.Global.{Global}
use Rattle.std.proofs.lemmas.List.Elements.{All-head, All-tail, All-cons, All-nil}
use Rattle.c_core.specs.Tree.{Program}
use Rattle.c_core.specs.Types.{in_range}
use Rattle.c_core.specs.Program.{IsProgram}
use Rattle.c_core.specs.declared.number.IntType.TheVariants.{Int}
use Rattle.c_core.specs.declared.tree.Object.{Object}
use Rattle.c_meaning.specs.Cells.{Cell, cells_from}
use Rattle.c_meaning.specs.Fitting.{IsFittingCell, FitCells}
use Rattle.c_meaning.specs.Objects.{type_of_object}
use Rattle.c_meaning.specs.Run.{static_cells, first_cells, start_values}
use Rattle.c_meaning.proofs.FittingCells.{nought_fits, first_fit}
use Rattle.run_state.proofs.Taking.{cells_more, next_cell}
use Rattle.circuits.specs.declared.net.Bit.{Bit}
use Rattle.circuits.specs.declared.net.NetNode.{NetNode}
use Rattle.circuits.specs.declared.net.NetNode.TheVariants.{Constant}
use Rattle.circuits.specs.declared.bits.Bits.{Bits}
use Rattle.circuits.specs.Net.{holds, opposite, IsIn, Means, count_ands, count_inputs}
use Rattle.circuits.specs.Numbers.{AreIn, Reads}
use Rattle.circuits.proofs.Nets.{count_ands-append, inputs-append}
use Rattle.sym_state.specs.declared.state.Sym.{Sym}
use Rattle.sym_state.specs.declared.state.SymCell.{SymCell}
use Rattle.sym_state.specs.declared.state.DrawSite.{DrawSite}
use Rattle.sym_state.specs.Places.{key}
use Rattle.sym_state.specs.Standing.{stand, cell_at, draws_at, IsCell, IsState, marks}
use Rattle.sym_flow.specs.Ways.{Became}
use Rattle.sym_flow.proofs.Around.{same_became}
use Rattle.sym_flow.proofs.Becoming.{became_then, became_as, never_means}
use Rattle.sym_whole.specs.Starting.{at_start, with_more, IsFirst}

-- ---- lists of cells
all_front : {A : Type 0} (P : A → Type 0) (xs ys : List A) → All P (xs ++ ys) → All P xs
all_front P [] ys h = All-nil P
all_front P (x ∷ xs) ys h = All-cons P x xs (All-head P x (xs ++ ys) h) (all_front P xs ys (All-tail P x (xs ++ ys) h))

all_back : {A : Type 0} (P : A → Type 0) (xs ys : List A) → All P (xs ++ ys) → All P ys
all_back P [] ys h = h
all_back P (x ∷ xs) ys h = all_back P xs ys (All-tail P x (xs ++ ys) h)

-- ---- bits before all events
all_dead : (net : List NetNode) (b : Bit) (n : ℕ) → IsIn net b → AreIn net (replicate n b)
all_dead net b zero h = All-nil (λ b. IsIn net b)
all_dead net b (suc n) h = All-cons (λ b. IsIn net b) b (replicate n b) h (all_dead net b n h)

all_false : (f : Bit → Bool) (b : Bit) (n : ℕ) → f b ≡ false → map f (replicate n b) ≡ replicate n false
all_false f b zero e = refl
all_false f b (suc n) e = ap₂ (λ x xs. x ∷ xs) e (all_false f b n e)

-- a first bit, and others
abbrev first_bits : Bit → Bit → ℕ → List Bit
first_bits here never zero = []
first_bits here never (suc n) = here ∷ replicate n never

none_marked : (f : Bit → Bool) (b : Bit) (n : ℕ) → f b ≡ false → map f (replicate n b) ≡ marks 0 n
none_marked f b zero e = refl
none_marked f b (suc n) e = ap (λ z. z ∷ map f (replicate n b)) e ∙ ap (λ z. false ∷ z) (none_marked f b n e)

-- of this many segments none is completed: the first bit is true, and all others are false
none_before : (net : List NetNode) (n : ℕ) (here never : Bit) (bits : List Bit) → Means net here (λ v. true) → Means net never (λ v. false) → bits ≡ first_bits here never n
    → AreIn net bits × ((v : ℕ → Bool) → map (holds v net) bits ≡ at_start n)
none_before net zero here never bits h m e = rw e (All-nil (λ b. IsIn net b), λ v. refl)
none_before net (suc n) here never bits h m e =
    rw e (
      All-cons (λ b. IsIn net b) here (replicate n never) h.inside (all_dead net never n m.inside),
      λ v. ap₂ (λ x xs. x ∷ xs) (h.is v) (all_false (holds v net) never n (m.is v)),
    )

no_bits : (here never : Bit) (n : ℕ) → n ≡ 0 → replicate n never ≡ first_bits here never n
no_bits here never zero e = refl
no_bits here never (suc n) e = absurd (omega (arith, e))

first_set : (here never : Bit) (n : ℕ) → (n ≡ 0 → ⊥) → set (replicate n never) 0 here ≡ first_bits here never n
first_set here never zero h = absurd (h refl)
first_set here never (suc n) h = refl

-- here: a bit that is always true; bits: as many as there are segments, all its opposite
module _ (net : List NetNode) (n : ℕ) (here never : Bit) (bits : List Bit) (h : Means net here (λ v. true)) (o : never ≡ opposite here) (all : bits ≡ replicate n never) where
  pub no_segment : n ≡ 0 → AreIn net bits × ((v : ℕ → Bool) → map (holds v net) bits ≡ at_start n)
  no_segment e = none_before net n here never bits h (never_means net here never h o) (all ∙ no_bits here never n e)

  pub some_segment : (n ≡ 0 → ⊥) → AreIn net (set bits 0 here) × ((v : ℕ → Bool) → map (holds v net) (set bits 0 here) ≡ at_start n)
  some_segment e = none_before net n here never (set bits 0 here) h (never_means net here never h o) (ap (λ z. set z 0 here) all ∙ first_set here never n e)

one_constant : (net : List NetNode) → net ≡ Constant true ∷ [] → (count_ands net ≡ 0) × (count_inputs net ≡ 0)
unfolding count_ands count_inputs
one_constant net e = (ap count_ands e, ap count_inputs e)

module _ (p : Program) where
  -- each value fits
  pub value_fits : (o n j i : ℕ) (vs : List ℤ) → FitCells p (cells_from o j n vs) → i < n → IsTrue (in_range p.model (type_of_object p o) (unwrap_or (slice_get vs i) (pos 0)))
  value_fits o zero j i vs h l = absurd (omega (arith, l))
  value_fits o (suc n) j i [] h l = nought_fits p.model (type_of_object p o)
  value_fits o (suc n) j zero (v ∷ vs) h l = All-head (IsFittingCell p) _ (cells_from o (suc j) n vs) h
  value_fits o (suc n) j (suc i) (v ∷ vs) h l = value_fits o n (suc j) i vs (All-tail (IsFittingCell p) _ (cells_from o (suc j) n vs) h) (omega (arith, l))

  -- no cell, and one more
  pub none_more : (s : Sym) → IsState p s → Became p 0 s s (λ v. with_more [])
  none_more s h = became_as p (λ v. with_more []) (same_became p s h) (λ v i. record (stand p v s) { cells = sym (append-nil (stand p v s).cells) i })

  pub more_then : {a b c : Sym} (xs ys zs : List Cell) → xs ++ ys ≡ zs → Became p 0 a b (λ v. with_more xs) → Became p 0 b c (λ v. with_more ys) → Became p 0 a c (λ v. with_more zs)
  more_then {a} {b} {c} xs ys zs e x y =
      became_as p (λ v. with_more zs) (became_then p 0 x y (omega arith))
      (λ v. let q : ((stand p v a).cells ++ xs) ++ ys ≡ (stand p v a).cells ++ zs = append_assoc (stand p v a).cells xs ys ∙ ap (λ z. (stand p v a).cells ++ z) e in λ i. record (stand p v a) { cells = q i })

  pub value_next : (o n : ℕ) (vs : List ℤ) (z : ℤ) → z ≡ unwrap_or (slice_get vs n) (pos 0) → cells_from o 0 n vs ++ record { key = key o n; value = z } ∷ [] ≡ cells_from o 0 (n + 1) vs
  value_next o n vs z h =
      let front : 0 + n ≡ n = omega arith in
      let more : suc n ≡ n + 1 = omega arith in
      ap (λ t. cells_from o 0 n vs ++ t) (sym (next_cell o n vs z h)) ∙ ap (λ k. cells_from o 0 n vs ++ cells_from o k 1 (drop n vs)) (sym front) ∙ sym (cells_more o 0 n vs) ∙ ap (λ k. cells_from o 0 k vs) more

  -- an object without static storage
  pub not_static : (s : Sym) (b : Bool) (cs : List Cell) → b ≡ false → IsState p s → Became p 0 s s (λ v. with_more (cond b cs []))
  not_static s b cs e h = subst (λ t. Became p 0 s s (λ v. with_more (cond t cs []))) (sym e) (none_more s h)

  -- ---- objects
  -- held: the cells of the objects before number i
  pub record Held (i : ℕ) (a s : Sym) : Type 0 where
    pub cells : List Cell
    pub is : Became p 0 a s (λ v. with_more cells)
    pub left : cells ++ static_cells p.starts i (drop i p.objects) ≡ first_cells p

  pub none_held : (a : Sym) → IsState p a → Held 0 a a
  none_held a h = record { cells = []; is = none_more a h; left = refl }

  abbrev pub cells_of_one : ℕ → Object → List Cell
  cells_of_one i x = cond x.fixed (cells_from i 0 x.cells (start_values i p.starts)) []

  module _ (h : IsProgram p) (i : ℕ) (x : Object) (d : drop i p.objects ≡ x ∷ drop (suc i) p.objects) where
    pub one_fits : {a s : Sym} → Held i a s → FitCells p (cells_of_one i x)
    one_fits g =
        let all : g.cells ++ (cells_of_one i x ++ static_cells p.starts (suc i) (drop (suc i) p.objects)) ≡ first_cells p = ap (λ os. g.cells ++ static_cells p.starts i os) (sym d) ∙ g.left in
        all_front (IsFittingCell p) (cells_of_one i x) (static_cells p.starts (suc i) (drop (suc i) p.objects)) (all_back (IsFittingCell p) g.cells (cells_of_one i x ++ static_cells p.starts (suc i) (drop (suc i) p.objects)) (subst (FitCells p) (sym all) (first_fit p h)))

    pub one_held : {a s t : Sym} → Held i a s → Became p 0 s t (λ v. with_more (cells_of_one i x)) → Held (suc i) a t
    one_held g y = record {
      cells = g.cells ++ cells_of_one i x;
      is = more_then g.cells (cells_of_one i x) (g.cells ++ cells_of_one i x) refl g.is y;
      left = append_assoc g.cells (cells_of_one i x) (static_cells p.starts (suc i) (drop (suc i) p.objects)) ∙ ap (λ os. g.cells ++ static_cells p.starts i os) (sym d) ∙ g.left;
    }

  pub all_held : {a s : Sym} (i : ℕ) → drop i p.objects ≡ [] → Held i a s → Became p 0 a s (λ v. with_more (first_cells p))
  all_held i d g =
      let e : g.cells ≡ first_cells p = sym (append-nil g.cells) ∙ ap (λ os. g.cells ++ static_cells p.starts i os) (sym d) ∙ g.left in
      subst (λ z. Became p 0 _ _ (λ v. with_more z)) e g.is

  -- ---- the first state
  -- without cells
  pub bare_state : (net : List NetNode) (here never : Bit) (given : Bits) (failing completed : Vec Bit Global) (cells : Vec SymCell Global) (sites : Vec DrawSite Global) (n k : ℕ) → net ≡ Constant true ∷ [] → Means net here (λ v. true) → Means net never (λ v. false)
      → Reads p.model Int net given.bits (λ v. pos 0) → failing.items ≡ replicate n never → AreIn net completed.items × ((v : ℕ → Bool) → map (holds v net) completed.items ≡ at_start k) → cells.items ≡ [] → sites.items ≡ []
      → IsState p (record { net = net; live = here; broken = never; again = never; gave = never; result = Int; given = given; failing = failing; completed = completed; cells = cells; sites = sites })
  bare_state net here never given failing completed cells sites n k e l m g f o c s = record {
    live = l.inside;
    broken = m.inside;
    again = m.inside;
    gave = m.inside;
    given = g.bits_in;
    failing = rw f (all_dead net never n m.inside);
    completed = o.0;
    cells = rw c (All-nil (IsCell p net));
    sites = rw (s, (one_constant net e).1) refl;
  }

  pub first_is : (s0 s : Sym) (n k : ℕ) → s0.net ≡ Constant true ∷ [] → Means s0.net s0.live (λ v. true) → Means s0.net s0.broken (λ v. false) → s0.again ≡ s0.broken → s0.gave ≡ s0.broken → s0.failing.items ≡ replicate n s0.broken → AreIn s0.net s0.completed.items × ((v : ℕ → Bool) → map (holds v s0.net) s0.completed.items ≡ at_start k) → s0.cells.items ≡ [] → s0.sites.items ≡ []
      → Became p 0 s0 s (λ v. with_more (first_cells p)) → IsFirst p n k s
  first_is s0 s n k e l m a g f o c d x =
      let none = one_constant s0.net e in
      record {
        fits = x.fits;
        start = λ ds many. record {
          here = λ v. record {
            live = ap (λ z. z.live) (x.is v) ∙ l.is v;
            broken = ap (λ z. z.broken) (x.is v) ∙ m.is v;
            again = ap (λ z. z.again) (x.is v) ∙ ap (holds v s0.net) a ∙ m.is v;
            gave = ap (λ z. z.gave) (x.is v) ∙ ap (holds v s0.net) g ∙ m.is v;
            failing = ap (λ z. z.failing) (x.is v) ∙ ap (map (holds v s0.net)) f ∙ none_marked (holds v s0.net) s0.broken n (m.is v) ∙ ap (marks 0) (sym many);
          };
          cells = λ v. ap (λ z. z.cells) (x.is v) ∙ ap (λ z. map (cell_at p v s0.net) z ++ first_cells p) c;
          draws = λ v. ap (λ z. z.draws) (x.is v) ∙ ap (draws_at p v s0.net) d;
          completed = λ v. ap (λ z. z.completed) (x.is v) ∙ o.1 v;
        };
        no_gates = omega (arith, ap count_ands x.added.is, count_ands-append s0.net x.added.more, none.0, x.added.gates);
        no_inputs = omega (arith, ap count_inputs x.added.is, inputs-append s0.net x.added.more, none.1, x.added.feeds);
        one_node = omega (arith, ap length x.added.is, length-append s0.net x.added.more, ap length e, x.added.few);
      }
