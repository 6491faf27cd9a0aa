-- What calls of the code make of a state.
use Rattle.std.proofs.Common.{◌≡◌, ℕ, zero, suc, ◌+◌, ◌*◌, ◌≤◌, Bool, true, false, cond, not, ◌&&◌, ◌||◌, List, [], ◌∷◌, length, map, take, refl, sym, ◌∙◌, ap, subst, arith}
use Rattle.std.specs.List.{All}
use Rattle.std.specs.declared.vec.Vec.{Vec}
use Rattle.std.specs.declared.alloc.Global.{Global}
use Rattle.std.proofs.lemmas.List.Elements.{All-head, All-tail, All-cons, All-nil}
use Rattle.c_core.specs.Tree.{Program}
use Rattle.c_core.specs.Types.{width_of, is_signed}
use Rattle.c_core.specs.declared.number.IntType.{IntType}
use Rattle.circuits.specs.declared.net.Bit.{Bit}
use Rattle.circuits.specs.declared.net.NetNode.{NetNode}
use Rattle.circuits.specs.declared.bits.Bits.{Bits}
use Rattle.circuits.specs.Net.{holds, Grown, Means, IsIn, opposite}
use Rattle.circuits.specs.Numbers.{number, read, typed, AreTyped, Counts}
use Rattle.circuits.proofs.Nets.{grown_not, own, opp, and_of, means_by}
use Rattle.sym_state.specs.declared.state.Sym.{Sym}
use Rattle.sym_state.specs.declared.state.SymCell.{SymCell}
use Rattle.sym_state.specs.Standing.{Stand, stand, cell_at, IsCell, IsState, Added}
use Rattle.sym_state.proofs.Nets.{added_of, added_then, holds_added, typed_added, in_added, state_grown, stand_grown}
use Rattle.sym_flow.specs.Ways.{Became, cut_to, fresh_again, fresh_broken, behind_body, behind_loop, leaving, going_again, going_back, giving}

pub never_means : (net : List NetNode) (always r : Bit) → Means net always (λ v. true) → r ≡ opposite always → Means net r (λ v. false)
never_means net always r m e = opp e m

-- the bits that are changed, over a net that grew, and what they are
pub record Changed (p : Program) (s : Sym) (net : List NetNode) (live broken again gave : Bit) (given : Bits) (cells : List SymCell) (f : (ℕ → Bool) → Stand → Stand) : Type 0 where
  pub live_is : Means net live (λ v. (f v (stand p v s)).live)
  pub broken_is : Means net broken (λ v. (f v (stand p v s)).broken)
  pub again_is : Means net again (λ v. (f v (stand p v s)).again)
  pub gave_is : Means net gave (λ v. (f v (stand p v s)).gave)
  pub given_in : AreTyped p.model s.result net given.bits
  pub given_is : (v : ℕ → Bool) → typed p.model s.result v net given.bits ≡ (f v (stand p v s)).given
  pub cells_in : All (IsCell p net) cells
  pub cells_are : (v : ℕ → Bool) → map (cell_at p v net) cells ≡ (f v (stand p v s)).cells
  pub failing : (v : ℕ → Bool) → (f v (stand p v s)).failing ≡ (stand p v s).failing
  pub draws : (v : ℕ → Bool) → (f v (stand p v s)).draws ≡ (stand p v s).draws
  pub completed : (v : ℕ → Bool) → (f v (stand p v s)).completed ≡ (stand p v s).completed

module _ (p : Program) where
  pub became : {k : ℕ} (s : Sym) (net : List NetNode) (live broken again gave : Bit) (given : Bits) (cells : Vec SymCell Global) (f : (ℕ → Bool) → Stand → Stand) → IsState p s → Grown k s.net net
      → Changed p s net live broken again gave given cells.items f → Became p k s (record s { net = net; live = live; broken = broken; again = again; gave = gave; given = given; cells = cells }) f
  became s net live broken again gave given cells f h g c =
      let w = state_grown p g h in
      record {
        fits = record { live = c.live_is.inside; broken = c.broken_is.inside; again = c.again_is.inside; gave = c.gave_is.inside; given = c.given_in; failing = w.failing; completed = w.completed; cells = c.cells_in; sites = w.sites };
        added = added_of g;
        result = refl;
        is = λ v.
            let q = stand_grown p v g h in
            let failing = ap (λ z. z.failing) q ∙ sym (c.failing v) in
            let draws = ap (λ z. z.draws) q ∙ sym (c.draws v) in
            let completed = ap (λ z. z.completed) q ∙ sym (c.completed v) in
            λ i. record { live = c.live_is.is v i; broken = c.broken_is.is v i; again = c.again_is.is v i; gave = c.gave_is.is v i; given = c.given_is v i; failing = failing i; completed = completed i; cells = c.cells_are v i; draws = draws i };
      }

  pub became_then : {i k : ℕ} {a b c : Sym} {f g : (ℕ → Bool) → Stand → Stand} (n : ℕ) → Became p i a b f → Became p k b c g → i + k ≤ n → Became p n a c (λ v s. g v (f v s))
  became_then {g = g} n x y h = record { fits = y.fits; added = added_then n 0 x.added y.added h (omega arith); result = y.result ∙ x.result; is = λ v. y.is v ∙ ap (g v) (x.is v) }

  pub became_as : {i : ℕ} {a b : Sym} {f : (ℕ → Bool) → Stand → Stand} (g : (ℕ → Bool) → Stand → Stand) → Became p i a b f → ((v : ℕ → Bool) → f v (stand p v a) ≡ g v (stand p v a)) → Became p i a b g
  became_as g x e = record { fits = x.fits; added = x.added; result = x.result; is = λ v. x.is v ∙ e v }

  -- what stands as it did
  module _ {k : ℕ} (s : Sym) (net : List NetNode) (h : IsState p s) (g : Grown k s.net net) where
    pub still : (b : Bit) → IsIn s.net b → Means net b (λ v. holds v s.net b)
    still b i = record { inside = in_added (added_of g) b i; is = λ v. holds_added (added_of g) v b i }

    pub still_given : (v : ℕ → Bool) → typed p.model s.result v net s.given.bits ≡ (stand p v s).given
    still_given v = typed_added (added_of g) p.model s.result v s.given.bits h.given

    pub still_cells : (v : ℕ → Bool) → map (cell_at p v net) s.cells.items ≡ (stand p v s).cells
    still_cells v = ap (λ z. z.cells) (stand_grown p v g h)

  -- ---- ways out
  pub leaving_became : (s : Sym) (net : List NetNode) (out dead : Bit) → IsState p s → Grown 1 s.net net → Means net out (λ v. holds v s.net s.broken || holds v s.net s.live) → Means net dead (λ v. false)
      → Became p 1 s (record s { net = net; broken = out; live = dead }) (λ v. leaving)
  leaving_became s net out dead h g m n =
      became s net dead out s.again s.gave s.given s.cells (λ v. leaving) h g
      (record { live_is = n; broken_is = m; again_is = still s net h g s.again h.again; gave_is = still s net h g s.gave h.gave; given_in = (state_grown p g h).given; given_is = still_given s net h g; cells_in = (state_grown p g h).cells; cells_are = still_cells s net h g; failing = λ v. refl; draws = λ v. refl; completed = λ v. refl })

  pub again_became : (s : Sym) (net : List NetNode) (on dead : Bit) → IsState p s → Grown 1 s.net net → Means net on (λ v. holds v s.net s.again || holds v s.net s.live) → Means net dead (λ v. false)
      → Became p 1 s (record s { net = net; again = on; live = dead }) (λ v. going_again)
  again_became s net on dead h g m n =
      became s net dead s.broken on s.gave s.given s.cells (λ v. going_again) h g
      (record { live_is = n; broken_is = still s net h g s.broken h.broken; again_is = m; gave_is = still s net h g s.gave h.gave; given_in = (state_grown p g h).given; given_is = still_given s net h g; cells_in = (state_grown p g h).cells; cells_are = still_cells s net h g; failing = λ v. refl; draws = λ v. refl; completed = λ v. refl })

  pub back_became : (s : Sym) (net : List NetNode) (back dead : Bit) → IsState p s → Grown 1 s.net net → Means net back (λ v. holds v s.net s.gave || holds v s.net s.live) → Means net dead (λ v. false)
      → Became p 1 s (record s { net = net; gave = back; live = dead }) (λ v. going_back)
  back_became s net back dead h g m n =
      became s net dead s.broken s.again back s.given s.cells (λ v. going_back) h g
      (record { live_is = n; broken_is = still s net h g s.broken h.broken; again_is = still s net h g s.again h.again; gave_is = m; given_in = (state_grown p g h).given; given_is = still_given s net h g; cells_in = (state_grown p g h).cells; cells_are = still_cells s net h g; failing = λ v. refl; draws = λ v. refl; completed = λ v. refl })

  either_read : (w : ℕ) (s t : Bool) (x y : ℕ) → read w s (cond t x y) ≡ cond t (read w s x) (read w s y)
  either_read w s true x y = refl
  either_read w s false x y = refl

  pub chosen_became : (s : Sym) (net : List NetNode) (ty : IntType) (value : List Bit) (given : Bits) → IsState p s → s.result ≡ ty → AreTyped p.model ty s.net value → Grown (4 * length value) s.net net
      → Counts net given.bits (length value) (λ v. cond (holds v s.net s.live) (number v s.net value) (number v s.net s.given.bits))
      → Became p (4 * width_of p.model ty) s (record s { net = net; given = given }) (λ v z. record z { given = cond z.live (typed p.model ty v s.net value) z.given })
  chosen_became s net ty value given h e iv g m =
      let w = width_of p.model ty in
      became s net s.live s.broken s.again s.gave given s.cells (λ v z. record z { given = cond z.live (typed p.model ty v s.net value) z.given }) h (subst (λ n. Grown (4 * n) s.net net) iv.wide g)
      (record {
        live_is = still s net h g s.live h.live;
        broken_is = still s net h g s.broken h.broken;
        again_is = still s net h g s.again h.again;
        gave_is = still s net h g s.gave h.gave;
        given_in = subst (λ t. AreTyped p.model t net given.bits) (sym e) (record { inside = m.inside; wide = m.wide ∙ iv.wide });
        given_is = λ v.
            ap (λ t. typed p.model t v net given.bits) e ∙ ap (read w (is_signed ty)) (m.is v) ∙ either_read w (is_signed ty) (holds v s.net s.live) (number v s.net value) (number v s.net s.given.bits)
            ∙ ap (λ t. cond (holds v s.net s.live) (typed p.model ty v s.net value) (typed p.model t v s.net s.given.bits)) (sym e);
        cells_in = (state_grown p g h).cells;
        cells_are = still_cells s net h g;
        failing = λ v. refl;
        draws = λ v. refl;
        completed = λ v. refl;
      })

  pub giving_became : (s n : Sym) (net : List NetNode) (ty : IntType) (value : List Bit) (given : Bits) → IsState p s → s.result ≡ ty → AreTyped p.model ty s.net value → Grown (4 * length value) s.net net
      → Counts net given.bits (length value) (λ v. cond (holds v s.net s.live) (number v s.net value) (number v s.net s.given.bits))
      → Became p 1 (record s { net = net; given = given }) n (λ v. going_back) → Became p (4 * width_of p.model ty + 1) s n (λ v. giving (typed p.model ty v s.net value))
  giving_became s n net ty value given h e iv g m x = became_then (4 * width_of p.model ty + 1) (chosen_became s net ty value given h e iv g m) x (omega arith)

  -- ---- scopes and loops
  all_front : {A : Type 0} (P : A → Type 0) (n : ℕ) (xs : List A) → All P xs → All P (take n xs)
  all_front P zero xs h = All-nil P
  all_front P (suc n) [] h = All-nil P
  all_front P (suc n) (x ∷ xs) h = All-cons P x (take n xs) (All-head P x xs h) (all_front P n xs (All-tail P x xs h))

  map_front : {A B : Type 0} (f : A → B) (n : ℕ) (xs : List A) → map f (take n xs) ≡ take n (map f xs)
  map_front f zero xs = refl
  map_front f (suc n) [] = refl
  map_front f (suc n) (x ∷ xs) = ap (λ z. f x ∷ z) (map_front f n xs)

  -- the cells of around, over a net that grew
  module _ {k : ℕ} (s : Sym) (net : List NetNode) (h : IsState p s) (g : Grown k s.net net) (n : ℕ) (cells : Vec SymCell Global) (e : cells.items ≡ take n s.cells.items) where
    pub front_in : All (IsCell p net) cells.items
    front_in = rw e (all_front (IsCell p net) n s.cells.items (state_grown p g h).cells)

    pub front_are : (v : ℕ → Bool) → map (cell_at p v net) cells.items ≡ take n (stand p v s).cells
    front_are v = ap (map (cell_at p v net)) e ∙ map_front (cell_at p v net) n s.cells.items ∙ ap (take n) (still_cells s net h g v)

  pub cut_became : (s : Sym) (n : ℕ) (cells : Vec SymCell Global) → IsState p s → cells.items ≡ take n s.cells.items → Became p 0 s (record s { cells = cells }) (λ v. cut_to n)
  cut_became s n cells h e =
      let g = grown_not 0 s.net in
      became s s.net s.live s.broken s.again s.gave s.given cells (λ v. cut_to n) h g
      (record { live_is = own s.net s.live h.live; broken_is = own s.net s.broken h.broken; again_is = own s.net s.again h.again; gave_is = own s.net s.gave h.gave; given_in = h.given; given_is = λ v. refl; cells_in = front_in s s.net h g n cells e; cells_are = front_are s s.net h g n cells e; failing = λ v. refl; draws = λ v. refl; completed = λ v. refl })

  pub fresh_again_became : (s : Sym) (dead : Bit) → IsState p s → Means s.net dead (λ v. false) → Became p 0 s (record s { again = dead }) (λ v. fresh_again)
  fresh_again_became s dead h m =
      became s s.net s.live s.broken dead s.gave s.given s.cells (λ v. fresh_again) h (grown_not 0 s.net)
      (record { live_is = own s.net s.live h.live; broken_is = own s.net s.broken h.broken; again_is = m; gave_is = own s.net s.gave h.gave; given_in = h.given; given_is = λ v. refl; cells_in = h.cells; cells_are = λ v. refl; failing = λ v. refl; draws = λ v. refl; completed = λ v. refl })

  pub fresh_broken_became : (s : Sym) (dead : Bit) → IsState p s → Means s.net dead (λ v. false) → Became p 0 s (record s { broken = dead }) (λ v. fresh_broken)
  fresh_broken_became s dead h m =
      became s s.net s.live dead s.again s.gave s.given s.cells (λ v. fresh_broken) h (grown_not 0 s.net)
      (record { live_is = own s.net s.live h.live; broken_is = m; again_is = own s.net s.again h.again; gave_is = own s.net s.gave h.gave; given_in = h.given; given_is = λ v. refl; cells_in = h.cells; cells_are = λ v. refl; failing = λ v. refl; draws = λ v. refl; completed = λ v. refl })

  pub body_became : (s : Sym) (net : List NetNode) (here kept : Bit) (n : ℕ) (cells : Vec SymCell Global) → IsState p s → IsIn s.net kept → Grown 1 s.net net → Means net here (λ v. holds v s.net s.live || holds v s.net s.again)
      → cells.items ≡ take n s.cells.items → Became p 1 s (record s { net = net; live = here; again = kept; cells = cells }) (λ v. behind_body (holds v s.net kept) n)
  body_became s net here kept n cells h ik g m e =
      became s net here s.broken kept s.gave s.given cells (λ v. behind_body (holds v s.net kept) n) h g
      (record { live_is = m; broken_is = still s net h g s.broken h.broken; again_is = still s net h g kept ik; gave_is = still s net h g s.gave h.gave; given_in = (state_grown p g h).given; given_is = still_given s net h g; cells_in = front_in s net h g n cells e; cells_are = front_are s net h g n cells e; failing = λ v. refl; draws = λ v. refl; completed = λ v. refl })

  pub loop_became : (s : Sym) (net : List NetNode) (here kept : Bit) (n : ℕ) (cells : Vec SymCell Global) → IsState p s → IsIn s.net kept → Grown 1 s.net net → Means net here (λ v. holds v s.net s.live || holds v s.net s.broken)
      → cells.items ≡ take n s.cells.items → Became p 1 s (record s { net = net; live = here; broken = kept; cells = cells }) (λ v. behind_loop (holds v s.net kept) n)
  loop_became s net here kept n cells h ik g m e =
      became s net here kept s.again s.gave s.given cells (λ v. behind_loop (holds v s.net kept) n) h g
      (record { live_is = m; broken_is = still s net h g kept ik; again_is = still s net h g s.again h.again; gave_is = still s net h g s.gave h.gave; given_in = (state_grown p g h).given; given_is = still_given s net h g; cells_in = front_in s net h g n cells e; cells_are = front_are s net h g n cells e; failing = λ v. refl; draws = λ v. refl; completed = λ v. refl })

  -- the bit that was kept keeps its value while the part inside is done
  pub kept_body : {i j k : ℕ} {a c d : Sym} (kept : Bit) (n : ℕ) → IsState p a → kept ≡ a.again → Added i j a.net c.net → Became p k c d (λ v. behind_body (holds v c.net kept) n) → Became p k c d (λ v. behind_body (stand p v a).again n)
  kept_body {a = a} {c = c} kept n h e g x = became_as (λ v. behind_body (stand p v a).again n) x (λ v. ap (λ b. behind_body b n (stand p v c)) (ap (holds v c.net) e ∙ holds_added g v a.again h.again))
