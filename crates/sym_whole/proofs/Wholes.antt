-- A whole program: its failing bits and its sites, under every input and for every list.
use Rattle.std.proofs.Common.{◌≡◌, ◌↔◌, ℕ, zero, suc, ◌+◌, ◌-◌, ◌^◌, ◌<◌, Bool, true, false, cond, nat_lt, ℤ, pos, negsuc, List, [], ◌∷◌, ◌++◌, length, map, slice_get, unwrap_or, refl, sym, ◌∙◌, ap, subst, arith, true≢false, Option, Some}
use Rattle.std.proofs.lemmas.Bool.{lt-ltb, ltb-false}
use Rattle.c_core.specs.Tree.{Program}
use Rattle.c_core.specs.Types.{width_of, is_signed, fits_signed, fits_unsigned, fit, signed_of}
use Rattle.c_core.specs.declared.number.IntType.{IntType}
use Rattle.c_core.proofs.Fits.{fit_kept}
use Rattle.c_meaning.specs.declared.run.Draw.{Draw}
use Rattle.c_meaning.specs.declared.run.Duty.{Duty}
use Rattle.c_meaning.specs.Acts.{Res, Go, Stop, Flow, Next, Broken, Again, Gave}
use Rattle.c_meaning.specs.Cells.{Cell}
use Rattle.c_meaning.specs.declared.run.HavocEnd.{HavocEnd}
use Rattle.c_meaning.specs.declared.run.HavocEnd.TheVariants.{Passed, Dismissed, Failed}
use Rattle.c_meaning.specs.Havoc.{Stopped, Passes, Dismisses, Fails, end_among, havoc_run}
use Rattle.sym_meaning.specs.Mode.{JudgedState}
use Rattle.sym_meaning.specs.Obliging.{as_havoc}
use Rattle.c_meaning.specs.Replay.{values_of}
use Rattle.circuits.specs.declared.net.Bit.{Bit}
use Rattle.circuits.specs.declared.net.NetNode.{NetNode}
use Rattle.circuits.specs.Net.{holds, IsNet, count_ands, count_inputs}
use Rattle.circuits.specs.Numbers.{number, read, typed}
use Rattle.circuits.proofs.Counting.{number_lt}
use Rattle.circuits.proofs.Nets.{count_ands-append, inputs-append}
use Rattle.std.proofs.lemmas.List.{length-map}
use Rattle.circuits.proofs.Reading.{half}
use Rattle.circuits.proofs.Summed.{width_pos}
use Rattle.sym_state.specs.declared.state.Sym.{Sym}
use Rattle.sym_state.specs.declared.state.DrawSite.{DrawSite}
use Rattle.sym_state.specs.Standing.{Stand, stand, draw_at, draws_at, IsSite, AreSites, marks, number_of_end}
use Rattle.sym_state.specs.Following.{left_of, Taken, Deed}
use Rattle.sym_flow.specs.Leaving.{Went, Runs}
use Rattle.sym_whole.specs.Deciding.{started, IsStart, Tells, Decides, IsLarger}
use Rattle.sym_whole.proofs.Sites.{state_found}

-- ---- a site's value is one of its type
signed_fits : (w n : ℕ) → 0 < w → n < 2 ^ w → (t : Bool) → nat_lt n (2 ^ (w - 1)) ≡ t → fits_signed w (cond t (pos n) (negsuc (2 ^ w - suc n))) ≡ true
signed_fits w n hw h true e = e
signed_fits w n hw h false e = lt-ltb (2 ^ w - suc n) (2 ^ (w - 1)) (omega (arith, half w hw, ltb-false n (2 ^ (w - 1)) e, h))

read_fits : (w n : ℕ) (s : Bool) → 0 < w → n < 2 ^ w → cond s (fits_signed w (read w s n)) (fits_unsigned w (read w s n)) ≡ true
unfolding signed_of
read_fits w n true hw h = signed_fits w n hw h (nat_lt n (2 ^ (w - 1))) refl
read_fits w n false hw h = lt-ltb n (2 ^ w) h

-- ---- which failing bit is true
abbrev failed_number : HavocEnd → ℕ
failed_number (Failed k) = k
failed_number _ = 0

abbrev is_failed : HavocEnd → Bool
is_failed (Failed k) = true
is_failed _ = false

passed_apart : (k : ℕ) → Passed ≡ Failed k → ⊥
passed_apart k e = true≢false (sym (ap is_failed e))

dismissed_apart : (k : ℕ) → Dismissed ≡ Failed k → ⊥
dismissed_apart k e = true≢false (sym (ap is_failed e))

some_same : {A : Type 0} (x y : A) → Some x ≡ Some y → x ≡ y
some_same x y e = ap (λ z. unwrap_or z x) e

mark_at : (k n i : ℕ) (b : Bool) → slice_get (marks k n) i ≡ Some b → (b ≡ true) ↔ (k ≡ suc i)
mark_at k zero i b h = cc
mark_at zero (suc n) zero b h = ((λ t. absurd (true≢false (sym t ∙ sym (some_same false b h)))), (λ e. absurd (omega (arith, e))))
mark_at zero (suc n) (suc i) b h = let r = mark_at zero n i b h in ((λ t. absurd (omega (arith, r.0 t))), (λ e. absurd (omega (arith, e))))
mark_at (suc zero) (suc n) zero b h = ((λ t. refl), (λ e. sym (some_same true b h)))
mark_at (suc zero) (suc n) (suc i) b h = let r = mark_at zero n i b h in ((λ t. absurd (omega (arith, r.0 t))), (λ e. absurd (omega (arith, e))))
mark_at (suc (suc k)) (suc n) zero b h = ((λ t. absurd (true≢false (sym t ∙ sym (some_same false b h)))), (λ e. absurd (omega (arith, e))))
mark_at (suc (suc k)) (suc n) (suc i) b h = let r = mark_at (suc k) n i b h in ((λ t. ap suc (r.0 t)), (λ e. r.1 (omega (arith, e))))

marks_many : (k n : ℕ) → length (marks k n) ≡ n
marks_many k zero = refl
marks_many zero (suc n) = ap suc (marks_many zero n)
marks_many (suc zero) (suc n) = ap suc (marks_many zero n)
marks_many (suc (suc k)) (suc n) = ap suc (marks_many (suc k) n)

slice_get-map : {A B : Type 0} (f : A → B) (xs : List A) (i : ℕ) (x : A) → slice_get xs i ≡ Some x → slice_get (map f xs) i ≡ Some (f x)
slice_get-map f [] i x e = cc
slice_get-map f (y ∷ ys) zero x e = ap (λ z. Some (f z)) (some_same y x e)
slice_get-map f (y ∷ ys) (suc i) x e = slice_get-map f ys i x e

bit_at : (v : ℕ → Bool) (net : List NetNode) (bs : List Bit) (all : List Bool) (i : ℕ) (b : Bit) → map (holds v net) bs ≡ all → slice_get bs i ≡ Some b → slice_get all i ≡ Some (holds v net b)
bit_at v net bs all i b e h = ap (λ z. slice_get z i) (sym e) ∙ slice_get-map (holds v net) bs i b h

-- a run that goes on to its end, and one that passes or is dismissed, failed no obligation
not_failed : {i : ℕ} {b : Bool} → (b ≡ true) ↔ (0 ≡ suc i) → (b ≡ true) ↔ (Passed ≡ Failed (i + 1))
not_failed {i} {b} h = ((λ t. absurd (omega (arith, h.0 t))), (λ e. absurd (passed_apart (i + 1) e)))

stop_ends : (ds : List Duty) (e : Stopped) (i : ℕ) {b : Bool} → (b ≡ true) ↔ (number_of_end ds e ≡ suc i) → (b ≡ true) ↔ (end_among ds e ≡ Failed (i + 1))
stop_ends ds Passes i {b} h = not_failed h
stop_ends ds Dismisses i {b} h = ((λ t. absurd (omega (arith, h.0 t))), (λ e. absurd (dismissed_apart (i + 1) e)))
stop_ends ds (Fails d) i {b} h = let m : suc i ≡ i + 1 = omega arith in ((λ t. ap Failed (h.0 t ∙ m)), (λ e. h.1 (ap failed_number e ∙ sym m)))

module _ (p : Program) where
  site_kept : (v : ℕ → Bool) (net : List NetNode) (base : ℕ) (d : DrawSite) → IsSite p.model net base d → fit p.model d.ty (typed p.model d.ty v net d.bits.bits) ≡ typed p.model d.ty v net d.bits.bits
  site_kept v net base d x =
      let m = p.model in
      fit_kept m d.ty (typed m d.ty v net d.bits.bits)
      (read_fits (width_of m d.ty) (number v net d.bits.bits) (is_signed d.ty) (width_pos m d.ty) (subst (λ k. number v net d.bits.bits < 2 ^ k) x.bits.wide (number_lt v net d.bits.bits)))

  own_next : (d : Draw) (ds : List Draw) → fit p.model d.ty d.value ≡ d.value → Taken p.model ds (values_of ds) [] → (b : Bool) → Taken p.model (cond b (d ∷ ds) ds) (values_of (cond b (d ∷ ds) ds)) []
  own_next d ds e t true = (e, t)
  own_next d ds e t false = t

  own_taken : (v : ℕ → Bool) (net : List NetNode) (base top : ℕ) (ds : List DrawSite) → AreSites p.model net base ds top → Taken p.model (draws_at p v net ds) (values_of (draws_at p v net ds)) []
  own_taken v net base top [] h = refl
  own_taken v net base top (d ∷ ds) h = own_next (draw_at p v net d) (draws_at p v net ds) (site_kept v net base d h.0) (own_taken v net (base + width_of p.model d.ty) top ds h.1) (holds v net d.live)

  module _ (ds : List Duty) (result : Option IntType) where
    went_draws : (n : ℕ) (c : Stand) (rest : List ℤ) (f : Flow) (t : JudgedState) → Went ds result n c rest (Go f t) → t.draws ≡ c.draws
    went_draws n c rest Next t w = ap (λ z. z.draws) w.1
    went_draws n c rest Broken t w = w.draws
    went_draws n c rest Again t w = w.draws
    went_draws n c rest (Gave z) t w = w.0.draws

    went_failing : (n : ℕ) (c : Stand) (rest : List ℤ) (f : Flow) (t : JudgedState) → Went ds result n c rest (Go f t) → c.failing ≡ marks 0 (length ds)
    went_failing n c rest Next t w = w.0.failing
    went_failing n c rest Broken t w = w.failing
    went_failing n c rest Again t w = w.failing
    went_failing n c rest (Gave z) t w = w.0.failing

    went_many : (n : ℕ) (c : Stand) (rest : List ℤ) (r : Res Stopped JudgedState Flow) → Went ds result n c rest r → length c.failing ≡ length ds
    went_many n c rest (Go f t) w = ap length (went_failing n c rest f t w) ∙ marks_many 0 (length ds)
    went_many n c rest (Stop e t) w = ap length w.0.failing ∙ marks_many (number_of_end ds e) (length ds)

    tells : (n : ℕ) (s : Sym) (v : ℕ → Bool) (rest : List ℤ) (r : Res Stopped JudgedState Flow) → Went ds result n (stand p v s) rest r → Tells p s v (havoc_run ds (as_havoc r))
    tells n s v rest (Go f t) w = record { draws = went_draws n (stand p v s) rest f t w; ends = λ i b e. not_failed (mark_at 0 (length ds) i (holds v s.net b) (bit_at v s.net s.failing.items (marks 0 (length ds)) i b (went_failing n (stand p v s) rest f t w) e)) }
    tells n s v rest (Stop e t) w = record { draws = w.2; ends = λ i b q. stop_ends ds e i (mark_at (number_of_end ds e) (length ds) i (holds v s.net b) (bit_at v s.net s.failing.items (marks (number_of_end ds e) (length ds)) i b w.0.failing q)) }

    module _ {i j : ℕ} (a b : Sym) (start : List Cell) (before : List Bool) (run : JudgedState → Res Stopped JudgedState Flow) (x : Runs ds p result i j a b (λ v. run)) (first : IsStart ds p start before a) where
      -- under inputs, on any list that gives these draws
      went : (v : ℕ → Bool) (w rest : List ℤ) → Taken p.model (stand p v b).draws w rest → Went ds result (length a.cells.items) (stand p v b) rest (run (left_of (stand p v a) w))
      went v w rest t =
          let all : (stand p v b).draws ≡ (x.moves v).more = (x.moves v).draws ∙ ap (λ z. z ++ (x.moves v).more) (first.draws v) in
          x.does v (first.here v) w rest (subst (λ z. Taken p.model z w rest) all t)

      told : (v : ℕ → Bool) (w rest : List ℤ) → Taken p.model (stand p v b).draws w rest → Tells p b v (havoc_run ds (as_havoc (run (started start before w))))
      told v w rest t =
          subst (λ l. Tells p b v (havoc_run ds (as_havoc (run l)))) (λ k. record { cells = first.cells v k; values = w; draws = first.draws v k; completed = first.completed v k })
          (tells (length a.cells.items) b v rest (run (left_of (stand p v a) w)) (went v w rest t))

      pub decides : IsNet b.net → Decides ds p start before b run
      decides fine = record {
        many =
            let v : ℕ → Bool = λ k. false in
            sym (length-map b.failing.items (holds v b.net))
            ∙ went_many (length a.cells.items) (stand p v b) [] (run (left_of (stand p v a) (values_of (stand p v b).draws))) (went v (values_of (stand p v b).draws) [] (own_taken v b.net 0 _ b.sites.items x.fits.sites));
        each = λ v. told v (values_of (stand p v b).draws) [] (own_taken v b.net 0 _ b.sites.items x.fits.sites);
        all = λ w. let r = state_found p b fine x.fits w in (r.0, told r.0 w r.1 r.2);
      }

pub larger : {i j : ℕ} {a b : Sym} {deed : Deed Flow} (p : Program) (ds : List Duty) (result : Option IntType) → Runs ds p result i j a b deed → IsLarger i j a b
larger {a = a} {b = b} p ds result x = record { gates = omega (arith, ap count_ands x.added.is, count_ands-append a.net x.added.more, x.added.gates); feeds = omega (arith, ap count_inputs x.added.is, inputs-append a.net x.added.more, x.added.feeds) }
