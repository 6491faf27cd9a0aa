-- Tests of invariants: each in turn fails its obligation, or dismisses the run.
use Rattle.std.proofs.Common.{◌≡◌, ℕ, zero, suc, ◌+◌, Bool, true, false, cond, not, ◌&&◌, ℤ, List, [], ◌∷◌, ◌++◌, length, refl, sym, ◌∙◌, ap, ap₂, subst, arith, Some}
use Rattle.c_core.specs.Tree.{Program}
use Rattle.c_core.specs.declared.number.Spot.{Spot}
use Rattle.c_meaning.specs.declared.run.Duty.{Duty}
use Rattle.c_meaning.specs.declared.run.DutyKind.{DutyKind}
use Rattle.c_meaning.specs.Acts.{Res, Go, Stop, bind}
use Rattle.c_meaning.specs.Duties.{Placed, duty, number_among}
use Rattle.c_meaning.specs.Havoc.{Stopped, Dismisses, Fails, stands}
use Rattle.sym_meaning.specs.Mode.{JudgedState}
use Rattle.sym_meaning.specs.Obliging.{test_from, assume_all}
use Rattle.c_meaning.specs.Value as value
use Rattle.circuits.specs.declared.net.Bit.{Bit}
use Rattle.circuits.specs.Net.{holds, opposite, Means}
use Rattle.circuits.proofs.Nets.{holds-opposite}
use Rattle.sym_state.specs.declared.state.Sym.{Sym}
use Rattle.sym_state.specs.Standing.{Stand, stand, IsHere, Turned, marks, marked, stopped, failed}
use Rattle.sym_state.specs.Following.{left_of, Came, Follows}
use Rattle.sym_state.proofs.Composed.{turned_follows}
use Rattle.sym_flow.specs.Testing.{going_if, tested, invariant_tested}
use Rattle.sym_flow.proofs.Bools.{and_no, and_yes, or_no}

marked_none : (k : ℕ) (fs : List Bool) → marked k false fs ≡ fs
marked_none k [] = refl
marked_none zero (f ∷ fs) = ap (λ z. z ∷ fs) (or_no f)
marked_none (suc k) (f ∷ fs) = ap (λ z. f ∷ z) (marked_none k fs)

-- the obligation of number k from 0 on is the one of number k + 1 from 1 on
marked_one : (k n : ℕ) → marked k true (marks 0 n) ≡ marks (suc k) n
marked_one k zero = refl
marked_one zero (suc n) = refl
marked_one (suc k) (suc n) = ap (λ z. false ∷ z) (marked_one k n)

stopped_none : (a : Stand) → stopped false a ≡ a
stopped_none a = λ i. record a { live = and_yes a.live i }

failed_none : (k : ℕ) (a : Stand) → failed k false a ≡ a
failed_none k a = λ i. record a { live = and_yes a.live i; failing = (ap (λ b. marked k b a.failing) (and_no a.live) ∙ marked_none k a.failing) i }

module _ (p : Program) (ds : List Duty) where
  -- where the test holds, the run goes on; else it is over
  stop_came : (t : Bool) (a : Stand) (rest : List ℤ) → IsHere (length ds) a → Came ds (λ u. Unit {0}) (stopped (not t) a) rest (going_if t Dismisses (left_of a rest))
  stop_came true a rest h = let e = sym (stopped_none a) in (subst (IsHere (length ds)) e h, ap (λ b. left_of b rest) e, tt)
  stop_came false a rest h = (record { live = and_no a.live; broken = h.broken; again = h.again; gave = h.gave; failing = h.failing }, refl, refl)

  fail_came : (k : ℕ) (d : Duty) → number_among d ds ≡ suc k → (t : Bool) (a : Stand) (rest : List ℤ) → IsHere (length ds) a → Came ds (λ u. Unit {0}) (failed k (not t) a) rest (going_if t (Fails d) (left_of a rest))
  fail_came k d n true a rest h = let e = sym (failed_none k a) in (subst (IsHere (length ds)) e h, ap (λ b. left_of b rest) e, tt)
  fail_came k d n false a rest h = (
    record {
      live = and_no a.live;
      broken = h.broken;
      again = h.again;
      gave = h.gave;
      failing = ap₂ (λ l fs. marked k (l && true) fs) h.live h.failing ∙ marked_one k (length ds) ∙ ap (λ j. marks j (length ds)) (sym n);
    },
    refl,
    refl,
  )

  stop_dead : (t : Bool) (a : Stand) → a.live ≡ false → stopped t a ≡ a
  stop_dead t a h = λ i. record a { live = (ap (λ l. l && not t) h ∙ sym h) i }

  fail_dead : (k : ℕ) (t : Bool) (a : Stand) → a.live ≡ false → failed k t a ≡ a
  fail_dead k t a h = λ i. record a { live = (ap (λ l. l && not t) h ∙ sym h) i; failing = (ap (λ l. marked k (l && t) a.failing) h ∙ marked_none k a.failing) i }

  -- a bit of the state is assumed
  pub assumed : {a b : Sym} (test bad : Bit) → bad ≡ opposite test → Turned p 1 0 a b (λ v. stopped (holds v a.net bad)) → Follows ds p 1 0 a b (λ v u. Unit {0}) (tested a test Dismisses)
  assumed {a} {b} test bad e x =
      turned_follows p ds (λ v. stopped (holds v a.net bad)) x (λ v. refl) (λ v d. stop_dead (holds v a.net bad) (stand p v a) d)
      (λ v here rest.
      let h : holds v a.net bad ≡ not (holds v a.net test) = ap (holds v a.net) e ∙ holds-opposite v a.net test in
      subst (λ t. Came ds (λ u. Unit {0}) (stopped t (stand p v a)) rest (tested a test Dismisses v (left_of (stand p v a) rest))) (sym h) (stop_came (holds v a.net test) (stand p v a) rest here))

  -- a bit of the state is to hold
  pub assured : {a b : Sym} (k : ℕ) (d : Duty) (test bad : Bit) → number_among d ds ≡ suc k → bad ≡ opposite test → Turned p 3 0 a b (λ v. failed k (holds v a.net bad))
      → Follows ds p 3 0 a b (λ v u. Unit {0}) (tested a test (Fails d))
  assured {a} {b} k d test bad n e x =
      turned_follows p ds (λ v. failed k (holds v a.net bad)) x (λ v. refl) (λ v q. fail_dead k (holds v a.net bad) (stand p v a) q)
      (λ v here rest.
      let h : holds v a.net bad ≡ not (holds v a.net test) = ap (holds v a.net) e ∙ holds-opposite v a.net test in
      subst (λ t. Came ds (λ u. Unit {0}) (failed k t (stand p v a)) rest (tested a test (Fails d) v (left_of (stand p v a) rest))) (sym h) (fail_came k d n (holds v a.net test) (stand p v a) rest here))

  -- the bit of an invariant
  pub invariant_follows : {i j : ℕ} {a b : Sym} (x : Placed) (e : Stopped) (test : Bit) → Means a.net test (λ v. value.holds p x.test (stand p v a).cells) → Follows ds p i j a b (λ v u. Unit {0}) (tested a test e)
      → Follows ds p i j a b (λ v u. Unit {0}) (λ v. invariant_tested p x e)
  invariant_follows {a = a} {b = b} x e test m y = record {
    fits = y.fits;
    added = y.added;
    level = y.level;
    result = y.result;
    moves = y.moves;
    does = λ v here vs rest t. subst (λ h. Came ds (λ u. Unit {0}) (stand p v b) rest (going_if h e (left_of (stand p v a) vs))) (m.is v) (y.does v here vs rest t);
  }

-- an invariant that stands there, and the others behind it
swapped : {A : Type 0} (t : Bool) (x y : A) → cond (true && not t) x y ≡ cond t y x
swapped true x y = refl
swapped false x y = refl

over_cond : {A B : Type 0} (t : Bool) (x y : Res Stopped JudgedState A) (k : A → JudgedState → Res Stopped JudgedState B) → bind (cond t x y) k ≡ cond t (bind x k) (bind y k)
over_cond true x y k = refl
over_cond false x y k = refl

module _ (p : Program) (I : List Placed) where
  pub test_next : (i : ℕ) (x : Placed) (xs : List Placed) (at_loop : Bool) (spot : Spot) (kind : DutyKind) (s : JudgedState) → stands p I at_loop spot x ≡ true
      → bind (invariant_tested p x (Fails (duty spot kind (Some i))) s) (λ u. test_from p I (suc i) xs at_loop spot kind) ≡ test_from p I i (x ∷ xs) at_loop spot kind s
  test_next i x xs at_loop spot kind s h =
      over_cond (value.holds p x.test s.cells) (Go tt s) (Stop (Fails (duty spot kind (Some i))) s) (λ u. test_from p I (suc i) xs at_loop spot kind)
      ∙ sym (swapped (value.holds p x.test s.cells) (Stop (Fails (duty spot kind (Some i))) s) (test_from p I (suc i) xs at_loop spot kind s))
      ∙ ap (λ b. cond (b && not (value.holds p x.test s.cells)) (Stop (Fails (duty spot kind (Some i))) s) (test_from p I (suc i) xs at_loop spot kind s)) (sym h)

  pub test_passed : (i : ℕ) (x : Placed) (xs : List Placed) (at_loop : Bool) (spot : Spot) (kind : DutyKind) (s : JudgedState) → stands p I at_loop spot x ≡ false
      → test_from p I (suc i) xs at_loop spot kind s ≡ test_from p I i (x ∷ xs) at_loop spot kind s
  test_passed i x xs at_loop spot kind s h = ap (λ b. cond (b && not (value.holds p x.test s.cells)) (Stop (Fails (duty spot kind (Some i))) s) (test_from p I (suc i) xs at_loop spot kind s)) (sym h)

  pub assume_next : (x : Placed) (xs : List Placed) (spot : Spot) (s : JudgedState) → stands p I true spot x ≡ true
      → bind (invariant_tested p x Dismisses s) (λ u. assume_all p I xs spot) ≡ assume_all p I (x ∷ xs) spot s
  assume_next x xs spot s h =
      over_cond (value.holds p x.test s.cells) (Go tt s) (Stop Dismisses s) (λ u. assume_all p I xs spot)
      ∙ sym (swapped (value.holds p x.test s.cells) (Stop Dismisses s) (assume_all p I xs spot s))
      ∙ ap (λ b. cond (b && not (value.holds p x.test s.cells)) (Stop Dismisses s) (assume_all p I xs spot s)) (sym h)

  pub assume_passed : (x : Placed) (xs : List Placed) (spot : Spot) (s : JudgedState) → stands p I true spot x ≡ false → assume_all p I xs spot s ≡ assume_all p I (x ∷ xs) spot s
  assume_passed x xs spot s h = ap (λ b. cond (b && not (value.holds p x.test s.cells)) (Stop Dismisses s) (assume_all p I xs spot s)) (sym h)

  -- ---- the invariants before an index, and the next one
  pub tests_snoc : (xs : List Placed) (i : ℕ) (x : Placed) (at_loop : Bool) (spot : Spot) (kind : DutyKind) (s : JudgedState)
      → test_from p I i (xs ++ x ∷ []) at_loop spot kind s ≡ bind (test_from p I i xs at_loop spot kind s) (λ u. test_from p I (i + length xs) (x ∷ []) at_loop spot kind)
  tests_snoc [] i x at_loop spot kind s = let e : i + 0 ≡ i = omega arith in ap (λ j. test_from p I j (x ∷ []) at_loop spot kind s) (sym e)
  tests_snoc (y ∷ ys) i x at_loop spot kind s =
      let e : suc i + length ys ≡ i + suc (length ys) = omega arith in
      let failed : Res Stopped JudgedState (Unit {0}) = Stop (Fails (duty spot kind (Some i))) s in
      ap (cond (stands p I at_loop spot y && not (value.holds p y.test s.cells)) failed) (tests_snoc ys (suc i) x at_loop spot kind s)
      ∙ sym (over_cond (stands p I at_loop spot y && not (value.holds p y.test s.cells)) failed (test_from p I (suc i) ys at_loop spot kind s) (λ u. test_from p I (suc i + length ys) (x ∷ []) at_loop spot kind))
      ∙ ap (λ j. bind (test_from p I i (y ∷ ys) at_loop spot kind s) (λ u. test_from p I j (x ∷ []) at_loop spot kind)) e

  pub assumes_snoc : (xs : List Placed) (x : Placed) (spot : Spot) (s : JudgedState) → assume_all p I (xs ++ x ∷ []) spot s ≡ bind (assume_all p I xs spot s) (λ u. assume_all p I (x ∷ []) spot)
  assumes_snoc [] x spot s = refl
  assumes_snoc (y ∷ ys) x spot s =
      let dismissed : Res Stopped JudgedState (Unit {0}) = Stop Dismisses s in
      ap (cond (stands p I true spot y && not (value.holds p y.test s.cells)) dismissed) (assumes_snoc ys x spot s)
      ∙ sym (over_cond (stands p I true spot y && not (value.holds p y.test s.cells)) dismissed (assume_all p I ys spot s) (λ u. assume_all p I (x ∷ []) spot))

  alone : (r : Res Stopped JudgedState (Unit {0})) → bind r (λ u s. Go tt s) ≡ r
  alone (Go tt s) = refl
  alone (Stop e s) = refl
