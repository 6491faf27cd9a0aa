-- Parts one after another.
use Rattle.std.proofs.Common.{◌≡◌, ℕ, ◌+◌, ◌≤◌, Bool, false, ℤ, List, [], ◌∷◌, ◌++◌, length, refl, sym, ◌∙◌, ap, subst, arith, append_assoc, append-nil, length-append}
use Rattle.c_core.specs.Tree.{Program}
use Rattle.c_core.specs.declared.number.DataModel.{DataModel}
use Rattle.c_meaning.specs.declared.run.Draw.{Draw}
use Rattle.c_meaning.specs.declared.run.Duty.{Duty}
use Rattle.c_meaning.specs.Acts.{Res, Go, Stop, bind}
use Rattle.c_meaning.specs.Havoc.{Stopped}
use Rattle.sym_meaning.specs.Mode.{JudgedState}
use Rattle.c_meaning.specs.Run.{other_values}
use Rattle.sym_state.specs.declared.state.Sym.{Sym}
use Rattle.sym_state.specs.Standing.{Stand, stand, Kept, Moves, IsHere, IsOver, Turned}
use Rattle.sym_state.specs.Following.{left_of, Taken, Deed, Came, Follows}
use Rattle.sym_state.proofs.Nets.{added_then}

pub kept_then : {a b c : Stand} → Kept a b → Kept b c → Kept a c
kept_then {a} {b} {c} x y = record {
  live = y.live ∙ x.live;
  broken = y.broken ∙ x.broken;
  again = y.again ∙ x.again;
  gave = y.gave ∙ x.gave;
  given = y.given ∙ x.given;
  failing = y.failing ∙ x.failing;
  completed = y.completed ∙ x.completed;
  draws = y.draws ∙ x.draws;
  junk = x.junk ++ y.junk;
  cells = y.cells ∙ ap (λ z. z ++ y.junk) x.cells ∙ append_assoc a.cells x.junk y.junk;
}

pub same_kept : {a b : Stand} → b ≡ a → Kept a b
same_kept {a} {b} e = record {
  live = ap (λ s. s.live) e;
  broken = ap (λ s. s.broken) e;
  again = ap (λ s. s.again) e;
  gave = ap (λ s. s.gave) e;
  given = ap (λ s. s.given) e;
  failing = ap (λ s. s.failing) e;
  completed = ap (λ s. s.completed) e;
  draws = ap (λ s. s.draws) e;
  junk = [];
  cells = ap (λ s. s.cells) e ∙ sym (append-nil a.cells);
}

pub no_items : {A : Type 0} (ys : List A) → length ys ≡ 0 → ys ≡ []
no_items [] h = refl
no_items (y ∷ ys) h = absurd (omega (arith, h))

-- a run that isn't here, and behind whose cells nothing stands, is as it was
pub kept_same : {a b : Stand} → Kept a b → length b.cells ≡ length a.cells → b ≡ a
kept_same {a} {b} k h =
    let none : k.junk ≡ [] = no_items k.junk (omega (arith, h, ap length k.cells, length-append a.cells k.junk)) in
    let same : b.cells ≡ a.cells = k.cells ∙ ap (λ z. a.cells ++ z) none ∙ append-nil a.cells in
    λ i. record { live = k.live i; broken = k.broken i; again = k.again i; gave = k.gave i; given = k.given i; failing = k.failing i; completed = k.completed i; cells = same i; draws = k.draws i }

abbrev pub moves_then : {a b c : Stand} → Moves a b → Moves b c → Moves a c
moves_then {a} {b} {c} x y = record {
  more = x.more ++ y.more;
  draws = y.draws ∙ ap (λ z. z ++ y.more) x.draws ∙ append_assoc a.draws x.more y.more;
  still = λ d. let k = x.still d in kept_then k (y.still (k.live ∙ d));
}

-- what is drawn, where nothing is
pub none_drawn : {a b : Stand} (x : Moves a b) → a.live ≡ false → x.more ≡ []
none_drawn {a} {b} x d = no_items x.more (omega (arith, ap length x.draws, ap length (x.still d).draws, length-append a.draws x.more))

pub over_then : {ds : List Duty} {e : Stopped} {a b : Stand} → IsOver ds e a → Kept a b → IsOver ds e b
over_then {ds} {e} {a} {b} o k = record { live = k.live ∙ o.live; broken = k.broken ∙ o.broken; again = k.again ∙ o.again; gave = k.gave ∙ o.gave; failing = k.failing ∙ o.failing }

pub taken_split : (m : DataModel) (xs ys : List Draw) (vs rest : List ℤ) → Taken m (xs ++ ys) vs rest → (mid : List ℤ) × Taken m xs vs mid × Taken m ys mid rest
taken_split m [] ys vs rest h = (vs, refl, h)
taken_split m (x ∷ xs) ys vs rest h = let r = taken_split m xs ys (other_values vs) rest h.1 in (r.0, (h.0, r.1), r.2)

-- nothing was drawn
pub none_taken : (m : DataModel) {a b : Stand} (x : Moves a b) {vs rest : List ℤ} → a.live ≡ false → Taken m x.more vs rest → vs ≡ rest
none_taken m {a} {b} x {vs} {rest} d t = subst (λ z. Taken m z vs rest) (none_drawn x d) t

module _ (m : DataModel) (ds : List Duty) where
  -- one part's result, and then the next part
  pub came_then : {A B : Type 0} (S : A → Type 0) (T : B → Type 0) (b c : Stand) (y : Moves b c) (mid rest : List ℤ) (r : Res Stopped JudgedState A) (k : A → JudgedState → Res Stopped JudgedState B) (next : JudgedState → Res Stopped JudgedState B)
      → Taken m y.more mid rest → Came ds S b mid r → ((x : A) → S x → (s : JudgedState) → k x s ≡ next s)
      → (IsHere (length ds) b → Came ds T c rest (next (left_of b mid))) → Came ds T c rest (bind r k)
  came_then S T b c y mid rest (Go x s) k next t h e f =
      subst (λ z. Came ds T c rest (k x z)) (sym h.1) (subst (λ z. Came ds T c rest z) (sym (e x h.2 (left_of b mid))) (f h.0))
  came_then S T b c y mid rest (Stop e s) k next t h _ f =
      let q = y.still h.0.live in
      (over_then h.0 q, h.1 ∙ none_taken m y h.0.live t, h.2 ∙ sym q.draws)

  -- the same value by another name
  pub came_as : {A : Type 0} (S T : A → Type 0) (b : Stand) (rest : List ℤ) (r : Res Stopped JudgedState A) → ((x : A) → S x → T x) → Came ds S b rest r → Came ds T b rest r
  came_as S T b rest (Go x s) f h = (h.0, h.1, f x h.2)
  came_as S T b rest (Stop e s) f h = h

module _ (p : Program) (ds : List Duty) where
  pub follows_then : {A B : Type 0} {i j k l : ℕ} {a b c : Sym} {S : (ℕ → Bool) → A → Type 0} {T : (ℕ → Bool) → B → Type 0} {m : Deed A} {next : Deed B}
      (g n : ℕ) (f : (ℕ → Bool) → A → JudgedState → Res Stopped JudgedState B) → Follows ds p i j a b S m → Follows ds p k l b c T next
      → ((v : ℕ → Bool) (x : A) → S v x → (s : JudgedState) → f v x s ≡ next v s) → i + k ≤ g → j + l ≤ n → Follows ds p g n a c T (λ v s. bind (m v s) (f v))
  follows_then {a = a} {b = b} {c = c} {S = S} {T = T} {m = m} {next = next} g n f x y e h q = record {
    fits = y.fits;
    added = added_then g n x.added y.added h q;
    level = y.level ∙ x.level;
    result = y.result ∙ x.result;
    moves = λ v. moves_then (x.moves v) (y.moves v);
    does = λ v here vs rest t.
        let q = taken_split p.model (x.moves v).more (y.moves v).more vs rest t in
        came_then p.model ds (S v) (T v) (stand p v b) (stand p v c) (y.moves v) q.0 rest _ (f v) (next v) q.2 (x.does v here vs q.0 q.1) (e v) (λ there. y.does v there q.0 rest q.2);
  }

  -- the same, told otherwise
  pub follows_as : {A : Type 0} {i j k l : ℕ} {a b : Sym} {S T : (ℕ → Bool) → A → Type 0} {m next : Deed A} → Follows ds p i j a b S m → ((v : ℕ → Bool) (x : A) → S v x → T v x) → ((v : ℕ → Bool) (s : JudgedState) → m v s ≡ next v s)
      → i ≤ k → j ≤ l → Follows ds p k l a b T next
  follows_as {k = k} {l = l} {a = a} {b = b} {S = S} {T = T} {m = m} {next = next} x f e h q = record {
    fits = x.fits;
    added = record { more = x.added.more; is = x.added.is; gates = omega (arith, x.added.gates, h); feeds = omega (arith, x.added.feeds, q); few = omega (arith, x.added.few, h, q) };
    level = x.level;
    result = x.result;
    moves = x.moves;
    does = λ v here vs rest t.
        subst (λ z. Came ds (T v) (stand p v b) rest z) (e v (left_of (stand p v a) vs)) (came_as p.model ds (S v) (T v) (stand p v b) rest (m v (left_of (stand p v a) vs)) (f v) (x.does v here vs rest t));
  }

  -- a call that draws nothing, and what it does to a run that is here
  pub turned_follows : {A : Type 0} {i : ℕ} {a b : Sym} {S : (ℕ → Bool) → A → Type 0} {deed : Deed A} (f : (ℕ → Bool) → Stand → Stand) → Turned p i 0 a b f
      → ((v : ℕ → Bool) → (f v (stand p v a)).draws ≡ (stand p v a).draws) → ((v : ℕ → Bool) → (stand p v a).live ≡ false → f v (stand p v a) ≡ stand p v a)
      → ((v : ℕ → Bool) → IsHere (length ds) (stand p v a) → (rest : List ℤ) → Came ds (S v) (f v (stand p v a)) rest (deed v (left_of (stand p v a) rest))) → Follows ds p i 0 a b S deed
  turned_follows {a = a} {b = b} {S = S} {deed = deed} f x drawn dead lives = record {
    fits = x.fits;
    added = x.added;
    level = x.level;
    result = x.result;
    moves = λ v. record { more = []; draws = ap (λ z. z.draws) (x.is v) ∙ drawn v ∙ sym (append-nil (stand p v a).draws); still = λ d. same_kept (x.is v ∙ dead v d) };
    does = λ v here vs rest t.
        subst (λ z. Came ds (S v) z rest (deed v (left_of (stand p v a) vs))) (sym (x.is v))
        (subst (λ w. Came ds (S v) (f v (stand p v a)) rest (deed v (left_of (stand p v a) w))) (sym t) (lives v here rest));
  }

  -- a call that changes nothing but the net
  pub net_follows : {A : Type 0} {i : ℕ} {a b : Sym} {S : (ℕ → Bool) → A → Type 0} (value : (ℕ → Bool) → A) → Turned p i 0 a b (λ v s. s) → ((v : ℕ → Bool) → S v (value v)) → Follows ds p i 0 a b S (λ v s. Go (value v) s)
  net_follows {a = a} {S = S} value x e = turned_follows (λ v s. s) x (λ v. refl) (λ v d. refl) (λ v here rest. (here, refl, e v))
