-- Statements one after the other.
use Rattle.std.proofs.Common.{◌≡◌, ℕ, ◌+◌, ◌≤◌, Bool, false, ℤ, List, [], ◌++◌, length, refl, sym, ◌∙◌, ap, subst, arith, append_assoc, append-nil, Option, Some, None}
use Rattle.c_core.specs.Tree.{Program}
use Rattle.c_core.specs.declared.number.IntType.{IntType}
use Rattle.c_meaning.specs.declared.run.Duty.{Duty}
use Rattle.c_meaning.specs.Acts.{Res, Go, Stop, bind, Flow, Next, Broken, Again, Gave, go_on}
use Rattle.c_meaning.specs.Havoc.{Stopped}
use Rattle.sym_meaning.specs.Mode.{JudgedState}
use Rattle.sym_state.specs.declared.state.Sym.{Sym}
use Rattle.sym_state.specs.Standing.{Stand, stand, IsState, Kept, Moves, IsHere}
use Rattle.sym_state.specs.Following.{left_of, Taken, Deed, Came, Follows}
use Rattle.sym_state.proofs.Nets.{added_then, unchanged}
use Rattle.sym_state.proofs.Composed.{same_kept, moves_then, over_then, none_taken, taken_split}
use Rattle.sym_flow.specs.Leaving.{IsAway, IsGiven, Went, Runs}
use Rattle.sym_flow.specs.Ways.{Became}

-- a run on its way out stays there
pub away_then : {ds : List Duty} {x y z : Bool} {n : ℕ} {mid rest : List ℤ} {s : JudgedState} {b c : Stand} → IsAway ds x y z n mid s b → Kept b c → mid ≡ rest → IsAway ds x y z n rest s c
away_then {s = s} {b = b} {c = c} o k e = record {
  live = k.live ∙ o.live;
  broken = k.broken ∙ o.broken;
  again = k.again ∙ o.again;
  gave = k.gave ∙ o.gave;
  failing = k.failing ∙ o.failing;
  values = o.values ∙ e;
  draws = o.draws ∙ sym k.draws;
  completed = o.completed ∙ sym k.completed;
  least = o.least;
  junk = o.junk ++ k.junk;
  cells = k.cells ∙ ap (λ z. z ++ k.junk) o.cells ∙ append_assoc s.cells o.junk k.junk;
}

pub given_then : (result : Option IntType) (b c : Stand) (v : Option ℤ) → IsGiven result b v → c.given ≡ b.given → IsGiven result c v
given_then None b c None h e = tt
given_then None b c (Some z) h e = absurd h
given_then (Some ty) b c None h e = absurd h
given_then (Some ty) b c (Some z) h e = h ∙ sym e

away_of : {ds : List Duty} {x y z : Bool} {m n : ℕ} {rest : List ℤ} {s : JudgedState} {b : Stand} → m ≤ n → IsAway ds x y z n rest s b → IsAway ds x y z m rest s b
away_of h o = record { live = o.live; broken = o.broken; again = o.again; gave = o.gave; failing = o.failing; completed = o.completed; values = o.values; draws = o.draws; least = omega (arith, h, o.least); junk = o.junk; cells = o.cells }

-- where fewer cells stood before
pub went_of : (ds : List Duty) (result : Option IntType) (m n : ℕ) (c : Stand) (rest : List ℤ) → m ≤ n → (r : Res Stopped JudgedState Flow) → Went ds result n c rest r → Went ds result m c rest r
went_of ds result m n c rest h (Go Next s) w = w
went_of ds result m n c rest h (Go Broken s) w = away_of h w
went_of ds result m n c rest h (Go Again s) w = away_of h w
went_of ds result m n c rest h (Go (Gave v) s) w = (away_of h w.0, w.1)
went_of ds result m n c rest h (Stop e s) w = w

module _ (p : Program) (ds : List Duty) (result : Option IntType) where
  -- an expression's value, and then a statement
  using_went : {A : Type 0} (n : ℕ) (S : A → Type 0) (b c : Stand) (y : Moves b c) (mid rest : List ℤ) (r : Res Stopped JudgedState A) (k : A → JudgedState → Res Stopped JudgedState Flow) (next : JudgedState → Res Stopped JudgedState Flow)
      → Taken p.model y.more mid rest → Came ds S b mid r → ((x : A) → S x → (s : JudgedState) → k x s ≡ next s)
      → (IsHere (length ds) b → Went ds result n c rest (next (left_of b mid))) → Went ds result n c rest (bind r k)
  using_went n S b c y mid rest (Go x s) k next t h e f =
      subst (λ z. Went ds result n c rest (k x z)) (sym h.1) (subst (λ z. Went ds result n c rest z) (sym (e x h.2 (left_of b mid))) (f h.0))
  using_went n S b c y mid rest (Stop e s) k next t h _ f =
      let q = y.still h.0.live in
      (over_then h.0 q, h.1 ∙ none_taken p.model y h.0.live t, h.2 ∙ sym q.draws)

  -- a statement, and then the next one where it came to its end
  seq_went : (n : ℕ) (b c : Stand) (y : Moves b c) (mid rest : List ℤ) (r : Res Stopped JudgedState Flow) (next : JudgedState → Res Stopped JudgedState Flow)
      → Taken p.model y.more mid rest → Went ds result n b mid r → (IsHere (length ds) b → Went ds result n c rest (next (left_of b mid))) → Went ds result n c rest (bind r (go_on next))
  seq_went n b c y mid rest (Go Next s) next t h f = subst (λ z. Went ds result n c rest (next z)) (sym h.1) (f h.0)
  seq_went n b c y mid rest (Go Broken s) next t h f = away_then h (y.still h.live) (none_taken p.model y h.live t)
  seq_went n b c y mid rest (Go Again s) next t h f = away_then h (y.still h.live) (none_taken p.model y h.live t)
  seq_went n b c y mid rest (Go (Gave v) s) next t h f =
      let q = y.still h.0.live in
      (away_then h.0 q (none_taken p.model y h.0.live t), given_then result b c v h.1 q.given)
  seq_went n b c y mid rest (Stop e s) next t h f =
      let q = y.still h.0.live in
      (over_then h.0 q, h.1 ∙ none_taken p.model y h.0.live t, h.2 ∙ sym q.draws)

  pub follows_runs : {A : Type 0} {i j k l : ℕ} {a b c : Sym} {S : (ℕ → Bool) → A → Type 0} {m : Deed A} {next : Deed Flow}
      (g n : ℕ) (f : (ℕ → Bool) → A → JudgedState → Res Stopped JudgedState Flow) → Follows ds p i j a b S m → Runs ds p result k l b c next
      → ((v : ℕ → Bool) (x : A) → S v x → (s : JudgedState) → f v x s ≡ next v s) → i + k ≤ g → j + l ≤ n → Runs ds p result g n a c (λ v s. bind (m v s) (f v))
  follows_runs {a = a} {b = b} {c = c} {S = S} {m = m} {next = next} g n f x y e h q = record {
    fits = y.fits;
    added = added_then g n x.added y.added h q;
    grows = omega (arith, x.level, y.grows);
    result = y.result ∙ x.result;
    moves = λ v. moves_then (x.moves v) (y.moves v);
    does = λ v here vs rest t.
        let q = taken_split p.model (x.moves v).more (y.moves v).more vs rest t in
        using_went (length a.cells.items) (S v) (stand p v b) (stand p v c) (y.moves v) q.0 rest _ (f v) (next v) q.2 (x.does v here vs q.0 q.1) (e v)
        (λ there. went_of ds result (length a.cells.items) (length b.cells.items) (stand p v c) rest (omega (arith, x.level)) _ (y.does v there q.0 rest q.2));
  }

  pub runs_then : {i j k l : ℕ} {a b c : Sym} {m next : Deed Flow} (g n : ℕ) → Runs ds p result i j a b m → Runs ds p result k l b c next → i + k ≤ g → j + l ≤ n
      → Runs ds p result g n a c (λ v s. bind (m v s) (go_on (next v)))
  runs_then {a = a} {b = b} {c = c} {m = m} {next = next} g n x y h q = record {
    fits = y.fits;
    added = added_then g n x.added y.added h q;
    grows = omega (arith, x.grows, y.grows);
    result = y.result ∙ x.result;
    moves = λ v. moves_then (x.moves v) (y.moves v);
    does = λ v here vs rest t.
        let q = taken_split p.model (x.moves v).more (y.moves v).more vs rest t in
        seq_went (length a.cells.items) (stand p v b) (stand p v c) (y.moves v) q.0 rest _ (next v) q.2 (x.does v here vs q.0 q.1)
        (λ there. went_of ds result (length a.cells.items) (length b.cells.items) (stand p v c) rest x.grows _ (y.does v there q.0 rest q.2));
  }

  -- the same, tell otherwise
  pub runs_as : {i j k l : ℕ} {a b : Sym} {m next : Deed Flow} → Runs ds p result i j a b m → ((v : ℕ → Bool) (s : JudgedState) → m v s ≡ next v s) → i ≤ k → j ≤ l → Runs ds p result k l a b next
  runs_as {k = k} {l = l} {a = a} {b = b} {m = m} {next = next} x e h q = record {
    fits = x.fits;
    added = record { more = x.added.more; is = x.added.is; gates = omega (arith, x.added.gates, h); feeds = omega (arith, x.added.feeds, q); few = omega (arith, x.added.few, h, q) };
    grows = x.grows;
    result = x.result;
    moves = x.moves;
    does = λ v here vs rest t. subst (λ z. Went ds result (length a.cells.items) (stand p v b) rest z) (e v (left_of (stand p v a) vs)) (x.does v here vs rest t);
  }

  -- a call that draws nothing, and what it does to a run that is here
  pub became_runs : {i : ℕ} {a b : Sym} {deed : Deed Flow} (f : (ℕ → Bool) → Stand → Stand) → Became p i a b f → length a.cells.items ≤ length b.cells.items
      → ((v : ℕ → Bool) → (f v (stand p v a)).draws ≡ (stand p v a).draws) → ((v : ℕ → Bool) → (stand p v a).live ≡ false → Kept (stand p v a) (f v (stand p v a)))
      → ((v : ℕ → Bool) → IsHere (length ds) (stand p v a) → (rest : List ℤ) → Went ds result (length a.cells.items) (f v (stand p v a)) rest (deed v (left_of (stand p v a) rest)))
      → Runs ds p result i 0 a b deed
  became_runs {a = a} {b = b} {deed = deed} f x grown drawn dead lives = record {
    fits = x.fits;
    added = x.added;
    grows = grown;
    result = x.result;
    moves = λ v. record { more = []; draws = ap (λ z. z.draws) (x.is v) ∙ drawn v ∙ sym (append-nil (stand p v a).draws); still = λ d. subst (Kept (stand p v a)) (sym (x.is v)) (dead v d) };
    does = λ v here vs rest t.
        subst (λ z. Went ds result (length a.cells.items) z rest (deed v (left_of (stand p v a) vs))) (sym (x.is v))
        (subst (λ w. Went ds result (length a.cells.items) (f v (stand p v a)) rest (deed v (left_of (stand p v a) w))) (sym t) (lives v here rest));
  }

  -- a statement that does nothing
  pub skip_runs : (a : Sym) → IsState p a → Runs ds p result 0 0 a a (λ v s. Go Next s)
  skip_runs a h = record {
    fits = h;
    added = unchanged 0 a.net;
    grows = omega arith;
    result = refl;
    moves = λ v. record { more = []; draws = sym (append-nil (stand p v a).draws); still = λ d. same_kept refl };
    does = λ v here vs rest t. (here, ap (λ w. left_of (stand p v a) w) t);
  }
