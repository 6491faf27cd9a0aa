-- A machine at an address: what single operations of statements lead to, and parts one behind another.
use Rattle.std.proofs.Common.{◌≡◌, ℕ, zero, suc, ◌+◌, List, ◌∷◌, length, take, Some, slice_get, refl, sym, ap₂, ◌∙◌, subst}
use Rattle.c_core.specs.Tree.{Program}
use Rattle.c_meaning.specs.declared.run.End.{End}
use Rattle.c_meaning.specs.declared.run.Event.{Event}
use Rattle.c_meaning.specs.Acts.{Res, Go, Stop, bind}
use Rattle.c_meaning.specs.Cells.{Cell}
use Rattle.c_meaning.specs.Exec.{ticks}
use Rattle.c_meaning.specs.Meaning.{Tick}
use Rattle.c_meaning.specs.Run.{State, with_cells}
use Rattle.flow_code.specs.declared.code.Action.{Action}
use Rattle.flow_code.specs.declared.code.Action.TheVariants.{Jump, Open, Close}
use Rattle.flow_code.specs.declared.code.Code.{Code}
use Rattle.flow_code.specs.declared.code.Op.{Op}
use Rattle.flow_code.specs.Preparing.{op, followed}
use Rattle.flow_laws.specs.Machines.{Control, Machine}
use Rattle.flow_laws.specs.Acting.{acted}
use Rattle.flow_laws.specs.Stepping.{Reaches, Does}
use Rattle.flow_laws.specs.inside.Simulating.{HasCode, control_at, meaning, paying}
use Rattle.flow_laws.proofs.Operations.{code_split, bind_alike, standing, op_comes, paying_alike, paying_behind}
use Rattle.flow_laws.proofs.Reaching.{does_from}

-- a machine by its two parts
is_made : {S : Type 0} (y : Machine S) (l : Control) (u : State S) → y.run ≡ u → y.control ≡ l → record { control = l; run = u } ≡ y
is_made y l u e h = sym (ap₂ (λ (l : Control) (u : State _). record { control = l; run = u }) h e)

-- operations, and the ones behind them, which depend on where they begin
pub has_followed : (c : Code) (i n : ℕ) (xs : List Op) (f : ℕ → List Op) → length xs ≡ n → HasCode c i (followed i xs f) → HasCode c i xs × HasCode c (i + n) (f (i + n))
has_followed c i n xs f e h =
    let r = code_split c i xs (f (i + length xs)) h in
    (r.0, subst (λ l. HasCode c (i + l) (f (i + l))) e r.1)

module _ (c : Code) (S : Type 0) (after : Event → List Cell → S → S) where
  -- a part and what comes behind it, which may know how the part went on and what was reached
  pub does_on : {A B : Type 0} (x : Machine S) (r : Res End (State S) A) (k : A → State S → Res End (State S) B) (K : A → State S → Machine S → Type 0) (L : B → State S → Machine S → Type 0)
      → Does c S after x r K → ((a : A) (s : State S) (y : Machine S) → r ≡ Go a s → Reaches c S after x y → K a s y → Does c S after y (k a s) L) → Does c S after x (bind r k) L
  does_on x (Go a s) k K L d f = does_from c S after x d.0 (k a s) L d.1 (f a s d.0 refl d.1 d.2)
  does_on x (Stop e s) k K L d f = d

  -- what stands behind a part also stands as something else says, which may know the same
  pub does_so : {A : Type 0} (x : Machine S) (r : Res End (State S) A) (K L : A → State S → Machine S → Type 0)
      → Does c S after x r K → ((a : A) (s : State S) (y : Machine S) → r ≡ Go a s → Reaches c S after x y → K a s y → L a s y) → Does c S after x r L
  does_so x (Go a s) K L d f = (d.0, d.1, f a s d.0 refl d.1 d.2)
  does_so x (Stop e s) K L d f = d

  -- what a machine does, by the machine's two parts
  pub does_made : {A : Type 0} (y : Machine S) (l : Control) (u : State S) (r : Res End (State S) A) (K : A → State S → Machine S → Type 0)
      → y.run ≡ u → y.control ≡ l → Does c S after (record { control = l; run = u }) r K → Does c S after y r K
  does_made y l u r K e h d = subst (λ z. Does c S after z r K) (is_made y l u e h) d

  -- what it reaches
  pub reaches_made : (y z : Machine S) (l : Control) (u : State S) → y.run ≡ u → y.control ≡ l → Reaches c S after (record { control = l; run = u }) z → Reaches c S after y z
  reaches_made y z l u e h r = subst (λ x. Reaches c S after x z) (is_made y l u e h) r

  module _ (p : Program) where
    -- an operation that takes no step
    pub op_goes : (i : ℕ) (k l : Control) (s u : State S) (a : Action) → slice_get c.ops i ≡ Some (op 0 a) → acted c S after a (control_at k (suc i)) s ≡ Go l u
        → Reaches c S after (standing k i s) (record { control = l; run = u })
    op_goes i k l s u a h e =
        let d = subst (λ r. Does c S after (standing k i s) r (λ m t y. (y.control ≡ m) × (y.run ≡ t))) e (op_comes p c S after i (op 0 a) k s h) in
        subst (λ y. Reaches c S after (standing k i s) y) (sym (is_made d.0 l u d.2.1 d.2.0)) d.1

    -- a jump
    pub jumps : (i to : ℕ) (k : Control) (s : State S) → slice_get c.ops i ≡ Some (op 0 (Jump to)) → Reaches c S after (standing k i s) (standing k to s)
    jumps i to k s h = op_goes i k (control_at k to) s s (Jump to) h refl

    -- a scope begins
    pub opens : (i : ℕ) (k : Control) (s : State S) → slice_get c.ops i ≡ Some (op 0 Open)
        → Reaches c S after (standing k i s) (standing (record k { scopes = length s.cells ∷ k.scopes }) (suc i) s)
    opens i k s h = op_goes i k (control_at (record k { scopes = length s.cells ∷ k.scopes }) (suc i)) s s Open h refl

    -- the innermost scope ends
    pub closes : (i n : ℕ) (k : Control) (s : State S) → slice_get c.ops i ≡ Some (op 0 Close)
        → Reaches c S after (standing (record k { scopes = n ∷ k.scopes }) i s) (standing k (suc i) (with_cells (take n s.cells) s))
    closes i n k s h = op_goes i (record k { scopes = n ∷ k.scopes }) (control_at k (suc i)) s (with_cells (take n s.cells) s) Close h refl

    -- steps are taken alike whatever they are taken for
    pub ticks_alike : (t q : Tick) (n : ℕ) (s : State S) → ticks p (meaning p c S after) t n s ≡ ticks p (meaning p c S after) q n s
    ticks_alike t q zero s = refl
    ticks_alike t q (suc n) s =
        bind_alike ((meaning p c S after).tick t s) (λ _ u. ticks p (meaning p c S after) t n u) (λ _ u. ticks p (meaning p c S after) q n u) (λ _ u. ticks_alike t q n u)

    stays : (m : Machine S) (l : Control) (r : Res End (State S) (Unit {0})) → Does c S after m (bind r (λ _ u. Go l u)) (λ k u y. (y.control ≡ k) × (y.run ≡ u))
        → Does c S after m r (λ _ u y. (y.run ≡ u) × (y.control ≡ l))
    stays m l (Go t u) d = (d.0, d.1, (d.2.1, d.2.0))
    stays m l (Stop e u) d = d

    -- an operation takes its steps, and then does a part and stays behind itself
    pub op_stays : (i n : ℕ) (k : Control) (s : State S) (a : Action) (part : State S → Res End (State S) (Unit {0}))
        → slice_get c.ops i ≡ Some (op n a) → ((l : Control) (u : State S) → acted c S after a l u ≡ bind (part u) (λ _ v. Go l v))
        → Does c S after (standing k i s) (paying p c S after n part s) (λ _ u y. (y.run ≡ u) × (y.control ≡ control_at k (suc i)))
    op_stays i n k s a part h g =
        let l = control_at k (suc i) in
        let e = paying_alike p c S after n (acted c S after a l) (λ u. bind (part u) (λ _ v. Go l v)) s (g l) ∙ sym (paying_behind p c S after n part (λ _ v. Go l v) s) in
        stays (standing k i s) l (paying p c S after n part s)
        (subst (λ r. Does c S after (standing k i s) r (λ m t y. (y.control ≡ m) × (y.run ≡ t))) e (op_comes p c S after i (op n a) k s h))
