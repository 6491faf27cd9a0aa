-- Operands that are made ready, and the operations that take them.
use Rattle.std.proofs.Common.{◌≡◌, ℕ, ◌+◌, List, [], ◌∷◌, ◌++◌, length, Option, Some, None, refl, ap, ap₂, ◌∙◌, subst, length-append}
use Rattle.flow_code.specs.declared.code.Operand.{Operand}
use Rattle.flow_code.specs.declared.code.Operand.TheVariants.{Top, Cell, Number}
use Rattle.flow_code.specs.declared.code.Then.TheVariants.{Push}
use Rattle.flow_code.specs.declared.code.Action.{Action}
use Rattle.flow_code.specs.declared.code.Op.{Op}
use Rattle.flow_code.specs.declared.operands.Prepared.{Prepared}
use Rattle.flow_code.specs.declared.operands.Pair.{Pair}
use Rattle.flow_code.specs.Making.{IsReady, AreReady}
use Rattle.flow_code.specs.Preparing.{op, give, Ready, ReadyPair, prepared, taken, taken_both, kept, rest, paired, paired_at}
use Rattle.flow_code.proofs.Gluing.{nothing_more, behind_it}

-- an expression that is an operand by itself
pub ready_operand : (ops : List Op) (x : Operand) (n k : ℕ) (y : Option Operand) (xs : List Op) → Some x ≡ y → n ≡ k + 1
    → IsReady (record { operand = x; steps = n }) ops ops (prepared y k xs)
ready_operand ops x n k y xs h e =
    subst (λ z. IsReady (record { operand = x; steps = n }) ops ops (prepared z k xs)) h (record { ops = nothing_more ops; operand = refl; steps = e })

-- one whose value is on the stack
pub ready_value : (old new : List Op) (k : ℕ) (y : Option Operand) (xs : List Op) → None ≡ y → new ≡ old ++ xs → IsReady (record { operand = Top; steps = 0 }) old new (prepared y k xs)
ready_value old new k y xs h e =
    subst (λ z. IsReady (record { operand = Top; steps = 0 }) old new (prepared z k xs)) h (record { ops = e; operand = refl; steps = refl })

-- a left operand that isn't on the stack is put there
pub kept_other : (x : Operand) (k : ℕ) (old new : List Op) → (x ≡ Top → ⊥) → new ≡ old ++ give k x Push ∷ [] → new ≡ old ++ kept x k
kept_other Top k old new h e = absurd (h refl)
kept_other (Cell o) k old new h e = e
kept_other (Number v) k old new h e = e

-- no step is left behind what puts it there
pub no_rest : (x : Operand) (k : ℕ) → (x ≡ Top → ⊥) → 0 ≡ rest x k
no_rest Top k h = absurd (h refl)
no_rest (Cell o) k h = refl
no_rest (Number v) k h = refl

-- a right operand by itself
pub pair_operand : (ops : List Op) (x w : Operand) (n k : ℕ) (y : Option Operand) (xs : List Op) → Some w ≡ y → n ≡ k + 1
    → AreReady (record { left = x; right = w; steps = n }) ops ops (paired x k y xs)
pair_operand ops x w n k y xs h e =
    subst (λ z. AreReady (record { left = x; right = w; steps = n }) ops ops (paired x k z xs)) h (record { ops = nothing_more ops; left = refl; right = refl; steps = e })

-- both on the stack
pub pair_value : (old mid new : List Op) (x : Operand) (n k : ℕ) (y : Option Operand) (f : ℕ → ℕ → List Op) → None ≡ y → mid ≡ old ++ kept x k → n ≡ rest x k → new ≡ mid ++ f (length mid) n
    → AreReady (record { left = Top; right = Top; steps = 0 }) old new (paired x k y (f (length old + length (kept x k)) (rest x k)))
pair_value old mid new x n k y f h m e g =
    let at : length mid ≡ length old + length (kept x k) = ap length m ∙ length-append old (kept x k) in
    subst (λ z. AreReady (record { left = Top; right = Top; steps = 0 }) old new (paired x k z (f (length old + length (kept x k)) (rest x k)))) h
    (record {
      ops = behind_it old (kept x k) mid new (f (length old + length (kept x k)) (rest x k)) m (g ∙ ap₂ (λ i l. mid ++ f i l) at e);
      left = refl;
      right = refl;
      steps = refl;
    })

-- a right operand behind a left one
pub pair_both : (old mid new : List Op) (q : Prepared) (j : Ready) (r : Pair) (y : Option Operand) (f : ℕ → ℕ → List Op) → IsReady q old mid j
    → AreReady r mid new (paired q.operand q.steps y (f (length mid + length (kept q.operand q.steps)) (rest q.operand q.steps)))
    → AreReady r old new (paired_at (length old) j y f)
pair_both old mid new q j r y f h g =
    let at : length mid ≡ length old + length j.ops = ap length h.ops ∙ length-append old j.ops in
    let code = λ (x : Operand) (k n : ℕ). f (n + length (kept x k)) (rest x k) in
    let first = subst (λ n. AreReady r mid new (paired q.operand q.steps y (code q.operand q.steps n))) at g in
    let second = subst (λ x. AreReady r mid new (paired x q.steps y (code x q.steps (length old + length j.ops)))) h.operand first in
    let k = subst (λ n. AreReady r mid new (paired j.operand n y (code j.operand n (length old + length j.ops)))) h.steps second in
    record {
      ops = behind_it old j.ops mid new (paired j.operand j.steps y (code j.operand j.steps (length old + length j.ops))).ops h.ops k.ops;
      left = k.left;
      right = k.right;
      steps = k.steps;
    }

-- an operand beside a number
pub pair_number : (old mid : List Op) (q : Prepared) (j : Ready) (x : Operand) → IsReady q old mid j
    → AreReady (record { left = q.operand; right = x; steps = q.steps }) old mid (record { ops = j.ops; left = j.operand; right = x; steps = j.steps })
pair_number old mid q j x h = record { ops = h.ops; left = h.operand; right = refl; steps = h.steps }

-- an operation that takes an operand
pub taken_is : (old mid new : List Op) (q : Prepared) (r : Ready) (a : Action) (f : Operand → Action) → IsReady q old mid r → new ≡ mid ++ op q.steps a ∷ [] → a ≡ f q.operand → new ≡ old ++ taken r f
taken_is old mid new q r a f h g e =
    behind_it old r.ops mid new (op q.steps a ∷ []) h.ops g ∙ ap₂ (λ k b. old ++ (r.ops ++ op k b ∷ [])) h.steps (e ∙ ap f h.operand)

-- one that takes two
pub taken_both_is : (old mid new : List Op) (q : Pair) (r : ReadyPair) (a : Action) (f : Operand → Operand → Action) → AreReady q old mid r → new ≡ mid ++ op q.steps a ∷ [] → a ≡ f q.left q.right
    → new ≡ old ++ taken_both r f
taken_both_is old mid new q r a f h g e =
    behind_it old r.ops mid new (op q.steps a ∷ []) h.ops g ∙ ap₂ (λ k b. old ++ (r.ops ++ op k b ∷ [])) h.steps (e ∙ ap₂ f h.left h.right)
