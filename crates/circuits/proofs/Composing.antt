-- Gates, and how a caller composes them.
use Rattle.std.proofs.Common.{◌≡◌, ℕ, ◌+◌, ◌*◌, Bool, true, false, not, cond, ◌&&◌, ◌||◌, List, refl, ◌∙◌, ap}
use Rattle.circuits.specs.declared.net.Bit.{Bit}
use Rattle.circuits.specs.declared.net.NetNode.{NetNode}
use Rattle.circuits.specs.Net.{xor, holds, Means}
use Rattle.circuits.specs.Numbers.{digit}
use Rattle.circuits.specs.Gates.{IsSumOf}
use Rattle.circuits.proofs.Nets.{means_by}

or_gates : (a b : Bool) → not (not a && not b) ≡ (a || b)
or_gates true b = refl
or_gates false true = refl
or_gates false false = refl

xor_gates : (a b : Bool) → (not (a && b) && not (not a && not b)) ≡ xor a b
xor_gates true true = refl
xor_gates true false = refl
xor_gates false true = refl
xor_gates false false = refl

pick_gates : (t y n : Bool) → (t && y || not t && n) ≡ cond t y n
pick_gates true true n = refl
pick_gates true false n = refl
pick_gates false y n = refl

compared_gates : (a b l : Bool) → (not a && b || not (a && not b) && l) ≡ cond (xor a b) b l
compared_gates true true l = refl
compared_gates true false l = refl
compared_gates false true l = refl
compared_gates false false l = refl

full_gates : (a b c : Bool) → digit (xor (xor a b) c) + 2 * digit (a && b || xor a b && c) ≡ digit a + digit b + digit c
full_gates true true true = refl
full_gates true true false = refl
full_gates true false true = refl
full_gates true false false = refl
full_gates false true true = refl
full_gates false true false = refl
full_gates false false true = refl
full_gates false false false = refl

pub xor_of : {old new : List NetNode} {r a b : Bit} {f g : (ℕ → Bool) → Bool} → Means new r (λ v. xor (holds v old a) (holds v old b)) → Means old a f → Means old b g → Means new r (λ v. xor (f v) (g v))
xor_of {old} {new} {r} {a} {b} {f} {g} m p q = record { inside = m.inside; is = λ v. m.is v ∙ ap (λ x. xor x (holds v old b)) (p.is v) ∙ ap (λ y. xor (f v) y) (q.is v) }

pub or_of : {old new : List NetNode} {r a b : Bit} {f g : (ℕ → Bool) → Bool} → Means new r (λ v. holds v old a || holds v old b) → Means old a f → Means old b g → Means new r (λ v. f v || g v)
or_of {old} {new} {r} {a} {b} {f} {g} m p q = record { inside = m.inside; is = λ v. m.is v ∙ ap (λ x. x || holds v old b) (p.is v) ∙ ap (λ y. f v || y) (q.is v) }

pub pick_of : {old new : List NetNode} {r t a b : Bit} {f g h : (ℕ → Bool) → Bool} → Means new r (λ v. cond (holds v old t) (holds v old a) (holds v old b)) → Means old t f → Means old a g → Means old b h → Means new r (λ v. cond (f v) (g v) (h v))
pick_of {old} {new} {r} {t} {a} {b} {f} {g} {h} m o p q = record { inside = m.inside; is = λ v. m.is v ∙ ap (λ x. cond x (holds v old a) (holds v old b)) (o.is v) ∙ ap (λ x. cond (f v) x (holds v old b)) (p.is v) ∙ ap (λ x. cond (f v) (g v) x) (q.is v) }

pub or_made : (old new : List NetNode) (r a b : Bit) → Means new r (λ v. not (not (holds v old a) && not (holds v old b))) → Means new r (λ v. holds v old a || holds v old b)
or_made old new r a b p = means_by _ _ _ _ p (λ v. or_gates (holds v old a) (holds v old b))

pub xor_made : (old new : List NetNode) (r a b : Bit)
    → Means new r (λ v. not (holds v old a && holds v old b) && not (not (holds v old a) && not (holds v old b)))
    → Means new r (λ v. xor (holds v old a) (holds v old b))
xor_made old new r a b p = means_by _ _ _ _ p (λ v. xor_gates (holds v old a) (holds v old b))

pub pick_made : (old new : List NetNode) (r t y n : Bit)
    → Means new r (λ v. holds v old t && holds v old y || not (holds v old t) && holds v old n)
    → Means new r (λ v. cond (holds v old t) (holds v old y) (holds v old n))
pick_made old new r t y n p = means_by _ _ _ _ p (λ v. pick_gates (holds v old t) (holds v old y) (holds v old n))

pub compared_made : (old new : List NetNode) (r a b l : Bit)
    → Means new r (λ v. not (holds v old a) && holds v old b || not (holds v old a && not (holds v old b)) && holds v old l)
    → Means new r (λ v. cond (xor (holds v old a) (holds v old b)) (holds v old b) (holds v old l))
compared_made old new r a b l p = means_by _ _ _ _ p (λ v. compared_gates (holds v old a) (holds v old b) (holds v old l))

pub sum_made : {old new : List NetNode} {s c x y z : Bit}
    → Means new s (λ v. xor (xor (holds v old x) (holds v old y)) (holds v old z))
    → Means new c (λ v. holds v old x && holds v old y || xor (holds v old x) (holds v old y) && holds v old z)
    → IsSumOf old new s c x y z
sum_made {old} {new} {s} {c} {x} {y} {z} p q = record {
  low_in = p.inside;
  high_in = q.inside;
  is = λ v. ap (λ a. digit a + 2 * digit (holds v new c)) (p.is v) ∙ ap (λ a. digit (xor (xor (holds v old x) (holds v old y)) (holds v old z)) + 2 * digit a) (q.is v) ∙ full_gates _ _ _;
}
