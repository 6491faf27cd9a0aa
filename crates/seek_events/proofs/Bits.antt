-- Bits whose values stay as their net grows.
use Rattle.std.proofs.Common.{◌≡◌, ◌<◌, ℕ, Bool, true, false, cond, ◌&&◌, ◌||◌, List, [], ◌∷◌, get_or, length, refl, sym, ap, ◌∙◌, arith}
use Rattle.std.specs.List.{All}
use Rattle.std.proofs.lemmas.List.Elements.{All-cons, All-get_or, All-head, All-nil, All-tail}
use Rattle.circuits.specs.Net.{holds, Grown, Means, IsIn}
use Rattle.circuits.specs.declared.net.Bit.{Bit}
use Rattle.circuits.specs.declared.net.NetNode.{NetNode}
use Rattle.circuits.proofs.Nets.{longer, means_by, stays}
use Rattle.seek_events.specs.Passed as passed
use Rattle.seek_events.specs.Events.{IsHere, passed_in, values_in}
use Rattle.seek_events.specs.declared.segment.Passing.{Passing}

pub inside_later : {most : ℕ} {old new : List NetNode} (b : Bit) → Grown most old new → IsIn old b → IsIn new b
inside_later {most} {old} {new} b g h = omega (arith, (longer most old new g).0)

pub all_later : {most : ℕ} {old new : List NetNode} (bits : List Bit) → Grown most old new → All (IsIn old) bits → All (IsIn new) bits
all_later {most} {old} {new} [] g h = All-nil (IsIn new)
all_later {most} {old} {new} (b ∷ bits) g h =
    All-cons (IsIn new) b bits (inside_later b g (All-head (IsIn old) b bits h)) (all_later bits g (All-tail (IsIn old) b bits h))

-- the bit at an index
pub bit_later : {most : ℕ} {old new : List NetNode} (bits : List Bit) (i : ℕ) (d : Bit) → Grown most old new → All (IsIn old) bits → i < length bits → IsIn new (get_or bits i d)
bit_later {most} {old} {new} bits i d g h lt = inside_later (get_or bits i d) g (All-get_or (IsIn old) bits i d lt h)

pub here_later : {most : ℕ} {old new : List NetNode} (x : Passing) → Grown most old new → IsHere old x → IsHere new x
here_later x g h = record { avoided = inside_later x.avoided g h.avoided; followed = inside_later x.followed g h.followed }

pub passed_kept : {most : ℕ} {old new : List NetNode} (v : ℕ → Bool) (x : Passing) → Grown most old new → IsHere old x → passed_in new v x ≡ passed_in old v x
passed_kept {most} {old} {new} v x g h =
    ap (λ a. record { avoided = a; followed = holds v new x.followed; assumes = x.assumes }) (stays v most old new x.avoided g h.avoided)
    ∙ ap (λ f. record { avoided = holds v old x.avoided; followed = f; assumes = x.assumes }) (stays v most old new x.followed g h.followed)

pub values_kept : {most : ℕ} {old new : List NetNode} (v : ℕ → Bool) (bits : List Bit) → Grown most old new → All (IsIn old) bits → values_in new v bits ≡ values_in old v bits
values_kept v [] g h = refl
values_kept {most} {old} {new} v (b ∷ bits) g h =
    ap (λ x. x ∷ values_in new v bits) (stays v most old new b g (All-head (IsIn old) b bits h))
    ∙ ap (λ xs. holds v old b ∷ xs) (values_kept v bits g (All-tail (IsIn old) b bits h))

-- where both are the same bit, it is picked
pub same_picked : (net : List NetNode) (here now before : Bit) → now ≡ before → IsIn net before → Means net before (λ v. cond (holds v net here) (holds v net now) (holds v net before))
same_picked net here now before e h = record {
  inside = h;
  is = λ v. sym (ap (λ b. cond (holds v net here) (holds v net b) (holds v net before)) e ∙ either (holds v net here) (holds v net before));
}
  where
    either : (t b : Bool) → cond t b b ≡ b
    either true b = refl
    either false b = refl

pub or_false : (a : Bool) → a ≡ (a || false)
or_false true = refl
or_false false = refl

both_share : (a b : Bool) → (a && b) ≡ true → (c : Bool) → c ≡ (a && (b && c))
both_share true true e c = refl
both_share true false e c = cc
both_share false b e c = cc

none_shares : (a b : Bool) → (a && b) ≡ false → (c : Bool) → false ≡ (a && (b && c))
none_shares true true e c = cc
none_shares true false e c = refl
none_shares false b e c = refl

-- two assumptions may share an event
pub shared : (old new : List NetNode) (r stay came : Bit) (assumes also : Bool) → (assumes && also) ≡ true → Means new r (λ v. holds v old stay || holds v old came)
    → Means new r (λ v. holds v old stay || (assumes && (also && holds v old came)))
shared old new r stay came assumes also e m = means_by new r _ _ m (λ v. ap (λ a. holds v old stay || a) (both_share assumes also e (holds v old came)))

-- others may not
pub none_shared : (net : List NetNode) (stay came : Bit) (assumes also : Bool) → (assumes && also) ≡ false → IsIn net stay
    → Means net stay (λ v. holds v net stay || (assumes && (also && holds v net came)))
none_shared net stay came assumes also e h = record {
  inside = h;
  is = λ v. or_false (holds v net stay) ∙ ap (λ a. holds v net stay || a) (none_shares assumes also e (holds v net came));
}

pub reached_made : (old mid new : List NetNode) (came : Bit) (assumes : Bool) (x : Passing) (b stay r : Bit) {most : ℕ} → Grown most old mid → IsIn old came
    → Means mid stay (λ v. passed.stays (passed_in old v x) (holds v old b)) → Means new r (λ v. holds v mid stay || (assumes && (x.assumes && holds v mid came)))
    → Means new r (λ v. passed.stays (passed_in old v x) (holds v old b) || (assumes && (x.assumes && holds v old came)))
reached_made old mid new came assumes x b stay r {most} g c s m =
    means_by new r _ _ m (λ v.
    ap (λ a. a || (assumes && (x.assumes && holds v mid came))) (s.is v)
    ∙ ap (λ a. passed.stays (passed_in old v x) (holds v old b) || (assumes && (x.assumes && a))) (stays v most old mid came g c))

-- the same over an earlier net
pub stays_kept : (old mid new : List NetNode) (x : Passing) (b r : Bit) {most : ℕ} → Grown most old mid → IsHere old x → IsIn old b → Means new r (λ v. passed.stays (passed_in mid v x) (holds v mid b))
    → Means new r (λ v. passed.stays (passed_in old v x) (holds v old b))
stays_kept old mid new x b r {most} g x_in b_in m =
    means_by new r _ _ m (λ v. ap (λ y. passed.stays y (holds v mid b)) (passed_kept v x g x_in) ∙ ap (λ a. passed.stays (passed_in old v x) a) (stays v most old mid b g b_in))
