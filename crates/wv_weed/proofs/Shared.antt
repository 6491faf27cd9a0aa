-- Bits of a net that no inputs make true, and of another net that begins with the same nodes.
use Rattle.std.proofs.Common.{◌≡◌, ℕ, ◌+◌, ◌-◌, ◌*◌, ◌<◌, ◌≤◌, Bool, true, false, List, [], ◌∷◌, ◌++◌, length, get_or, take, drop, sym, ◌∙◌, ap, subst, arith, inl, inr}
use Rattle.std.specs.Prelude.{slice_set, replicate}
use Rattle.std.proofs.lemmas.Bool.{cases_eq, cases_lt}
use Rattle.std.proofs.lemmas.List.{get_or-append_right, get_or-set_other, get_or-take, get_or_append_left, length-append, length-replicate, length-set, length-take-le, take-append-drop, take_more}
use Rattle.circuits.specs.declared.net.Bit.{Bit}
use Rattle.circuits.specs.declared.net.NetNode.{NetNode}
use Rattle.circuits.specs.Net.{IsIn, holds}
use Rattle.circuits.specs.Numbers.{digit}
use Rattle.circuits.proofs.Nets.{holds-append}
use Rattle.bit_answers.specs.Deciding.{IsNeverTrue}
use Rattle.wv_weed.specs.Known.{AreNever, AreShared, flag_place}
use Rattle.wv_weed.specs.Numbers.{IsSet}
use Rattle.wv_weed.proofs.Spared.{none_replicated}

-- ---- the places of flags

digit_small : (on : Bool) → digit on ≤ 1
digit_small true = omega arith
digit_small false = omega arith

abbrev bit : ℕ → Bool → Bit
bit node negated = record { node = node; negated = negated }

same_parts : (m n : ℕ) (a b : Bool) → 2 * m + digit a ≡ 2 * n + digit b → bit m a ≡ bit n b
same_parts m n true true e = let same : m ≡ n = omega (arith, e) in ap (λ k. bit k true) same
same_parts m n false false e = let same : m ≡ n = omega (arith, e) in ap (λ k. bit k false) same
same_parts m n true false e = absurd (omega (arith, e))
same_parts m n false true e = absurd (omega (arith, e))

-- each bit has a flag of its own
same_bit : (a b : Bit) → flag_place a ≡ flag_place b → a ≡ b
same_bit a b e = same_parts a.node b.node a.negated b.negated e

pub flag_within : (net : List NetNode) (flags : List Bool) (b : Bit) → AreNever net flags → IsIn net b
    → flag_place b < length flags
flag_within net flags b known inside = omega (arith, known.many, inside, digit_small b.negated)

-- ---- what is known of one net

pub one_more_known : (net : List NetNode) (flags after : List Bool) (b : Bit) → AreNever net flags → IsNeverTrue net b
    → after ≡ slice_set flags (flag_place b) true → AreNever net after
one_more_known net flags after b known never e = subst (AreNever net) (sym e) (record {
  many = length-set flags (flag_place b) true ∙ known.many;
  never = λ other on. elim (cases_eq (flag_place other) (flag_place b)) as (λ _. IsNeverTrue net other) [
    | inl same ↦ subst (IsNeverTrue net) (sym (same_bit other b same)) never
    | inr apart ↦
        known.never other (sym (get_or-set_other flags (flag_place b) (flag_place other) true false apart) ∙ on)
  ];
})

-- ---- nets that begin with the same nodes

pub one_more_shared : (one other : List NetNode) (n : ℕ) (d : NetNode) → AreShared one other n → n < length one
    → n < length other → get_or one n d ≡ get_or other n d → AreShared one other (n + 1)
one_more_shared one other n d shared less lt e = record {
  in_one = omega (arith, less);
  in_other = omega (arith, lt);
  same = take_more one n d less ∙ ap (λ front. front ++ get_or one n d ∷ []) shared.same
      ∙ ap (λ node. take n other ++ node ∷ []) e ∙ sym (take_more other n d lt);
}

-- a bit of a net is one of the nodes before it
front_value : (v : ℕ → Bool) (net : List NetNode) (n : ℕ) (b : Bit) → n ≤ length net → b.node < n
    → holds v net b ≡ holds v (take n net) b
front_value v net n b le lt =
    ap (λ nodes. holds v nodes b) (sym (take-append-drop n net))
    ∙ holds-append v (take n net) (drop n net) b (omega (arith, lt, length-take-le n net le))

same_value : (v : ℕ → Bool) (one other : List NetNode) (n : ℕ) (b : Bit) → AreShared one other n → b.node < n
    → holds v other b ≡ holds v one b
same_value v one other n b shared lt =
    front_value v other n b shared.in_other lt ∙ ap (λ nodes. holds v nodes b) (sym shared.same)
    ∙ sym (front_value v one n b shared.in_one lt)

-- what is known of the bits of the nodes that both nets have in common
pub carried_over : (one other : List NetNode) (n : ℕ) (flags after : List Bool) → AreShared one other n
    → AreNever one flags → after ≡ take (2 * n) flags ++ replicate (2 * (length other - n)) false → AreNever other after
carried_over one other n flags after shared known e =
    let m = 2 * n in
    let front = take m flags in
    let back = replicate (2 * (length other - n)) false in
    let fits : m ≤ length flags = omega (arith, shared.in_one, known.many) in
    let long : length front ≡ m = length-take-le m flags fits in
    subst (AreNever other) (sym e) (record {
      many =
          omega (
            arith,
            length-append front back,
            long,
            length-replicate (2 * (length other - n)) false,
            shared.in_other,
          );
      never = λ b on. elim (cases_lt (flag_place b) m) as (λ _. IsNeverTrue other b) [
        | inl less ↦ λ v.
            let set : IsSet flags (flag_place b) =
            sym (get_or_append_left front back false (flag_place b) (omega (arith, less, long))
            ∙ get_or-take m flags (flag_place b) false less) ∙ on in
            same_value v one other n b shared (omega (arith, less)) ∙ known.never b set v
        | inr more ↦ absurd (none_replicated (2 * (length other - n)) (flag_place b - m)
            (sym (get_or-append_right front back m (flag_place b) false long more) ∙ on))
      ];
    })
