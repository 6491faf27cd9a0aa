-- The number that the values of bits count, from the highest digit down.
use Rattle.std.proofs.Common.{◌≡◌, ℕ, zero, suc, ◌+◌, ◌-◌, ◌*◌, ◌^◌, ◌<◌, ◌≤◌, Bool, true, false, pos, List, [], ◌∷◌, length, drop, get_or, refl, sym, ◌∙◌, ap, arith}
use Rattle.std.specs.List.{All}
use Rattle.std.specs.Prelude.{slice_index_or}
use Rattle.std.proofs.lemmas.List.{drop_more, drop_all}
use Rattle.std.proofs.Math.Nat.{mod-eq_of_lt, pow-succ'}
use Rattle.std.proofs.Math.Pow.{pow_mono}
use Rattle.c_core.specs.Types.{width_of, is_signed, residue, fit, wrapped}
use Rattle.c_core.specs.declared.number.DataModel.{DataModel}
use Rattle.c_core.specs.declared.number.IntType.{IntType}
use Rattle.c_core.specs.declared.number.IntType.TheVariants.{Bool as BoolType, Char, SChar, UChar, Short, UShort, Int, UInt, Long, ULong, LongLong, ULongLong}
use Rattle.circuits.specs.declared.net.Bit.{Bit}
use Rattle.circuits.specs.declared.net.NetNode.{NetNode}
use Rattle.circuits.specs.Net.{holds, values_of, bit_in}
use Rattle.circuits.specs.Numbers.{number, digit, read, typed}
use Rattle.sym_state.specs.declared.state.DrawSite.{DrawSite}
use Rattle.sym_state.specs.Standing.{AreSites}
use Rattle.bit_answers.specs.Deciding.{IsWide}

-- the number of the last i bits
pub record IsCounted (values : List Bool) (bits : List Bit) (i n : ℕ) : Type 0 where
  pub below : n < 2 ^ i
  pub is : (v : ℕ → Bool) (net : List NetNode) → values ≡ values_of v net → n ≡ number v net (drop (length bits - i) bits)

pub counted_none : (values : List Bool) (bits : List Bit) → IsCounted values bits 0 0
unfolding number
counted_none values bits = record { below = omega arith; is = λ v net h. sym (ap (number v net) (drop_all (length bits - 0) bits (omega arith))) }

digit_small : (b : Bool) → digit b ≤ 1
digit_small true = omega arith
digit_small false = omega arith

pub twice : (i : ℕ) → 2 ^ (i + 1) ≡ 2 * 2 ^ i
twice i = ap (λ k. 2 ^ k) (omega arith) ∙ pow-succ' 2 i

-- i digits more than none, and one more are 64 at most
pub room : (i n d : ℕ) (b : Bool) → i + 1 ≤ 64 → n < 2 ^ i → d ≡ digit b → 2 * n + d < 2 ^ 64
room i n d b h lt e = omega (arith, twice i, digit_small b, e, pow_mono {i = i + 1} {j = 64} h)

next_number : (v : ℕ → Bool) (net : List NetNode) (bits : List Bit) (i j : ℕ) (d : Bit) → i < length bits → j ≡ length bits - 1 - i
    → number v net (drop (length bits - (i + 1)) bits) ≡ digit (holds v net (get_or bits j d)) + 2 * number v net (drop (length bits - i) bits)
unfolding number
next_number v net bits i j d lt e =
    let here : length bits - (i + 1) ≡ j = omega (arith, e) in
    let there : j + 1 ≡ length bits - i = omega (arith, e) in
    ap (λ k. number v net (drop k bits)) here ∙ ap (number v net) (drop_more bits j d (omega (arith, e))) ∙ ap (λ k. digit (holds v net (get_or bits j d)) + 2 * number v net (drop k bits)) there

holds_in : (values : List Bool) (v : ℕ → Bool) (net : List NetNode) (b : Bit) → values ≡ values_of v net → holds v net b ≡ bit_in values b
unfolding holds
holds_in values v net b e = sym (ap (λ l. bit_in l b) e)

pub counted_next : (values : List Bool) (bits : List Bit) (i j n x m : ℕ) (d : Bit) → i < length bits → j ≡ length bits - 1 - i → IsCounted values bits i n
    → x ≡ digit (bit_in values (get_or bits j d)) → m ≡ 2 * n + x → IsCounted values bits (i + 1) m
counted_next values bits i j n x m d lt e c q s = record {
  below = omega (arith, twice i, digit_small (bit_in values (get_or bits j d)), q, s, c.below);
  is = λ v net h. omega (arith, s, q, c.is v net h, next_number v net bits i j d lt e, ap digit (holds_in values v net (get_or bits j d) h));
}

pub counted_all : (values : List Bool) (bits : List Bit) (i n : ℕ) → i ≡ length bits → IsCounted values bits i n → (v : ℕ → Bool) (net : List NetNode) → values ≡ values_of v net → n ≡ number v net bits
counted_all values bits i n e c v net h = let none : length bits - i ≡ 0 = omega (arith, e) in c.is v net h ∙ ap (λ k. number v net (drop k bits)) none

-- ---- a number in a type
residue_small : (w n : ℕ) → n < 2 ^ w → residue w (pos n) ≡ n
unfolding residue
residue_small w n h = mod-eq_of_lt h

wrapped_read : (w : ℕ) (s : Bool) (n : ℕ) → n < 2 ^ w → wrapped w s (pos n) ≡ read w s n
unfolding wrapped
wrapped_read w s n h = ap (read w s) (residue_small w n h)

pub fit_read : (m : DataModel) (ty : IntType) (n : ℕ) → n < 2 ^ width_of m ty → fit m ty (pos n) ≡ read (width_of m ty) (is_signed ty) n
fit_read m BoolType zero h = refl
fit_read m BoolType (suc zero) h = refl
fit_read m BoolType (suc (suc n)) h = absurd (omega (arith, h))
fit_read m Char n h = wrapped_read (width_of m Char) (is_signed Char) n h
fit_read m SChar n h = wrapped_read (width_of m SChar) (is_signed SChar) n h
fit_read m UChar n h = wrapped_read (width_of m UChar) (is_signed UChar) n h
fit_read m Short n h = wrapped_read (width_of m Short) (is_signed Short) n h
fit_read m UShort n h = wrapped_read (width_of m UShort) (is_signed UShort) n h
fit_read m Int n h = wrapped_read (width_of m Int) (is_signed Int) n h
fit_read m UInt n h = wrapped_read (width_of m UInt) (is_signed UInt) n h
fit_read m Long n h = wrapped_read (width_of m Long) (is_signed Long) n h
fit_read m ULong n h = wrapped_read (width_of m ULong) (is_signed ULong) n h
fit_read m LongLong n h = wrapped_read (width_of m LongLong) (is_signed LongLong) n h
fit_read m ULongLong n h = wrapped_read (width_of m ULongLong) (is_signed ULongLong) n h

pub drawn_value : (m : DataModel) (d : DrawSite) (v : ℕ → Bool) (net : List NetNode) (bits : List Bit) (n : ℕ) → bits ≡ d.bits.bits → IsWide m d → n < 2 ^ length bits → n ≡ number v net bits
    → fit m d.ty (pos n) ≡ typed m d.ty v net d.bits.bits
drawn_value m d v net bits n same wide lt e =
    fit_read m d.ty n (omega (arith, lt, ap (λ k. 2 ^ k) (ap length same ∙ wide))) ∙ ap (read (width_of m d.ty) (is_signed d.ty)) (e ∙ ap (number v net) same)

-- each site is as wide as its type
wide_at : (m : DataModel) (net : List NetNode) (base top : ℕ) (ds : List DrawSite) → AreSites m net base ds top → (k : ℕ) (d : DrawSite) → k < length ds → IsWide m (slice_index_or ds k d)
wide_at m net base top [] h k d lt = absurd (omega (arith, lt))
wide_at m net base top (x ∷ xs) h zero d lt = h.0.bits.wide
wide_at m net base top (x ∷ xs) h (suc k) d lt = wide_at m net (base + width_of m x.ty) top xs h.1 k d (omega (arith, lt))

pub sites_wide : (m : DataModel) (net : List NetNode) (base top : ℕ) (ds : List DrawSite) → AreSites m net base ds top → All (IsWide m) ds
sites_wide m net base top ds h = wide_at m net base top ds h
