-- Unknowns that stand for words, and bits whose number needs none.
use Rattle.std.proofs.Common.{◌≡◌, ℕ, zero, suc, ◌+◌, ◌*◌, ◌/◌, ◌%◌, ◌^◌, ◌<◌, ◌≤◌, nat_eq, cond, Bool, true, false, not, ◌&&◌, Option, Some, None, Result, Ok, Err, List, [], ◌∷◌, ◌++◌, length, get_or, take, slice_get, bit_or, refl, sym, ◌∙◌, ap, subst, arith, add-one}
use Rattle.std.specs.List.{All}
use Rattle.std.proofs.lemmas.List.{take_more, take_all, length-take-le, length-map, get_or-map}
use Rattle.std.proofs.lemmas.List.Elements.{All-push, All-weaker, All-get_or, All-from_recursion, All-head}
use Rattle.std.proofs.lemmas.Option.{get_or_from_slice_get, slice_get_within, slice_get-map}
use Rattle.std.proofs.lemmas.Nat.{or_block, one_shl, pow_pos}
use Rattle.std.proofs.Math.Nat.{pow-suc}
use Rattle.std.proofs.Math.Bool.{beq}
use Rattle.std.proofs.lemmas.Bool.Decides.{Decides-and, Decides-eqb, Decides-like}
use Rattle.std.specs.Bool.{Decides}
use Rattle.std.specs.Cmp.{booleans_Decides}
use Rattle.std.specs.Int.Bits.{or_zero_r}
use Rattle.std.specs.Option.{option_map, IfSome}
use Rattle.std.specs.Result.{result_ok, IfOk, OnOk}
use Rattle.polynomials.specs.Values.{AreBelow, AreFactorsBelow, Same, factor, product_of, value}
use Rattle.polynomials.specs.Calls.{IsWithMultiple}
use Rattle.polynomials.specs.declared.polynomial.Term.{Term}
use Rattle.polynomials.proofs.Sameness.{same_add, same_by, same_mul, same_trans}
use Rattle.circuits.specs.declared.net.Bit.{Bit}
use Rattle.circuits.specs.declared.net.NetNode.{NetNode}
use Rattle.circuits.specs.declared.words.Word.{Word}
use Rattle.circuits.specs.Net.{holds, IsIn, IsNet, xor, opposite, values_from}
use Rattle.circuits.specs.Numbers.{digit, number, AreIn}
use Rattle.circuits.specs.Words.{lowest, unknown, bits_of, Tells, IsWord, AreWords}
use Rattle.circuits.proofs.Nets.{first_true, holds-opposite}
use Rattle.circuits.proofs.Counting.{number-append, number-one}
use Rattle.circuits.proofs.WordLaws.{truths, word_more, bits_of-append}

-- ---- constants
xor_true : (n : Bool) → xor n true ≡ not n
xor_true true = refl
xor_true false = refl

-- a constant bit is 0 where it is negated
pub constant_holds : (v : ℕ → Bool) (net : List NetNode) (b : Bit) → IsNet net → b.node ≡ 0 → holds v net b ≡ not b.negated
unfolding holds
constant_holds v net b h e = ap (λ k. xor b.negated (get_or (values_from v [] net) k false)) e ∙ ap (xor b.negated) (first_true v net h) ∙ xor_true b.negated

-- bits that are 0 in each net
pub record AreZeroDigits (bits : List Bit) : Type 0 where
  pub is : (net : List NetNode) → IsNet net → (v : ℕ → Bool) → number v net bits ≡ 0

pub zero_digits_none : AreZeroDigits []
unfolding number
zero_digits_none = record { is = λ net h v. refl }

pub zero_digits_more : (bits : List Bit) (i : ℕ) (d : Bit) → AreZeroDigits (take i bits) → i < length bits → (get_or bits i d).node ≡ 0 → (get_or bits i d).negated ≡ true
    → AreZeroDigits (take (i + 1) bits)
zero_digits_more bits i d z l e n = record {
  is = λ net h v.
      let b : Bit = get_or bits i d in
      let off : digit (holds v net b) ≡ 0 = ap digit (constant_holds v net b h e ∙ ap not n) in
      ap (number v net) (take_more bits i d l)
      ∙ omega (arith, number-append v net (take i bits) (b ∷ []), number-one v net b, z.is net h v, ap (λ k. 2 ^ length (take i bits) * k) (number-one v net b ∙ off));
}

-- the lowest digit alone
pub lone : {bits above : List Bit} {lowest : Bit} (i : ℕ) → bits ≡ lowest ∷ above → AreZeroDigits (take i above) → i ≡ length above
    → (net : List NetNode) → IsNet net → AreIn net bits → IsIn net lowest × ((v : ℕ → Bool) → number v net bits ≡ digit (holds v net lowest))
unfolding number
lone {bits} {above} {lowest} i e z l net h inside =
    let all : take i above ≡ above = take_all i above (omega arith) in
    let rest : (v : ℕ → Bool) → number v net above ≡ 0 = λ v. sym (ap (number v net) all) ∙ z.is net h v in
    let here : AreIn net (lowest ∷ above) = subst (λ (l : List Bit). AreIn net l) e inside in
    (All-head (λ b. IsIn net b) lowest above here, λ v. ap (number v net) e ∙ omega (arith, rest v))

-- the first so many bits are constants
pub record IsConstantSoFar (bits : List Bit) (n width : ℕ) : Type 0 where
  pub is : (net : List NetNode) → IsNet net → (v : ℕ → Bool) → number v net bits ≡ n
  pub small : n < 2 ^ width

pub constant_none : IsConstantSoFar [] 0 0
unfolding number
constant_none = record { is = λ net h v. refl; small = omega arith }

number_snoc : (v : ℕ → Bool) (net : List NetNode) (bits : List Bit) (i : ℕ) (d : Bit) → i < length bits
    → number v net (take (i + 1) bits) ≡ number v net (take i bits) + 2 ^ i * digit (holds v net (get_or bits i d))
number_snoc v net bits i d l =
    ap (number v net) (take_more bits i d l)
    ∙ number-append v net (take i bits) (get_or bits i d ∷ [])
    ∙ ap (λ k. number v net (take i bits) + 2 ^ k * number v net (get_or bits i d ∷ [])) (length-take-le i bits (omega arith))
    ∙ ap (λ k. number v net (take i bits) + 2 ^ i * k) (number-one v net (get_or bits i d))

-- a digit that is 0
pub constant_kept : (bits : List Bit) {n m : ℕ} (i : ℕ) (d : Bit) → IsConstantSoFar (take i bits) n i → i < length bits → (get_or bits i d).node ≡ 0 → not (get_or bits i d).negated ≡ false
    → m ≡ n → IsConstantSoFar (take (i + 1) bits) m (i + 1)
constant_kept bits {n} {m} i d c l e s a = record {
  is = λ net h v. number_snoc v net bits i d l ∙ omega (arith, a, c.is net h v, ap (λ b. 2 ^ i * digit b) (constant_holds v net (get_or bits i d) h e ∙ s));
  small = omega (arith, a, c.small, pow-suc 2 i, ap (λ k. 2 ^ k) (add-one i));
}

-- the digit above all others, by `|`
or_above : (n i : ℕ) → n < 2 ^ i → bit_or n (2 ^ i) ≡ n + 2 ^ i
or_above n i h =
    let low : n ≡ 0 * 2 ^ i + n = omega arith in
    let high : 2 ^ i ≡ 1 * 2 ^ i + 0 = omega arith in
    ap (λ k. bit_or k (2 ^ i)) low
    ∙ ap (λ k. bit_or (0 * 2 ^ i + n) k) high
    ∙ or_block i 0 1 n 0 h (pow_pos i)
    ∙ ap (λ k. 1 * 2 ^ i + k) (or_zero_r n)
    ∙ omega arith

-- a digit that is 1
pub constant_set : (bits : List Bit) {n m : ℕ} (i : ℕ) (d : Bit) → IsConstantSoFar (take i bits) n i → i < length bits → (get_or bits i d).node ≡ 0 → not (get_or bits i d).negated ≡ true → i < 64
    → m ≡ bit_or n ((1 * 2 ^ i) % 2 ^ 64) → IsConstantSoFar (take (i + 1) bits) m (i + 1)
constant_set bits {n} {m} i d c l e s w a =
    let sum : m ≡ n + 2 ^ i = a ∙ ap (bit_or n) (one_shl i 64 w) ∙ or_above n i c.small in
    record {
      is = λ net h v. number_snoc v net bits i d l ∙ omega (arith, sum, c.is net h v, ap (λ b. 2 ^ i * digit b) (constant_holds v net (get_or bits i d) h e ∙ s));
      small = omega (arith, sum, c.small, pow-suc 2 i, ap (λ k. 2 ^ k) (add-one i));
    }

-- ---- unknowns
pub product_one : (v : ℕ → ℕ) → product_of v (0 ∷ 0 ∷ 0 ∷ 0 ∷ 0 ∷ 0 ∷ []) ≡ 1
unfolding product_of
product_one v = refl

pub factor_of : (v : ℕ → ℕ) (x : ℕ) → 0 < x → factor v x ≡ v x
factor_of v zero h = absurd (omega arith)
factor_of v (suc x) h = refl

pub place_within : (words : List (List Bit)) {bits : List Bit} (at : ℕ) → Some bits ≡ slice_get words at → at < length words
place_within words {bits} at e = slice_get_within words at bits (sym e)

pub word_at : (words : List (List Bit)) {bits : List Bit} (at : ℕ) → Some bits ≡ slice_get words at → get_or words at [] ≡ bits
word_at words {bits} at e = get_or_from_slice_get words at bits [] (sym e)

unknown_even : (v : ℕ → Bool) (net : List NetNode) (words : List (List Bit)) (bits : List Bit) (at : ℕ) → Some bits ≡ slice_get words at → unknown v net words (2 * at + 2) ≡ number v net bits
unfolding unknown
unknown_even v net words bits at e =
    let even : (2 * at + 2) % 2 ≡ 0 = omega arith in
    let place : (2 * at + 2) / 2 ≡ suc at = omega arith in
    ap (λ k. cond (nat_eq k 1) (lowest v net (get_or ([] ∷ words) ((2 * at + 2) / 2) [])) (number v net (get_or ([] ∷ words) ((2 * at + 2) / 2) []))) even
    ∙ ap (λ k. number v net (get_or ([] ∷ words) k [])) place
    ∙ ap (number v net) (word_at words at e)

pub unknown_odd : (v : ℕ → Bool) (net : List NetNode) (words : List (List Bit)) (b : Bit) (above : List Bit) (at : ℕ) → Some (b ∷ above) ≡ slice_get words at → unknown v net words (2 * at + 3) ≡ digit (holds v net b)
unfolding unknown
unknown_odd v net words b above at e =
    let odd : (2 * at + 3) % 2 ≡ 1 = omega arith in
    let place : (2 * at + 3) / 2 ≡ suc at = omega arith in
    ap (λ k. cond (nat_eq k 1) (lowest v net (get_or ([] ∷ words) ((2 * at + 3) / 2) [])) (number v net (get_or ([] ∷ words) ((2 * at + 3) / 2) []))) odd
    ∙ ap (λ k. lowest v net (get_or ([] ∷ words) k [])) place
    ∙ ap (lowest v net) (word_at words at e)

-- the polynomial of one unknown
pub record IsUnknown (x : ℕ) (p : List Term) : Type 0 where
  pub is : (v : ℕ → ℕ) → value v p ≡ factor v x
  pub within : (n : ℕ) → x < n → AreBelow n p

-- the polynomial of a number
pub record IsNumber (c : ℕ) (p : List Term) : Type 0 where
  pub is : (v : ℕ → ℕ) → Same 64 (value v p) c
  pub within : (n : ℕ) → 0 < n → AreBelow n p

-- what a call gives where it isn't refused
some_of : {E : Type 0} (Q : List Term → Type 0) (r : Result (List Term) E) (o : Option (List Term)) → o ≡ result_ok r → IfOk r Q → IfSome o Q
some_of {E} Q (Ok p) o e h = subst (λ (x : Option (List Term)). IfSome x Q) (sym e) h
some_of {E} Q (Err d) o e h = subst (λ (x : Option (List Term)). IfSome x Q) (sym e) tt

pub unknown_some : {E : Type 0} (x : ℕ) (r : Result (List Term) E) (o : Option (List Term)) → o ≡ result_ok r
    → IfOk r (λ p. (v : ℕ → ℕ) → value v p ≡ factor v x) → IfOk r (λ p. (n : ℕ) → x < n → AreBelow n p) → IfSome o (λ p. IsUnknown x p)
unknown_some {E} x (Ok p) o e h k = some_of {E = E} (λ p. IsUnknown x p) (Ok p) o e (record { is = h; within = k })
unknown_some {E} x (Err d) o e h k = some_of {E = E} (λ p. IsUnknown x p) (Err d) o e tt

pub number_some : {E : Type 0} (c : ℕ) (r : Result (List Term) E) (o : Option (List Term)) → o ≡ result_ok r
    → IfOk r (λ p. (v : ℕ → ℕ) → Same 64 (value v p) c) → IfOk r (λ p. (n : ℕ) → 0 < n → AreBelow n p) → IfSome o (λ p. IsNumber c p)
number_some {E} c (Ok p) o e h k = some_of {E = E} (λ p. IsNumber c p) (Ok p) o e (record { is = h; within = k })
number_some {E} c (Err d) o e h k = some_of {E = E} (λ p. IsNumber c p) (Err d) o e tt

pub copy_some : {E : Type 0} (q : List Term) (r : Result (List Term) E) (o : Option (List Term)) → o ≡ result_ok r → IfOk r (λ p. p ≡ q) → IfSome o (λ p. p ≡ q)
copy_some {E} q r o e h = some_of (λ p. p ≡ q) r o e h

pub some_weaker : (P Q : List Term → Type 0) (o : Option (List Term)) → IfSome o P → ((p : List Term) → P p → Q p) → IfSome o Q
some_weaker P Q (Some p) h f = f p h
some_weaker P Q None h f = tt

pub some_at : (P : List Term → Type 0) (o : Option (List Term)) (p : List Term) → o ≡ Some p → IfSome o P → P p
some_at P o p e h = subst (λ (x : Option (List Term)). IfSome x P) e h

pub tells_number : {net : List NetNode} {words : List (List Bit)} {bits : List Bit} {p : List Term} (w at : ℕ) → Some bits ≡ slice_get words at → IsUnknown (2 * at + 2) p
    → Tells net words w p (λ v. number v net bits)
tells_number {net} {words} {bits} {p} w at e u = record {
  over = let lt : at < length words = place_within words at e in u.within (2 * length words + 2) (omega arith);
  is = λ v. same_by (u.is (unknown v net words) ∙ factor_of (unknown v net words) (2 * at + 2) (omega arith) ∙ unknown_even v net words bits at e);
}

pub tells_lowest : {net : List NetNode} {words : List (List Bit)} {b : Bit} {p : List Term} (w at : ℕ) → Some (b ∷ []) ≡ slice_get words at → IsUnknown (2 * at + 3) p
    → Tells net words w p (λ v. digit (holds v net b))
tells_lowest {net} {words} {b} {p} w at e u = record {
  over = let lt : at < length words = place_within words at e in u.within (2 * length words + 2) (omega arith);
  is = λ v. same_by (u.is (unknown v net words) ∙ factor_of (unknown v net words) (2 * at + 3) (omega arith) ∙ unknown_odd v net words b [] at e);
}

-- ---- words
pub added_bits : (words : List Word) (w : Word) (bits : List Bit) → w.bits.items ≡ bits → bits_of (words ++ w ∷ []) ≡ bits_of words ++ bits ∷ []
added_bits words w bits e = bits_of-append words (w ∷ []) ∙ ap (λ b. bits_of words ++ b ∷ []) e

words_added : {net : List NetNode} (words : List Word) (w : Word) (bits : List Bit) → w.bits.items ≡ bits → AreWords net words → AreIn net bits → length bits ≤ 64
    → Tells net (bits_of words ++ bits ∷ []) (length bits) w.polynomial (λ v. number v net bits) → AreWords net (words ++ w ∷ [])
words_added {net} words w bits e h inside wide tells =
    let own : List Bit = w.bits.items in
    let more : bits_of words ++ own ∷ [] ≡ bits_of (words ++ w ∷ []) = sym (bits_of-append words (w ∷ [])) in
    let told : Tells net (bits_of words ++ own ∷ []) (length own) w.polynomial (λ v. number v net own) =
    subst (λ (b : List Bit). Tells net (bits_of words ++ b ∷ []) (length b) w.polynomial (λ v. number v net b)) (sym e) tells in
    let here : IsWord net (bits_of words ++ own ∷ []) w = record { inside = subst (λ (b : List Bit). AreIn net b) (sym e) inside; wide = omega (arith, ap length e); tells = told } in
    let old : All (λ x. IsWord net (bits_of words ++ own ∷ []) x) words =
    All-weaker (λ x. IsWord net (bits_of words) x) (λ x. IsWord net (bits_of words ++ own ∷ []) x) (λ x i. word_more (own ∷ []) i) words h in
    subst (λ (ws : List (List Bit)). All (λ x. IsWord net ws x) (words ++ w ∷ [])) more (All-push (λ x. IsWord net (bits_of words ++ own ∷ []) x) words w old here)

pub words_pushed : {net : List NetNode} {new : List Word} (words : List Word) (w : Word) (bits : List Bit) → new ≡ words ++ w ∷ [] → w.bits.items ≡ bits → AreWords net words → AreIn net bits → length bits ≤ 64
    → Tells net (bits_of words ++ bits ∷ []) (length bits) w.polynomial (λ v. number v net bits) → AreWords net new
words_pushed {net} {new} words w bits n e h inside wide tells = subst (λ (l : List Word). AreWords net l) (sym n) (words_added words w bits e h inside wide tells)

pub bits_pushed : {new : List Word} (words : List Word) (w : Word) (bits : List Bit) → new ≡ words ++ w ∷ [] → w.bits.items ≡ bits → bits_of new ≡ bits_of words ++ bits ∷ []
bits_pushed {new} words w bits n e = ap bits_of n ∙ added_bits words w bits e

pub place_of_last : (words : List (List Bit)) (bits : List Bit) → Some bits ≡ slice_get (words ++ bits ∷ []) (length words)
place_of_last [] bits = refl
place_of_last (w ∷ ws) bits = place_of_last ws bits

pub place_of_word : (words : List Word) {bits : List Bit} (at : ℕ) → Some bits ≡ slice_get (bits_of words) at → at < length words
place_of_word words {bits} at e = omega (arith, place_within (bits_of words) at e, length-map words (λ w. w.bits.items))

-- what is known of a word
pub tells_known : {net : List NetNode} (words : List Word) {bits : List Bit} (at : ℕ) (d : Word) → AreWords net words → Some bits ≡ slice_get (bits_of words) at
    → Tells net (bits_of words) (length bits) (get_or words at d).polynomial (λ v. number v net bits)
tells_known {net} words {bits} at d h e =
    let lt : at < length words = place_of_word words at e in
    let found : IsWord net (bits_of words) (get_or words at d) = All-get_or (λ w. IsWord net (bits_of words) w) words at d lt h in
    let same : (get_or words at d).bits.items ≡ bits = sym (get_or-map (λ w. w.bits.items) words at d [] lt) ∙ word_at (bits_of words) at e in
    subst (λ (b : List Bit). Tells net (bits_of words) (length b) (get_or words at d).polynomial (λ v. number v net b)) same found.tells

-- of a copy
pub tells_copied : {net : List NetNode} {p : List Term} (words : List Word) {bits : List Bit} (at : ℕ) (w : Word) → w ≡ get_or words at w → AreWords net words → Some bits ≡ slice_get (bits_of words) at
    → p ≡ w.polynomial → Tells net (bits_of words) (length bits) p (λ v. number v net bits)
tells_copied {net} {p} words {bits} at w f h e g =
    let same : get_or words at w ≡ w = sym f in
    subst (λ (q : List Term). Tells net (bits_of words) (length bits) q (λ v. number v net bits)) (ap (λ (x : Word). x.polynomial) same ∙ sym g) (tells_known words at w h e)

same_bit : (a b : Bit) → (a.node ≡ b.node) × (a.negated ≡ b.negated) → a ≡ b
same_bit a b e = ap (λ n. record { node = n; negated = a.negated }) e.0 ∙ ap (λ n. record { node = b.node; negated = n }) e.1

pub bits_decide : (a b : Bit) → Decides (nat_eq a.node b.node && beq a.negated b.negated) (a ≡ b)
bits_decide a b =
    Decides-like _ (same_bit a b) (λ e. (ap (λ (x : Bit). x.node) e, ap (λ (x : Bit). x.negated) e))
    (Decides-and (nat_eq a.node b.node) (beq a.negated b.negated) (Decides-eqb a.node b.node) (booleans_Decides a.negated b.negated))

pub found_word : (words : List Word) (w : Word) (bits : List Bit) (at : ℕ) → slice_get words at ≡ Some w → w.bits.items ≡ bits → Some bits ≡ slice_get (bits_of words) at
found_word words w bits at e f = sym (slice_get-map (λ w. w.bits.items) words at ∙ ap (option_map (λ w. w.bits.items)) e ∙ ap Some f)

-- a call that wasn't refused
pub done : {E : Type 0} {P : Type 0} (r : Result (Unit {0}) E) (o : Option (Unit {0})) (u : Unit {0}) → o ≡ result_ok r → o ≡ Some u → OnOk r P → P
done {E} {P} (Ok x) o u e f h = h
done {E} {P} (Err d) o u e f h = absurd (cc)

pub last_place : (words : List Word) (bits : List Bit) (at : ℕ) → at ≡ length words → Some bits ≡ slice_get (bits_of words ++ bits ∷ []) at
last_place words bits at e =
    subst (λ (i : ℕ). Some bits ≡ slice_get (bits_of words ++ bits ∷ []) i) (length-map words (λ w. w.bits.items) ∙ sym e) (place_of_last (bits_of words) bits)

-- the same of the words that were pushed to
pub pushed_place : (new words : List Word) (bits : List Bit) (at : ℕ) → bits_of new ≡ bits_of words ++ bits ∷ [] → at ≡ length words → Some bits ≡ slice_get (bits_of new) at
pushed_place new words bits at n e = last_place words bits at e ∙ ap (λ ws. slice_get ws at) (sym n)

pub tells_constant : {net : List NetNode} (ws : List (List Bit)) {p : List Term} {c : ℕ} (f : (ℕ → Bool) → ℕ) → IsNumber c p → ((v : ℕ → Bool) → f v ≡ c) → Tells net ws 64 p f
tells_constant {net} ws {p} {c} f n e = record {
  over = n.within (2 * length ws + 2) (omega arith);
  is = λ v. same_trans (n.is (unknown v net ws)) (same_by (sym (e v)));
}

wraps : (h : Bool) → Same 64 (1 + 18446744073709551615 * 1 * digit (not h)) (digit h)
wraps true = record { is = refl }
wraps false = record { is = refl }

-- a bit that isn't negated is the plain one, and the opposite of it otherwise
pub tells_plain : {net : List NetNode} {ws : List (List Bit)} {p : List Term} (b : Bit) → b.negated ≡ false → Tells net ws 64 p (λ v. digit (holds v net (record { node = b.node; negated = false })))
    → Tells net ws 64 p (λ v. digit (holds v net b))
tells_plain {net} {ws} {p} b e t = subst (λ (n : Bool). Tells net ws 64 p (λ v. digit (holds v net (record { node = b.node; negated = n })))) (sym e) t

pub tells_negated : {net : List NetNode} {ws : List (List Bit)} {p : List Term} (b : Bit) → b.negated ≡ true → Tells net ws 64 p (λ v. digit (holds v net (record { node = b.node; negated = false })))
    → Tells net ws 64 p (λ v. digit (holds v net (opposite b)))
tells_negated {net} {ws} {p} b e t = subst (λ (n : Bool). Tells net ws 64 p (λ v. digit (holds v net (record { node = b.node; negated = n })))) (sym (ap not e)) t

zeros_below : (n : ℕ) → 0 < n → AreFactorsBelow n (0 ∷ 0 ∷ 0 ∷ 0 ∷ 0 ∷ 0 ∷ [])
zeros_below n h = All-from_recursion (λ x. x < n) (0 ∷ 0 ∷ 0 ∷ 0 ∷ 0 ∷ 0 ∷ []) (h, (h, (h, (h, (h, (h, tt))))))

-- 1 less the opposite
pub tells_opposite : {net : List NetNode} (ws : List (List Bit)) (b : Bit) (p old new : List Term) → IsNumber 1 old → Tells net ws 64 p (λ v. digit (holds v net (opposite b)))
    → IsWithMultiple 64 old 18446744073709551615 (0 ∷ 0 ∷ 0 ∷ 0 ∷ 0 ∷ 0 ∷ []) p new → Tells net ws 64 new (λ v. digit (holds v net b))
tells_opposite {net} ws b p old new n t m = record {
  over = m.within (2 * length ws + 2) (n.within (2 * length ws + 2) (omega arith)) (zeros_below (2 * length ws + 2) (omega arith)) t.over;
  is = λ v.
      let u : ℕ → ℕ = unknown v net ws in
      let rest : Same 64 (18446744073709551615 * product_of u (0 ∷ 0 ∷ 0 ∷ 0 ∷ 0 ∷ 0 ∷ []) * value u p) (18446744073709551615 * 1 * digit (not (holds v net b))) =
      same_mul (same_by (ap (λ k. 18446744073709551615 * k) (product_one u))) (same_trans (t.is v) (same_by (ap digit (holds-opposite v net b)))) in
      same_trans (m.is u (truths v net ws)) (same_trans (same_add (n.is u) rest) (wraps (holds v net b)));
}
