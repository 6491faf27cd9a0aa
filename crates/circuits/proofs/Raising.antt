-- Shifts on lists of bits.
use Rattle.std.proofs.Common.{◌≡◌, ℕ, ◌+◌, ◌-◌, ◌*◌, ◌/◌, ◌^◌, ◌<◌, ◌≤◌, Bool, true, false, cond, List, [], length, get_or, take, drop, refl, sym, ◌∙◌, ap, subst, arith, add-one}
use Rattle.std.proofs.Math.Nat.{pow-suc, mul-le-mul_left, div-div-eq-div-mul, div-one}
use Rattle.std.proofs.lemmas.Nat.{pow_pos, pow-add, div-mul-add}
use Rattle.std.proofs.lemmas.List.{take_more, take_all, length-take-le, length-drop}
use Rattle.std.proofs.lemmas.List.Elements.{All-get_or, All-drop}
use Rattle.circuits.specs.declared.net.Bit.{Bit}
use Rattle.circuits.specs.declared.net.NetNode.{NetNode}
use Rattle.circuits.specs.Net.{holds, Grown, IsIn}
use Rattle.circuits.specs.Numbers.{number, digit, AreIn, Counts}
use Rattle.circuits.proofs.Nets.{stays, grown_then, grown_not}
use Rattle.circuits.proofs.Counting.{split_at, snoc, number_lt}

pub raised_value : (t : Bool) (x p n : ℕ) → cond t (0 + 2 ^ n * x) (x + p * 0) ≡ x * 2 ^ (n * digit t)
raised_value true x p n = let f : n * 1 ≡ n = omega arith in omega (arith, ap (λ k. x * 2 ^ k) f)
raised_value false x p n = let f : n * 0 ≡ 0 = omega arith in omega (arith, ap (λ k. x * 2 ^ k) f)

pub lowered_value : (t : Bool) (x n : ℕ) → cond t (x / 2 ^ n) x ≡ x / 2 ^ (n * digit t)
lowered_value true x n = let f : n ≡ n * 1 = omega arith in ap (λ k. x / 2 ^ k) f
lowered_value false x n = let f : n * 0 ≡ 0 = omega arith in sym (ap (λ k. x / 2 ^ k) f ∙ div-one x)

-- the digits from n on
pub number_high : (v : ℕ → Bool) (net : List NetNode) (xs : List Bit) (n : ℕ) → n ≤ length xs → number v net (drop n xs) ≡ number v net xs / 2 ^ n
number_high v net xs n h =
    let e : number v net xs ≡ number v net (drop n xs) * 2 ^ n + number v net (take n xs) = let f = split_at v net n xs h in omega arith in
    sym (ap (λ k. k / 2 ^ n) e ∙ div-mul-add (number v net (drop n xs)) (2 ^ n) (number v net (take n xs)) (subst (λ (k : ℕ). number v net (take n xs) < 2 ^ k) (length-take-le n xs h) (number_lt v net (take n xs))))

pub high_counts : {net : List NetNode} {tail : List Bit} (xs : List Bit) (n : ℕ) → n ≤ length xs → AreIn net xs → tail ≡ drop n xs → Counts net tail (length xs - n) (λ v. number v net xs / 2 ^ n)
high_counts {net} {tail} xs n h all e = rw e (record { inside = All-drop (λ b. IsIn net b) n xs all; wide = length-drop n xs; is = λ v. number_high v net xs n h })

pub lowered_choice : (t : Bool) (x n p : ℕ) → cond t (x / 2 ^ n + p * 0) x ≡ x / 2 ^ (n * digit t)
lowered_choice t x n p = let e : x / 2 ^ n + p * 0 ≡ x / 2 ^ n = omega arith in ap (λ k. cond t k x) e ∙ lowered_value t x n

-- the loop of shifts: places is 2^i
pub record Raised (old new : List NetNode) (xs ts out : List Bit) (places i k : ℕ) : Type 0 where
  pub grown : Grown (i * (3 * (length xs + 2 ^ k))) old new
  pub power : places ≡ 2 ^ i
  pub inside : AreIn new out
  pub wide : length out + 1 ≡ length xs + 2 ^ i
  pub is : (v : ℕ → Bool) → number v new out ≡ number v old xs * 2 ^ number v old ts

pub raised_none : {net : List NetNode} {out : List Bit} (xs : List Bit) (k : ℕ) → out ≡ xs → AreIn net xs → Raised net net xs [] out 1 0 k
unfolding number
raised_none {net} {out} xs k e h = rw e (record {
  grown = grown_not (0 * (3 * (length xs + 2 ^ k))) net;
  power = refl;
  inside = h;
  wide = refl;
  is = λ v. omega arith;
})

pow_next : (i : ℕ) → 2 ^ (i + 1) ≡ 2 * 2 ^ i
pow_next i = ap (λ k. 2 ^ k) (add-one i) ∙ pow-suc 2 i ∙ (let e : 2 ^ i * 2 ≡ 2 * 2 ^ i = omega arith in e)

pow_rises : (i j : ℕ) → 2 ^ i ≤ 2 ^ (i + j)
pow_rises i j = let p = pow_pos j in omega (arith, pow-add 2 i j, mul-le-mul_left (2 ^ i) p)

pub pow_up : (i k : ℕ) → i ≤ k → 2 ^ i ≤ 2 ^ k
pow_up i k h = let e : i + (k - i) ≡ k = omega arith in omega (arith, pow_rises i (k - i), ap (λ j. 2 ^ j) e)

-- one digit more of the count
count_next : (v : ℕ → Bool) (net : List NetNode) (ts : List Bit) (i : ℕ) (d : Bit) → i < length ts → number v net (take (i + 1) ts) ≡ number v net (take i ts) + 2 ^ i * digit (holds v net (get_or ts i d))
count_next v net ts i d lt = ap (number v net) (take_more ts i d lt) ∙ snoc v net (take i ts) (get_or ts i d) i (length-take-le i ts (omega arith))

pub raised_step : {old mid : List NetNode} {xs ts out : List Bit} {places i k : ℕ} → Raised old mid xs ts out places i k → i < k → 3 * (length out + places) ≤ 3 * (length xs + 2 ^ k)
raised_step {old} {mid} {xs} {ts} {out} {places} {i} {k} a h = let w = a.wide in let p = a.power in omega (arith, pow_next i, pow_up (i + 1) k (omega arith))

pub raised_next : {old mid new : List NetNode} {out seen after : List Bit} {places next i : ℕ} {x : Bit} (xs ts : List Bit) (d : Bit) → Raised old mid xs (take i ts) out places i (length ts) → i < length ts → AreIn old ts → x ≡ get_or ts i d
    → seen ≡ out → Grown (3 * (length seen + places)) mid new → Counts new after (length seen + places) (λ v. number v mid seen * 2 ^ (places * digit (holds v mid x))) → next ≡ places * 2 → Raised old new xs (take (i + 1) ts) after next (i + 1) (length ts)
raised_next {old} {mid} {new} {out} {seen} {after} {places} {next} {i} {x} xs ts d a lt ht ex es h m en =
    let g = subst (λ (l : List Bit). Grown (3 * (length l + places)) mid new) es h in
    let c = subst (λ (l : List Bit). Counts new after (length l + places) (λ v. number v mid l * 2 ^ (places * digit (holds v mid x)))) es m in
    let s = 3 * (length xs + 2 ^ length ts) in
    let ix : IsIn old (get_or ts i d) = All-get_or (λ b. IsIn old b) ts i d lt ht in
    let step : length out + places + 1 ≡ length xs + 2 ^ (i + 1) = let w = a.wide in let p = a.power in omega (arith, pow_next i) in
    record {
      grown = grown_then (i * s) (3 * (length out + places)) ((i + 1) * s) old mid new a.grown g (omega (arith, step, pow_up (i + 1) (length ts) (omega arith)));
      power = let p = a.power in omega (arith, pow_next i);
      inside = c.inside;
      wide = omega (arith, c.wide, step);
      is = λ v.
          c.is v ∙ ap (λ k. k * 2 ^ (places * digit (holds v mid x))) (a.is v)
          ∙ ap (λ k. number v old xs * 2 ^ number v old (take i ts) * 2 ^ k) (ap (λ p. p * digit (holds v mid x)) a.power ∙ ap (λ b. 2 ^ i * digit b) (ap (holds v mid) ex ∙ stays v (i * s) old mid (get_or ts i d) a.grown ix))
          ∙ powers (number v old xs) (number v old (take i ts)) (2 ^ i * digit (holds v old (get_or ts i d)))
          ∙ ap (λ k. number v old xs * 2 ^ k) (sym (count_next v old ts i d lt));
    }
  where
    powers : (x m n : ℕ) → x * 2 ^ m * 2 ^ n ≡ x * 2 ^ (m + n)
    powers x m n = omega (arith, ap (λ k. x * k) (pow-add 2 m n))

pub raised_end : {old new : List NetNode} {out : List Bit} {places i k : ℕ} (xs ts : List Bit) → Raised old new xs (take i ts) out places i k → i ≡ length ts → Counts new out (length xs + 2 ^ length ts - 1) (λ v. number v old xs * 2 ^ number v old ts)
raised_end {old} {new} {out} {places} {i} {k} xs ts a e = record {
  inside = a.inside;
  wide = let w = a.wide in omega (arith, ap (λ j. 2 ^ j) e);
  is = λ v. a.is v ∙ ap (λ l. number v old xs * 2 ^ number v old l) (take_all i ts (omega arith));
}

-- the same downwards
pub record Lowered (old new : List NetNode) (xs ts out : List Bit) (places i : ℕ) : Type 0 where
  pub grown : Grown (i * (3 * length xs)) old new
  pub power : places ≡ 2 ^ i
  pub inside : AreIn new out
  pub wide : length out ≡ length xs
  pub is : (v : ℕ → Bool) → number v new out ≡ number v old xs / 2 ^ number v old ts

pub lowered_none : {net : List NetNode} {out : List Bit} (xs : List Bit) → out ≡ xs → AreIn net xs → Lowered net net xs [] out 1 0
unfolding number
lowered_none {net} {out} xs e h = rw e (record {
  grown = grown_not (0 * (3 * length xs)) net;
  power = refl;
  inside = h;
  wide = refl;
  is = λ v. sym (div-one (number v net xs));
})

pub lowered_next : {old mid new : List NetNode} {out seen after : List Bit} {places next i : ℕ} {x : Bit} (xs ts : List Bit) (d : Bit) → Lowered old mid xs (take i ts) out places i → i < length ts → AreIn old ts → x ≡ get_or ts i d
    → seen ≡ out → Grown (3 * length seen) mid new → Counts new after (length seen) (λ v. number v mid seen / 2 ^ (places * digit (holds v mid x))) → next ≡ places * 2 → Lowered old new xs (take (i + 1) ts) after next (i + 1)
lowered_next {old} {mid} {new} {out} {seen} {after} {places} {next} {i} {x} xs ts d a lt ht ex es h m en =
    let g = subst (λ (l : List Bit). Grown (3 * length l) mid new) es h in
    let c = subst (λ (l : List Bit). Counts new after (length l) (λ v. number v mid l / 2 ^ (places * digit (holds v mid x)))) es m in
    let s = 3 * length xs in
    let ix : IsIn old (get_or ts i d) = All-get_or (λ b. IsIn old b) ts i d lt ht in
    record {
      grown = grown_then (i * s) (3 * length out) ((i + 1) * s) old mid new a.grown g (omega (arith, a.wide));
      power = let p = a.power in omega (arith, pow_next i);
      inside = c.inside;
      wide = c.wide ∙ a.wide;
      is = λ v.
          c.is v ∙ ap (λ k. k / 2 ^ (places * digit (holds v mid x))) (a.is v)
          ∙ ap (λ k. number v old xs / 2 ^ number v old (take i ts) / 2 ^ k) (ap (λ p. p * digit (holds v mid x)) a.power ∙ ap (λ b. 2 ^ i * digit b) (ap (holds v mid) ex ∙ stays v (i * s) old mid (get_or ts i d) a.grown ix))
          ∙ div-div-eq-div-mul (number v old xs) (2 ^ number v old (take i ts)) (2 ^ (2 ^ i * digit (holds v old (get_or ts i d))))
          ∙ ap (λ k. number v old xs / k) (sym (pow-add 2 (number v old (take i ts)) (2 ^ i * digit (holds v old (get_or ts i d)))))
          ∙ ap (λ k. number v old xs / 2 ^ k) (sym (count_next v old ts i d lt));
    }

pub lowered_end : {old new : List NetNode} {out : List Bit} {places i : ℕ} (xs ts : List Bit) → Lowered old new xs (take i ts) out places i → i ≡ length ts → Counts new out (length xs) (λ v. number v old xs / 2 ^ number v old ts)
lowered_end {old} {new} {out} {places} {i} xs ts a e = record {
  inside = a.inside;
  wide = a.wide;
  is = λ v. a.is v ∙ ap (λ l. number v old xs / 2 ^ number v old l) (take_all i ts (omega arith));
}
