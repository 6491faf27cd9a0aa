-- Long division on lists of bits.
use Rattle.std.proofs.Common.{◌≡◌, ℕ, ◌+◌, ◌-◌, ◌*◌, ◌/◌, ◌%◌, ◌^◌, ◌<◌, ◌≤◌, Bool, true, false, cond, not, ◌&&◌, nat_eq, nat_lt, List, [], ◌∷◌, ◌++◌, length, get_or, take, drop, refl, sym, ◌∙◌, ap, subst, arith, suc, add-one}
use Rattle.std.proofs.Math.Nat.{pow-suc, mod-eq_of_lt}
use Rattle.std.proofs.lemmas.Nat.{pow_pos, mod_below, div-mul-add, mod-mul-add}
use Rattle.std.proofs.lemmas.List.{drop_all}
use Rattle.std.proofs.Math.Seq.{drop-cons}
use Rattle.std.proofs.lemmas.List.Elements.{All-cons, All-get_or}
use Rattle.circuits.specs.declared.net.Bit.{Bit}
use Rattle.circuits.specs.declared.net.NetNode.{NetNode}
use Rattle.circuits.specs.Net.{holds, Grown, IsIn, Means}
use Rattle.circuits.specs.Numbers.{number, digit, AreIn, Counts}
use Rattle.circuits.specs.Gates.{size}
use Rattle.circuits.specs.Division.{IsRow, Divides, IsJudged}
use Rattle.circuits.proofs.Nets.{stays, grown_then, grown_not, kept}
use Rattle.circuits.proofs.Counting.{in_none, number_stays, are_in_later, number_lt}
use Rattle.circuits.proofs.Carrying.{counts_same, low_counts, top_counts}

digit_le : (b : Bool) → digit b ≤ 1
digit_le true = omega arith
digit_le false = omega arith

row_is : (M u b t : ℕ) (c : Bool) → t + M * digit c ≡ u + (M - b) → t < M → b ≤ M → cond c t u + b * digit c ≡ u
row_is M u b t true e ht hb = omega (arith, e)
row_is M u b t false e ht hb = omega arith

row_below : (M u b t r n : ℕ) (c : Bool) → t + M * digit c ≡ u + (M - b) → t < M → b ≤ M → u ≡ n + 2 * r → n ≤ 1 → r < b → cond c t u < b
row_below M u b t r n true e ht hb eu hn hr = omega (arith, e)
row_below M u b t r n false e ht hb eu hn hr = omega (arith, e)

-- a rest below b, and one digit more: b is taken away once at most
row_at : (N M u b t r n : ℕ) (c : Bool) → M ≡ 2 * N → t + M * digit c ≡ u + (M - b) → t < M → b < N → u ≡ n + 2 * r → n ≤ 1 → r < b → (cond c t u % N + b * digit c ≡ u) × (cond c t u % N < b)
row_at N M u b t r n c em e ht hb eu hn hr =
    let low : cond c t u < b = row_below M u b t r n c e ht (omega arith) eu hn hr in
    let same : cond c t u % N ≡ cond c t u = mod-eq_of_lt (omega arith) in
    (omega (arith, same, row_is M u b t c e ht (omega arith)), omega (arith, same))

pub row_made : {old mid new : List NetNode} {full chosen out rest b : List Bit} {next x : Bit} {k : ℕ} (d : Bit)
    → length rest ≡ length b → AreIn old rest → AreIn old b → Grown k mid new
    → Counts mid full (length b + 1 + 1) (λ v. digit (holds v old next) + 2 * number v old rest + (2 ^ (length b + 1) - number v old b))
    → x ≡ get_or full (length b + 1) d → Means mid x (λ v. holds v mid x)
    → Counts new chosen (length b + 1) (λ v. cond (holds v mid x) ((digit (holds v old next) + 2 * number v old rest + (2 ^ (length b + 1) - number v old b)) % 2 ^ (length b + 1)) (digit (holds v old next) + 2 * number v old rest))
    → out ≡ take (length b) chosen → IsRow old new next rest b x out
row_made {old} {mid} {new} {full} {chosen} {out} {rest} {b} {next} {x} {k} d same hr hb g cf ex mx ch eo =
    let n = length b in
    let low = counts_same eo (low_counts n (omega arith) ch) in
    let later = kept g mx in
    let at : (v : ℕ → Bool) → number v old rest < number v old b
    → (cond (holds v mid x) ((digit (holds v old next) + 2 * number v old rest + (2 ^ (n + 1) - number v old b)) % 2 ^ (n + 1)) (digit (holds v old next) + 2 * number v old rest) % 2 ^ n + number v old b * digit (holds v mid x) ≡ digit (holds v old next) + 2 * number v old rest)
    × (cond (holds v mid x) ((digit (holds v old next) + 2 * number v old rest + (2 ^ (n + 1) - number v old b)) % 2 ^ (n + 1)) (digit (holds v old next) + 2 * number v old rest) % 2 ^ n < number v old b) =
    λ (v : ℕ → Bool) (lt : number v old rest < number v old b).
    let u = digit (holds v old next) + 2 * number v old rest in
    let M = 2 ^ (n + 1) in
    row_at (2 ^ n) M u (number v old b) ((u + (M - number v old b)) % M) (number v old rest) (digit (holds v old next)) (holds v mid x)
    (ap (λ i. 2 ^ i) (add-one n) ∙ pow-suc 2 n ∙ (let e : 2 ^ n * 2 ≡ 2 * 2 ^ n = omega arith in e))
    (ap (λ y. (u + (M - number v old b)) % M + M * digit (holds v mid y)) ex ∙ top_counts (n + 1) d cf v)
    (mod_below (u + (M - number v old b)) M (pow_pos (n + 1))) (number_lt v old b) refl (digit_le (holds v old next)) lt in
    record {
      digit_in = later.inside;
      inside = low.inside;
      wide = low.wide;
      is = λ v lt. ap (λ y. y + number v old b * digit (holds v new x)) (low.is v)
          ∙ ap (λ y. cond (holds v mid x) ((digit (holds v old next) + 2 * number v old rest + (2 ^ (n + 1) - number v old b)) % 2 ^ (n + 1)) (digit (holds v old next) + 2 * number v old rest) % 2 ^ n + number v old b * digit y) (later.is v)
          ∙ (at v lt).0;
      below = λ v lt. subst (λ (y : ℕ). y < number v old b) (sym (low.is v)) (at v lt).1;
    }

-- ---- the loop over rows
pub record Dividing (old new : List NetNode) (xs ys quotient rest : List Bit) (n : ℕ) : Type 0 where
  pub grown : Grown (n * (10 * (length ys + 1))) old new
  pub quotient_in : AreIn new quotient
  pub rest_in : AreIn new rest
  pub quotient_wide : length quotient ≡ n
  pub rest_wide : length rest ≡ length ys
  pub is : (v : ℕ → Bool) → 0 < number v old ys → number v new quotient * number v old ys + number v new rest ≡ number v old (drop (length xs - n) xs)
  pub below : (v : ℕ → Bool) → 0 < number v old ys → number v new rest < number v old ys

pub dividing_none : {net : List NetNode} {quotient rest : List Bit} (xs ys : List Bit) → quotient ≡ [] → Counts net rest (length ys) (λ v. 0) → Dividing net net xs ys quotient rest 0
unfolding number
dividing_none {net} {quotient} {rest} xs ys e c = rw e (record {
  grown = grown_not (0 * (10 * (length ys + 1))) net;
  quotient_in = in_none (λ b. IsIn net b);
  rest_in = c.inside;
  quotient_wide = refl;
  rest_wide = c.wide;
  is = λ v h. let z : 0 * number v net ys + number v net rest ≡ 0 = omega (arith, c.is v) in z ∙ sym (ap (number v net) (drop_all (length xs - 0) xs (omega arith)));
  below = λ v h. omega (arith, c.is v);
})

next_is : (Q Y R S g n X : ℕ) → Q * Y + R ≡ X → S + Y * g ≡ n + 2 * R → (g + 2 * Q) * Y + S ≡ n + 2 * X
next_is Q Y R S g n X e f = omega (arith, e, f)

next_grown : (i s : ℕ) → i * s + s ≤ (i + 1) * s
next_grown i s = omega arith

pub dividing_next : {old mid new : List NetNode} {quotient after rest out : List Bit} {next q : Bit} {n : ℕ} (xs ys : List Bit) (d : Bit) → Dividing old mid xs ys quotient rest n → Grown (10 * (length ys + 1)) mid new → n < length xs → AreIn old xs → AreIn old ys
    → next ≡ get_or xs (length xs - 1 - n) d → IsRow mid new next rest ys q out → after ≡ (q ∷ []) ++ quotient → Dividing old new xs ys after out (n + 1)
unfolding number
dividing_next {old} {mid} {new} {quotient} {after} {rest} {out} {next} {q} {n} xs ys d a g lt hx hy en row ea =
    let s = 10 * (length ys + 1) in
    let at : length xs - 1 - n ≡ length xs - (n + 1) = omega arith in
    let x = get_or xs (length xs - (n + 1)) d in
    let ix : IsIn old x = All-get_or (λ b. IsIn old b) xs (length xs - (n + 1)) d (omega arith) hx in
    let same : next ≡ x = en ∙ ap (λ i. get_or xs i d) at in
    let more : (v : ℕ → Bool) → number v old (drop (length xs - (n + 1)) xs) ≡ digit (holds v old x) + 2 * number v old (drop (length xs - n) xs) =
    λ (v : ℕ → Bool). ap (number v old) (drop-cons xs (length xs - (n + 1)) d (omega arith) ∙ ap (λ i. x ∷ drop i xs) (let e : suc (length xs - (n + 1)) ≡ length xs - n = omega arith in e)) in
    let stay : (v : ℕ → Bool) → number v mid ys ≡ number v old ys = λ (v : ℕ → Bool). number_stays v (n * s) old mid ys a.grown hy in
    let lower : (v : ℕ → Bool) → 0 < number v old ys → number v mid rest < number v mid ys = λ (v : ℕ → Bool) (h : 0 < number v old ys). subst (λ (k : ℕ). number v mid rest < k) (sym (stay v)) (a.below v h) in
    rw ea (record {
      grown = grown_then (n * s) s ((n + 1) * s) old mid new a.grown g (next_grown n s);
      quotient_in = All-cons (λ b. IsIn new b) q quotient row.digit_in (are_in_later s mid new quotient g a.quotient_in);
      rest_in = row.inside;
      quotient_wide = let w = a.quotient_wide in omega arith;
      rest_wide = row.wide;
      is = λ v h.
          next_is (number v new quotient) (number v old ys) (number v mid rest) (number v new out) (digit (holds v new q)) (digit (holds v mid next)) (number v old (drop (length xs - n) xs))
          (ap (λ k. k * number v old ys + number v mid rest) (number_stays v s mid new quotient g a.quotient_in) ∙ a.is v h)
          (ap (λ k. number v new out + k * digit (holds v new q)) (sym (stay v)) ∙ row.is v (lower v h))
          ∙ ap (λ b. digit b + 2 * number v old (drop (length xs - n) xs)) (ap (holds v mid) same ∙ stays v (n * s) old mid x a.grown ix)
          ∙ sym (more v);
      below = λ v h. subst (λ (k : ℕ). number v new out < k) (stay v) (row.below v (lower v h));
    })

pub dividing_end : {old new : List NetNode} {quotient rest : List Bit} {n : ℕ} (xs ys : List Bit) → Dividing old new xs ys quotient rest n → n ≡ length xs → Divides new (length xs) (length ys) (λ v. number v old xs) (λ v. number v old ys) quotient rest
dividing_end {old} {new} {quotient} {rest} {n} xs ys a e =
    let all : (v : ℕ → Bool) → 0 < number v old ys → number v new quotient * number v old ys + number v new rest ≡ number v old xs =
    λ (v : ℕ → Bool) (h : 0 < number v old ys). a.is v h ∙ ap (λ i. number v old (drop i xs)) (let z : length xs - n ≡ 0 = omega arith in z) in
    record {
      quotient_in = a.quotient_in;
      rest_in = a.rest_in;
      quotient_wide = a.quotient_wide ∙ e;
      rest_wide = a.rest_wide;
      quotient_is = λ v h. sym (div-mul-add (number v new quotient) (number v old ys) (number v new rest) (a.below v h)) ∙ ap (λ k. k / number v old ys) (all v h);
      rest_is = λ v h. sym (mod-mul-add (number v new quotient) (number v old ys) (number v new rest) (a.below v h)) ∙ ap (λ k. k % number v old ys) (all v h);
    }

pub divides_of : {old new : List NetNode} {xs ys quotient rest : List Bit} {i j : ℕ} {f g : (ℕ → Bool) → ℕ} → Divides new (length xs) (length ys) (λ v. number v old xs) (λ v. number v old ys) quotient rest → Counts old xs i f → Counts old ys j g → Divides new i j f g quotient rest
divides_of {old} {new} {xs} {ys} {quotient} {rest} {i} {j} {f} {g} d a b = record {
  quotient_in = d.quotient_in;
  rest_in = d.rest_in;
  quotient_wide = d.quotient_wide ∙ a.wide;
  rest_wide = d.rest_wide ∙ b.wide;
  quotient_is = λ v h. d.quotient_is v (subst (λ (k : ℕ). 0 < k) (sym (b.is v)) h) ∙ ap (λ k. k / number v old ys) (a.is v) ∙ ap (λ k. f v / k) (b.is v);
  rest_is = λ v h. d.rest_is v (subst (λ (k : ℕ). 0 < k) (sym (b.is v)) h) ∙ ap (λ k. k % number v old ys) (a.is v) ∙ ap (λ k. f v % k) (b.is v);
}

pub divides_wide : {new : List NetNode} {quotient rest : List Bit} {i w : ℕ} (old : List NetNode) (a b : List Bit) (s : Bool) → i ≡ w → Divides new i i (λ v. size i s (number v old a)) (λ v. size i s (number v old b)) quotient rest
    → Divides new w w (λ v. size w s (number v old a)) (λ v. size w s (number v old b)) quotient rest
divides_wide {new} {quotient} {rest} {i} {w} old a b s e d = subst (λ (k : ℕ). Divides new k k (λ v. size k s (number v old a)) (λ v. size k s (number v old b)) quotient rest) e d

pub divides_later : {most : ℕ} {mid new : List NetNode} {m n : ℕ} {f g : (ℕ → Bool) → ℕ} {quotient rest : List Bit} → Grown most mid new → Divides mid m n f g quotient rest → Divides new m n f g quotient rest
divides_later {most} {mid} {new} {m} {n} {f} {g} {quotient} {rest} k d = record {
  quotient_in = are_in_later most mid new quotient k d.quotient_in;
  rest_in = are_in_later most mid new rest k d.rest_in;
  quotient_wide = d.quotient_wide;
  rest_wide = d.rest_wide;
  quotient_is = λ v h. number_stays v most mid new quotient k d.quotient_in ∙ d.quotient_is v h;
  rest_is = λ v h. number_stays v most mid new rest k d.rest_in ∙ d.rest_is v h;
}

pub row_rest : {old new : List NetNode} {next q : Bit} {r s b out : List Bit} → r ≡ s → IsRow old new next r b q out → IsRow old new next s b q out
row_rest {old} {new} {next} {q} {r} {s} {b} {out} e k = subst (λ (z : List Bit). IsRow old new next z b q out) e k

pub judged_of : {old mid new : List NetNode} {some over test : Bit} {most w : ℕ} {t : (ℕ → Bool) → Bool} {q : List Bit} (b quotient : List Bit) (s : Bool) → Grown most old mid → AreIn old b → q ≡ quotient → length b ≡ w → Means mid test t → IsJudged mid new s b q test some over
    → Means new over (λ v. not (nat_eq (number v old b) 0) && (s && not (nat_lt (number v mid quotient) (2 ^ (w - 1) + digit (t v)))))
judged_of {old} {mid} {new} {some} {over} {test} {most} {w} {t} {q} b quotient s g hb eq ew m j = record {
  inside = j.overflow.inside;
  is = λ v.
      j.overflow.is v
      ∙ ap (λ k. not (nat_eq k 0) && (s && not (nat_lt (number v mid q) (2 ^ (length b - 1) + digit (holds v mid test))))) (number_stays v most old mid b g hb)
      ∙ ap (λ l. not (nat_eq (number v old b) 0) && (s && not (nat_lt (number v mid l) (2 ^ (length b - 1) + digit (holds v mid test))))) eq
      ∙ ap (λ k. not (nat_eq (number v old b) 0) && (s && not (nat_lt (number v mid quotient) (2 ^ (k - 1) + digit (holds v mid test))))) ew
      ∙ ap (λ x. not (nat_eq (number v old b) 0) && (s && not (nat_lt (number v mid quotient) (2 ^ (w - 1) + digit x)))) (m.is v);
}

pub some_of : {old mid new : List NetNode} {some over test : Bit} {most : ℕ} {q : List Bit} (b : List Bit) (s : Bool) → Grown most old mid → AreIn old b → IsJudged mid new s b q test some over → Means new some (λ v. not (nat_eq (number v old b) 0))
some_of {old} {mid} {new} {some} {over} {test} {most} {q} b s g hb j = record { inside = j.some.inside; is = λ v. j.some.is v ∙ ap (λ k. not (nat_eq k 0)) (number_stays v most old mid b g hb) }

pub together : {a b c : List NetNode} {j k : ℕ} → Grown j a b → Grown k b c → Grown (j + k) a c
together {a} {b} {c} {j} {k} p q = grown_then j k (j + k) a b c p q (omega arith)
