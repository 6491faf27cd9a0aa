-- Products on lists of bits.
use Rattle.std.proofs.Common.{◌≡◌, ℕ, ◌+◌, ◌-◌, ◌*◌, ◌^◌, ◌<◌, ◌≤◌, Bool, true, false, ◌&&◌, List, [], ◌∷◌, ◌++◌, length, get_or, take, drop, refl, ◌∙◌, ap, subst, arith, length-append}
use Rattle.std.proofs.Math.Nat.{mul-le-mul_left}
use Rattle.std.proofs.lemmas.List.Elements.{All-append, All-cons, All-get_or, All-take, All-drop}
use Rattle.std.proofs.lemmas.List.{take_more, take_all, length-take-le, length-drop}
use Rattle.circuits.specs.declared.net.Bit.{Bit}
use Rattle.circuits.specs.declared.net.NetNode.{NetNode}
use Rattle.circuits.specs.Net.{holds, Grown, IsIn, Means}
use Rattle.circuits.specs.Numbers.{number, digit, AreIn, Counts}
use Rattle.circuits.proofs.Nets.{stays, grown_then, grown_not}
use Rattle.circuits.proofs.Counting.{in_none, number-append, number-one, number_stays, are_in_later, split_at}

-- the bits of a number times one bit
pub record Scaled (old new : List NetNode) (xs : List Bit) (b : Bit) (out : List Bit) (n : ℕ) : Type 0 where
  pub grown : Grown n old new
  pub inside : AreIn new out
  pub wide : length out ≡ n
  pub is : (v : ℕ → Bool) → number v new out ≡ digit (holds v old b) * number v old xs

pub scaled_none : (net : List NetNode) (b : Bit) → Scaled net net [] b [] 0
unfolding number
scaled_none net b = record { grown = grown_not _ net; inside = in_none (λ b. IsIn net b); wide = refl; is = λ v. omega arith }

digit_and : (a b : Bool) → digit (a && b) ≡ digit b * digit a
digit_and true true = refl
digit_and true false = refl
digit_and false true = refl
digit_and false false = refl

pub scaled_next : {old mid new : List NetNode} {b s : Bit} {out : List Bit} {i : ℕ} (xs : List Bit) (d : Bit)
    → Scaled old mid (take i xs) b out i → Grown 1 mid new → Means new s (λ v. holds v mid (get_or xs i d) && holds v mid b)
    → AreIn old xs → IsIn old b → i < length xs
    → Scaled old new (take (i + 1) xs) b (out ++ s ∷ []) (i + 1)
scaled_next {old} {mid} {new} {b} {s} {out} {i} xs d a g m hx hb lt =
    let x = get_or xs i d in
    let ix : IsIn old x = All-get_or (λ b. IsIn old b) xs i d lt hx in
    rw (take_more xs i d lt) (record {
      grown = grown_then i 1 (i + 1) old mid new a.grown g (omega arith);
      inside = All-append (λ b. IsIn new b) out (s ∷ []) (are_in_later 1 mid new out g a.inside) (All-cons (λ b. IsIn new b) s [] m.inside (in_none (λ b. IsIn new b)));
      wide = omega (arith, a.wide, length-append out (s ∷ []));
      is = λ v.
          let e : digit (holds v new s) ≡ digit (holds v old b) * digit (holds v old x) =
          ap digit (m.is v) ∙ digit_and (holds v mid x) (holds v mid b) ∙ ap (λ z. digit z * digit (holds v mid x)) (stays v i old mid b a.grown hb) ∙ ap (λ z. digit (holds v old b) * digit z) (stays v i old mid x a.grown ix) in
          omega (
            arith,
            a.is v,
            number_stays v 1 mid new out g a.inside,
            number-append v new out (s ∷ []),
            number-append v old (take i xs) (x ∷ []),
            ap (λ j. 2 ^ j * number v new (s ∷ [])) a.wide,
            ap (λ d. 2 ^ i * d) (number-one v new s),
            ap (λ d. 2 ^ i * d) e,
            ap (λ t. digit (holds v old b) * t) (number-append v old (take i xs) (x ∷ []) ∙ ap (λ j. number v old (take i xs) + 2 ^ j * number v old (x ∷ [])) (length-take-le i xs (omega arith)) ∙ ap (λ j. number v old (take i xs) + 2 ^ i * j) (number-one v old x)),
          );
    })

-- the total after n digits of the second factor
pub record Multiplied (old new : List NetNode) (xs ys : List Bit) (out : List Bit) (n : ℕ) : Type 0 where
  pub grown : Grown (n * (8 * length xs)) old new
  pub inside : AreIn new out
  pub wide : length out ≡ length xs + n
  pub is : (v : ℕ → Bool) → number v new out ≡ number v old xs * number v old ys

pub scaled_end : {old new : List NetNode} {b : Bit} {out : List Bit} (xs : List Bit) (n : ℕ)
    → Scaled old new (take n xs) b out n → n ≡ length xs → Counts new out n (λ v. digit (holds v old b) * number v old xs)
scaled_end {old} {new} {b} {out} xs n a l =
    let ex : take n xs ≡ xs = take_all n xs (omega arith) in
    let s : Scaled old new xs b out n = subst (λ (z : List Bit). Scaled old new z b out n) ex a in
    record { inside = s.inside; wide = s.wide; is = s.is }

pub row_added : {old mid new : List NetNode} {j k : ℕ} {row upper : List Bit} {n : ℕ} (z0 b : Bit) (xs total : List Bit) (i : ℕ)
    → Grown j old mid → Grown k mid new → AreIn old total → length total ≡ n + i
    → Counts mid row n (λ v. digit (holds v old b) * number v old xs)
    → Means mid z0 (λ v. false)
    → Counts new upper (n + 1) (λ v. number v mid (drop i total) + number v mid row + digit (holds v mid z0))
    → Counts new (take i total ++ upper) (n + i + 1) (λ v. number v old total + 2 ^ i * (digit (holds v old b) * number v old xs))
row_added {old} {mid} {new} {j} {k} {row} {upper} {n} z0 b xs total i g h ht lt r z u =
    let le : i ≤ length total = omega arith in
    let gh : Grown (j + k) old new = grown_then j k (j + k) old mid new g h (omega arith) in
    let low : AreIn old (take i total) = All-take (λ b. IsIn old b) i total ht in
    let high : AreIn old (drop i total) = All-drop (λ b. IsIn old b) i total ht in
    record {
      inside = All-append (λ b. IsIn new b) (take i total) upper (are_in_later (j + k) old new (take i total) gh low) u.inside;
      wide = omega (arith, length-append (take i total) upper, length-take-le i total le, u.wide);
      is = λ v. omega (
        arith,
        number-append v new (take i total) upper ∙ ap (λ q. number v new (take i total) + 2 ^ q * number v new upper) (length-take-le i total le),
        number_stays v (j + k) old new (take i total) gh low,
        split_at v old i total le,
        ap (λ t. 2 ^ i * t) (u.is v ∙ ap (λ t. t + number v mid row + digit (holds v mid z0)) (number_stays v j old mid (drop i total) g high)
            ∙ ap (λ t. number v old (drop i total) + t + digit (holds v mid z0)) (r.is v) ∙ ap (λ t. number v old (drop i total) + digit (holds v old b) * number v old xs + digit t) (z.is v)),
      );
    }

pub multiplied_none : {net : List NetNode} {out : List Bit} (xs : List Bit) → Counts net out (length xs) (λ v. 0) → Multiplied net net xs [] out 0
unfolding number
multiplied_none {net} {out} xs c = record { grown = grown_not _ net; inside = c.inside; wide = omega (arith, c.wide); is = λ v. omega (arith, c.is v) }

pub multiplied_next : {old mid new : List NetNode} {total out : List Bit} {i : ℕ} (xs ys : List Bit) (d : Bit)
    → Multiplied old mid xs (take i ys) total i → Grown (8 * length xs) mid new → i < length ys → AreIn old xs → AreIn old ys
    → Counts new out (length xs + i + 1) (λ v. number v mid total + 2 ^ i * (digit (holds v mid (get_or ys i d)) * number v mid xs))
    → Multiplied old new xs (take (i + 1) ys) out (i + 1)
multiplied_next {old} {mid} {new} {total} {out} {i} xs ys d m g lt hx hy c =
    let y = get_or ys i d in
    let iy : IsIn old y = All-get_or (λ b. IsIn old b) ys i d lt hy in
    let most = i * (8 * length xs) in
    rw (take_more ys i d lt) (record {
      grown = grown_then most (8 * length xs) ((i + 1) * (8 * length xs)) old mid new m.grown g (omega arith);
      inside = c.inside;
      wide = omega (arith, c.wide);
      is = λ v. omega (
        arith,
        c.is v,
        m.is v,
        ap (λ t. 2 ^ i * (digit t * number v mid xs)) (stays v most old mid y m.grown iy),
        ap (λ t. 2 ^ i * (digit (holds v old y) * t)) (number_stays v most old mid xs m.grown hx),
        ap (λ t. number v old xs * t) (number-append v old (take i ys) (y ∷ []) ∙ ap (λ j. number v old (take i ys) + 2 ^ j * number v old (y ∷ [])) (length-take-le i ys (omega arith)) ∙ ap (λ j. number v old (take i ys) + 2 ^ i * j) (number-one v old y)),
      );
    })

pub multiplied_end : {old new : List NetNode} {out : List Bit} (xs ys : List Bit) (n : ℕ)
    → Multiplied old new xs (take n ys) out n → n ≡ length ys → Counts new out (length xs + n) (λ v. number v old xs * number v old ys)
multiplied_end {old} {new} {out} xs ys n a l =
    let ey : take n ys ≡ ys = take_all n ys (omega arith) in
    let s : Multiplied old new xs ys out n = subst (λ (z : List Bit). Multiplied old new xs z out n) ey a in
    record { inside = s.inside; wide = s.wide; is = s.is }

pub row_fits : (i m k : ℕ) → i < m → i * k + k ≤ m * k
row_fits i m k h =
    let le : i + 1 ≤ m = omega arith in
    omega (arith, mul-le-mul_left k le)

pub row_added_by : {old mid new : List NetNode} {j k : ℕ} {row upper : List Bit} {n : ℕ} (z0 b : Bit) (xs total : List Bit) (i : ℕ)
    → Grown j old mid → Grown k mid new → AreIn old total → length total ≡ n + i
    → Counts mid row n (λ v. digit (holds v old b) * number v old xs)
    → Means mid z0 (λ v. false) → (tail again : List Bit) → tail ≡ drop i total → again ≡ row
    → Counts new upper (length tail + 1) (λ v. number v mid tail + number v mid again + digit (holds v mid z0))
    → Counts new (take i total ++ upper) (n + i + 1) (λ v. number v old total + 2 ^ i * (digit (holds v old b) * number v old xs))
row_added_by {old} {mid} {new} {j} {k} {row} {upper} {n} z0 b xs total i g h ht lt r z tail again et er u =
    row_added z0 b xs total i g h ht lt r z (record { inside = u.inside; wide = omega (arith, u.wide, ap length et, length-drop i total); is = λ v. u.is v ∙ ap (λ t. number v mid t + number v mid again + digit (holds v mid z0)) et ∙ ap (λ t. number v mid (drop i total) + number v mid t + digit (holds v mid z0)) er })

-- what `&s[i..]` holds
pub rest_is : (s t : List Bit) (i : ℕ) → s ≡ t → take (length s - i) (drop i s) ≡ drop i t
rest_is s t i e = take_all (length s - i) (drop i s) (omega (arith, length-drop i s)) ∙ ap (drop i) e
