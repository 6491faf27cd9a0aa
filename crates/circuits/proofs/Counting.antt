-- Lists of bits as numbers, and the loops over them.
use Rattle.std.proofs.Common.{◌&&◌, not, nat_eq, nat_lt, cond, ◌≡◌, ℕ, ◌+◌, ◌-◌, ◌*◌, ◌^◌, ◌<◌, ◌≤◌, Bool, true, false, List, [], ◌∷◌, ◌++◌, length, get_or, take, drop, map, refl, sym, ◌∙◌, ap, subst, arith, length-append, add-one}
use Rattle.std.proofs.Math.Nat.{pow-suc}
use Rattle.std.proofs.lemmas.Nat.{pow_pos, and_block, or_block, xor_block}
use Rattle.std.proofs.lemmas.Bool.{ne_eqb, le-ltb, lt-ltb}
use Rattle.std.specs.List.{All}
use Rattle.std.proofs.lemmas.List.Elements.{All-append, All-head, All-tail, All-cons, All-get_or}
use Rattle.std.proofs.lemmas.List.{take_more, take_all, length-take-le, take-append-drop}
use Rattle.circuits.specs.declared.net.Bit.{Bit}
use Rattle.circuits.specs.declared.net.NetNode.{NetNode}
use Rattle.circuits.specs.Net.{holds, xor, Grown, IsIn, Means, opposite}
use Rattle.circuits.specs.Numbers.{number, digit, AreIn, Counts}
use Rattle.circuits.specs.Gates.{IsSumOf, gate_of, digits_of}
use Rattle.circuits.specs.declared.gates.Gate.{Gate}
use Rattle.circuits.specs.declared.gates.Gate.TheVariants.{And, Xor, Or}
use Rattle.circuits.proofs.Nets.{stays, longer, grown_then, grown_not, holds-opposite, opp}
use Rattle.circuits.proofs.Reading.{lt_same}

-- n digits of a sum, and the carry
pub record Added (old new : List NetNode) (xs ys : List Bit) (c : Bit) (out : List Bit) (carry : Bit) (n : ℕ) : Type 0 where
  pub grown : Grown (7 * n) old new
  pub carry_in : IsIn new carry
  pub inside : AreIn new out
  pub wide : length out ≡ n
  pub is : (v : ℕ → Bool) → number v new out + 2 ^ n * digit (holds v new carry) ≡ number v old xs + number v old ys + digit (holds v old c)

pub in_none : (P : Bit → Type 0) → All P []
in_none P = λ k d lt. absurd (omega arith)

pub number-append : (v : ℕ → Bool) (net : List NetNode) (xs ys : List Bit) → number v net (xs ++ ys) ≡ number v net xs + 2 ^ length xs * number v net ys
unfolding number
number-append v net [] ys = omega arith
number-append v net (x ∷ xs) ys = omega (arith, number-append v net xs ys, ap (λ p. p * number v net ys) (pow-suc 2 (length xs)))

pub number-one : (v : ℕ → Bool) (net : List NetNode) (x : Bit) → number v net (x ∷ []) ≡ digit (holds v net x)
unfolding number
number-one v net x = omega arith

pub number_stays : (v : ℕ → Bool) (most : ℕ) (old new : List NetNode) (xs : List Bit) → Grown most old new → AreIn old xs → number v new xs ≡ number v old xs
unfolding number
number_stays v most old new [] g h = refl
number_stays v most old new (x ∷ xs) g h = omega (arith, number_stays v most old new xs g (All-tail (λ b. IsIn old b) x xs h), ap digit (stays v most old new x g (All-head (λ b. IsIn old b) x xs h)))

pub are_in_later : (most : ℕ) (old new : List NetNode) (xs : List Bit) → Grown most old new → AreIn old xs → AreIn new xs
are_in_later most old new [] g h = in_none (λ b. IsIn new b)
are_in_later most old new (x ∷ xs) g h =
    let hx : IsIn old x = All-head (λ b. IsIn old b) x xs h in
    All-cons (λ b. IsIn new b) x xs (omega (arith, hx, (longer most old new g).0)) (are_in_later most old new xs g (All-tail (λ b. IsIn old b) x xs h))

-- a list of bits, later
pub counts_later : {most : ℕ} {old new : List NetNode} {xs : List Bit} {n : ℕ} {f : (ℕ → Bool) → ℕ} → Grown most old new → Counts old xs n f → Counts new xs n f
counts_later {most} {old} {new} {xs} {n} {f} g c = record { inside = are_in_later most old new xs g c.inside; wide = c.wide; is = λ v. number_stays v most old new xs g c.inside ∙ c.is v }

pub added_none : (net : List NetNode) (c : Bit) → IsIn net c → Added net net [] [] c [] c 0
unfolding number
added_none net c h = record { grown = grown_not _ net; carry_in = h; inside = in_none (λ b. IsIn net b); wide = refl; is = λ v. omega arith }

pub added_more : (old mid new : List NetNode) (xs ys out : List Bit) (c carry s k x y : Bit) (n : ℕ)
    → Added old mid xs ys c out carry n → Grown 7 mid new → IsSumOf mid new s k x y carry
    → IsIn old x → IsIn old y → length xs ≡ n → length ys ≡ n
    → Added old new (xs ++ x ∷ []) (ys ++ y ∷ []) c (out ++ s ∷ []) k (n + 1)
added_more old mid new xs ys out c carry s k x y n a g e hx hy lx ly = record {
  grown = grown_then (7 * n) 7 (7 * (n + 1)) old mid new a.grown g (omega arith);
  carry_in = e.high_in;
  inside = All-append (λ b. IsIn new b) out (s ∷ []) (are_in_later 7 mid new out g a.inside) (All-cons (λ b. IsIn new b) s [] e.low_in (in_none (λ b. IsIn new b)));
  wide = omega (arith, a.wide, length-append out (s ∷ []));
  is = λ v. omega (
    arith,
    a.is v,
    number-append v new out (s ∷ []),
    number-append v old xs (x ∷ []),
    number-append v old ys (y ∷ []),
    ap (λ i. 2 ^ i * number v new (s ∷ [])) a.wide,
    ap (λ i. 2 ^ i * number v old (x ∷ [])) lx,
    ap (λ i. 2 ^ i * number v old (y ∷ [])) ly,
    ap (λ d. 2 ^ n * d) (number-one v new s),
    ap (λ d. 2 ^ n * d) (number-one v old x),
    ap (λ d. 2 ^ n * d) (number-one v old y),
    number_stays v 7 mid new out g a.inside,
    ap (λ b. 2 ^ n * digit b) (stays v (7 * n) old mid x a.grown hx),
    ap (λ b. 2 ^ n * digit b) (stays v (7 * n) old mid y a.grown hy),
    ap (λ d. 2 ^ n * d) (e.is v),
    ap (λ p. p * digit (holds v new k)) (ap (λ i. 2 ^ i) (add-one n) ∙ pow-suc 2 n),
  );
}

-- the loop's step
pub added_next : {old mid new : List NetNode} {out : List Bit} {c carry s k : Bit} {i : ℕ} (xs ys : List Bit) (d e : Bit)
    → Added old mid (take i xs) (take i ys) c out carry i → Grown 7 mid new → IsSumOf mid new s k (get_or xs i d) (get_or ys i e) carry
    → AreIn old xs → AreIn old ys → i < length xs → length ys ≡ length xs
    → Added old new (take (i + 1) xs) (take (i + 1) ys) c (out ++ s ∷ []) k (i + 1)
added_next {old} {mid} {new} {out} {c} {carry} {s} {k} {i} xs ys d e a g t hx hy lt same =
    let lt' : i < length ys = omega arith in
    rw (take_more xs i d lt, take_more ys i e lt')
    (added_more old mid new (take i xs) (take i ys) out c carry s k (get_or xs i d) (get_or ys i e) i a g t
    (All-get_or (λ b. IsIn old b) xs i d lt hx) (All-get_or (λ b. IsIn old b) ys i e lt' hy)
    (length-take-le i xs (omega arith)) (length-take-le i ys (omega arith)))

pub added_all : (old new : List NetNode) (xs ys out : List Bit) (c carry : Bit) (n : ℕ)
    → Added old new xs ys c out carry n → Counts new (out ++ carry ∷ []) (n + 1) (λ v. number v old xs + number v old ys + digit (holds v old c))
added_all old new xs ys out c carry n a = record {
  inside = All-append (λ b. IsIn new b) out (carry ∷ []) a.inside (All-cons (λ b. IsIn new b) carry [] a.carry_in (in_none (λ b. IsIn new b)));
  wide = omega (arith, a.wide, length-append out (carry ∷ []));
  is = λ v. omega (arith, a.is v, number-append v new out (carry ∷ []), ap (λ i. 2 ^ i * number v new (carry ∷ [])) a.wide, ap (λ d. 2 ^ n * d) (number-one v new carry));
}

pub added_end : {old new : List NetNode} {out : List Bit} {c carry : Bit} (xs ys : List Bit) (n : ℕ)
    → Added old new (take n xs) (take n ys) c out carry n → n ≡ length xs → length ys ≡ length xs
    → Counts new (out ++ carry ∷ []) (n + 1) (λ v. number v old xs + number v old ys + digit (holds v old c))
added_end {old} {new} {out} {c} {carry} xs ys n a l m =
    let ex : take n xs ≡ xs = take_all n xs (omega arith) in
    let ey : take n ys ≡ ys = take_all n ys (omega arith) in
    let b : Added old new xs ys c out carry n = subst (λ (z : List Bit). Added old new z ys c out carry n) ex (subst (λ (z : List Bit). Added old new (take n xs) z c out carry n) ey a) in
    added_all old new xs ys out c carry n b

-- bits that are false
pub zeros_none : (net : List NetNode) → Counts net [] 0 (λ v. 0)
unfolding number
zeros_none net = record { inside = in_none (λ b. IsIn net b); wide = refl; is = λ v. refl }

pub zeros_next : {net : List NetNode} {out : List Bit} {b : Bit} {n : ℕ} → Counts net out n (λ v. 0) → Means net b (λ v. false) → Counts net (out ++ b ∷ []) (n + 1) (λ v. 0)
zeros_next {net} {out} {b} {n} c m = record {
  inside = All-append (λ b. IsIn net b) out (b ∷ []) c.inside (All-cons (λ b. IsIn net b) b [] m.inside (in_none (λ b. IsIn net b)));
  wide = omega (arith, c.wide, length-append out (b ∷ []));
  is = λ v. omega (arith, c.is v, number-append v net out (b ∷ []), ap (λ t. 2 ^ length out * t) (number-one v net b ∙ ap digit (m.is v)));
}

pub split_at : (v : ℕ → Bool) (net : List NetNode) (i : ℕ) (xs : List Bit) → i ≤ length xs → number v net xs ≡ number v net (take i xs) + 2 ^ i * number v net (drop i xs)
split_at v net i xs h =
    ap (number v net) (sym (take-append-drop i xs)) ∙ number-append v net (take i xs) (drop i xs) ∙ ap (λ j. number v net (take i xs) + 2 ^ j * number v net (drop i xs)) (length-take-le i xs h)

pub record Chosen (old new : List NetNode) (t : Bit) (xs ys out : List Bit) (n : ℕ) : Type 0 where
  pub grown : Grown (3 * n) old new
  pub inside : AreIn new out
  pub wide : length out ≡ n
  pub is : (v : ℕ → Bool) → number v new out ≡ cond (holds v old t) (number v old xs) (number v old ys)

cond_same : (b : Bool) (n : ℕ) → n ≡ cond b n n
cond_same true n = refl
cond_same false n = refl

pub chosen_none : (net : List NetNode) (t : Bit) → Chosen net net t [] [] [] 0
unfolding number
chosen_none net t = record { grown = grown_not _ net; inside = in_none (λ b. IsIn net b); wide = refl; is = λ v. cond_same (holds v net t) 0 }

cond_digits : (t x y : Bool) (p a b : ℕ) → cond t a b + p * digit (cond t x y) ≡ cond t (a + p * digit x) (b + p * digit y)
cond_digits true x y p a b = refl
cond_digits false x y p a b = refl

pub snoc : (v : ℕ → Bool) (net : List NetNode) (xs : List Bit) (x : Bit) (n : ℕ) → length xs ≡ n → number v net (xs ++ x ∷ []) ≡ number v net xs + 2 ^ n * digit (holds v net x)
snoc v net xs x n e = number-append v net xs (x ∷ []) ∙ ap (λ j. number v net xs + 2 ^ j * number v net (x ∷ [])) e ∙ ap (λ d. number v net xs + 2 ^ n * d) (number-one v net x)

pub chosen_next : {old mid new : List NetNode} {t s : Bit} {out : List Bit} {i : ℕ} (xs ys : List Bit) (d e : Bit)
    → Chosen old mid t (take i xs) (take i ys) out i → Grown 3 mid new → Means new s (λ v. cond (holds v mid t) (holds v mid (get_or xs i d)) (holds v mid (get_or ys i e)))
    → IsIn old t → AreIn old xs → AreIn old ys → i < length xs → length ys ≡ length xs
    → Chosen old new t (take (i + 1) xs) (take (i + 1) ys) (out ++ s ∷ []) (i + 1)
chosen_next {old} {mid} {new} {t} {s} {out} {i} xs ys d e a g m ht hx hy lt same =
    let lt' : i < length ys = omega arith in
    let x = get_or xs i d in
    let y = get_or ys i e in
    let ix : IsIn old x = All-get_or (λ b. IsIn old b) xs i d lt hx in
    let iy : IsIn old y = All-get_or (λ b. IsIn old b) ys i e lt' hy in
    rw (take_more xs i d lt, take_more ys i e lt') (record {
      grown = grown_then (3 * i) 3 (3 * (i + 1)) old mid new a.grown g (omega arith);
      inside = All-append (λ b. IsIn new b) out (s ∷ []) (are_in_later 3 mid new out g a.inside) (All-cons (λ b. IsIn new b) s [] m.inside (in_none (λ b. IsIn new b)));
      wide = omega (arith, a.wide, length-append out (s ∷ []));
      is = λ v.
          snoc v new out s i a.wide
          ∙ ap (λ n. n + 2 ^ i * digit (holds v new s)) (number_stays v 3 mid new out g a.inside ∙ a.is v)
          ∙ ap (λ b. cond (holds v old t) (number v old (take i xs)) (number v old (take i ys)) + 2 ^ i * digit b)
          (m.is v ∙ ap (λ b. cond b (holds v mid x) (holds v mid y)) (stays v (3 * i) old mid t a.grown ht) ∙ ap (λ b. cond (holds v old t) b (holds v mid y)) (stays v (3 * i) old mid x a.grown ix) ∙ ap (λ b. cond (holds v old t) (holds v old x) b) (stays v (3 * i) old mid y a.grown iy))
          ∙ cond_digits (holds v old t) (holds v old x) (holds v old y) (2 ^ i) (number v old (take i xs)) (number v old (take i ys))
          ∙ ap (λ n. cond (holds v old t) n (number v old (take i ys) + 2 ^ i * digit (holds v old y))) (sym (snoc v old (take i xs) x i (length-take-le i xs (omega arith))))
          ∙ ap (λ n. cond (holds v old t) (number v old (take i xs ++ x ∷ [])) n) (sym (snoc v old (take i ys) y i (length-take-le i ys (omega arith))));
    })

pub chosen_end : {old new : List NetNode} {t : Bit} {out : List Bit} (xs ys : List Bit) (n : ℕ)
    → Chosen old new t (take n xs) (take n ys) out n → n ≡ length xs → length ys ≡ length xs → Counts new out n (λ v. cond (holds v old t) (number v old xs) (number v old ys))
chosen_end {old} {new} {t} {out} xs ys n a l m =
    let ex : take n xs ≡ xs = take_all n xs (omega arith) in
    let ey : take n ys ≡ ys = take_all n ys (omega arith) in
    let s : Chosen old new t xs ys out n = subst (λ (z : List Bit). Chosen old new t z ys out n) ex (subst (λ (z : List Bit). Chosen old new t (take n xs) z out n) ey a) in
    record { inside = s.inside; wide = s.wide; is = s.is }

digit_le : (b : Bool) → digit b ≤ 1
digit_le true = omega arith
digit_le false = omega arith

pub number_lt : (v : ℕ → Bool) (net : List NetNode) (xs : List Bit) → number v net xs < 2 ^ length xs
unfolding number
number_lt v net [] = omega arith
number_lt v net (x ∷ xs) = omega (arith, number_lt v net xs, digit_le (holds v net x), pow-suc 2 (length xs))

-- whether one of n bits is true
pub record Noted (old new : List NetNode) (xs : List Bit) (none : Bit) (n : ℕ) : Type 0 where
  pub grown : Grown n old new
  pub means : Means new none (λ v. nat_eq (number v old xs) 0)

pub noted_none : (net : List NetNode) (always : Bit) → Means net always (λ v. true) → Noted net net [] always 0
unfolding number
noted_none net always m = record { grown = grown_not _ net; means = record { inside = m.inside; is = m.is } }

positive : (m : ℕ) → 0 < m → nat_eq m 0 ≡ false
positive m h = ne_eqb m 0 (λ e. absurd (omega arith))

and_false : (b : Bool) → (b && false) ≡ false
and_false true = refl
and_false false = refl

and_true : (b : Bool) → (b && true) ≡ b
and_true true = refl
and_true false = refl

zero_digit : (b : Bool) (n p : ℕ) → 0 < p → (nat_eq n 0 && not b) ≡ nat_eq (n + p * digit b) 0
zero_digit true n p h = and_false (nat_eq n 0) ∙ sym (positive (n + p * 1) (omega arith))
zero_digit false n p h = let e : n ≡ n + p * 0 = omega arith in and_true (nat_eq n 0) ∙ ap (λ m. nat_eq m 0) e

pub noted_next : {old mid new : List NetNode} {none next x : Bit} {i : ℕ} (xs : List Bit) (d : Bit)
    → Noted old mid (take i xs) none i → Grown 1 mid new → x ≡ opposite (get_or xs i d) → Means new next (λ v. holds v mid none && holds v mid x)
    → AreIn old xs → i < length xs → Noted old new (take (i + 1) xs) next (i + 1)
noted_next {old} {mid} {new} {none} {next} {x} {i} xs d a g e m hx lt =
    let y = get_or xs i d in
    let iy : IsIn old y = All-get_or (λ b. IsIn old b) xs i d lt hx in
    rw (take_more xs i d lt) (record {
      grown = grown_then i 1 (i + 1) old mid new a.grown g (omega arith);
      means = record {
        inside = m.inside;
        is = λ v.
            m.is v
            ∙ ap (λ b. b && holds v mid x) (a.means.is v)
            ∙ ap (λ b. nat_eq (number v old (take i xs)) 0 && b) (ap (holds v mid) e ∙ holds-opposite v mid y ∙ ap not (stays v i old mid y a.grown iy))
            ∙ zero_digit (holds v old y) (number v old (take i xs)) (2 ^ i) (pow_pos i)
            ∙ ap (λ n. nat_eq n 0) (sym (snoc v old (take i xs) y i (length-take-le i xs (omega arith))));
      };
    })

pub noted_end : {old new : List NetNode} {none r : Bit} (xs : List Bit) (n : ℕ)
    → Noted old new (take n xs) none n → n ≡ length xs → r ≡ opposite none → Means new r (λ v. not (nat_eq (number v old xs) 0))
noted_end {old} {new} {none} {r} xs n a l e =
    let ex : take n xs ≡ xs = take_all n xs (omega arith) in
    let m : Means new none (λ v. nat_eq (number v old xs) 0) = subst (λ (z : List Bit). Means new none (λ v. nat_eq (number v old z) 0)) ex a.means in
    opp e m

below_take : (v : ℕ → Bool) (net : List NetNode) (xs : List Bit) (i : ℕ) → i ≤ length xs → number v net (take i xs) < 2 ^ i
below_take v net xs i h = subst (λ (j : ℕ). number v net (take i xs) < 2 ^ j) (length-take-le i xs h) (number_lt v net (take i xs))

-- whether a number of n digits is below another
pub record Ranked (old new : List NetNode) (xs ys : List Bit) (less : Bit) (n : ℕ) : Type 0 where
  pub grown : Grown (4 * n) old new
  pub means : Means new less (λ v. nat_lt (number v old xs) (number v old ys))

pub ranked_none : (net : List NetNode) (never : Bit) → Means net never (λ v. false) → Ranked net net [] [] never 0
unfolding number
ranked_none net never m = record { grown = grown_not _ net; means = record { inside = m.inside; is = m.is } }

lt_digit : (x y : Bool) (p a b : ℕ) → a < p → b < p → cond (xor x y) y (nat_lt a b) ≡ nat_lt (a + p * digit x) (b + p * digit y)
lt_digit true true p a b h k = lt_same a b (a + p * 1) (b + p * 1) (λ e. omega arith) (λ e. omega arith)
lt_digit true false p a b h k = sym (le-ltb (a + p * 1) (b + p * 0) (omega arith))
lt_digit false true p a b h k = sym (lt-ltb (a + p * 0) (b + p * 1) (omega arith))
lt_digit false false p a b h k = lt_same a b (a + p * 0) (b + p * 0) (λ e. omega arith) (λ e. omega arith)

pub ranked_next : {old mid new : List NetNode} {less next : Bit} {i : ℕ} (xs ys : List Bit) (d e : Bit)
    → Ranked old mid (take i xs) (take i ys) less i → Grown 4 mid new
    → Means new next (λ v. cond (xor (holds v mid (get_or xs i d)) (holds v mid (get_or ys i e))) (holds v mid (get_or ys i e)) (holds v mid less))
    → AreIn old xs → AreIn old ys → i < length xs → length ys ≡ length xs → Ranked old new (take (i + 1) xs) (take (i + 1) ys) next (i + 1)
ranked_next {old} {mid} {new} {less} {next} {i} xs ys d e a g m hx hy lt same =
    let lt' : i < length ys = omega arith in
    let x = get_or xs i d in
    let y = get_or ys i e in
    let ix : IsIn old x = All-get_or (λ b. IsIn old b) xs i d lt hx in
    let iy : IsIn old y = All-get_or (λ b. IsIn old b) ys i e lt' hy in
    rw (take_more xs i d lt, take_more ys i e lt') (record {
      grown = grown_then (4 * i) 4 (4 * (i + 1)) old mid new a.grown g (omega arith);
      means = record {
        inside = m.inside;
        is = λ v.
            m.is v
            ∙ ap (λ b. cond (xor b (holds v mid y)) (holds v mid y) (holds v mid less)) (stays v (4 * i) old mid x a.grown ix)
            ∙ ap (λ b. cond (xor (holds v old x) b) b (holds v mid less)) (stays v (4 * i) old mid y a.grown iy)
            ∙ ap (λ b. cond (xor (holds v old x) (holds v old y)) (holds v old y) b) (a.means.is v)
            ∙ lt_digit (holds v old x) (holds v old y) (2 ^ i) (number v old (take i xs)) (number v old (take i ys)) (below_take v old xs i (omega arith)) (below_take v old ys i (omega arith))
            ∙ ap (λ n. nat_lt n (number v old (take i ys) + 2 ^ i * digit (holds v old y))) (sym (snoc v old (take i xs) x i (length-take-le i xs (omega arith))))
            ∙ ap (λ n. nat_lt (number v old (take i xs ++ x ∷ [])) n) (sym (snoc v old (take i ys) y i (length-take-le i ys (omega arith))));
      };
    })

pub ranked_end : {old new : List NetNode} {less : Bit} (xs ys : List Bit) (n : ℕ)
    → Ranked old new (take n xs) (take n ys) less n → n ≡ length xs → length ys ≡ length xs → Means new less (λ v. nat_lt (number v old xs) (number v old ys))
ranked_end {old} {new} {less} xs ys n a l m =
    let ex : take n xs ≡ xs = take_all n xs (omega arith) in
    let ey : take n ys ≡ ys = take_all n ys (omega arith) in
    let t : Ranked old new xs ys less n = subst (λ (z : List Bit). Ranked old new z ys less n) ex (subst (λ (z : List Bit). Ranked old new (take n xs) z less n) ey a) in
    t.means

-- all bits negated
pub flipped_in : (net : List NetNode) (xs : List Bit) → AreIn net xs → AreIn net (map opposite xs)
flipped_in net [] h = in_none (λ b. IsIn net b)
flipped_in net (x ∷ xs) h = All-cons (λ b. IsIn net b) (opposite x) (map opposite xs) (All-head (λ b. IsIn net b) x xs h) (flipped_in net xs (All-tail (λ b. IsIn net b) x xs h))

digit_not : (b : Bool) → digit (not b) + digit b ≡ 1
digit_not true = refl
digit_not false = refl

pub number_flipped : (v : ℕ → Bool) (net : List NetNode) (xs : List Bit) → number v net (map opposite xs) + number v net xs + 1 ≡ 2 ^ length xs
unfolding number
number_flipped v net [] = refl
number_flipped v net (x ∷ xs) = omega (arith, number_flipped v net xs, ap digit (holds-opposite v net x), digit_not (holds v net x), pow-suc 2 (length xs))

-- a gate at each of n pairs of digits
pub record Paired (old new : List NetNode) (kind : Gate) (xs ys out : List Bit) (n : ℕ) : Type 0 where
  pub grown : Grown (3 * n) old new
  pub inside : AreIn new out
  pub wide : length out ≡ n
  pub is : (v : ℕ → Bool) → number v new out ≡ digits_of kind (number v old xs) (number v old ys)

pub paired_none : (net : List NetNode) (kind : Gate) → Paired net net kind [] [] [] 0
unfolding number
paired_none net And = record { grown = grown_not _ net; inside = in_none (λ b. IsIn net b); wide = refl; is = λ v. refl }
paired_none net Xor = record { grown = grown_not _ net; inside = in_none (λ b. IsIn net b); wide = refl; is = λ v. refl }
paired_none net Or = record { grown = grown_not _ net; inside = in_none (λ b. IsIn net b); wide = refl; is = λ v. refl }

one_digit : (kind : Gate) (x y : Bool) → digits_of kind (digit x) (digit y) ≡ digit (gate_of kind x y)
one_digit And true true = refl
one_digit And true false = refl
one_digit And false y = refl
one_digit Xor true true = refl
one_digit Xor true false = refl
one_digit Xor false true = refl
one_digit Xor false false = refl
one_digit Or true true = refl
one_digit Or true false = refl
one_digit Or false true = refl
one_digit Or false false = refl

digits_block : (kind : Gate) (k a b r s : ℕ) → r < 2 ^ k → s < 2 ^ k → digits_of kind (a * 2 ^ k + r) (b * 2 ^ k + s) ≡ digits_of kind a b * 2 ^ k + digits_of kind r s
digits_block And k a b r s p q = and_block k a b r s p q
digits_block Xor k a b r s p q = xor_block k a b r s p q
digits_block Or k a b r s p q = or_block k a b r s p q

digits_more : (kind : Gate) (x y : Bool) (i a b : ℕ) → a < 2 ^ i → b < 2 ^ i → digits_of kind a b + 2 ^ i * digit (gate_of kind x y) ≡ digits_of kind (a + 2 ^ i * digit x) (b + 2 ^ i * digit y)
digits_more kind x y i a b p q =
    let ea : digit x * 2 ^ i + a ≡ a + 2 ^ i * digit x = omega arith in
    let eb : digit y * 2 ^ i + b ≡ b + 2 ^ i * digit y = omega arith in
    let e : digits_of kind a b + 2 ^ i * digit (gate_of kind x y) ≡ digits_of kind (digit x) (digit y) * 2 ^ i + digits_of kind a b = omega (arith, ap (λ d. 2 ^ i * d) (one_digit kind x y)) in
    e ∙ sym (digits_block kind i (digit x) (digit y) a b p q) ∙ ap (λ z. digits_of kind z (digit y * 2 ^ i + b)) ea ∙ ap (λ z. digits_of kind (a + 2 ^ i * digit x) z) eb

pub paired_next : {old mid new : List NetNode} {kind : Gate} {s : Bit} {out : List Bit} {i : ℕ} (xs ys : List Bit) (d e : Bit)
    → Paired old mid kind (take i xs) (take i ys) out i → Grown 3 mid new → Means new s (λ v. gate_of kind (holds v mid (get_or xs i d)) (holds v mid (get_or ys i e)))
    → AreIn old xs → AreIn old ys → i < length xs → length ys ≡ length xs
    → Paired old new kind (take (i + 1) xs) (take (i + 1) ys) (out ++ s ∷ []) (i + 1)
paired_next {old} {mid} {new} {kind} {s} {out} {i} xs ys d e a g m hx hy lt same =
    let lt' : i < length ys = omega arith in
    let x = get_or xs i d in
    let y = get_or ys i e in
    let ix : IsIn old x = All-get_or (λ b. IsIn old b) xs i d lt hx in
    let iy : IsIn old y = All-get_or (λ b. IsIn old b) ys i e lt' hy in
    rw (take_more xs i d lt, take_more ys i e lt') (record {
      grown = grown_then (3 * i) 3 (3 * (i + 1)) old mid new a.grown g (omega arith);
      inside = All-append (λ b. IsIn new b) out (s ∷ []) (are_in_later 3 mid new out g a.inside) (All-cons (λ b. IsIn new b) s [] m.inside (in_none (λ b. IsIn new b)));
      wide = omega (arith, a.wide, length-append out (s ∷ []));
      is = λ v.
          snoc v new out s i a.wide
          ∙ ap (λ n. n + 2 ^ i * digit (holds v new s)) (number_stays v 3 mid new out g a.inside ∙ a.is v)
          ∙ ap (λ b. digits_of kind (number v old (take i xs)) (number v old (take i ys)) + 2 ^ i * digit b)
          (m.is v ∙ ap (λ b. gate_of kind b (holds v mid y)) (stays v (3 * i) old mid x a.grown ix) ∙ ap (λ b. gate_of kind (holds v old x) b) (stays v (3 * i) old mid y a.grown iy))
          ∙ digits_more kind (holds v old x) (holds v old y) i (number v old (take i xs)) (number v old (take i ys)) (below_take v old xs i (omega arith)) (below_take v old ys i (omega arith))
          ∙ ap (λ n. digits_of kind n (number v old (take i ys) + 2 ^ i * digit (holds v old y))) (sym (snoc v old (take i xs) x i (length-take-le i xs (omega arith))))
          ∙ ap (λ n. digits_of kind (number v old (take i xs ++ x ∷ [])) n) (sym (snoc v old (take i ys) y i (length-take-le i ys (omega arith))));
    })

pub paired_end : {old new : List NetNode} {kind : Gate} {out : List Bit} (xs ys : List Bit) (n : ℕ)
    → Paired old new kind (take n xs) (take n ys) out n → n ≡ length xs → length ys ≡ length xs → Counts new out n (λ v. digits_of kind (number v old xs) (number v old ys))
paired_end {old} {new} {kind} {out} xs ys n a l m =
    let ex : take n xs ≡ xs = take_all n xs (omega arith) in
    let ey : take n ys ≡ ys = take_all n ys (omega arith) in
    let s : Paired old new kind xs ys out n = subst (λ (z : List Bit). Paired old new kind xs z out n) ey (subst (λ (z : List Bit). Paired old new kind z (take n ys) out n) ex a) in
    record { inside = s.inside; wide = s.wide; is = s.is }

-- a difference is a sum with the flipped bits and one more
pub difference_made : {old new : List NetNode} {out : List Bit} {always : Bit} (xs ys others : List Bit)
    → others ≡ map opposite ys → length ys ≡ length xs → Means old always (λ v. true)
    → Counts new out (length xs + 1) (λ v. number v old xs + number v old others + digit (holds v old always))
    → Counts new out (length xs + 1) (λ v. number v old xs + (2 ^ length xs - number v old ys))
difference_made {old} {new} {out} {always} xs ys others e same y c = record {
  inside = c.inside;
  wide = c.wide;
  is = λ v.
      let f : number v old (map opposite ys) + number v old ys + 1 ≡ 2 ^ length xs = number_flipped v old ys ∙ ap (λ n. 2 ^ n) same in
      c.is v ∙ ap (λ z. number v old xs + number v old z + digit (holds v old always)) e ∙ ap (λ b. number v old xs + number v old (map opposite ys) + digit b) (y.is v)
      ∙ omega (arith, f);
}
