-- How a caller composes circuits on lists: facts about numbers, carried along.
use Rattle.std.proofs.Common.{◌≡◌, ℕ, ◌+◌, ◌-◌, ◌*◌, ◌%◌, ◌^◌, ◌<◌, ◌≤◌, Bool, true, false, cond, not, ◌&&◌, nat_lt, nat_eq, List, ◌++◌, length, take, drop, map, get_or, refl, sym, ◌∙◌, ap, subst, arith, length-append}
use Rattle.std.proofs.lemmas.List.{take_more, take_all, length-take-le, length-map}
use Rattle.std.proofs.lemmas.List.Elements.{All-take, All-append, All-get_or}
use Rattle.circuits.specs.declared.net.Bit.{Bit}
use Rattle.circuits.specs.declared.net.NetNode.{NetNode}
use Rattle.circuits.specs.Net.{holds, xor, opposite, Means, IsIn}
use Rattle.circuits.specs.Numbers.{number, digit, AreIn, Counts}
use Rattle.circuits.specs.Gates.{negative}
use Rattle.circuits.proofs.Counting.{number_lt, number-append, split_at, snoc, flipped_in, number_flipped}
use Rattle.circuits.proofs.Reading.{IsTop, top_of, mod_low}

pub own_counts : (net : List NetNode) (xs : List Bit) → AreIn net xs → Counts net xs (length xs) (λ v. number v net xs)
own_counts net xs h = record { inside = h; wide = refl; is = λ v. refl }

pub counts_by : {net : List NetNode} {xs : List Bit} {n : ℕ} {f : (ℕ → Bool) → ℕ} (g : (ℕ → Bool) → ℕ) → Counts net xs n f → ((v : ℕ → Bool) → f v ≡ g v) → Counts net xs n g
counts_by {net} {xs} {n} {f} g c e = record { inside = c.inside; wide = c.wide; is = λ v. c.is v ∙ e v }

pub counts_same : {net : List NetNode} {xs ys : List Bit} {n : ℕ} {f : (ℕ → Bool) → ℕ} → ys ≡ xs → Counts net xs n f → Counts net ys n f
counts_same {net} {xs} {ys} {n} {f} e c = rw e c

pub counts_wide : {net : List NetNode} {xs : List Bit} {m n : ℕ} {f : (ℕ → Bool) → ℕ} → m ≡ n → Counts net xs m f → Counts net xs n f
counts_wide {net} {xs} {m} {n} {f} e c = record { inside = c.inside; wide = c.wide ∙ e; is = c.is }

pub counts_lt : {net : List NetNode} {xs : List Bit} {n : ℕ} {f : (ℕ → Bool) → ℕ} → Counts net xs n f → (v : ℕ → Bool) → f v < 2 ^ n
counts_lt {net} {xs} {n} {f} c v = subst (λ (k : ℕ). k < 2 ^ n) (c.is v) (subst (λ (k : ℕ). number v net xs < 2 ^ k) c.wide (number_lt v net xs))

-- the lowest k digits
pub number_low : (v : ℕ → Bool) (net : List NetNode) (xs : List Bit) (k : ℕ) → k ≤ length xs → number v net (take k xs) ≡ number v net xs % 2 ^ k
number_low v net xs k h =
    let lt : number v net (take k xs) < 2 ^ k = subst (λ (j : ℕ). number v net (take k xs) < 2 ^ j) (length-take-le k xs h) (number_lt v net (take k xs)) in
    sym (mod_low (number v net (take k xs)) (2 ^ k) (number v net (drop k xs)) lt) ∙ ap (λ n. n % 2 ^ k) (sym (split_at v net k xs h))

pub low_counts : {net : List NetNode} {xs : List Bit} {n : ℕ} {f : (ℕ → Bool) → ℕ} (k : ℕ) → k ≤ n → Counts net xs n f → Counts net (take k xs) k (λ v. f v % 2 ^ k)
low_counts {net} {xs} {n} {f} k h c = record {
  inside = All-take (λ b. IsIn net b) k xs c.inside;
  wide = length-take-le k xs (omega (arith, c.wide));
  is = λ v. number_low v net xs k (omega (arith, c.wide)) ∙ ap (λ m. m % 2 ^ k) (c.is v);
}

-- the highest of n + 1 digits is the carry
pub top_counts : {net : List NetNode} {xs : List Bit} {f : (ℕ → Bool) → ℕ} (n : ℕ) (d : Bit) → Counts net xs (n + 1) f → (v : ℕ → Bool) → f v % 2 ^ n + 2 ^ n * digit (holds v net (get_or xs n d)) ≡ f v
top_counts {net} {xs} {f} n d c v =
    let lt : n < length xs = omega (arith, c.wide) in
    ap (λ m. m + 2 ^ n * digit (holds v net (get_or xs n d))) (sym (number_low v net xs n (omega arith) ∙ ap (λ m. m % 2 ^ n) (c.is v)))
    ∙ sym (snoc v net (take n xs) (get_or xs n d) n (length-take-le n xs (omega arith)))
    ∙ ap (number v net) (sym (take_more xs n d lt) ∙ take_all (n + 1) xs (omega (arith, c.wide)))
    ∙ c.is v

pub joined_counts : {net : List NetNode} {xs ys : List Bit} {m n : ℕ} {f g : (ℕ → Bool) → ℕ} → Counts net xs m f → Counts net ys n g → Counts net (xs ++ ys) (m + n) (λ v. f v + 2 ^ m * g v)
joined_counts {net} {xs} {ys} {m} {n} {f} {g} c d = record {
  inside = All-append (λ b. IsIn net b) xs ys c.inside d.inside;
  wide = omega (arith, length-append xs ys, c.wide, d.wide);
  is = λ v. number-append v net xs ys ∙ ap (λ k. number v net xs + 2 ^ k * number v net ys) c.wide ∙ ap (λ k. k + 2 ^ m * number v net ys) (c.is v) ∙ ap (λ k. f v + 2 ^ m * k) (d.is v);
}

pub flipped_counts : {net : List NetNode} {xs : List Bit} {n : ℕ} {f : (ℕ → Bool) → ℕ} → Counts net xs n f → Counts net (map opposite xs) n (λ v. 2 ^ n - 1 - f v)
flipped_counts {net} {xs} {n} {f} c = record {
  inside = flipped_in net xs c.inside;
  wide = length-map xs opposite ∙ c.wide;
  is = λ v. let e : number v net (map opposite xs) + f v + 1 ≡ 2 ^ n = ap (λ k. number v net (map opposite xs) + k + 1) (sym (c.is v)) ∙ number_flipped v net xs ∙ ap (λ k. 2 ^ k) c.wide in omega (arith, e);
}

pub chosen_of : {old new : List NetNode} {out xs ys : List Bit} {t : Bit} {i j : ℕ} {f : (ℕ → Bool) → Bool} {g h : (ℕ → Bool) → ℕ}
    → Counts new out (length xs) (λ v. cond (holds v old t) (number v old xs) (number v old ys)) → Means old t f → Counts old xs i g → Counts old ys j h → Counts new out i (λ v. cond (f v) (g v) (h v))
chosen_of {old} {new} {out} {xs} {ys} {t} {i} {j} {f} {g} {h} c p a b = record {
  inside = c.inside;
  wide = c.wide ∙ a.wide;
  is = λ v. c.is v ∙ ap (λ x. cond x (number v old xs) (number v old ys)) (p.is v) ∙ ap (λ x. cond (f v) x (number v old ys)) (a.is v) ∙ ap (λ x. cond (f v) (g v) x) (b.is v);
}

pub sum_of : {old new : List NetNode} {out xs ys : List Bit} {t : Bit} {i j : ℕ} {f : (ℕ → Bool) → Bool} {g h : (ℕ → Bool) → ℕ}
    → Counts new out (length xs + 1) (λ v. number v old xs + number v old ys + digit (holds v old t)) → Counts old xs i g → Counts old ys j h → Means old t f → Counts new out (i + 1) (λ v. g v + h v + digit (f v))
sum_of {old} {new} {out} {xs} {ys} {t} {i} {j} {f} {g} {h} c a b p = record {
  inside = c.inside;
  wide = c.wide ∙ ap (λ k. k + 1) a.wide;
  is = λ v. c.is v ∙ ap (λ x. x + number v old ys + digit (holds v old t)) (a.is v) ∙ ap (λ x. g v + x + digit (holds v old t)) (b.is v) ∙ ap (λ x. g v + h v + digit x) (p.is v);
}

pub difference_of : {old new : List NetNode} {out xs ys : List Bit} {i j : ℕ} {g h : (ℕ → Bool) → ℕ}
    → Counts new out (length xs + 1) (λ v. number v old xs + (2 ^ length xs - number v old ys)) → Counts old xs i g → Counts old ys j h → Counts new out (i + 1) (λ v. g v + (2 ^ i - h v))
difference_of {old} {new} {out} {xs} {ys} {i} {j} {g} {h} c a b = record {
  inside = c.inside;
  wide = c.wide ∙ ap (λ k. k + 1) a.wide;
  is = λ v. c.is v ∙ ap (λ x. x + (2 ^ length xs - number v old ys)) (a.is v) ∙ ap (λ x. g v + (2 ^ x - number v old ys)) a.wide ∙ ap (λ x. g v + (2 ^ i - x)) (b.is v);
}

pub any_of : {old new : List NetNode} {r : Bit} {xs : List Bit} {n : ℕ} {f : (ℕ → Bool) → ℕ} → Means new r (λ v. not (nat_eq (number v old xs) 0)) → Counts old xs n f → Means new r (λ v. not (nat_eq (f v) 0))
any_of {old} {new} {r} {xs} {n} {f} m c = record { inside = m.inside; is = λ v. m.is v ∙ ap (λ k. not (nat_eq k 0)) (c.is v) }

-- the sign of a list of bits
pub sign_of : {net : List NetNode} {r : Bit} {xs : List Bit} {n : ℕ} {f : (ℕ → Bool) → ℕ} (s : Bool) → Means net r (λ v. negative (length xs) s (number v net xs)) → Counts net xs n f → Means net r (λ v. negative n s (f v))
sign_of {net} {r} {xs} {n} {f} s m c = record { inside = m.inside; is = λ v. m.is v ∙ ap (λ k. negative k s (number v net xs)) c.wide ∙ ap (negative n s) (c.is v) }

at_top : (P low m : ℕ) (d : Bool) → low < P → m ≡ low + P * digit d → IsTop P m d
at_top P low m true h e = (omega arith, omega arith)
at_top P low m false h e = omega arith

pub top_is : (v : ℕ → Bool) (net : List NetNode) (xs : List Bit) (k : ℕ) (d : Bit) → length xs ≡ k + 1 → IsTop (2 ^ k) (number v net xs) (holds v net (get_or xs k d))
top_is v net xs k d l = at_top (2 ^ k) (number v net (take k xs)) (number v net xs) (holds v net (get_or xs k d))
    (let h = number_lt v net (take k xs) in subst (λ (j : ℕ). number v net (take k xs) < 2 ^ j) (length-take-le k xs (omega arith)) h)
    (let lt : k < length xs = omega arith in
    ap (number v net) (sym (take_all (k + 1) xs (omega arith)) ∙ take_more xs k d lt) ∙ snoc v net (take k xs) (get_or xs k d) k (length-take-le k xs (omega arith)))

pub signed_top : (net : List NetNode) (xs : List Bit) (d : Bit) (s : Bool) → s ≡ true → 0 < length xs → AreIn net xs → Means net (get_or xs (length xs - 1) d) (λ v. negative (length xs) s (number v net xs))
signed_top net xs d s e l h = record {
  inside = All-get_or (λ b. IsIn net b) xs (length xs - 1) d (omega arith) h;
  is = λ v. sym (top_of (2 ^ (length xs - 1)) (number v net xs) (holds v net (get_or xs (length xs - 1) d)) (top_is v net xs (length xs - 1) d (omega arith))) ∙ ap (λ b. b && not (nat_lt (number v net xs) (2 ^ (length xs - 1)))) (sym e);
}

pub unsigned_top : {net : List NetNode} {r : Bit} (xs : List Bit) (s : Bool) → s ≡ false → Means net r (λ v. false) → Means net r (λ v. negative (length xs) s (number v net xs))
unsigned_top {net} {r} xs s e m = record { inside = m.inside; is = λ v. m.is v ∙ ap (λ b. b && not (nat_lt (number v net xs) (2 ^ (length xs - 1)))) (sym e) }

pub turned_of : {old new : List NetNode} {r a b t : Bit} {f g h : (ℕ → Bool) → Bool} → Means new r (λ v. not (xor (holds v old a) (holds v old b)) && xor (holds v old a) (holds v old t))
    → Means old a f → Means old b g → Means old t h → Means new r (λ v. not (xor (f v) (g v)) && xor (f v) (h v))
turned_of {old} {new} {r} {a} {b} {t} {f} {g} {h} m p q o = record {
  inside = m.inside;
  is = λ v. m.is v ∙ ap (λ x. not (xor x (holds v old b)) && xor x (holds v old t)) (p.is v) ∙ ap (λ x. not (xor (f v) x) && xor (f v) (holds v old t)) (q.is v) ∙ ap (λ x. not (xor (f v) (g v)) && xor (f v) x) (o.is v);
}

pub at_means : {net : List NetNode} {xs : List Bit} {x : Bit} {n : ℕ} {f : (ℕ → Bool) → ℕ} (k : ℕ) (d : Bit) → Counts net xs n f → k < n → x ≡ get_or xs k d → Means net x (λ v. holds v net x)
at_means {net} {xs} {x} {n} {f} k d c h e = record { inside = rw e (All-get_or (λ b. IsIn net b) xs k d (omega (arith, c.wide)) c.inside); is = λ v. refl }
