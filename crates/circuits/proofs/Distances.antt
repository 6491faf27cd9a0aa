-- Circuits on signs and distances from 0.
use Rattle.std.proofs.Common.{◌≡◌, ℕ, ◌+◌, ◌-◌, ◌*◌, ◌%◌, ◌^◌, ◌<◌, ◌≤◌, Bool, true, cond, not, ◌&&◌, nat_lt, List, [], ◌∷◌, ◌++◌, length, refl, sym, ◌∙◌, ap, arith}
use Rattle.std.proofs.lemmas.List.Elements.{All-cons}
use Rattle.circuits.specs.declared.net.Bit.{Bit}
use Rattle.circuits.specs.declared.net.NetNode.{NetNode}
use Rattle.circuits.specs.Net.{holds, opposite, Means, IsIn, Grown}
use Rattle.circuits.specs.Numbers.{number, digit, AreIn, Counts}
use Rattle.circuits.specs.Gates.{negative, size}
use Rattle.circuits.proofs.Nets.{opp}
use Rattle.circuits.proofs.Counting.{in_none, number-one, number_lt, number_stays}
use Rattle.circuits.proofs.Carrying.{own_counts, counts_by, counts_same, counts_wide, joined_counts}
use Rattle.circuits.proofs.Sizes.{size_mod}

pub one_counts : {net : List NetNode} {b : Bit} {f : (ℕ → Bool) → Bool} → Means net b f → Counts net (b ∷ []) 1 (λ v. digit (f v))
one_counts {net} {b} {f} m = record {
  inside = All-cons (λ x. IsIn net x) b [] m.inside (in_none (λ x. IsIn net x));
  wide = refl;
  is = λ v. number-one v net b ∙ ap digit (m.is v);
}

pub magnitude_made : {old new : List NetNode} {out : List Bit} {t : Bit} (xs : List Bit) (s : Bool) → Means old t (λ v. negative (length xs) s (number v old xs))
    → Counts new out (length xs) (λ v. cond (holds v old t) ((2 ^ length xs - number v old xs) % 2 ^ length xs) (number v old xs)) → Counts new out (length xs) (λ v. size (length xs) s (number v old xs))
magnitude_made {old} {new} {out} {t} xs s m c =
    counts_by (λ v. size (length xs) s (number v old xs)) c
    (λ v. ap (λ b. cond b ((2 ^ length xs - number v old xs) % 2 ^ length xs) (number v old xs)) (m.is v) ∙ size_mod (length xs) s (number v old xs) (number_lt v old xs))

limit_value : (w t p q : ℕ) → p ≡ 2 ^ (w - 1) → t + 2 ^ 1 * 0 + p * 1 + q * 0 ≡ 2 ^ (w - 1) + t
limit_value w t p q e = omega (arith, e)

pub limit_made : {net : List NetNode} {low full out gap rest : List Bit} {t y : Bit} (w n : ℕ) → 1 < w → w ≤ n → Means net t (λ v. holds v net t) → Counts net gap (w - 2) (λ v. 0) → Means net y (λ v. true) → Counts net rest (n - w) (λ v. 0)
    → low ≡ (t ∷ []) ++ gap → full ≡ low ++ y ∷ [] → out ≡ full ++ rest → Counts net out n (λ v. 2 ^ (w - 1) + digit (holds v net t))
limit_made {net} {low} {full} {out} {gap} {rest} {t} {y} w n some within mt cg my cr el ef eo =
    rw (eo, ef, el)
    (counts_by (λ v. 2 ^ (w - 1) + digit (holds v net t))
    (counts_wide (let e : 1 + (w - 2) + 1 + (n - w) ≡ n = omega arith in e) (joined_counts (joined_counts (joined_counts (one_counts mt) cg) (one_counts my)) cr))
    (λ v. limit_value w (digit (holds v net t)) (2 ^ (1 + (w - 2))) (2 ^ (1 + (w - 2) + 1)) (ap (λ k. 2 ^ k) (let e : 1 + (w - 2) ≡ w - 1 = omega arith in e))))

pub exceeds_made : {old new : List NetNode} {least : List Bit} {r : Bit} {n : ℕ} {f : (ℕ → Bool) → ℕ} (xs : List Bit) (s : Bool) → Counts old least n f
    → Means new r (λ v. s && not (nat_lt (number v old xs) (number v old least))) → Means new r (λ v. s && not (nat_lt (number v old xs) (f v)))
exceeds_made {old} {new} {least} {r} {n} {f} xs s c m = record { inside = m.inside; is = λ v. m.is v ∙ ap (λ k. s && not (nat_lt (number v old xs) k)) (c.is v) }

pub signed_means : {net : List NetNode} {r : Bit} {b s : Bool} → Means net r (λ v. b) → b ≡ s → Means net r (λ v. s)
signed_means {net} {r} {b} {s} m e = record { inside = m.inside; is = λ v. m.is v ∙ e }

pub with_sign_of : {old new : List NetNode} {out xs : List Bit} {t : Bit} {w : ℕ} {f : (ℕ → Bool) → Bool} {g : (ℕ → Bool) → ℕ}
    → Counts new out (length xs) (λ v. cond (holds v old t) ((2 ^ length xs - number v old xs) % 2 ^ length xs) (number v old xs)) → Means old t f → Counts old xs w g
    → Counts new out w (λ v. cond (f v) ((2 ^ w - g v) % 2 ^ w) (g v))
with_sign_of {old} {new} {out} {xs} {t} {w} {f} {g} c m d = record {
  inside = c.inside;
  wide = c.wide ∙ d.wide;
  is = λ v.
      c.is v ∙ ap (λ k. cond (holds v old t) ((2 ^ k - number v old xs) % 2 ^ k) (number v old xs)) d.wide
      ∙ ap (λ b. cond b ((2 ^ w - number v old xs) % 2 ^ w) (number v old xs)) (m.is v) ∙ ap (λ n. cond (f v) ((2 ^ w - n) % 2 ^ w) n) (d.is v);
}

-- where the test is constantly false
pub unturned : {net : List NetNode} {t x y : Bit} {out : List Bit} (xs : List Bit) → t ≡ x → x ≡ opposite y → Means net y (λ v. true) → AreIn net xs → out ≡ xs
    → Counts net out (length xs) (λ v. cond (holds v net t) ((2 ^ length xs - number v net xs) % 2 ^ length xs) (number v net xs))
unturned {net} {t} {x} {y} {out} xs et ex my hx eo =
    let never = opp ex my in
    counts_by (λ v. cond (holds v net t) ((2 ^ length xs - number v net xs) % 2 ^ length xs) (number v net xs)) (counts_same eo (own_counts net xs hx))
    (λ v. sym (ap (λ b. cond b ((2 ^ length xs - number v net xs) % 2 ^ length xs) (number v net xs)) (ap (holds v net) et ∙ never.is v)))

pub exceeds_of : {old new : List NetNode} {xs : List Bit} {r t : Bit} {i w n : ℕ} {f : (ℕ → Bool) → Bool} {g : (ℕ → Bool) → ℕ} (s : Bool)
    → Means new r (λ v. s && not (nat_lt (number v old xs) (2 ^ (i - 1) + digit (holds v old t)))) → i ≡ w → Means old t f → Counts old xs n g
    → Means new r (λ v. s && not (nat_lt (g v) (2 ^ (w - 1) + digit (f v))))
exceeds_of {old} {new} {xs} {r} {t} {i} {w} {n} {f} {g} s e q m c = record {
  inside = e.inside;
  is = λ v.
      e.is v ∙ ap (λ k. s && not (nat_lt (number v old xs) (2 ^ (k - 1) + digit (holds v old t)))) q
      ∙ ap (λ k. s && not (nat_lt k (2 ^ (w - 1) + digit (holds v old t)))) (c.is v) ∙ ap (λ b. s && not (nat_lt (g v) (2 ^ (w - 1) + digit b))) (m.is v);
}

pub product_of : {old new : List NetNode} {out xs ys : List Bit} {i j : ℕ} {f g : (ℕ → Bool) → ℕ} → Counts new out (length xs + length ys) (λ v. number v old xs * number v old ys) → Counts old xs i f → Counts old ys j g → Counts new out (i + j) (λ v. f v * g v)
product_of {old} {new} {out} {xs} {ys} {i} {j} {f} {g} c a b = record {
  inside = c.inside;
  wide = c.wide ∙ ap (λ k. k + length ys) a.wide ∙ ap (λ k. i + k) b.wide;
  is = λ v. c.is v ∙ ap (λ k. k * number v old ys) (a.is v) ∙ ap (λ k. f v * k) (b.is v);
}

-- the distance of a number from 0 in a later net
pub size_later : {old mid new : List NetNode} {out : List Bit} {most i : ℕ} (xs : List Bit) (s : Bool) → Grown most old mid → AreIn old xs → length xs ≡ i → Counts new out (length xs) (λ v. size (length xs) s (number v mid xs)) → Counts new out i (λ v. size i s (number v old xs))
size_later {old} {mid} {new} {out} {most} {i} xs s g h e c = record {
  inside = c.inside;
  wide = c.wide ∙ e;
  is = λ v. c.is v ∙ ap (λ k. size k s (number v mid xs)) e ∙ ap (size i s) (number_stays v most old mid xs g h);
}
