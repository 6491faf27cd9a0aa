-- The circuits of marks.
use Rattle.std.proofs.Common.{◌≡◌, ℕ, suc, ◌+◌, ◌-◌, ◌*◌, ◌/◌, ◌<◌, ◌≤◌, Bool, true, false, cond, not, ◌&&◌, nat_eq, List, [], ◌∷◌, ◌++◌, length, get_or, take, drop, map, refl, sym, ◌∙◌, ap, ap₂, subst, arith, length-append, append_assoc}
use Rattle.std.proofs.lemmas.Bool.{ne_eqb}
use Rattle.std.proofs.lemmas.List.{map-append, take-map, take_more, take_all, length-take-le}
use Rattle.std.proofs.lemmas.List.Elements.{All-append, All-cons, All-nil, All-head, All-tail, All-take, All-get_or}
use Rattle.circuits.specs.declared.net.Bit.{Bit}
use Rattle.circuits.specs.declared.net.NetNode.{NetNode}
use Rattle.circuits.specs.Net.{holds, IsIn, Grown, Means, opposite}
use Rattle.circuits.specs.Numbers.{number, digit, AreIn}
use Rattle.circuits.proofs.Nets.{grown_not, grown_then, longer, stays, kept, opp, own, and_of}
use Rattle.circuits.proofs.Counting.{are_in_later}
use Rattle.sym_state.specs.Standing.{marks, Added}
use Rattle.sym_state.proofs.Nets.{added_of, holds_added}
use Rattle.sym_elements.specs.Marks.{AreMarks, pairs, AreDoubled, IsDecoded, none_true, IsNone}
use Rattle.sym_elements.proofs.Marking.{marks_more, next, pairs_marks, pairs_snoc, none_snoc}

-- bits keep their values
pub bools_added : {i j : ℕ} {old new : List NetNode} (v : ℕ → Bool) (bs : List Bit) → Added i j old new → AreIn old bs → map (holds v new) bs ≡ map (holds v old) bs
bools_added v [] g h = refl
bools_added {old = old} v (b ∷ bs) g h = ap₂ (λ x y. x ∷ y) (holds_added g v b (All-head (λ b. IsIn old b) b bs h)) (bools_added v bs g (All-tail (λ b. IsIn old b) b bs h))

pub all_stay : {k : ℕ} {old new : List NetNode} (v : ℕ → Bool) (bs : List Bit) → Grown k old new → AreIn old bs → map (holds v new) bs ≡ map (holds v old) bs
all_stay v bs g h = bools_added v bs (added_of g) h

one_more : (net : List NetNode) (out : List Bit) (b : Bit) → AreIn net out → IsIn net b → AreIn net (out ++ b ∷ [])
one_more net out b h i = All-append (λ b. IsIn net b) out (b ∷ []) h (All-cons (λ b. IsIn net b) b [] i (All-nil (λ b. IsIn net b)))

pub in_later : {k : ℕ} {old new : List NetNode} (b : Bit) → Grown k old new → IsIn old b → IsIn new b
in_later {k} {old} {new} b g h = omega (arith, h, (longer k old new g).0)

pub at_in : (net : List NetNode) (bs : List Bit) (i : ℕ) (d : Bit) → AreIn net bs → i < length bs → IsIn net (get_or bs i d)
at_in net bs i d h lt = All-get_or (λ b. IsIn net b) bs i d lt h

-- ---- marks of the number 0
first_mark : (b : Bool) → (b ∷ []) ≡ marks (cond b 1 0) 1
first_mark true = refl
first_mark false = refl

pub zero_first : {net : List NetNode} {b : Bit} → IsIn net b → AreMarks net (b ∷ []) 1 (λ v. cond (holds v net b) 1 0)
zero_first {net} {b} h = record { inside = one_more net [] b (All-nil (λ b. IsIn net b)) h; wide = refl; is = λ v. first_mark (holds v net b) }

none_beyond : (b : Bool) (i : ℕ) → 0 < i → nat_eq (cond b 1 0) (suc i) ≡ false
none_beyond true i h = ne_eqb 1 (suc i) (λ e. omega (arith, e, h))
none_beyond false i h = ne_eqb 0 (suc i) (λ e. omega (arith, e))

pub zero_next : {net : List NetNode} {out : List Bit} {never : Bit} {i : ℕ} (here : Bit) → AreMarks net out i (λ v. cond (holds v net here) 1 0) → Means net never (λ v. false) → 0 < i
    → AreMarks net (out ++ never ∷ []) (i + 1) (λ v. cond (holds v net here) 1 0)
zero_next {net} {out} {never} {i} here a m h = record {
  inside = one_more net out never a.inside m.inside;
  wide = omega (arith, a.wide, length-append out (never ∷ []));
  is = λ v.
      map-append (holds v net) out (never ∷ []) ∙ ap₂ (λ x y. x ++ y ∷ []) (a.is v) (m.is v ∙ sym (none_beyond (holds v net here) i h)) ∙ sym (marks_more (cond (holds v net here) 1 0) i)
      ∙ ap (marks (cond (holds v net here) 1 0)) (let e : suc i ≡ i + 1 = omega arith in e);
}

-- ---- of marks those of twice the number and a digit
pub doubled_none : {net : List NetNode} {out : List Bit} (digit : Bit) → out ≡ [] → AreDoubled net net [] digit out
doubled_none {net} {out} digit e = rw e (record { grown = grown_not 0 net; inside = All-nil (λ b. IsIn net b); wide = refl; is = λ v. refl })

pub doubled_next : {old mid half new : List NetNode} {out now : List Bit} {x z even odd digit : Bit} {i : ℕ} (xs : List Bit) (d : Bit) → AreDoubled old mid (take i xs) digit out
    → AreIn old xs → IsIn old digit → i < length xs → x ≡ get_or xs i d → z ≡ opposite digit
    → Grown 1 mid half → Means half even (λ v. holds v mid x && holds v mid z) → Grown 1 half new → Means new odd (λ v. holds v half x && holds v half digit)
    → now ≡ (out ++ even ∷ []) ++ odd ∷ [] → AreDoubled old new (take (i + 1) xs) digit now
doubled_next {old} {mid} {half} {new} {out} {now} {x} {z} {even} {odd} {digit} {i} xs d a hx hd lt ex ez g m k n e =
    let b = get_or xs i d in
    let count : length (take i xs) ≡ i = length-take-le i xs (omega (arith, lt)) in
    let counted : length (take (i + 1) xs) ≡ i + 1 = length-take-le (i + 1) xs (omega (arith, lt)) in
    let b_in : IsIn old b = All-get_or (λ b. IsIn old b) xs i d lt hx in
    let to_half = grown_then _ _ (2 * length (take i xs) + 1) _ _ _ a.grown g (omega arith) in
    let two = grown_then _ _ 2 _ _ _ g k (omega arith) in
    let low : Means new even (λ v. holds v old b && not (holds v old digit)) =
    kept k (and_of m (rw ex (kept a.grown (own old b b_in))) (opp ez (kept a.grown (own old digit hd)))) in
    let high : Means new odd (λ v. holds v old b && holds v old digit) =
    and_of n (rw ex (kept to_half (own old b b_in))) (kept to_half (own old digit hd)) in
    rw e (record {
      grown = grown_then _ _ (2 * length (take (i + 1) xs)) _ _ _ a.grown two (omega (arith, count, counted));
      inside = one_more new (out ++ even ∷ []) odd (one_more new out even (are_in_later 2 mid new out two a.inside) low.inside) high.inside;
      wide = omega (arith, a.wide, count, counted, length-append (out ++ even ∷ []) (odd ∷ []), length-append out (even ∷ []));
      is = λ v.
          map-append (holds v new) (out ++ even ∷ []) (odd ∷ []) ∙ ap (λ l. l ++ holds v new odd ∷ []) (map-append (holds v new) out (even ∷ []))
          ∙ ap (λ l. (l ++ holds v new even ∷ []) ++ holds v new odd ∷ []) (all_stay v out two a.inside ∙ a.is v)
          ∙ append_assoc (pairs (holds v old digit) (map (holds v old) (take i xs))) (holds v new even ∷ []) (holds v new odd ∷ [])
          ∙ ap₂ (λ p q. pairs (holds v old digit) (map (holds v old) (take i xs)) ++ p ∷ q ∷ []) (low.is v) (high.is v)
          ∙ sym (pairs_snoc (holds v old digit) (map (holds v old) (take i xs)) (holds v old b))
          ∙ ap (pairs (holds v old digit)) (sym (map-append (holds v old) (take i xs) (b ∷ [])) ∙ ap (map (holds v old)) (sym (take_more xs i d lt)));
    })

pub doubled_end : {old new : List NetNode} {out : List Bit} {digit : Bit} {i : ℕ} (xs : List Bit) → AreDoubled old new (take i xs) digit out → i ≡ length xs → AreDoubled old new xs digit out
doubled_end {old} {new} {out} {digit} {i} xs a e = subst (λ l. AreDoubled old new l digit out) (take_all i xs (omega (arith, e))) a

-- ---- marks of the digits' number
-- the digits behind the first
pub split_first : (ds : List Bit) (d : Bit) → 0 < length ds → ds ≡ get_or ds 0 d ∷ take (length ds - 1) (drop 1 ds)
split_first [] d h = absurd (omega (arith, h))
split_first (x ∷ xs) d h = ap (λ z. x ∷ z) (sym (take_all (length (x ∷ xs) - 1) xs (omega arith)))

pub rest_in : (net : List NetNode) (ds : List Bit) (d : Bit) → 0 < length ds → AreIn net ds → AreIn net (take (length ds - 1) (drop 1 ds))
rest_in net ds d h i = All-tail (λ b. IsIn net b) (get_or ds 0 d) (take (length ds - 1) (drop 1 ds)) (subst (AreIn net) (split_first ds d h) i)

pub decoded_none : {net : List NetNode} {here : Bit} {digits out : List Bit} (n : ℕ) → digits ≡ [] → AreMarks net out n (λ v. cond (holds v net here) 1 0) → IsDecoded net net here digits n out
unfolding number
decoded_none {net} {here} {digits} {out} n e m = rw e (record { grown = grown_not (2 * (n + 0)) net; marks_of = m })

next_of : (b d : Bool) (m : ℕ) → next d (cond b (suc m) 0) ≡ cond b (suc (digit d + 2 * m)) 0
next_of true d m = refl
next_of false d m = refl

pub decoded_next : {old mid new : List NetNode} {here x : Bit} {above below out : List Bit} {digits rest : List Bit} (n : ℕ) → IsIn old here → AreIn old digits → digits ≡ x ∷ rest → IsDecoded old mid here rest (n - n / 2) above
    → AreDoubled mid new above x below → out ≡ take n below → IsDecoded old new here digits n out
unfolding number
decoded_next {old} {mid} {new} {here} {x} {above} {below} {out} {digits} {rest} n hh hd e a b t =
    let half = n - n / 2 in
    let enough : n ≤ 2 * half = omega arith in
    let few : 2 * half ≤ n + 1 = omega arith in
    let x_in : IsIn old x = All-head (λ b. IsIn old b) x rest (subst (AreIn old) e hd) in
    rw (e, t) (record {
      grown = grown_then _ _ (2 * (n + length (x ∷ rest))) _ _ _ a.grown b.grown (omega (arith, a.marks_of.wide, few));
      marks_of = record {
        inside = All-take (λ b. IsIn new b) n below b.inside;
        wide = length-take-le n below (omega (arith, b.wide, a.marks_of.wide, enough));
        is = λ v.
            sym (take-map (holds v new) n below) ∙ ap (take n) (b.is v)
            ∙ ap₂ (λ d l. take n (pairs d l)) (stays v _ old mid x a.grown x_in) (a.marks_of.is v)
            ∙ pairs_marks (holds v old x) (cond (holds v old here) (suc (number v old rest)) 0) n half enough
            ∙ ap (λ k. marks k n) (next_of (holds v old here) (holds v old x) (number v old rest));
      };
    })

-- ---- is none of them true
pub none_begins : {net : List NetNode} {b : Bit} → Means net b (λ v. true) → IsNone net net [] b
none_begins {net} {b} m = record { grown = grown_not 0 net; means = m }

pub none_next : {old mid new : List NetNode} {none y z : Bit} {b : Bit} {i : ℕ} (xs : List Bit) (d : Bit) → IsNone old mid (take i xs) none → AreIn old xs → i < length xs → y ≡ get_or xs i d → z ≡ opposite y
    → Grown 1 mid new → Means new b (λ v. holds v mid none && holds v mid z) → IsNone old new (take (i + 1) xs) b
none_next {old} {mid} {new} {none} {y} {z} {b} {i} xs d a hx lt ey ez g m =
    let x = get_or xs i d in
    let x_in : IsIn old x = All-get_or (λ b. IsIn old b) xs i d lt hx in
    let both : Means new b (λ v. none_true (map (holds v old) (take i xs)) && not (holds v old x)) = and_of m a.means (opp ez (rw ey (kept a.grown (own old x x_in)))) in
    record {
      grown = grown_then _ _ (length (take (i + 1) xs)) _ _ _ a.grown g (omega (arith, length-take-le i xs (omega (arith, lt)), length-take-le (i + 1) xs (omega (arith, lt))));
      means = record {
        inside = both.inside;
        is = λ v.
            both.is v ∙ sym (none_snoc (map (holds v old) (take i xs)) (holds v old x))
            ∙ ap none_true (sym (map-append (holds v old) (take i xs) (x ∷ [])) ∙ ap (map (holds v old)) (sym (take_more xs i d lt)));
      };
    }

pub none_ends : {old new : List NetNode} {b : Bit} {i : ℕ} (xs : List Bit) → IsNone old new (take i xs) b → i ≡ length xs → IsNone old new xs b
none_ends {old} {new} {b} {i} xs a e = subst (λ l. IsNone old new l b) (take_all i xs (omega (arith, e))) a
