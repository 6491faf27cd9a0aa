-- What polynomials over words tell stays true as nodes and words are added.
use Rattle.std.proofs.Common.{◌≡◌, ℕ, zero, suc, ◌+◌, ◌*◌, ◌/◌, ◌%◌, ◌^◌, ◌<◌, ◌≤◌, nat_eq, nat_lt, cond, Bool, true, false, List, [], ◌∷◌, ◌++◌, length, get_or, refl, sym, ◌∙◌, ap, arith, length-append, append-nil, append_assoc}
use Rattle.std.specs.List.{All}
use Rattle.std.proofs.lemmas.List.{map-append, get_or_append_left}
use Rattle.std.proofs.lemmas.List.Elements.{All-head, All-tail, All-weaker, All-map, All-nil, All-cons}
use Rattle.std.proofs.lemmas.List.Sums.{sum_by-cons}
use Rattle.polynomials.specs.Values.{AreBelow, AreFactorsBelow, AreTruths, Same, product_of, value}
use Rattle.polynomials.specs.declared.polynomial.Term.{Term}
use Rattle.polynomials.proofs.Sameness.{same_by, same_narrow, same_trans}
use Rattle.circuits.specs.declared.net.Bit.{Bit}
use Rattle.circuits.specs.declared.net.NetNode.{NetNode}
use Rattle.circuits.specs.declared.words.Word.{Word}
use Rattle.circuits.specs.declared.zeros.Zero.{Zero}
use Rattle.circuits.specs.declared.orders.Order.{Order}
use Rattle.circuits.specs.declared.hints.Hints.{Hints}
use Rattle.circuits.specs.Net.{holds, IsIn}
use Rattle.circuits.specs.Numbers.{digit, number, AreIn}
use Rattle.circuits.specs.Words.{lowest, unknown, bits_of, IsOver, Tells, IsWord, IsZero, IsOrder, AreWords, AreZeros, AreOrders, AreTrue, Continues}
use Rattle.circuits.proofs.Nets.{holds-append}
use Rattle.circuits.proofs.Feeding.{in_more, number_more}

-- words of bits of the net
abbrev pub AreAllIn : List NetNode → List (List Bit) → Type 0
AreAllIn net words = All (λ bits. AreIn net bits) words

-- ---- values
product_same : (f g : ℕ → ℕ) (n : ℕ) → ((x : ℕ) → x < n → f x ≡ g x) → (xs : List ℕ) → AreFactorsBelow n xs → product_of f xs ≡ product_of g xs
unfolding product_of
product_same f g n e [] h = refl
product_same f g n e (zero ∷ xs) h = omega (arith, product_same f g n e xs (All-tail (λ y. y < n) zero xs h))
product_same f g n e (suc x ∷ xs) h =
    let here : suc x < n = All-head (λ y. y < n) (suc x) xs h in
    ap (λ k. k * product_of f xs) (e (suc x) here) ∙ ap (λ k. g (suc x) * k) (product_same f g n e xs (All-tail (λ y. y < n) (suc x) xs h))

-- unknowns that are worth the same
pub value_same : (f g : ℕ → ℕ) (n : ℕ) → ((x : ℕ) → x < n → f x ≡ g x) → (ts : List Term) → AreBelow n ts → value f ts ≡ value g ts
value_same f g n e [] h = refl
value_same f g n e (t ∷ ts) h =
    sum_by-cons (λ s. s.coefficient * product_of f s.factors) t ts
    ∙ ap (λ k. t.coefficient * k + value f ts) (product_same f g n e t.factors (All-head (λ s. AreFactorsBelow n s.factors) t ts h))
    ∙ ap (λ k. t.coefficient * product_of g t.factors + k) (value_same f g n e ts (All-tail (λ s. AreFactorsBelow n s.factors) t ts h))
    ∙ sym (sum_by-cons (λ s. s.coefficient * product_of g s.factors) t ts)

below_more : (n m : ℕ) → n ≤ m → (ts : List Term) → AreBelow n ts → AreBelow m ts
below_more n m l ts h =
    All-weaker (λ t. AreFactorsBelow n t.factors) (λ t. AreFactorsBelow m t.factors)
    (λ t a. All-weaker (λ y. y < n) (λ y. y < m) (λ y b. omega arith) t.factors a) ts h

-- ---- unknowns
bit_is_small : (b : Bool) → digit b ≤ 1
bit_is_small true = omega arith
bit_is_small false = omega arith

lowest_small : (v : ℕ → Bool) (net : List NetNode) (bits : List Bit) → lowest v net bits ≤ 1
lowest_small v net [] = omega arith
lowest_small v net (b ∷ bs) = bit_is_small (holds v net b)

-- odd numbers stand for digits
pub truths : (v : ℕ → Bool) (net : List NetNode) (words : List (List Bit)) → AreTruths (unknown v net words)
unfolding unknown
truths v net words = record {
  small = λ h e. rw e (lowest_small v net (get_or ([] ∷ words) (h / 2) []));
}

lowest_later : (v : ℕ → Bool) (net more : List NetNode) (bits : List Bit) → AreIn net bits → lowest v (net ++ more) bits ≡ lowest v net bits
lowest_later v net more [] h = refl
lowest_later v net more (b ∷ bs) h = ap digit (holds-append v net more b (All-head (λ b. IsIn net b) b bs h))

word_in : (net : List NetNode) (words : List (List Bit)) (i : ℕ) → AreAllIn net words → AreIn net (get_or words i [])
word_in net [] i h = All-nil (λ b. IsIn net b)
word_in net (w ∷ ws) zero h = All-head (λ bits. AreIn net bits) w ws h
word_in net (w ∷ ws) (suc i) h = word_in net ws i (All-tail (λ bits. AreIn net bits) w ws h)

pub unknown_later : (v : ℕ → Bool) (net more : List NetNode) (words : List (List Bit)) (x : ℕ) → AreAllIn net words → unknown v (net ++ more) words x ≡ unknown v net words x
unfolding unknown
unknown_later v net more words x h =
    let word : List Bit = get_or ([] ∷ words) (x / 2) [] in
    let inside : AreIn net word = word_in net ([] ∷ words) (x / 2) (All-cons (λ bits. AreIn net bits) [] words (All-nil (λ b. IsIn net b)) h) in
    ap (λ k. cond (nat_eq (x % 2) 1) k (number v (net ++ more) word)) (lowest_later v net more word inside)
    ∙ ap (λ k. cond (nat_eq (x % 2) 1) (lowest v net word) k) (number_more v net more word inside)

pub unknown_more : (v : ℕ → Bool) (net : List NetNode) (words more : List (List Bit)) (x : ℕ) → x < 2 * length words + 2 → unknown v net (words ++ more) x ≡ unknown v net words x
unfolding unknown
unknown_more v net words more x h =
    ap (λ word. cond (nat_eq (x % 2) 1) (lowest v net word) (number v net word)) (get_or_append_left ([] ∷ words) more [] (x / 2) (omega arith))

pub value_later : (v : ℕ → Bool) (net more : List NetNode) (words : List (List Bit)) (p : List Term) → AreAllIn net words → IsOver words p → value (unknown v (net ++ more) words) p ≡ value (unknown v net words) p
value_later v net more words p h o =
    value_same (unknown v (net ++ more) words) (unknown v net words) (2 * length words + 2) (λ x _. unknown_later v net more words x h) p o

pub value_more : (v : ℕ → Bool) (net : List NetNode) (words more : List (List Bit)) (p : List Term) → IsOver words p → value (unknown v net (words ++ more)) p ≡ value (unknown v net words) p
value_more v net words more p o =
    value_same (unknown v net (words ++ more)) (unknown v net words) (2 * length words + 2) (λ x l. unknown_more v net words more x l) p o

pub over_more : (words more : List (List Bit)) (p : List Term) → IsOver words p → IsOver (words ++ more) p
over_more words more p o = below_more (2 * length words + 2) (2 * length (words ++ more) + 2) (omega (arith, length-append words more)) p o

-- ---- what polynomials tell
-- the same, of an equal number
pub tells_by : {net : List NetNode} {ws : List (List Bit)} {w : ℕ} {p : List Term} {f : (ℕ → Bool) → ℕ} (g : (ℕ → Bool) → ℕ)
    → Tells net ws w p f → ((v : ℕ → Bool) → Same w (f v) (g v)) → Tells net ws w p g
tells_by {net} {ws} {w} {p} {f} g t e = record { over = t.over; is = λ v. same_trans (t.is v) (e v) }

-- fewer digits
pub tells_narrower : {net : List NetNode} {ws : List (List Bit)} {p : List Term} {f : (ℕ → Bool) → ℕ} (w : ℕ) → w ≤ 64 → Tells net ws 64 p f → Tells net ws w p f
tells_narrower {net} {ws} {p} {f} w l t = record { over = t.over; is = λ v. same_narrow l (t.is v) }

-- with more words
pub tells_more : {net : List NetNode} {ws : List (List Bit)} {w : ℕ} {p : List Term} {f : (ℕ → Bool) → ℕ} (more : List (List Bit))
    → Tells net ws w p f → Tells net (ws ++ more) w p f
tells_more {net} {ws} {w} {p} {f} more t = record {
  over = over_more ws more p t.over;
  is = λ v. same_trans (same_by (value_more v net ws more p t.over)) (t.is v);
}

-- with more nodes
pub tells_later : {net : List NetNode} {ws : List (List Bit)} {w : ℕ} {p : List Term} {f : (ℕ → Bool) → ℕ} (more : List NetNode)
    → AreAllIn net ws → Tells net ws w p f → Tells (net ++ more) ws w p f
tells_later {net} {ws} {w} {p} {f} more h t = record {
  over = t.over;
  is = λ v. same_trans (same_by (value_later v net more ws p h t.over)) (t.is v);
}

-- ---- words
pub words_in : {net : List NetNode} (words : List Word) → AreWords net words → AreAllIn net (bits_of words)
words_in {net} words h =
    All-map (λ bits. AreIn net bits) (λ w. w.bits.items) words
    (All-weaker (λ w. IsWord net (bits_of words) w) (λ w. AreIn net w.bits.items) (λ w i. i.inside) words h)

pub word_later : {net : List NetNode} {ws : List (List Bit)} {w : Word} (more : List NetNode) → AreAllIn net ws → IsWord net ws w → IsWord (net ++ more) ws w
word_later {net} {ws} {w} more h i = record {
  inside = in_more net more w.bits.items i.inside;
  wide = i.wide;
  tells = tells_by (λ v. number v (net ++ more) w.bits.items) (tells_later more h i.tells) (λ v. same_by (sym (number_more v net more w.bits.items i.inside)));
}

pub word_more : {net : List NetNode} {ws : List (List Bit)} {w : Word} (more : List (List Bit)) → IsWord net ws w → IsWord net (ws ++ more) w
word_more {net} {ws} {w} more i = record { inside = i.inside; wide = i.wide; tells = tells_more more i.tells }

pub words_later : {net : List NetNode} (words : List Word) (more : List NetNode) → AreWords net words → AreWords (net ++ more) words
words_later {net} words more h =
    All-weaker (λ w. IsWord net (bits_of words) w) (λ w. IsWord (net ++ more) (bits_of words) w) (λ w i. word_later more (words_in words h) i) words h

pub bits_of-append : (a b : List Word) → bits_of (a ++ b) ≡ bits_of a ++ bits_of b
bits_of-append a b = map-append (λ w. w.bits.items) a b

-- ---- zeros
pub zero_later : {net : List NetNode} {ws : List (List Bit)} {z : Zero} (more : List NetNode) → AreAllIn net ws → IsZero net ws z → IsZero (net ++ more) ws z
zero_later {net} {ws} {z} more h i = record {
  inside = omega (arith, i.inside, length-append net more);
  over = i.over;
  is = λ v. ap (λ k. nat_eq (k % 2 ^ z.width) 0) (value_later v net more ws z.polynomial h i.over) ∙ i.is v ∙ sym (holds-append v net more z.bit i.inside);
}

pub zero_more : {net : List NetNode} {ws : List (List Bit)} {z : Zero} (more : List (List Bit)) → IsZero net ws z → IsZero net (ws ++ more) z
zero_more {net} {ws} {z} more i = record {
  inside = i.inside;
  over = over_more ws more z.polynomial i.over;
  is = λ v. ap (λ k. nat_eq (k % 2 ^ z.width) 0) (value_more v net ws more z.polynomial i.over) ∙ i.is v;
}

pub zeros_later : {net : List NetNode} {ws : List (List Bit)} (zeros : List Zero) (more : List NetNode) → AreAllIn net ws → AreZeros net ws zeros → AreZeros (net ++ more) ws zeros
zeros_later {net} {ws} zeros more h a = All-weaker (λ z. IsZero net ws z) (λ z. IsZero (net ++ more) ws z) (λ z i. zero_later more h i) zeros a

pub zeros_more : {net : List NetNode} {ws : List (List Bit)} (zeros : List Zero) (more : List (List Bit)) → AreZeros net ws zeros → AreZeros net (ws ++ more) zeros
zeros_more {net} {ws} zeros more a = All-weaker (λ z. IsZero net ws z) (λ z. IsZero net (ws ++ more) z) (λ z i. zero_more more i) zeros a

-- ---- orders
pub order_later : {net : List NetNode} {ws : List (List Bit)} {o : Order} (more : List NetNode) → AreAllIn net ws → IsOrder net ws o → IsOrder (net ++ more) ws o
order_later {net} {ws} {o} more h i = record {
  inside = omega (arith, i.inside, length-append net more);
  lesser_over = i.lesser_over;
  greater_over = i.greater_over;
  is = λ v.
      ap (λ k. nat_lt (k % 2 ^ o.width) (value (unknown v (net ++ more) ws) o.greater % 2 ^ o.width)) (value_later v net more ws o.lesser h i.lesser_over)
      ∙ ap (λ k. nat_lt (value (unknown v net ws) o.lesser % 2 ^ o.width) (k % 2 ^ o.width)) (value_later v net more ws o.greater h i.greater_over)
      ∙ i.is v
      ∙ sym (holds-append v net more o.bit i.inside);
}

pub order_more : {net : List NetNode} {ws : List (List Bit)} {o : Order} (more : List (List Bit)) → IsOrder net ws o → IsOrder net (ws ++ more) o
order_more {net} {ws} {o} more i = record {
  inside = i.inside;
  lesser_over = over_more ws more o.lesser i.lesser_over;
  greater_over = over_more ws more o.greater i.greater_over;
  is = λ v.
      ap (λ k. nat_lt (k % 2 ^ o.width) (value (unknown v net (ws ++ more)) o.greater % 2 ^ o.width)) (value_more v net ws more o.lesser i.lesser_over)
      ∙ ap (λ k. nat_lt (value (unknown v net ws) o.lesser % 2 ^ o.width) (k % 2 ^ o.width)) (value_more v net ws more o.greater i.greater_over)
      ∙ i.is v;
}

pub orders_later : {net : List NetNode} {ws : List (List Bit)} (orders : List Order) (more : List NetNode) → AreAllIn net ws → AreOrders net ws orders → AreOrders (net ++ more) ws orders
orders_later {net} {ws} orders more h a = All-weaker (λ o. IsOrder net ws o) (λ o. IsOrder (net ++ more) ws o) (λ o i. order_later more h i) orders a

pub orders_more : {net : List NetNode} {ws : List (List Bit)} (orders : List Order) (more : List (List Bit)) → AreOrders net ws orders → AreOrders net (ws ++ more) orders
orders_more {net} {ws} orders more a = All-weaker (λ o. IsOrder net ws o) (λ o. IsOrder net (ws ++ more) o) (λ o i. order_more more i) orders a

-- ---- all hints
pub true_later : {net : List NetNode} {h : Hints} (more : List NetNode) → AreTrue net h → AreTrue (net ++ more) h
true_later {net} {h} more t = record {
  words = words_later h.words.list.items more t.words;
  zeros = zeros_later h.zeros.list.items more (words_in h.words.list.items t.words) t.zeros;
  orders = orders_later h.orders.list.items more (words_in h.words.list.items t.words) t.orders;
}

-- ---- words behind those of before
pub continues_not : (words : List Word) → Continues words words
continues_not words = record { more = []; is = sym (append-nil words) }

pub continues_then : {a b c : List Word} → Continues a b → Continues b c → Continues a c
continues_then {a} {b} {c} p q = record { more = p.more ++ q.more; is = q.is ∙ ap (λ l. l ++ q.more) p.is ∙ append_assoc a p.more q.more }

pub bits_continue : {old new : List Word} (c : Continues old new) → bits_of new ≡ bits_of old ++ bits_of c.more
bits_continue {old} {new} c = ap bits_of c.is ∙ bits_of-append old c.more

pub tells_after : {net : List NetNode} {old new : List Word} {w : ℕ} {p : List Term} {f : (ℕ → Bool) → ℕ} → Continues old new
    → Tells net (bits_of old) w p f → Tells net (bits_of new) w p f
tells_after {net} {old} {new} {w} {p} {f} c t = rw (bits_continue c) (tells_more (bits_of c.more) t)

pub zeros_after : {net : List NetNode} {old new : List Word} (zeros : List Zero) → Continues old new → AreZeros net (bits_of old) zeros → AreZeros net (bits_of new) zeros
zeros_after {net} {old} {new} zeros c a = rw (bits_continue c) (zeros_more zeros (bits_of c.more) a)

pub orders_after : {net : List NetNode} {old new : List Word} (orders : List Order) → Continues old new → AreOrders net (bits_of old) orders → AreOrders net (bits_of new) orders
orders_after {net} {old} {new} orders c a = rw (bits_continue c) (orders_more orders (bits_of c.more) a)
