use Rattle.std.proofs.Common.{◌≡◌, ℕ, ◌+◌, ◌<◌, ◌≤◌, Bool, true, false, not, ◌&&◌, List, [], ◌∷◌, ◌++◌, length, get_or, take, refl, sym, ◌∙◌, ap, subst, arith, append_assoc, append-nil, length-append, zero-add, inl, inr}
use Rattle.std.proofs.lemmas.List.{take_more, take_all}
use Rattle.std.proofs.Math.ListN.{get_or-append}
use Rattle.std.proofs.Math.Seq.{get_or-append_seam}
use Rattle.circuits.specs.declared.net.Bit.{Bit}
use Rattle.circuits.specs.declared.net.NetNode.{NetNode}
use Rattle.circuits.specs.declared.net.NetNode.TheVariants.{Constant, Input, And}
use Rattle.circuits.specs.Net.{xor, bit_in, node_in, values_from, holds, opposite, count_ands, count_inputs, Grown, Means, IsFine, AreFine, IsNet, Folds, IsIn}

pub values_from-append : (v : ℕ → Bool) (vs : List Bool) (xs ys : List NetNode) → values_from v vs (xs ++ ys) ≡ values_from v (values_from v vs xs) ys
unfolding values_from
values_from-append v vs [] ys = refl
values_from-append v vs (x ∷ xs) ys = values_from-append v (vs ++ node_in v vs x ∷ []) xs ys

pub length-values_from : (v : ℕ → Bool) (vs : List Bool) (xs : List NetNode) → length (values_from v vs xs) ≡ length vs + length xs
unfolding values_from
length-values_from v vs [] = omega arith
length-values_from v vs (x ∷ xs) = omega (arith, length-values_from v (vs ++ node_in v vs x ∷ []) xs, length-append vs (node_in v vs x ∷ []))

pub values_from-keep : (v : ℕ → Bool) (vs : List Bool) (xs : List NetNode) (k : ℕ) → k < length vs → get_or (values_from v vs xs) k false ≡ get_or vs k false
unfolding values_from
values_from-keep v vs [] k h = refl
values_from-keep v vs (x ∷ xs) k h =
    values_from-keep v (vs ++ node_in v vs x ∷ []) xs k (omega (arith, length-append vs (node_in v vs x ∷ [])))
    ∙ get_or-append vs (node_in v vs x ∷ []) false k h

pub holds-append : (v : ℕ → Bool) (net more : List NetNode) (b : Bit) → b.node < length net → holds v (net ++ more) b ≡ holds v net b
unfolding holds
holds-append v net more b h =
    ap (xor b.negated) (ap (λ l. get_or l b.node false) (values_from-append v [] net more) ∙ values_from-keep v (values_from v [] net) more b.node (omega (arith, length-values_from v [] net)))

pub stays : (v : ℕ → Bool) (most : ℕ) (old new : List NetNode) (b : Bit) → Grown most old new → b.node < length old → holds v new b ≡ holds v old b
stays v most old new b g h = rw g.is (holds-append v old g.more b h)

pub count_ands-append : (xs ys : List NetNode) → count_ands (xs ++ ys) ≡ count_ands xs + count_ands ys
unfolding count_ands
count_ands-append [] ys = omega arith
count_ands-append (Constant c ∷ xs) ys = count_ands-append xs ys
count_ands-append (Input k ∷ xs) ys = count_ands-append xs ys
count_ands-append (And a b ∷ xs) ys = omega (arith, count_ands-append xs ys)

pub inputs-append : (xs ys : List NetNode) → count_inputs (xs ++ ys) ≡ count_inputs xs + count_inputs ys
unfolding count_inputs
inputs-append [] ys = omega arith
inputs-append (Constant c ∷ xs) ys = inputs-append xs ys
inputs-append (Input k ∷ xs) ys = omega (arith, inputs-append xs ys)
inputs-append (And a b ∷ xs) ys = inputs-append xs ys

pub grown_not : (most : ℕ) (net : List NetNode) → Grown most net net
unfolding count_ands
grown_not most net = record { more = []; is = sym (append-nil net); gates = refl; few = omega arith }

pub grown_same : {most : ℕ} {old new : List NetNode} → new ≡ old → Grown most old new
grown_same {most} {old} {new} e = rw e (grown_not most old)

-- from a net by another name, and to one
pub grown_from : {most : ℕ} {old mid new : List NetNode} → mid ≡ old → Grown most mid new → Grown most old new
grown_from {most} {old} {mid} {new} e g = rw (← e) g

pub grown_until : {most : ℕ} {old new last : List NetNode} → last ≡ new → Grown most old new → Grown most old last
grown_until {most} {old} {new} {last} e g = rw e g

pub grown_then : (j k n : ℕ) (a b c : List NetNode) → Grown j a b → Grown k b c → j + k ≤ n → Grown n a c
grown_then j k n a b c p q h = record {
  more = p.more ++ q.more;
  is = q.is ∙ ap (λ l. l ++ q.more) p.is ∙ append_assoc a p.more q.more;
  gates = omega (arith, count_ands-append p.more q.more, length-append p.more q.more, p.gates, q.gates);
  few = omega (arith, length-append p.more q.more, p.few, q.few);
}

pub in_later : {most : ℕ} {old new : List NetNode} (b : Bit) → Grown most old new → IsIn old b → IsIn new b
in_later {most} {old} {new} b g h = omega (arith, h, ap length g.is, length-append old g.more)

pub wider : {j n : ℕ} {a b : List NetNode} → Grown j a b → j ≤ n → Grown n a b
wider {j} {n} {a} {b} g h = record { more = g.more; is = g.is; gates = g.gates; few = omega (arith, g.few) }

pub longer : (most : ℕ) (old new : List NetNode) → Grown most old new → (length old ≤ length new) × (length new ≤ length old + most)
longer most old new g = (omega (arith, ap length g.is, length-append old g.more), omega (arith, ap length g.is, length-append old g.more, g.few))

pub values_from-one : (v : ℕ → Bool) (net : List NetNode) (n : NetNode) → values_from v [] (net ++ n ∷ []) ≡ values_from v [] net ++ node_in v (values_from v [] net) n ∷ []
unfolding values_from
values_from-one v net n = values_from-append v [] net (n ∷ [])

pub holds-pushed : (v : ℕ → Bool) (net : List NetNode) (n : NetNode) (k : ℕ) → k ≡ length net → holds v (net ++ n ∷ []) (record { node = k; negated = false }) ≡ node_in v (values_from v [] net) n
unfolding holds
holds-pushed v net n k h =
    ap (λ l. get_or l k false) (values_from-one v net n)
    ∙ ap (λ i. get_or (values_from v [] net ++ node_in v (values_from v [] net) n ∷ []) i false) (omega (arith, h, length-values_from v [] net))
    ∙ get_or-append_seam (values_from v [] net) (node_in v (values_from v [] net) n) [] false

pub holds-opposite : (v : ℕ → Bool) (net : List NetNode) (b : Bit) → holds v net (opposite b) ≡ not (holds v net b)
unfolding holds
holds-opposite v net b = elim b.negated as (λ n. xor (not n) (get_or (values_from v [] net) b.node false) ≡ not (xor n (get_or (values_from v [] net) b.node false))) [
  | true ↦ elim (get_or (values_from v [] net) b.node false) as (λ w. w ≡ not (not w)) [ true ↦ refl | false ↦ refl ]
  | false ↦ refl
]

pub AreFine-append : (at before : ℕ) (xs : List NetNode) (n : NetNode) → AreFine at before xs → IsFine (length xs + at) (count_inputs xs + before) n → AreFine at before (xs ++ n ∷ [])
unfolding AreFine count_inputs
AreFine-append at before [] n h f = (subst (λ (k : ℕ). IsFine k before n) (zero-add at) (subst (λ (k : ℕ). IsFine (0 + at) k n) (zero-add before) f), tt)
AreFine-append at before (x ∷ xs) n h f = (
  h.0,
  AreFine-append (at + 1) (count_inputs (x ∷ []) + before) xs n h.1
      (subst (λ (k : ℕ). IsFine k (count_inputs xs + (count_inputs (x ∷ []) + before)) n) (omega arith)
      (subst (λ (k : ℕ). IsFine (length (x ∷ xs) + at) k n) (omega (arith, inputs-append (x ∷ []) xs)) f)),
)

pub IsNet-push : (net : List NetNode) (n : NetNode) → IsNet net → IsFine (length net) (count_inputs net) n → IsNet (net ++ n ∷ [])
unfolding count_inputs
IsNet-push net n h f = (
  h.0 ++ n ∷ [],
  ap (λ l. l ++ n ∷ []) h.1,
  AreFine-append 1 0 h.0 n h.2
      (subst (λ (k : ℕ). IsFine k (count_inputs h.0 + 0) n) (omega (arith, ap length h.1))
      (subst (λ (k : ℕ). IsFine (length net) k n) (omega (arith, ap count_inputs h.1)) f)),
)

-- node 0 is true
pub first_true : (v : ℕ → Bool) (net : List NetNode) → IsNet net → get_or (values_from v [] net) 0 false ≡ true
unfolding values_from
first_true v net h = rw h.1 (values_from-keep v (true ∷ []) h.0 0 (omega arith))

pub means_by : (net : List NetNode) (b : Bit) (f g : (ℕ → Bool) → Bool) → Means net b f → ((v : ℕ → Bool) → f v ≡ g v) → Means net b g
means_by net b f g m e = record { inside = m.inside; is = λ v. m.is v ∙ e v }

pub means_here : (net : List NetNode) (a b r : Bit) → IsNet net → IsIn net a → IsIn net b → Folds a b r → Means net r (λ v. holds v net a && holds v net b)
unfolding holds
means_here net a b r h ia ib f = record {
  inside = elim f.from as (λ _. r.node < length net) [
    | inl e ↦ omega (arith, ap length h.1, e)
    | inr o ↦ elim o as (λ _. r.node < length net) [ inl e ↦ omega arith | inr e ↦ omega arith ]
  ];
  is = λ v. f.is (values_from v [] net) (first_true v net h);
}

pub means_pushed : (net : List NetNode) (a b : Bit) (k : ℕ) → k ≡ length net → Means (net ++ And a b ∷ []) (record { node = k; negated = false }) (λ v. holds v net a && holds v net b)
unfolding holds
means_pushed net a b k h = record { inside = omega (arith, length-append net (And a b ∷ [])); is = λ v. holds-pushed v net (And a b) k h }

pub means_input : (net : List NetNode) (j k : ℕ) → k ≡ length net → Means (net ++ Input j ∷ []) (record { node = k; negated = false }) (λ v. v j)
means_input net j k h = record { inside = omega (arith, length-append net (Input j ∷ [])); is = λ v. holds-pushed v net (Input j) k h }

pub means_yes : (net : List NetNode) → IsNet net → Means net (record { node = 0; negated = false }) (λ v. true)
unfolding holds
means_yes net h = record { inside = omega (arith, ap length h.1); is = λ v. first_true v net h }

-- a later net
pub later : (most : ℕ) (old new : List NetNode) (b : Bit) (f : (ℕ → Bool) → Bool) → Grown most old new → Means old b f → Means new b f
later most old new b f g m = record { inside = omega (arith, m.inside, (longer most old new g).0); is = λ v. stays v most old new b g m.inside ∙ m.is v }

-- ---- how a caller composes: facts about bits, carried along
pub own : (net : List NetNode) (b : Bit) → IsIn net b → Means net b (λ v. holds v net b)
own net b h = record { inside = h; is = λ v. refl }

pub kept : {most : ℕ} {old new : List NetNode} {b : Bit} {f : (ℕ → Bool) → Bool} → Grown most old new → Means old b f → Means new b f
kept {most} {old} {new} {b} {f} g m = later most old new b f g m

pub opp : {net : List NetNode} {b x : Bit} {f : (ℕ → Bool) → Bool} → x ≡ opposite b → Means net b f → Means net x (λ v. not (f v))
opp {net} {b} {x} {f} e m = rw e (record { inside = m.inside; is = λ v. holds-opposite v net b ∙ ap not (m.is v) })

pub and_of : {old new : List NetNode} {r a b : Bit} {f g : (ℕ → Bool) → Bool} → Means new r (λ v. holds v old a && holds v old b) → Means old a f → Means old b g → Means new r (λ v. f v && g v)
and_of {old} {new} {r} {a} {b} {f} {g} m p q = record { inside = m.inside; is = λ v. m.is v ∙ ap (λ x. x && holds v old b) (p.is v) ∙ ap (λ y. f v && y) (q.is v) }

pub three : {a b c d : List NetNode} {i j k : ℕ} (n : ℕ) → Grown i a b → Grown j b c → Grown k c d → i + j + k ≤ n → Grown n a d
three {a} {b} {c} {d} {i} {j} {k} n p q r h = grown_then (i + j) k n a c d (grown_then i j (i + j) a b c p q (omega arith)) r h

-- the counts
pub inputs_few : (net : List NetNode) → count_inputs net ≤ length net
unfolding count_inputs
inputs_few [] = omega arith
inputs_few (Constant c ∷ ns) = omega (arith, inputs_few ns)
inputs_few (Input k ∷ ns) = omega (arith, inputs_few ns)
inputs_few (And a b ∷ ns) = omega (arith, inputs_few ns)

counted_from : (at before : ℕ) (ns : List NetNode) → AreFine at before ns → count_ands ns + count_inputs ns ≡ length ns
unfolding AreFine count_ands count_inputs
counted_from at before [] h = refl
counted_from at before (Constant c ∷ ns) h = absurd h.0
counted_from at before (Input k ∷ ns) h = omega (arith, counted_from (at + 1) (count_inputs (Input k ∷ []) + before) ns h.1)
counted_from at before (And a b ∷ ns) h = omega (arith, counted_from (at + 1) (count_inputs (And a b ∷ []) + before) ns h.1)

pub counted : (net : List NetNode) → IsNet net → count_ands net + count_inputs net + 1 ≡ length net
unfolding count_ands count_inputs
counted net h = omega (arith, counted_from 1 0 h.0 h.2, ap count_ands h.1, ap count_inputs h.1, ap length h.1)

pub grown_pushed : (net : List NetNode) (a b : Bit) → Grown 1 net (net ++ And a b ∷ [])
unfolding count_ands
grown_pushed net a b = record { more = And a b ∷ []; is = refl; gates = refl; few = omega arith }

pub input_added : {new items now : List NetNode} {k : ℕ} → new ≡ items ++ Input k ∷ [] → items ≡ now → k ≡ count_inputs items → new ≡ now ++ Input (count_inputs now) ∷ []
input_added {new} {items} {now} {k} e f h = e ∙ ap (λ l. l ++ Input k ∷ []) f ∙ ap (λ j. now ++ Input j ∷ []) (h ∙ ap count_inputs f)

pub input_means : {new : List NetNode} (now : List NetNode) (k : ℕ) → new ≡ now ++ Input (count_inputs now) ∷ [] → k ≡ length now → Means new (record { node = k; negated = false }) (λ v. v (count_inputs now))
input_means {new} now k e h = rw e (means_input now (count_inputs now) k h)

-- the values of one node more
pub values_next : {values after : List Bool} (v : ℕ → Bool) (net : List NetNode) (i : ℕ) (d : NetNode) → values ≡ values_from v [] (take i net) → i < length net
    → after ≡ values ++ node_in v values (get_or net i d) ∷ [] → after ≡ values_from v [] (take (i + 1) net)
values_next {values} {after} v net i d e lt h = h ∙ ap (λ l. l ++ node_in v l (get_or net i d) ∷ []) e ∙ sym (values_from-one v (take i net) (get_or net i d)) ∙ ap (values_from v []) (sym (take_more net i d lt))

pub values_all : {values : List Bool} (v : ℕ → Bool) (net : List NetNode) (i : ℕ) → values ≡ values_from v [] (take i net) → i ≡ length net → values ≡ values_from v [] net
values_all {values} v net i e h = e ∙ ap (values_from v []) (take_all i net (omega arith))

pub value_holds : {values : List Bool} {r : Bool} (v : ℕ → Bool) (net : List NetNode) (b : Bit) → values ≡ values_from v [] net → r ≡ bit_in values b → r ≡ holds v net b
unfolding holds
value_holds {values} {r} v net b e q = q ∙ ap (λ l. bit_in l b) e

pub values_step : {values after given : List Bool} {next : Bool} {node : NetNode} (v : ℕ → Bool) (net items : List NetNode) (i : ℕ) (d : NetNode) → values ≡ values_from v [] (take i net) → i < length items → items ≡ net
    → node ≡ get_or items i d → given ≡ values → next ≡ node_in v given node → after ≡ values ++ next ∷ [] → after ≡ values_from v [] (take (i + 1) net)
values_step {values} {after} {given} {next} {node} v net items i d e lt h n g q a =
    values_next v net i d e (omega (arith, ap length h)) (a ∙ ap (λ x. values ++ x ∷ []) (q ∙ ap (λ l. node_in v l node) g ∙ ap (node_in v values) (n ∙ ap (λ l. get_or l i d) h)))

pub values_none : (v : ℕ → Bool) (out : List Bool) → out ≡ [] → out ≡ values_from v [] []
unfolding values_from
values_none v out e = e
