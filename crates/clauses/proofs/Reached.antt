-- The flags of the nodes that a bit reaches.
use Rattle.std.proofs.Common.{◌≡◌, ◌≢◌, ℕ, ◌+◌, ◌<◌, ◌≤◌, ◌⊎◌, inl, inr, Bool, true, false, List, length, get_or, slice_get, slice_set, Some, sym, ◌∙◌, ap, subst, arith}
use Rattle.std.proofs.lemmas.List.{get_or-set_same, get_or-set_other, length-set, get_or-replicate, length-replicate, get_or_past, get_or_default}
use Rattle.std.proofs.lemmas.Option.{slice_get-get_or, slice_get_within, get_or_from_slice_get}
use Rattle.std.proofs.Math.ListN.{replicate}
use Rattle.std.proofs.lemmas.Bool.{cases_lt}
use Rattle.circuits.specs.declared.net.Bit.{Bit}
use Rattle.circuits.specs.declared.net.NetNode.{NetNode}
use Rattle.circuits.specs.declared.net.NetNode.TheVariants.{Constant, Input, And}
use Rattle.circuits.specs.Net.{IsNet}
use Rattle.circuits.specs.Reach.{Reaches, own, left, right}
use Rattle.clauses.specs.Tseitin.{node_at, flag_at, Flags}
use Rattle.clauses.specs.Marks.{marked, IsClosed, ArgumentsIn}
use Rattle.clauses.proofs.Nodes.{and_arguments}

-- the nodes from `low` on have flagged their arguments; every flag is of a node that is reached
pub record Marking (net : List NetNode) (b : Bit) (flags : List Bool) (low : ℕ) : Type 0 where
  pub many : length flags ≡ length net
  pub root : flag_at flags b.node ≡ true
  pub only : (at : ℕ) → flag_at flags at ≡ true → Reaches net b at
  pub done : (at : ℕ) (x y : Bit) → low ≤ at → at < length net → flag_at flags at ≡ true → node_at net at ≡ And x y → (flag_at flags x.node ≡ true) × (flag_at flags y.node ≡ true)

same_or : (m n : ℕ) → (m ≡ n) ⊎ (m ≢ n)
same_or m n = elim (cases_lt m n) as (λ _. (m ≡ n) ⊎ (m ≢ n)) [
  | inl l ↦ inr (λ e. absurd (omega arith))
  | inr g ↦ elim (cases_lt n m) as (λ _. (m ≡ n) ⊎ (m ≢ n)) [
    | inl l ↦ inr (λ e. absurd (omega arith))
    | inr k ↦ inl (omega arith)
  ]
]

-- one flag more
set_keeps : (flags : List Bool) (i j : ℕ) → i < length flags → flag_at flags j ≡ true → flag_at (slice_set flags i true) j ≡ true
set_keeps flags i j lt e = elim (same_or i j) as (λ _. flag_at (slice_set flags i true) j ≡ true) [
  | inl q ↦ subst (λ (k : ℕ). flag_at (slice_set flags i true) k ≡ true) q (get_or-set_same flags i true false lt)
  | inr q ↦ get_or-set_other flags i j true false (λ r. q (sym r)) ∙ e
]

set_only : (flags : List Bool) (i j : ℕ) → flag_at (slice_set flags i true) j ≡ true → (i ≡ j) ⊎ (flag_at flags j ≡ true)
set_only flags i j e = elim (same_or i j) as (λ _. (i ≡ j) ⊎ (flag_at flags j ≡ true)) [
  | inl q ↦ inl q
  | inr q ↦ inr (sym (get_or-set_other flags i j true false (λ r. q (sym r))) ∙ e)
]

none_flagged : (n j : ℕ) → flag_at (replicate n false) j ≡ true → ⊥
none_flagged n j e = elim (cases_lt j n) as (λ _. ⊥) [
  | inl l ↦ let q = sym (get_or-replicate n j false false l) ∙ e in cc
  | inr g ↦ let q = sym (get_or_past (replicate n false) j false (omega (arith, length-replicate n false))) ∙ e in cc
]

pub marking_none : (net : List NetNode) (b : Bit) → b.node < length net → Marking net b (slice_set (replicate (length net) false) b.node true) (length net)
marking_none net b lt =
    let l : length (replicate (length net) false) ≡ length net = length-replicate (length net) false in
    record {
      many = length-set (replicate (length net) false) b.node true ∙ l;
      root = get_or-set_same (replicate (length net) false) b.node true false (omega arith);
      only = λ at e. elim (set_only (replicate (length net) false) b.node at e) as (λ _. Reaches net b at) [
        | inl q ↦ subst (λ (k : ℕ). Reaches net b k) q own
        | inr r ↦ absurd (none_flagged (length net) at r)
      ];
      done = λ at x y le l f q. absurd (omega arith);
    }

pub marking_skip : {net : List NetNode} {b : Bit} {flags : List Bool} {low : ℕ} → Marking net b flags (low + 1) → flag_at flags low ≡ false → Marking net b flags low
marking_skip {net} {b} {flags} {low} m e = record {
  many = m.many;
  root = m.root;
  only = m.only;
  done = λ at x y le l f q. elim (cases_lt low at) as (λ _. (flag_at flags x.node ≡ true) × (flag_at flags y.node ≡ true)) [
    | inl g ↦ m.done at x y (omega arith) l f q
    | inr g ↦ let s : at ≡ low = omega arith in let r = sym f ∙ ap (flag_at flags) s ∙ e in cc
  ];
}

pub marking_step : {net : List NetNode} {b : Bit} {flags : List Bool} {low : ℕ} → IsNet net → Marking net b flags (low + 1) → low < length net → flag_at flags low ≡ true → (n : NetNode) → node_at net low ≡ n → Marking net b (marked n flags) low
marking_step {net} {b} {flags} {low} h m lt f (Constant c) q = record {
  many = m.many;
  root = m.root;
  only = m.only;
  done = λ at x y le l g p. elim (cases_lt low at) as (λ _. (flag_at flags x.node ≡ true) × (flag_at flags y.node ≡ true)) [
    | inl k ↦ m.done at x y (omega arith) l g p
    | inr k ↦ let s : at ≡ low = omega arith in let r = sym q ∙ ap (node_at net) (sym s) ∙ p in cc
  ];
}
marking_step {net} {b} {flags} {low} h m lt f (Input c) q = record {
  many = m.many;
  root = m.root;
  only = m.only;
  done = λ at x y le l g p. elim (cases_lt low at) as (λ _. (flag_at flags x.node ≡ true) × (flag_at flags y.node ≡ true)) [
    | inl k ↦ m.done at x y (omega arith) l g p
    | inr k ↦ let s : at ≡ low = omega arith in let r = sym q ∙ ap (node_at net) (sym s) ∙ p in cc
  ];
}
marking_step {net} {b} {flags} {low} h m lt f (And x y) q =
    let r = and_arguments net h low x y lt q in
    let one = slice_set flags x.node true in
    let in_x : x.node < length flags = omega (arith, r.left.1, m.many) in
    let long : length one ≡ length flags = length-set flags x.node true in
    let in_y : y.node < length one = omega (arith, r.right.1, m.many) in
    let here : slice_get net low ≡ Some (And x y) = slice_get-get_or net low (Constant true) lt ∙ ap (λ n. Some n) q in
    let keeps : (j : ℕ) → flag_at flags j ≡ true → flag_at (slice_set one y.node true) j ≡ true = λ j e. set_keeps one y.node j in_y (set_keeps flags x.node j in_x e) in
    let has_x : flag_at (slice_set one y.node true) x.node ≡ true = set_keeps one y.node x.node in_y (get_or-set_same flags x.node true false in_x) in
    let has_y : flag_at (slice_set one y.node true) y.node ≡ true = get_or-set_same one y.node true false in_y in
    record {
      many = length-set one y.node true ∙ long ∙ m.many;
      root = keeps b.node m.root;
      only = λ at e. elim (set_only one y.node at e) as (λ _. Reaches net b at) [
        | inl s ↦ subst (λ (k : ℕ). Reaches net b k) s (right low x y (m.only low f) here)
        | inr e1 ↦ elim (set_only flags x.node at e1) as (λ _. Reaches net b at) [
          | inl s ↦ subst (λ (k : ℕ). Reaches net b k) s (left low x y (m.only low f) here)
          | inr e2 ↦ m.only at e2
        ]
      ];
      done = λ at u w le l g p. elim (cases_lt low at) as (λ _. (flag_at (slice_set one y.node true) u.node ≡ true) × (flag_at (slice_set one y.node true) w.node ≡ true)) [
        | inl k ↦
            let old : flag_at flags at ≡ true =
            sym (get_or-set_other flags x.node at true false (λ s. absurd (omega (arith, r.left.1)))) ∙ sym (get_or-set_other one y.node at true false (λ s. absurd (omega (arith, r.right.1)))) ∙ g in
            let d = m.done at u w (omega arith) l old p in
            (keeps u.node d.0, keeps w.node d.1)
        | inr k ↦
            let s : at ≡ low = omega arith in
            let same : And x y ≡ And u w = sym q ∙ ap (node_at net) (sym s) ∙ p in
            let ex : x ≡ u = cc in
            let ey : y ≡ w = cc in
            (ap (λ (z : Bit). flag_at (slice_set one y.node true) z.node) (sym ex) ∙ has_x, ap (λ (z : Bit). flag_at (slice_set one y.node true) z.node) (sym ey) ∙ has_y)
      ];
    }

all_flagged : (net : List NetNode) (b : Bit) (flags : List Bool) → Marking net b flags 0 → (at : ℕ) → Reaches net b at → flag_at flags at ≡ true
all_flagged net b flags m at own = m.root
all_flagged net b flags m at (left k x y r e) =
    (m.done k x y (omega arith) (slice_get_within net k (And x y) e) (all_flagged net b flags m k r) (get_or_from_slice_get net k (And x y) (Constant true) e)).0
all_flagged net b flags m at (right k x y r e) =
    (m.done k x y (omega arith) (slice_get_within net k (And x y) e) (all_flagged net b flags m k r) (get_or_from_slice_get net k (And x y) (Constant true) e)).1

pub marking_end : {net : List NetNode} {b : Bit} {flags : List Bool} → Marking net b flags 0 → Flags net b flags
marking_end {net} {b} {flags} m = record { many = m.many; is = λ at lt. (m.only at, all_flagged net b flags m at) }

-- flags that tell what a bit reaches
pub flags_closed : {net : List NetNode} {b : Bit} {flags : List Bool} → IsNet net → Flags net b flags → IsClosed net flags
flags_closed {net} {b} {flags} h f at x y lt e q =
    let r = and_arguments net h at x y lt q in
    let reach : Reaches net b at = (f.is at lt).0 e in
    let here : slice_get net at ≡ Some (And x y) = slice_get-get_or net at (Constant true) lt ∙ ap (λ n. Some n) q in
    ((f.is x.node (omega (arith, r.left.1))).1 (left at x y reach here), (f.is y.node (omega (arith, r.right.1))).1 (right at x y reach here))

pub root_flagged : {net : List NetNode} {b : Bit} {flags : List Bool} → b.node < length net → Flags net b flags → flag_at flags b.node ≡ true
root_flagged {net} {b} {flags} lt f = (f.is b.node lt).1 own

pub marking_at : {net : List NetNode} {b : Bit} {flags : List Bool} {m n : ℕ} → Marking net b flags m → m ≡ n → Marking net b flags n
marking_at {net} {b} {flags} {m} {n} k e = subst (λ (i : ℕ). Marking net b flags i) e k

pub arguments_in : (net : List NetNode) → IsNet net → (at k : ℕ) → at < length net → k ≡ length net → (n : NetNode) → node_at net at ≡ n → ArgumentsIn k n
arguments_in net h at k lt e (Constant c) q = tt
arguments_in net h at k lt e (Input i) q = tt
arguments_in net h at k lt e (And a b) q = let r = and_arguments net h at a b lt q in (omega (arith, r.left.1), omega (arith, r.right.1))

pub marking_of : {net : List NetNode} {b : Bit} {xs ys : List Bool} {n : ℕ} → ys ≡ xs → Marking net b xs n → Marking net b ys n
marking_of {net} {b} {xs} {ys} {n} e k = rw e k

-- a flag that was read
pub flag_read : {r t : Bool} (flags : List Bool) (at : ℕ) → r ≡ get_or flags at r → r ≡ t → at < length flags → flag_at flags at ≡ t
flag_read {r} {t} flags at e q lt = get_or_default flags at false r lt ∙ sym e ∙ q
