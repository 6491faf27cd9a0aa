-- Copies of nodes, and of what is added after them.
use Rattle.std.proofs.Common.{◌≡◌, ℕ, ◌+◌, ◌<◌, ◌≤◌, Bool, true, false, not, ◌&&◌, List, [], ◌∷◌, ◌++◌, length, get_or, take, drop, refl, sym, ◌∙◌, ap, subst, arith, length-append, Some, inl, inr}
use Rattle.std.specs.Prelude.{slice_get, Result, Ok, Err, IfOk, OnOk}
use Rattle.std.specs.List.{All}
use Rattle.std.proofs.lemmas.Bool.{cases_lt, cases_eq}
use Rattle.std.proofs.lemmas.List.{take_more, length-take-le, take-append-drop, get_or_append_left, get_or_push, length_push, get_or-set_same, get_or-set_other, length-set}
use Rattle.std.proofs.lemmas.List.Elements.{All-nil}
use lib.ListN.{set}
use Rattle.circuits.specs.declared.net.Bit.{Bit}
use Rattle.circuits.specs.declared.net.NetNode.{NetNode}
use Rattle.circuits.specs.declared.net.NetNode.TheVariants.{Constant, Input, And}
use Rattle.circuits.specs.Net.{holds, node_in, values_from, opposite, count_ands, count_inputs, Grown, IsFine, IsNet, Means}
use Rattle.circuits.proofs.Nets.{holds-opposite, holds-append, holds-pushed, inputs-append, means_yes}
use Rattle.circuits.proofs.Nodes.{found, node_fine, and_arguments, and_value}
use Rattle.folded_nets.specs.Following.{node_holds, AreApart, Follows, IsBut, IsCopy, IsNever, IsNextOf, SameBut}
use Rattle.folded_nets.specs.declared.folded.FoldedNet.{FoldedNet}
use Rattle.folded_nets.specs.declared.pairs.Apart.{Apart}

-- the copy of a bit is that of its node, negated where the bit is
pub copied_plain : (old net : List NetNode) (bit copy : Bit) → bit.negated ≡ false → IsCopy old net bit.node copy → Means net copy (λ v. holds v old bit)
copied_plain old net bit copy e m = record { inside = m.inside; is = λ v. m.is v ∙ ap (λ n. holds v old (record { node = bit.node; negated = n })) (sym e) }

pub copied_negated : (old net : List NetNode) (bit copy turned : Bit) → bit.negated ≡ true → turned ≡ opposite copy → IsCopy old net bit.node copy → Means net turned (λ v. holds v old bit)
copied_negated old net bit copy turned e t m = rw t (record {
  inside = m.inside;
  is = λ v. holds-opposite v net copy ∙ ap not (m.is v) ∙ sym (holds-opposite v old (record { node = bit.node; negated = false })) ∙ ap (λ n. holds v old (record { node = bit.node; negated = n })) (sym e);
})

-- the copy of the constant
pub follows_first : (old : List NetNode) (f : FoldedNet) (copy : Bit) → IsNet old → f.net ≡ Constant true ∷ [] → f.copies.items ≡ copy ∷ [] → f.apart.items ≡ [] → Means f.net copy (λ v. true) → Follows old f
unfolding count_inputs
follows_first old f copy h en ec ea m = record {
  some = omega (arith, one);
  many = omega (arith, one, ap length h.1);
  small = omega (arith, one, ap length en);
  inputs = ap count_inputs en ∙ sym (ap (λ l. count_inputs (take 1 l)) h.1) ∙ sym (ap (λ k. count_inputs (take k old)) one);
  copied = λ at d lt. subst (λ (k : ℕ). IsCopy old f.net k (get_or f.copies.items k d)) (omega (arith, one, lt)) (subst (IsCopy old f.net 0) (sym (ap (λ l. get_or l 0 d) ec)) first);
  apart = subst (All (AreApart f.net)) (sym ea) (All-nil (AreApart f.net));
}
  where
    one : length f.copies.items ≡ 1
    one = ap length ec

    first : IsCopy old f.net 0 copy
    first = record { inside = m.inside; is = λ v. m.is v ∙ sym ((means_yes old h).is v) }

-- ---- what is added after a net
pub means_longer : (net more : List NetNode) (b : Bit) (f : (ℕ → Bool) → Bool) → Means net b f → Means (net ++ more) b f
means_longer net more b f m = record { inside = omega (arith, m.inside, length-append net more); is = λ v. holds-append v net more b m.inside ∙ m.is v }

pub apart_longer : (net more : List NetNode) (p : Apart) → AreApart net p → AreApart (net ++ more) p
apart_longer net more p h = record {
  left = omega (arith, h.left, length-append net more);
  right = omega (arith, h.right, length-append net more);
  never = λ v. ap (λ x. x && holds v (net ++ more) p.right) (holds-append v net more p.left h.left) ∙ ap (λ y. holds v net p.left && y) (holds-append v net more p.right h.right) ∙ h.never v;
}

counts : (ns : List NetNode) → count_ands ns + count_inputs ns ≤ length ns
unfolding count_ands count_inputs
counts [] = omega arith
counts (Constant c ∷ ns) = omega (arith, counts ns)
counts (Input k ∷ ns) = omega (arith, counts ns)
counts (And a b ∷ ns) = omega (arith, counts ns)

grown_inputs : (old new : List NetNode) → Grown 1 old new → count_inputs new ≡ count_inputs old
grown_inputs old new g = omega (arith, ap count_inputs g.is, inputs-append old g.more, counts g.more, g.gates)

-- ---- the next node
node_value : (v : ℕ → Bool) (net : List NetNode) (at : ℕ) → at < length net → node_holds v net at ≡ node_in v (values_from v [] (take at net)) (get_or net at (Constant true))
node_value v net at lt =
    let b : Bit = record { node = at; negated = false } in
    let long : length (take (at + 1) net) ≡ at + 1 = length-take-le (at + 1) net (omega arith) in
    ap (λ l. holds v l b) (sym (take-append-drop (at + 1) net))
    ∙ holds-append v (take (at + 1) net) (drop (at + 1) net) b (omega (arith, long))
    ∙ ap (λ l. holds v l b) (take_more net at (Constant true) lt)
    ∙ holds-pushed v (take at net) (get_or net at (Constant true)) at (sym (length-take-le at net (omega arith)))

inputs_next : (net : List NetNode) (at : ℕ) (n : NetNode) → at < length net → get_or net at (Constant true) ≡ n → count_inputs (take (at + 1) net) ≡ count_inputs (take at net) + count_inputs (n ∷ [])
inputs_next net at n lt e = ap count_inputs (take_more net at (Constant true) lt) ∙ inputs-append (take at net) (get_or net at (Constant true) ∷ []) ∙ ap (λ x. count_inputs (take at net) + count_inputs (x ∷ [])) e

module _ (old : List NetNode) (f : FoldedNet) (h : IsNet old) (follows : Follows old f) where
  pub never_constant : (c : Bool) → Some (Constant c) ≡ slice_get old (length f.copies.items) → ⊥
  never_constant c e =
      let n = found old (length f.copies.items) (Constant c) (Constant true) e in
      subst (λ x. IsFine (length f.copies.items) (count_inputs (take (length f.copies.items) old)) x) n.1 (node_fine old h (length f.copies.items) follows.some n.0)

  pub and_copied : (a b : Bit) → Some (And a b) ≡ slice_get old (length f.copies.items) → (a.node < length f.copies.items) × (b.node < length f.copies.items)
  and_copied a b e =
      let n = found old (length f.copies.items) (And a b) (Constant true) e in
      let r = and_arguments old h (length f.copies.items) a b n.0 n.1 in
      (r.left.1, r.right.1)

  pub next_input : (g : FoldedNet) (copy : Bit) (k : ℕ) → Some (Input k) ≡ slice_get old (length f.copies.items) → g.net ≡ f.net ++ Input (count_inputs f.net) ∷ [] → Means g.net copy (λ v. v (count_inputs f.net))
      → SameBut f g → IsNextOf old f g copy
  unfolding count_inputs
  next_input g copy k e is m same =
      let at = length f.copies.items in
      let n = found old at (Input k) (Constant true) e in
      let number : k ≡ count_inputs (take at old) = subst (λ x. IsFine at (count_inputs (take at old)) x) n.1 (node_fine old h at follows.some n.0) in
      record {
        same = same;
        more = Input (count_inputs f.net) ∷ [];
        is = is;
        few = omega arith;
        inputs = ap count_inputs is ∙ inputs-append f.net (Input (count_inputs f.net) ∷ []) ∙ ap (λ i. i + 1) follows.inputs ∙ sym (inputs_next old at (Input k) n.0 n.1);
        copied = record { inside = m.inside; is = λ v. m.is v ∙ ap v (follows.inputs ∙ sym number) ∙ sym (node_value v old at n.0 ∙ ap (node_in v (values_from v [] (take at old))) n.1) };
      }

  pub next_and : (g : FoldedNet) (a b left right copy : Bit) → Some (And a b) ≡ slice_get old (length f.copies.items) → Means f.net left (λ v. holds v old a) → Means f.net right (λ v. holds v old b)
      → Means g.net copy (λ v. holds v f.net left && holds v f.net right) → Grown 1 f.net g.net → SameBut f g → IsNextOf old f g copy
  unfolding count_inputs
  next_and g a b left right copy e ml mr m grown same =
      let at = length f.copies.items in
      let n = found old at (And a b) (Constant true) e in
      record {
        same = same;
        more = grown.more;
        is = grown.is;
        few = grown.few;
        inputs = omega (arith, grown_inputs f.net g.net grown, follows.inputs, inputs_next old at (And a b) n.0 n.1);
        copied = record {
          inside = m.inside;
          is = λ v. m.is v ∙ ap (λ x. x && holds v f.net right) (ml.is v) ∙ ap (λ y. holds v old a && y) (mr.is v) ∙ sym (and_value v old h at a b n.0 n.1);
        };
      }

-- one more copy
pub follows_more : (old : List NetNode) (f g k : FoldedNet) (copy : Bit) → Follows old f → IsNextOf old f g copy → length f.copies.items < length old → k.net ≡ g.net → k.copies.items ≡ g.copies.items ++ copy ∷ [] → k.apart.items ≡ g.apart.items
    → Follows old k
follows_more old f g k copy h next lt en ec ea = record {
  some = omega (arith, longer);
  many = omega (arith, longer, lt);
  small = omega (arith, longer, ap length net, length-append f.net next.more, next.few, h.small);
  inputs = ap count_inputs en ∙ next.inputs ∙ sym (ap (λ i. count_inputs (take i old)) longer);
  copied = λ at d l. elim (cases_lt at (length f.copies.items)) as (λ _. IsCopy old k.net at (get_or k.copies.items at d)) [
    | inl less ↦
        subst (IsCopy old k.net at) (sym (ap (λ x. get_or x at d) copies ∙ get_or_append_left f.copies.items (copy ∷ []) d at less))
        (subst (λ x. IsCopy old x at (get_or f.copies.items at d)) (sym net) (means_longer f.net next.more (get_or f.copies.items at d) (λ v. node_holds v old at) (h.copied at d less)))
    | inr ge ↦
        let e : at ≡ length f.copies.items = omega (arith, ge, l, longer) in
        subst (IsCopy old k.net at) (sym (ap (λ x. get_or x at d) copies ∙ get_or_push f.copies.items copy d at (sym e)))
        (subst (λ (i : ℕ). IsCopy old k.net i copy) (sym e) (subst (λ x. IsCopy old x (length f.copies.items) copy) (sym en) next.copied))
  ];
  apart = subst (All (AreApart k.net)) (sym (ea ∙ ap (λ x. x.items) next.same.apart)) (λ i d l. subst (λ x. AreApart x (get_or f.apart.items i d)) (sym net) (apart_longer f.net next.more (get_or f.apart.items i d) (h.apart i d l)));
}
  where
    net : k.net ≡ f.net ++ next.more
    net = en ∙ next.is

    copies : k.copies.items ≡ f.copies.items ++ copy ∷ []
    copies = ec ∙ ap (λ x. x.items ++ copy ∷ []) next.same.copies

    longer : length k.copies.items ≡ length f.copies.items + 1
    longer = ap length copies ∙ length_push f.copies.items copy

-- ---- what is never true
pub arguments_apart : (net : List NetNode) (copy a b : Bit) → IsNet net → copy.negated ≡ false → IsNever net copy → Some (And a b) ≡ slice_get net copy.node → AreApart net (record { left = a; right = b })
arguments_apart net copy a b h plain never e =
    let n = found net copy.node (And a b) (Constant true) e in
    let r = and_arguments net h copy.node a b n.0 n.1 in
    record {
      left = omega (arith, r.left.1, n.0);
      right = omega (arith, r.right.1, n.0);
      never = λ v. sym (and_value v net h copy.node a b n.0 n.1) ∙ ap (λ x. holds v net (record { node = copy.node; negated = x })) (sym plain) ∙ never v;
    }

was_true : (b : Bool) → not b ≡ false → b ≡ true
was_true true h = refl
was_true false h = cc

constant_copy : (old net : List NetNode) (at : ℕ) (n : Bool) → IsNet net → IsNever old (record { node = at; negated = n }) → IsCopy old net at (record { node = 0; negated = not n })
constant_copy old net at true h never = record {
  inside = (means_yes net h).inside;
  is = λ v. (means_yes net h).is v ∙ sym (was_true (node_holds v old at) (sym (holds-opposite v old (record { node = at; negated = false })) ∙ never v));
}
constant_copy old net at false h never = record {
  inside = (means_yes net h).inside;
  is = λ v. holds-opposite v net (record { node = 0; negated = false }) ∙ ap not ((means_yes net h).is v) ∙ sym (never v);
}

-- the copy of what is never true is a constant
pub follows_never : (old : List NetNode) (f g k : FoldedNet) (bit copy : Bit) → Follows old f → IsNet f.net → IsBut f g → bit.node < length f.copies.items → IsNever old bit → copy ≡ record { node = 0; negated = not bit.negated }
    → k.net ≡ g.net → k.copies.items ≡ set g.copies.items bit.node copy → k.apart.items ≡ g.apart.items → Follows old k
follows_never old f g k bit copy h fine but lt never e en ec ea = record {
  some = omega (arith, same, h.some);
  many = omega (arith, same, h.many);
  small = omega (arith, same, ap length net, h.small);
  inputs = ap count_inputs net ∙ h.inputs ∙ sym (ap (λ i. count_inputs (take i old)) same);
  copied = λ at d l. subst (λ x. IsCopy old x at (get_or k.copies.items at d)) (sym net) (subst (λ x. IsCopy old f.net at (get_or x at d)) (sym copies)
      (elim (cases_eq at bit.node) as (λ _. IsCopy old f.net at (get_or (set f.copies.items bit.node copy) at d)) [
        | inl here ↦
            subst (IsCopy old f.net at) (sym (ap (λ (i : ℕ). get_or (set f.copies.items i copy) at d) (sym here) ∙ get_or-set_same f.copies.items at copy d (omega (arith, here, lt))))
            (subst (λ (i : ℕ). IsCopy old f.net i copy) (sym here) (subst (IsCopy old f.net bit.node) (sym e) (constant_copy old f.net bit.node bit.negated fine never)))
        | inr other ↦ subst (IsCopy old f.net at) (sym (get_or-set_other f.copies.items bit.node at copy d other)) (h.copied at d (omega (arith, l, same)))
      ]));
  apart = subst (All (AreApart k.net)) (sym ea) (subst (λ x. All (AreApart x) g.apart.items) (sym en) but.apart);
}
  where
    net : k.net ≡ f.net
    net = en ∙ but.net

    copies : k.copies.items ≡ set f.copies.items bit.node copy
    copies = ec ∙ ap (λ x. set x.items bit.node copy) but.copies

    same : length k.copies.items ≡ length f.copies.items
    same = ap length copies ∙ length-set f.copies.items bit.node copy

-- ---- results
pub ok_with : {A E : Type 0} (r : Result A E) (G : Type 0) (P R : A → Type 0) → OnOk r G → IfOk r P → (G → (a : A) → P a → R a) → IfOk r R
ok_with (Ok a) G P R g p f = f g a p
ok_with (Err e) G P R g p f = tt

pub ok_both : {A E : Type 0} (r : Result A E) (P Q R : A → Type 0) → IfOk r P → IfOk r Q → ((a : A) → P a → Q a → R a) → IfOk r R
ok_both (Ok a) P Q R p q f = f a p q
ok_both (Err e) P Q R p q f = tt
