-- What two bits that are never true together tell of conjunctions.
use Rattle.std.proofs.Common.{◌≡◌, Bool, true, false, not, ◌&&◌, List, refl, sym, ◌∙◌, ap}
use Rattle.circuits.specs.declared.net.Bit.{Bit}
use Rattle.circuits.specs.declared.net.NetNode.{NetNode}
use Rattle.circuits.specs.Net.{holds, opposite, Means}
use Rattle.circuits.proofs.Nets.{holds-opposite}
use Rattle.folded_nets.specs.Following.{AreApart}
use Rattle.folded_nets.specs.declared.pairs.Apart.{Apart}

left_alone : (x y : Bool) → (x && y) ≡ false → x ≡ (x && not y)
left_alone true true h = cc
left_alone true false h = refl
left_alone false y h = refl

right_alone : (x y : Bool) → (x && y) ≡ false → y ≡ (not x && y)
right_alone true y h = h
right_alone false y h = refl

pub means_left : (net : List NetNode) (p : Apart) (a b : Bit) → AreApart net p → a ≡ p.left → b ≡ opposite p.right → Means net a (λ v. holds v net a && holds v net b)
means_left net p a b h ea eb = rw ea (rw eb (record {
  inside = h.left;
  is = λ v. left_alone (holds v net p.left) (holds v net p.right) (h.never v) ∙ ap (λ y. holds v net p.left && y) (sym (holds-opposite v net p.right));
}))

pub means_right : (net : List NetNode) (p : Apart) (a b : Bit) → AreApart net p → a ≡ opposite p.left → b ≡ p.right → Means net b (λ v. holds v net a && holds v net b)
means_right net p a b h ea eb = rw ea (rw eb (record {
  inside = h.right;
  is = λ v. right_alone (holds v net p.left) (holds v net p.right) (h.never v) ∙ ap (λ x. x && holds v net p.right) (sym (holds-opposite v net p.left));
}))

pub means_never : (net : List NetNode) (p : Apart) (a b r never : Bit) → AreApart net p → a ≡ p.left → b ≡ p.right → Means net r (λ v. true) → never ≡ opposite r → Means net never (λ v. holds v net a && holds v net b)
means_never net p a b r never h ea eb m en = rw ea (rw eb (rw en (record {
  inside = m.inside;
  is = λ v. holds-opposite v net r ∙ ap not (m.is v) ∙ sym (h.never v);
})))
