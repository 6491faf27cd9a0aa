-- Costs of which the heads of loops may have been left out.
use Rattle.std.proofs.Common.{◌≡◌, ◌≤◌, ℕ, ◌+◌, Bool, false, refl, ap, sym, ◌∙◌, subst, arith}
use Rattle.std.proofs.lemmas.Bool.{false≢true}
use Rattle.sym_weight.specs.declared.cost.Cost.{Cost}
use Rattle.sym_weight.specs.Tally.{IsCounted, capped, cost, plus}

pub exactly : (heads : Bool) (c d : Cost) → c ≡ d → IsCounted heads c d
exactly heads c d e = record { all = λ h. e; below = at_most c.weight d.weight (ap (λ x. x.weight) e) }
  where
    at_most : (a b : ℕ) → a ≡ b → a ≤ b
    at_most a b h = omega arith

pub nothing_counted : (c d : Cost) → c ≡ cost 0 0 → IsCounted false c d
nothing_counted c d e = record { all = λ h. absurd (false≢true h); below = none_below c.weight d.weight (ap (λ x. x.weight) e) }
  where
    none_below : (a b : ℕ) → a ≡ capped 0 → a ≤ b
    none_below a b h = omega arith

capped_below : (a b c d : ℕ) → a ≤ c → b ≤ d → capped (a + b) ≤ capped (c + d)
capped_below a b c d h k = omega arith

pub plus_counted : (heads : Bool) (a b c d : Cost) → IsCounted heads a c → IsCounted heads b d → IsCounted heads (plus a b) (plus c d)
plus_counted heads a b c d h k = record {
  all = λ t. ap (λ x. plus x b) (h.all t) ∙ ap (λ x. plus c x) (k.all t);
  below = capped_below a.weight b.weight c.weight d.weight h.below k.below;
}

-- a sum of parts, each of which was counted
pub two : (heads : Bool) (X Y x y r whole : Cost) → IsCounted heads x X → IsCounted heads y Y → r ≡ plus x y → whole ≡ plus X Y → IsCounted heads r whole
two heads X Y x y r whole a b e w =
    subst (λ t. IsCounted heads t whole) (sym e) (subst (λ t. IsCounted heads (plus x y) t) (sym w) (plus_counted heads x y X Y a b))

pub three : (heads : Bool) (X Y Z x y z yz r whole : Cost) → IsCounted heads x X → IsCounted heads y Y → IsCounted heads z Z → yz ≡ plus y z → r ≡ plus x yz → whole ≡ plus X (plus Y Z)
    → IsCounted heads r whole
three heads X Y Z x y z yz r whole a b c d e w = two heads X (plus Y Z) x yz r whole a (two heads Y Z y z yz (plus Y Z) b c d refl) e w

pub five : (heads : Bool) (V W X Y Z v w x y z yz xyz wxyz r whole : Cost) → IsCounted heads v V → IsCounted heads w W → IsCounted heads x X → IsCounted heads y Y → IsCounted heads z Z
    → yz ≡ plus y z → xyz ≡ plus x yz → wxyz ≡ plus w xyz → r ≡ plus v wxyz → whole ≡ plus V (plus W (plus X (plus Y Z))) → IsCounted heads r whole
five heads V W X Y Z v w x y z yz xyz wxyz r whole a b c d e f g h i k =
    two heads V (plus W (plus X (plus Y Z))) v wxyz r whole a
    (three heads W X (plus Y Z) w x yz xyz wxyz (plus W (plus X (plus Y Z))) b c (two heads Y Z y z yz (plus Y Z) d e f refl) g h refl) i k

more_below : (o c s r n w : ℕ) → c ≤ s → n ≡ capped (o + c) → capped (capped (o + s) + r) ≤ w → capped (n + r) ≤ w
more_below o c s r n w h e k = omega arith

-- one part more of what is left
pub one_more : (heads : Bool) (old part own new rest whole : Cost) → IsCounted heads part own → new ≡ plus old part → IsCounted heads (plus (plus old own) rest) whole → IsCounted heads (plus new rest) whole
one_more heads old part own new rest whole p n h = record {
  all = λ t. ap (λ x. plus x rest) (n ∙ ap (λ x. plus old x) (p.all t)) ∙ h.all t;
  below = more_below old.weight part.weight own.weight rest.weight new.weight whole.weight p.below (ap (λ x. x.weight) n) h.below;
}
