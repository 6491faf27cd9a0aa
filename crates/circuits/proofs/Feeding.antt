-- Inputs added to a net.
use Rattle.std.proofs.Common.{◌≡◌, ℕ, ◌+◌, ◌*◌, ◌^◌, ◌≤◌, Bool, List, [], ◌∷◌, ◌++◌, refl, sym, ◌∙◌, ap, arith, append_assoc, append-nil, length-append, add-one}
use Rattle.std.proofs.lemmas.List.Elements.{All-append, All-head, All-tail, All-cons}
use Rattle.c_core.specs.declared.number.DataModel.{DataModel}
use Rattle.c_core.specs.declared.number.IntType.{IntType}
use Rattle.circuits.specs.declared.net.Bit.{Bit}
use Rattle.circuits.specs.declared.net.NetNode.{NetNode}
use Rattle.circuits.specs.declared.net.NetNode.TheVariants.{Input}
use Rattle.circuits.specs.Net.{holds, count_inputs, Fed, Grown, IsIn, Means}
use Rattle.circuits.specs.Numbers.{number, digit, drawn, AreIn, AreTyped, Counts}
use Rattle.circuits.proofs.Nets.{holds-append, inputs-append}
use Rattle.circuits.proofs.Counting.{in_none, snoc, zeros_none, are_in_later}
use Rattle.circuits.proofs.Carrying.{counts_by}
use Rattle.circuits.proofs.Summed.{typed_counts}

pub fed_not : (most : ℕ) (net : List NetNode) → Fed most net net
unfolding count_inputs
fed_not most net = record { more = []; is = sym (append-nil net); inputs = refl; few = omega arith }

pub fed_wider : {j n : ℕ} {old new : List NetNode} → Fed j old new → j ≤ n → Fed n old new
fed_wider {j} {n} {old} {new} f h = record { more = f.more; is = f.is; inputs = f.inputs; few = omega (arith, f.few) }

pub fed_more : {n : ℕ} {old mid new : List NetNode} (k : ℕ) → Fed n old mid → new ≡ mid ++ Input k ∷ [] → Fed (n + 1) old new
unfolding count_inputs
fed_more {n} {old} {mid} {new} k f e = record {
  more = f.more ++ Input k ∷ [];
  is = e ∙ ap (λ l. l ++ Input k ∷ []) f.is ∙ append_assoc old f.more (Input k ∷ []);
  inputs = omega (arith, inputs-append f.more (Input k ∷ []), length-append f.more (Input k ∷ []), f.inputs);
  few = omega (arith, length-append f.more (Input k ∷ []), f.few);
}

-- bits of a net, in that net with further nodes
pub in_more : (net more : List NetNode) (xs : List Bit) → AreIn net xs → AreIn (net ++ more) xs
in_more net more [] h = in_none (λ b. IsIn (net ++ more) b)
in_more net more (x ∷ xs) h =
    let hx : IsIn net x = All-head (λ b. IsIn net b) x xs h in
    All-cons (λ b. IsIn (net ++ more) b) x xs (omega (arith, hx, length-append net more)) (in_more net more xs (All-tail (λ b. IsIn net b) x xs h))

pub number_more : (v : ℕ → Bool) (net more : List NetNode) (xs : List Bit) → AreIn net xs → number v (net ++ more) xs ≡ number v net xs
unfolding number
number_more v net more [] h = refl
number_more v net more (x ∷ xs) h = omega (arith, number_more v net more xs (All-tail (λ b. IsIn net b) x xs h), ap digit (holds-append v net more x (All-head (λ b. IsIn net b) x xs h)))

pub counts_fed : {most n : ℕ} {old new : List NetNode} {xs : List Bit} {f : (ℕ → Bool) → ℕ} → Fed most old new → Counts old xs n f → Counts new xs n f
counts_fed {most} {n} {old} {new} {xs} {f} g c = rw g.is (record { inside = in_more old g.more xs c.inside; wide = c.wide; is = λ v. number_more v old g.more xs c.inside ∙ c.is v })

-- the loop that adds n inputs
pub record Drawing (old new : List NetNode) (out : List Bit) (n : ℕ) : Type 0 where
  pub fed : Fed n old new
  pub all : count_inputs new ≡ count_inputs old + n
  pub counts : Counts new out n (λ v. drawn v (count_inputs old) n)

pub drawing_none : (net : List NetNode) → Drawing net net [] 0
unfolding drawn
drawing_none net = record { fed = fed_not 0 net; all = omega arith; counts = zeros_none net }

more_counts : {net : List NetNode} {out : List Bit} {b : Bit} {n : ℕ} {f : (ℕ → Bool) → ℕ} {g : (ℕ → Bool) → Bool}
    → Counts net out n f → Means net b g → Counts net (out ++ b ∷ []) (n + 1) (λ v. f v + 2 ^ n * digit (g v))
more_counts {net} {out} {b} {n} {f} {g} c m = record {
  inside = All-append (λ b. IsIn net b) out (b ∷ []) c.inside (All-cons (λ b. IsIn net b) b [] m.inside (in_none (λ b. IsIn net b)));
  wide = omega (arith, c.wide, length-append out (b ∷ []));
  is = λ v. snoc v net out b n c.wide ∙ ap (λ x. x + 2 ^ n * digit (holds v net b)) (c.is v) ∙ ap (λ t. f v + 2 ^ n * digit t) (m.is v);
}

drawn_next : (v : ℕ → Bool) (k j n : ℕ) → j ≡ k + n → drawn v k n + 2 ^ n * digit (v j) ≡ drawn v k (n + 1)
unfolding drawn
drawn_next v k j n e = rw (e, add-one n) refl

pub drawing_next : {old mid new : List NetNode} {out : List Bit} {b : Bit} {n : ℕ}
    → Drawing old mid out n → new ≡ mid ++ Input (count_inputs mid) ∷ [] → Means new b (λ v. v (count_inputs mid)) → Drawing old new (out ++ b ∷ []) (n + 1)
unfolding count_inputs
drawing_next {old} {mid} {new} {out} {b} {n} d e m = record {
  fed = fed_more _ d.fed e;
  all = omega (arith, ap count_inputs e, inputs-append mid (Input (count_inputs mid) ∷ []), d.all);
  counts = counts_by (λ v. drawn v (count_inputs old) (n + 1)) (more_counts (counts_fed (fed_more _ (fed_not 0 mid) e) d.counts) m) (λ v. drawn_next v (count_inputs old) (count_inputs mid) n d.all);
}

pub typed_fed : {most : ℕ} {m : DataModel} {ty : IntType} {old new : List NetNode} {xs : List Bit} → Fed most old new → AreTyped m ty old xs → AreTyped m ty new xs
typed_fed {most} {m} {ty} {old} {new} {xs} g a = let c = counts_fed g (typed_counts a) in record { inside = c.inside; wide = c.wide }

pub typed_later : {most : ℕ} {m : DataModel} {ty : IntType} {old new : List NetNode} {xs : List Bit} → Grown most old new → AreTyped m ty old xs → AreTyped m ty new xs
typed_later {most} {m} {ty} {old} {new} {xs} g a = record { inside = are_in_later most old new xs g a.inside; wide = a.wide }
