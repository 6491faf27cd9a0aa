-- Code that keeps shapes right, put together from its parts.
use Rattle.std.proofs.Common.{◌≡◌, ◌≤◌, ℕ, zero, suc, ◌+◌, List, [], ◌∷◌, ◌++◌, length, refl, sym, ap₂, ◌∙◌, subst, arith, length-append}
use Rattle.flow_code.specs.declared.code.Op.{Op}
use Rattle.flow_rooms.specs.Shapes.{Shape, Has, HasAll, Keeps, Kept}

-- before an operation of a function that stands so far behind its start
pub record IsLow (f n : ℕ) (x : Shape) : Type 0 where
  pub function : x.function ≡ f
  pub height : x.height ≤ n + n
  pub scopes : x.scopes ≤ n

-- the same for each operation from there on
abbrev pub AreLow : ℕ → ℕ → List Shape → Type 0
AreLow f n [] = Unit {0}
AreLow f n (x ∷ xs) = IsLow f n x × AreLow f (suc n) xs

-- one operation leads from a shape to another at most
pub record IsNear (x y : Shape) : Type 0 where
  pub function : y.function ≡ x.function
  pub height : y.height ≤ suc (suc x.height)
  pub scopes : y.scopes ≤ suc x.scopes

-- operations of an address have shapes that they keep right, of which the first is known, and the one behind them, wherever the labels that
-- they lead to have the right shapes
pub record Fits (labels : List Shape → Type 0) (i : ℕ) (ops : List Op) (x y : Shape) : Type 0 where
  pub shapes : List Shape
  pub same : length ops ≡ length shapes
  pub enters : (ts : List Shape) → HasAll ts i shapes → Has ts (i + length ops) y → Has ts i x
  pub kept : (ts : List Shape) → labels ts → HasAll ts i shapes → Has ts (i + length ops) y → Kept ts i ops shapes
  pub low : (f n : ℕ) → IsLow f n x → AreLow f n shapes × IsLow f (n + length ops) y

near_low : (f n : ℕ) (x y : Shape) → IsNear x y → IsLow f n x → IsLow f (suc n) y
near_low f n x y h l = record { function = h.function ∙ l.function; height = omega (arith, h.height, l.height); scopes = omega (arith, h.scopes, l.scopes) }

one_behind : (n : ℕ) → suc n ≡ n + 1
one_behind n = omega arith

-- an operation
pub one : (labels : List Shape → Type 0) (i : ℕ) (o : Op) (x y : Shape) → ((ts : List Shape) → labels ts → Has ts (suc i) y → Keeps ts (suc i) o.action x) → IsNear x y
    → Fits labels i (o ∷ []) x y
one labels i o x y h near = record {
  shapes = x ∷ [];
  same = refl;
  enters = λ ts s e. s.0;
  kept = λ ts l s e. (h ts l (subst (λ j. Has ts j y) (sym (one_behind i)) e), tt);
  low = λ f n l. ((l, tt), subst (λ j. IsLow f j y) (one_behind n) (near_low f n x y near l));
}

-- no operation
pub nothing : (labels : List Shape → Type 0) (i : ℕ) (x : Shape) → Fits labels i [] x x
nothing labels i x = record {
  shapes = [];
  same = refl;
  enters = λ ts s e. subst (λ j. Has ts j x) (none_behind i) e;
  kept = λ ts l s e. tt;
  low = λ f n l. (tt, subst (λ j. IsLow f j x) (sym (none_behind n)) l);
}
  where
    none_behind : (n : ℕ) → n + 0 ≡ n
    none_behind n = omega arith

pub all_parts : (ts : List Shape) (i n : ℕ) (xs ys : List Shape) → n ≡ length xs → HasAll ts i (xs ++ ys) → HasAll ts i xs × HasAll ts (i + n) ys
all_parts ts i n [] ys e h = let z : i ≡ i + n = omega (arith, e) in (tt, subst (λ j. HasAll ts j ys) z h)
all_parts ts i zero (x ∷ xs) ys e h = absurd (omega (arith, e))
all_parts ts i (suc n) (x ∷ xs) ys e h =
    let f : n ≡ length xs = omega (arith, e) in
    let z : suc i + n ≡ i + suc n = omega arith in
    let r = all_parts ts (suc i) n xs ys f h.1 in
    ((h.0, r.0), subst (λ j. HasAll ts j ys) z r.1)

pub kept_on : (ts : List Shape) (i n : ℕ) (os ps : List Op) (xs ys : List Shape) → n ≡ length os → length os ≡ length xs → Kept ts i os xs → Kept ts (i + n) ps ys → Kept ts i (os ++ ps) (xs ++ ys)
kept_on ts i n [] ps [] ys e g h k = let z : i + n ≡ i = omega (arith, e) in subst (λ j. Kept ts j ps ys) z k
kept_on ts i n [] ps (x ∷ xs) ys e g h k = absurd (omega (arith, g))
kept_on ts i n (o ∷ os) ps [] ys e g h k = absurd (omega (arith, g))
kept_on ts i zero (o ∷ os) ps (x ∷ xs) ys e g h k = absurd (omega (arith, e))
kept_on ts i (suc n) (o ∷ os) ps (x ∷ xs) ys e g h k =
    let z : i + suc n ≡ suc i + n = omega arith in
    let d : n ≡ length os = omega (arith, e) in
    let w : length os ≡ length xs = omega (arith, g) in
    (h.0, kept_on ts (suc i) n os ps xs ys d w h.1 (subst (λ j. Kept ts j ps ys) z k))

pub low_on : (f n m : ℕ) (xs ys : List Shape) → m ≡ length xs → AreLow f n xs → AreLow f (n + m) ys → AreLow f n (xs ++ ys)
low_on f n m [] ys e h k = let z : n + m ≡ n = omega (arith, e) in subst (λ j. AreLow f j ys) z k
low_on f n zero (x ∷ xs) ys e h k = absurd (omega (arith, e))
low_on f n (suc m) (x ∷ xs) ys e h k =
    let z : n + suc m ≡ suc n + m = omega arith in
    let d : m ≡ length xs = omega (arith, e) in
    (h.0, low_on f (suc n) m xs ys d h.1 (subst (λ j. AreLow f j ys) z k))

-- what is behind two parts
both_behind : (i : ℕ) (os ps : List Op) → i + length (os ++ ps) ≡ i + length os + length ps
both_behind i os ps = omega (arith, length-append os ps)

module _ (before behind labels : List Shape → Type 0) (i : ℕ) (os ps : List Op) (x y z : Shape) (a : Fits before i os x y) (b : Fits behind (i + length os) ps y z) where
  abbrev First : Type 0
  First = (ts : List Shape) → labels ts → HasAll ts (i + length os) b.shapes → Has ts (i + length os + length ps) z → before ts

  abbrev Second : Type 0
  Second = (ts : List Shape) → labels ts → HasAll ts i a.shapes → Has ts (i + length os) y → Has ts (i + length os + length ps) z → behind ts

  pub seq_enters : (ts : List Shape) → HasAll ts i (a.shapes ++ b.shapes) → Has ts (i + length (os ++ ps)) z → Has ts i x
  seq_enters ts s e =
      let r = all_parts ts i (length os) a.shapes b.shapes a.same s in
      a.enters ts r.0 (b.enters ts r.1 (subst (λ j. Has ts j z) (both_behind i os ps) e))

  -- the shape between both
  pub seq_middle : (ts : List Shape) → HasAll ts i (a.shapes ++ b.shapes) → Has ts (i + length (os ++ ps)) z → Has ts (i + length os) y
  seq_middle ts s e = b.enters ts (all_parts ts i (length os) a.shapes b.shapes a.same s).1 (subst (λ j. Has ts j z) (both_behind i os ps) e)

  pub seq_kept : First → Second → (ts : List Shape) → labels ts → HasAll ts i (a.shapes ++ b.shapes) → Has ts (i + length (os ++ ps)) z → Kept ts i (os ++ ps) (a.shapes ++ b.shapes)
  seq_kept first second ts l s e =
      let r = all_parts ts i (length os) a.shapes b.shapes a.same s in
      let end = subst (λ j. Has ts j z) (both_behind i os ps) e in
      let middle = b.enters ts r.1 end in
      kept_on ts i (length os) os ps a.shapes b.shapes refl a.same (a.kept ts (first ts l r.1 end) r.0 middle) (b.kept ts (second ts l r.0 middle end) r.1 end)

  pub seq_low : (f n : ℕ) → IsLow f n x → AreLow f n (a.shapes ++ b.shapes) × IsLow f (n + length (os ++ ps)) z
  seq_low f n l =
      let r = a.low f n l in
      let q = b.low f (n + length os) r.1 in
      (low_on f n (length os) a.shapes b.shapes a.same r.0 q.0, subst (λ j. IsLow f j z) (sym (both_behind n os ps)) q.1)

  pub seq_same : length (os ++ ps) ≡ length (a.shapes ++ b.shapes)
  seq_same = length-append os ps ∙ ap₂ ◌+◌ a.same b.same ∙ sym (length-append a.shapes b.shapes)

  -- a part behind another: the labels of each are among those of both, and the places that the other part shows
  abbrev pub joined : First → Second → Fits labels i (os ++ ps) x z
  joined first second = record {
    shapes = a.shapes ++ b.shapes;
    same = seq_same;
    enters = seq_enters;
    kept = seq_kept first second;
    low = seq_low;
  }

-- a part behind another, with the same labels
pub seq : (labels : List Shape → Type 0) (i : ℕ) (os ps : List Op) (x y z : Shape) → Fits labels i os x y → Fits labels (i + length os) ps y z → Fits labels i (os ++ ps) x z
seq labels i os ps x y z a b = joined labels labels labels i os ps x y z a b (λ ts l s e. l) (λ ts l s m e. l)

-- a part that leads to no label
abbrev pub Free : List Shape → Type 0
Free ts = Unit {0}

-- a part with other labels
pub relabeled : (labels others : List Shape → Type 0) (i : ℕ) (os : List Op) (x y : Shape) → ((ts : List Shape) → others ts → labels ts) → Fits labels i os x y → Fits others i os x y
relabeled labels others i os x y g a = record {
  shapes = a.shapes;
  same = a.same;
  enters = a.enters;
  kept = λ ts l. a.kept ts (g ts l);
  low = a.low;
}
