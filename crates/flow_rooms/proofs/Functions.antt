-- The code of a program has shapes that it keeps right.
use Rattle.std.proofs.Common.{◌≡◌, ◌⊎◌, ◌≤◌, ◌<◌, ℕ, zero, suc, ◌+◌, List, [], ◌∷◌, ◌++◌, length, Some, slice_get, refl, sym, ap, ap₂, ◌∙◌, subst, inl, inr, arith, length-append, append_assoc}
use Rattle.c_core.specs.Tree.{Stm, Stmt, Function, Program}
use Rattle.flow_code.specs.declared.code.Action.TheVariants.{Rest, Leave}
use Rattle.flow_code.specs.declared.code.Body.{Body}
use Rattle.flow_code.specs.declared.code.Op.{Op}
use Rattle.flow_code.specs.Preparing.{followed, op}
use Rattle.flow_code.specs.Programs.{in_function, body_code, function_code, functions_code, parameters_of, bodies}
use Rattle.flow_code.specs.Sizes.{outermost, size_of_form}
use Rattle.flow_code.specs.Statements.{form_code}
use Rattle.flow_code.proofs.Lengths.{followed_size}
use Rattle.flow_laws.proofs.Sized.{form_size}
use Rattle.flow_rooms.specs.Shapes.{Shape, flat, Has, HasAll, Keeps, Kept}
use Rattle.flow_rooms.proofs.Fitting.{IsLow, AreLow, Fits, one, seq, all_parts, kept_on, low_on, relabeled}
use Rattle.flow_rooms.proofs.Operations.{near_itself}
use Rattle.flow_rooms.proofs.Statements.{Ways, form_fits}

-- the code of a function, by its number, has shapes that it keeps right, whatever is around it
pub record Whole (f i : ℕ) (ops : List Op) : Type 0 where
  pub shapes : List Shape
  pub same : length ops ≡ length shapes
  pub enters : (ts : List Shape) → HasAll ts i shapes → Has ts i (flat f 0)
  pub kept : (ts : List Shape) → HasAll ts i shapes → Kept ts i ops shapes
  pub low : AreLow f 0 shapes

-- a body whose way back stands at an address, from its form
whole_body : (f i : ℕ) (ops : List Op) → Fits (λ ts. Has ts (i + length ops) (flat f 0)) i ops (flat f 0) (flat f 0) → Whole f i (ops ++ op 0 Leave ∷ [])
whole_body f i ops a = record {
  shapes = a.shapes ++ flat f 0 ∷ [];
  same = length-append ops (op 0 Leave ∷ []) ∙ ap (λ n. n + 1) a.same ∙ sym (length-append a.shapes (flat f 0 ∷ []));
  enters = λ ts s. let r = all_parts ts i (length ops) a.shapes (flat f 0 ∷ []) a.same s in a.enters ts r.0 r.1.0;
  kept = λ ts s. let r = all_parts ts i (length ops) a.shapes (flat f 0 ∷ []) a.same s in
      kept_on ts i (length ops) ops (op 0 Leave ∷ []) a.shapes (flat f 0 ∷ []) refl a.same (a.kept ts r.1.0 r.0 r.1.0) ((refl, refl), tt);
  low = let r = a.low f 0 (record { function = refl; height = omega arith; scopes = omega arith }) in
      low_on f 0 (length ops) a.shapes (flat f 0 ∷ []) a.same r.0 (r.1, tt);
}

module _ (p : Program) where
  body_whole : (f i : ℕ) (g : Function) (s : Stm) → Whole f i (body_code p i g s)
  body_whole f i g (Stmt at x) =
      let n = size_of_form outermost x in
      let w = in_function p.model (i + 1 + n) g in
      let rest : List Op = op 1 Rest ∷ [] in
      let F = form_code p (i + 1) w at x in
      let y = flat f 0 in
      let leave : i + 1 + n ≡ i + length (rest ++ F) = omega (arith, length-append rest F, form_size p (i + 1) w at x) in
      let L : List Shape → Type 0 = λ ts. Has ts (i + length (rest ++ F)) y in
      whole_body f i (rest ++ F)
      (seq L i rest F y y y (one L i (op 1 Rest) y y (λ ts l e. e) (near_itself y))
      (relabeled (Ways w f 0 0) L (i + 1) F y y (λ ts l. let h = subst (λ j. Has ts j y) (sym leave) l in (h, h)) (form_fits p f (i + 1) w 0 0 at x refl refl)))

  -- the code of a function
  pub function_whole : (f i : ℕ) (g : Function) → Whole f i (function_code p i g)
  function_whole f i g = body_whole f i g g.body

  body_size : (i : ℕ) (g : Function) (s : Stm) → length (body_code p i g s) ≡ length (body_code p 0 g s)
  body_size i g (Stmt at x) = sized i ∙ sym (sized 0)
    where
      sized : (i : ℕ) → length (body_code p i g (Stmt at x)) ≡ 1 + size_of_form outermost x + 1
      sized i =
          let n = size_of_form outermost x in
          let rest : List Op = op 1 Rest ∷ [] in
          let inner = λ (j : ℕ). form_code p j (in_function p.model (j + n) g) at x in
          length-append (followed i rest inner) (op 0 Leave ∷ []) ∙ ap (λ m. m + 1) (followed_size i rest inner 1 n refl (λ j. form_size p j (in_function p.model (j + n) g) at x))

  body_long : (g : Function) (s : Stm) → 1 ≤ length (body_code p 0 g s)
  body_long g (Stmt at x) =
      let w = in_function p.model (0 + 1 + size_of_form outermost x) g in
      omega (arith, length-append (op 1 Rest ∷ form_code p (0 + 1) w at x) (op 0 Leave ∷ []))

  -- it has an operation
  pub function_long : (g : Function) → 1 ≤ length (function_code p 0 g)
  function_long g = body_long g g.body

  -- the code of a function is as long wherever it begins
  pub function_size : (i : ℕ) (g : Function) → length (function_code p i g) ≡ length (function_code p 0 g)
  function_size i g = body_size i g g.body

  -- the shapes of functions, which have numbers from f on
  pub all_shapes : ℕ → ℕ → List Function → List Shape
  all_shapes i f [] = []
  all_shapes i f (g ∷ gs) = (function_whole f i g).shapes ++ all_shapes (i + length (function_code p i g)) (suc f) gs

  pub functions_same : (i f : ℕ) (gs : List Function) → length (functions_code p i gs) ≡ length (all_shapes i f gs)
  unfolding all_shapes
  functions_same i f [] = refl
  functions_same i f (g ∷ gs) =
      let r = function_whole f i g in
      let j = i + length (function_code p i g) in
      length-append (function_code p i g) (functions_code p j gs) ∙ ap₂ ◌+◌ r.same (functions_same j (suc f) gs) ∙ sym (length-append r.shapes (all_shapes j (suc f) gs))

  pub functions_kept : (ts : List Shape) (i f : ℕ) (gs : List Function) → HasAll ts i (all_shapes i f gs) → Kept ts i (functions_code p i gs) (all_shapes i f gs)
  unfolding all_shapes
  functions_kept ts i f [] h = tt
  functions_kept ts i f (g ∷ gs) h =
      let r = function_whole f i g in
      let n = length (function_code p i g) in
      let q = all_parts ts i n r.shapes (all_shapes (i + n) (suc f) gs) r.same h in
      kept_on ts i n (function_code p i g) (functions_code p (i + n) gs) r.shapes (all_shapes (i + n) (suc f) gs) refl r.same (r.kept ts q.0) (functions_kept ts (i + n) (suc f) gs q.1)

  -- a function begins with nothing of its own
  pub functions_enter : (ts : List Shape) (i f : ℕ) (gs : List Function) → HasAll ts i (all_shapes i f gs) → (d : ℕ) (b : Body) → slice_get (bodies p i gs) d ≡ Some b → Has ts b.entry (flat (f + d) 0)
  unfolding all_shapes
  functions_enter ts i f [] h d b e = absurd (cc)
  functions_enter ts i f (g ∷ gs) h zero b e =
      let r = function_whole f i g in
      let n = length (function_code p i g) in
      let q = all_parts ts i n r.shapes (all_shapes (i + n) (suc f) gs) r.same h in
      let same : record { entry = i; parameters = parameters_of p g.params } ≡ b = cc in
      let z : f ≡ f + 0 = omega arith in
      subst (λ (b : Body). Has ts b.entry (flat (f + 0) 0)) same (subst (λ k. Has ts i (flat k 0)) z (r.enters ts q.0))
  functions_enter ts i f (g ∷ gs) h (suc d) b e =
      let r = function_whole f i g in
      let n = length (function_code p i g) in
      let q = all_parts ts i n r.shapes (all_shapes (i + n) (suc f) gs) r.same h in
      let z : suc f + d ≡ f + suc d = omega arith in
      subst (λ k. Has ts b.entry (flat k 0)) z (functions_enter ts (i + n) (suc f) gs q.1 d b e)

-- an operation and its shape, in one part or in the other
parted : (os ps : List Op) (xs ys : List Shape) (d : ℕ) (o : Op) (x : Shape) → length os ≡ length xs → slice_get (os ++ ps) d ≡ Some o → slice_get (xs ++ ys) d ≡ Some x
    → ((slice_get os d ≡ Some o) × (slice_get xs d ≡ Some x)) ⊎ ((e : ℕ) × (slice_get ps e ≡ Some o) × (slice_get ys e ≡ Some x))
parted [] ps [] ys d o x e h k = inr (d, h, k)
parted [] ps (y ∷ xs) ys d o x e h k = absurd (omega (arith, e))
parted (q ∷ os) ps [] ys d o x e h k = absurd (omega (arith, e))
parted (q ∷ os) ps (y ∷ xs) ys zero o x e h k = inl (h, k)
parted (q ∷ os) ps (y ∷ xs) ys (suc d) o x e h k = let z : length os ≡ length xs = omega (arith, e) in parted os ps xs ys d o x z h k

-- a shape that is low before one of the operations
record LowBefore (f n : ℕ) (x : Shape) : Type 0 where
  behind : ℕ
  low : IsLow f behind x
  within : behind < n

low_at : (f n : ℕ) (xs : List Shape) (d : ℕ) (x : Shape) → AreLow f n xs → slice_get xs d ≡ Some x → LowBefore f (n + length xs) x
low_at f n [] d x h e = absurd (cc)
low_at f n (y ∷ xs) zero x h e =
    let same : y ≡ x = cc in
    record { behind = n; low = subst (IsLow f n) same h.0; within = omega arith }
low_at f n (y ∷ xs) (suc d) x h e =
    let z : suc n + length xs ≡ n + suc (length xs) = omega arith in
    subst (λ m. LowBefore f m x) z (low_at f (suc n) xs d x h.1 e)

-- an operation and its shape stand in the code of the function with this number, and are low there
pub record IsOwned (p : Program) (gs : List Function) (f : ℕ) (o : Op) (x : Shape) : Type 0 where
  pub number : ℕ
  pub function : Function
  pub found : slice_get gs number ≡ Some function
  pub start : ℕ
  pub place : ℕ
  pub operation : slice_get (function_code p start function) place ≡ Some o
  pub is : x.function ≡ f + number
  pub behind : ℕ
  pub low : IsLow x.function behind x
  pub within : behind < length (function_code p 0 function)

module _ (p : Program) where
  pub functions_own : (i f : ℕ) (gs : List Function) (d : ℕ) (o : Op) (x : Shape) → slice_get (functions_code p i gs) d ≡ Some o → slice_get (all_shapes p i f gs) d ≡ Some x → IsOwned p gs f o x
  unfolding all_shapes
  functions_own i f [] d o x h k = absurd (cc)
  functions_own i f (g ∷ gs) d o x h k =
      let r = function_whole p f i g in
      let j = i + length (function_code p i g) in
      let A = (slice_get (function_code p i g) d ≡ Some o) × (slice_get r.shapes d ≡ Some x) in
      let B = (e : ℕ) × (slice_get (functions_code p j gs) e ≡ Some o) × (slice_get (all_shapes p j (suc f) gs) e ≡ Some x) in
      elim (parted (function_code p i g) (functions_code p j gs) r.shapes (all_shapes p j (suc f) gs) d o x r.same h k) as (λ (u : A ⊎ B). IsOwned p (g ∷ gs) f o x) [
        | inl a ↦
            let l = low_at f 0 r.shapes d x r.low a.1 in
            let z : x.function ≡ f + 0 = omega (arith, l.low.function) in
            let m : 0 + length r.shapes ≡ length (function_code p 0 g) = omega (arith, r.same, function_size p i g) in
            record {
              number = 0;
              function = g;
              found = refl;
              start = i;
              place = d;
              operation = a.0;
              is = z;
              behind = l.behind;
              low = subst (λ n. IsLow n l.behind x) (sym l.low.function) l.low;
              within = subst (λ n. l.behind < n) m l.within;
            }
        | inr b ↦
            let q = functions_own j (suc f) gs b.0 o x b.1 b.2 in
            let z : x.function ≡ f + suc q.number = omega (arith, q.is) in
            record { number = suc q.number; function = q.function; found = q.found; start = q.start; place = q.place; operation = q.operation; is = z; behind = q.behind; low = q.low; within = q.within }
      ]

-- a list of shapes shows its own
pub shown_behind : (before xs : List Shape) → HasAll (before ++ xs) (length before) xs
shown_behind before [] = tt
shown_behind before (x ∷ xs) =
    let n : length before + 1 ≡ suc (length before) = omega arith in
    (here before x xs, subst (λ i. HasAll (before ++ x ∷ xs) i xs) (length-append before (x ∷ []) ∙ n) (subst (λ ts. HasAll ts (length (before ++ x ∷ [])) xs) (append_assoc before (x ∷ []) xs) (shown_behind (before ++ x ∷ []) xs)))
  where
    here : (before : List Shape) (x : Shape) (xs : List Shape) → slice_get (before ++ x ∷ xs) (length before) ≡ Some x
    here [] x xs = refl
    here (y ∷ before) x xs = here before x xs

-- each of some operations keeps the shapes right
pub kept_at : (ts : List Shape) (i : ℕ) (os : List Op) (xs : List Shape) → Kept ts i os xs → (d : ℕ) (o : Op) (x : Shape) → slice_get os d ≡ Some o → slice_get xs d ≡ Some x → Keeps ts (suc (i + d)) o.action x
kept_at ts i [] xs h d o x e g = absurd (cc)
kept_at ts i (q ∷ os) [] h d o x e g = absurd h
kept_at ts i (q ∷ os) (y ∷ xs) h zero o x e g =
    let a : q ≡ o = cc in
    let b : y ≡ x = cc in
    let z : i ≡ i + 0 = omega arith in
    subst (λ j. Keeps ts (suc j) o.action x) z (subst (λ w. Keeps ts (suc i) o.action w) b (subst (λ (u : Op). Keeps ts (suc i) u.action y) a h.0))
kept_at ts i (q ∷ os) (y ∷ xs) h (suc d) o x e g =
    let z : suc i + d ≡ i + suc d = omega arith in
    subst (λ j. Keeps ts (suc j) o.action x) z (kept_at ts (suc i) os xs h.1 d o x e g)
