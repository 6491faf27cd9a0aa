-- The code of a statement keeps shapes right: behind it there are as many values and scopes as before it.
use Rattle.std.proofs.Common.{◌≡◌, ℕ, zero, suc, ◌+◌, Bool, true, false, List, [], ◌∷◌, ◌++◌, length, Option, Some, None, refl, sym, ap, subst, arith, length-append, append_assoc}
use Rattle.c_core.specs.Tree.{Exp, Expr, Exps, NoExp, MoreExp, Init, Absent, One, Many, Rows, Names, NoName, MoreName, First, NoFirst, FirstExp, FirstNames, Stm, Stmt, Form, Empty, Do, Declare, Block, If, While, DoWhile, For, Break, Continue, Return, Label, Switch, NoElse, OrElse, Stms, NoStm, MoreStm, MoreCase, Program}
use Rattle.c_core.specs.Types.{promote_of}
use Rattle.c_core.specs.Typing.{is_default, labels_in}
use Rattle.c_core.specs.declared.number.IntType.{IntType}
use Rattle.c_core.specs.declared.number.Spot.{Spot}
use Rattle.c_core.specs.declared.tree.Label.{Label as ArmLabel}
use Rattle.c_meaning.specs.Meaning.{Used, Unused}
use Rattle.c_meaning.specs.Objects.{type_of, type_of_object, size_of_object, columns_of_object}
use Rattle.c_meaning.specs.Run.{first_label, arm_for}
use Rattle.flow_code.specs.declared.code.Action.TheVariants.{Arrive, Convert, Jump, Select, Open, Close, Leave, Declare as DeclareOf, Return as ReturnOf}
use Rattle.flow_code.specs.declared.code.Op.{Op}
use Rattle.flow_code.specs.declared.code.Place.TheVariants.{Fixed}
use Rattle.flow_code.specs.declared.code.Then.TheVariants.{Push, Drop, Branch}
use Rattle.flow_code.specs.declared.sizes.Depth.{Depth}
use Rattle.flow_code.specs.declared.statements.Inside.{Inside}
use Rattle.flow_code.specs.Expressions.{code}
use Rattle.flow_code.specs.Preparing.{followed, op, only, stored_in, scope, all_closed}
use Rattle.flow_code.specs.Sizes.{operand_of, size, size_if, size_of_test, size_of_statement, size_of_arm, size_of_arms, one_if, leaks, any_leaks, first_leaks, in_turn}
use Rattle.flow_code.specs.Statements.{full_of, deeper, in_loop, in_switch, jump_out, leaving, draws, arm_at, with_cases, selection_code, switch_test_code, initial_code, initials_code, rows_code, init_code, name_code, names_code, first_code, only_if, test_code, return_code, turns, statement_code, form_code, block_code, arm_code, turns_code, arms_code}
use Rattle.flow_code.specs.Words.{native}
use Rattle.flow_code.proofs.Lengths.{code_size}
use Rattle.flow_laws.proofs.Selecting.{chosen_arm}
use Rattle.flow_laws.proofs.Sized.{switch_test_size, only_size, test_size, statement_size, form_size, arm_size}
use Rattle.flow_rooms.specs.Shapes.{Shape, flat, Has, HasAll}
use Rattle.flow_rooms.proofs.Fitting.{Fits, one, nothing, joined, seq, seq_middle, all_parts, Free, relabeled}
use Rattle.flow_rooms.proofs.Operations.{under_itself, near_itself, plain, operand_fits, away}
use Rattle.flow_rooms.proofs.Expressions.{code_fits, stored_fits}

-- a function with so many values and scopes
abbrev with_open : ℕ → ℕ → ℕ → Shape
with_open f h n = record { function = f; height = h; scopes = n }

-- so many scopes end
closes : (labels : List Shape → Type 0) (i f h n k m : ℕ) → k ≡ n + m → Fits labels i (all_closed n) (with_open f h k) (with_open f h m)
closes labels i f h zero k m e = let z : k ≡ m = omega (arith, e) in subst (λ l. Fits labels i [] (with_open f h k) (with_open f h l)) z (nothing labels i (with_open f h k))
closes labels i f h (suc n) zero m e = absurd (omega (arith, e))
closes labels i f h (suc n) (suc k) m e =
    let d : k ≡ n + m = omega (arith, e) in
    let close : List Op = op 0 Close ∷ [] in
    seq labels i close (all_closed n) (with_open f h (suc k)) (with_open f h k) (with_open f h m)
    (one labels i (op 0 Close) (with_open f h (suc k)) (with_open f h k) (λ ts l e. e) (record { function = refl; height = omega arith; scopes = omega arith }))
    (closes labels (i + 1) f h n k m d)

-- a part at an address that is another's
moved : (labels : List Shape → Type 0) (i j : ℕ) (ops : List Op) (x y : Shape) → i ≡ j → Fits labels i ops x y → Fits labels j ops x y
moved labels i j ops x y e a = subst (λ l. Fits labels l ops x y) e a

-- a scope, where it is there, around operations that take values from the stack
scope_over : (b : Bool) (labels : List Shape → Type 0) (i : ℕ) (g : ℕ → List Op) (f h n : ℕ) → ((j : ℕ) → Fits labels j (g j) (with_open f h (n + one_if b)) (flat f (n + one_if b)))
    → Fits labels i (scope b i g) (with_open f h n) (flat f n)
scope_over true labels i g f h n a =
    let e : n + 1 ≡ suc n = omega arith in
    let begin : List Op = op 0 Open ∷ [] in
    let inner = subst (λ m. Fits labels (i + 1) (g (i + 1)) (with_open f h m) (flat f m)) e (a (i + 1)) in
    seq labels i (followed i begin g) (op 0 Close ∷ []) (with_open f h n) (flat f (suc n)) (flat f n)
    (seq labels i begin (g (i + 1)) (with_open f h n) (with_open f h (suc n)) (flat f (suc n))
    (one labels i (op 0 Open) (with_open f h n) (with_open f h (suc n)) (λ ts l e. e) (record { function = refl; height = omega arith; scopes = omega arith })) inner)
    (one labels (i + length (followed i begin g)) (op 0 Close) (flat f (suc n)) (flat f n) (λ ts l e. e) (record { function = refl; height = omega arith; scopes = omega arith }))
scope_over false labels i g f h n a =
    let e : n + 0 ≡ n = omega arith in
    let z : i + 0 ≡ i = omega arith in
    let inner = subst (λ m. Fits labels (i + 0) (g (i + 0)) (with_open f h m) (flat f m)) e (a (i + 0)) in
    seq labels i (g (i + 0)) [] (with_open f h n) (flat f n) (flat f n) (moved labels (i + 0) i (g (i + 0)) (with_open f h n) (flat f n) z inner) (nothing labels (i + length (g (i + 0))) (flat f n))

-- the same where they take none
scope_fits : (b : Bool) (labels : List Shape → Type 0) (i : ℕ) (g : ℕ → List Op) (f n : ℕ) → ((j : ℕ) → Fits labels j (g j) (flat f (n + one_if b)) (flat f (n + one_if b)))
    → Fits labels i (scope b i g) (flat f n) (flat f n)
scope_fits b labels i g f n a = scope_over b labels i g f 0 n a

-- where the arms of a switch begin, from the address of the first statement on
abbrev AtArms : Depth → ℕ → Stms → Shape → List Shape → Type 0
AtArms d to b y ts = (n : ℕ) → Has ts (arm_at d to n b) y

-- a block's operations keep shapes right, and its arms begin with the shape that is before and after it
pub record FitsArms (labels : List Shape → Type 0) (d : Depth) (i : ℕ) (ops : List Op) (y : Shape) (b : Stms) : Type 0 where
  pub fits : Fits labels i ops y y
  pub arms : (n : ℕ) (ts : List Shape) → HasAll ts i fits.shapes → Has ts (i + length ops) y → Has ts (arm_at d i n b) y

no_arms : (labels : List Shape → Type 0) (d : Depth) (i : ℕ) (y : Shape) → FitsArms labels d i [] y NoStm
no_arms labels d i y =
    let z : i + 0 ≡ i = omega arith in
    record { fits = nothing labels i y; arms = λ n ts s e. subst (λ k. Has ts k y) z e }

behind_arm : (labels : List Shape → Type 0) (d : Depth) (i : ℕ) (os ps : List Op) (y : Shape) (s : Stm) (b : Stms) → length os ≡ size_of_statement d s → Fits labels i os y y
    → FitsArms labels d (i + length os) ps y b → FitsArms labels d i (os ++ ps) y (MoreStm s b)
behind_arm labels d i os ps y s b sized a rest =
    let z : i + length (os ++ ps) ≡ i + length os + length ps = omega (arith, length-append os ps) in
    record {
      fits = joined labels labels labels i os ps y y y a rest.fits (λ ts l q e. l) (λ ts l q m e. l);
      arms = λ n ts q e. subst (λ k. Has ts (arm_at d (i + k) n b) y) sized (rest.arms n ts (all_parts ts i (length os) a.shapes rest.fits.shapes a.same q).1 (subst (λ k. Has ts k y) z e));
    }

one_arm : (labels : List Shape → Type 0) (d : Depth) (i : ℕ) (ops : List Op) (y : Shape) (spot : Spot) (l : ArmLabel) (b : Stms) → FitsArms labels d i ops y b → FitsArms labels d i ops y (MoreCase spot l b)
one_arm labels d i ops y spot l b rest = record { fits = rest.fits; arms = by }
  where
    by : (n : ℕ) (ts : List Shape) → HasAll ts i rest.fits.shapes → Has ts (i + length ops) y → Has ts (arm_at d i n (MoreCase spot l b)) y
    by zero ts q e = rest.fits.enters ts q e
    by (suc n) ts q e = rest.arms n ts q e

-- the addresses at which `break` and `continue` go on
abbrev pub Ways : Inside → ℕ → ℕ → ℕ → List Shape → Type 0
Ways w f outer around ts = Has ts w.broken (flat f outer) × Has ts w.again (flat f around)

module _ (p : Program) (f : ℕ) where
  -- an expression whose value is not used
  only_fits : (labels : List Shape → Type 0) (i : ℕ) (at : Spot) (e : Exp) (n : ℕ) → Fits labels i (code p (full_of at e) i 0 Unused e Drop) (flat f n) (flat f n)
  only_fits labels i at e n =
      relabeled Free labels i (code p (full_of at e) i 0 Unused e Drop) (flat f n) (flat f n) (λ ts l. tt) (code_fits p (full_of at e) i 0 Unused e Drop (flat f n))

  initial_fits : (i : ℕ) (at : Spot) (o j : ℕ) (e : Exp) (n : ℕ) → Fits Free i (initial_code p i at o j e) (flat f n) (flat f n)
  initial_fits i at o j (Expr s u m) n =
      stored_fits p (record { statement = at; full = s }) i 0 (Expr s u m) (stored_in (Fixed o j) (native p.model (type_of_object p o)) false Drop) (flat f n)

  initials_fits : (i : ℕ) (at : Spot) (o j : ℕ) (es : Exps) (n : ℕ) → Fits Free i (initials_code p i at o j es) (flat f n) (flat f n)
  initials_fits i at o j NoExp n = nothing Free i (flat f n)
  initials_fits i at o j (MoreExp e es) n =
      let A = initial_code p i at o j e in
      seq Free i A (initials_code p (i + length A) at o (j + 1) es) (flat f n) (flat f n) (flat f n) (initial_fits i at o j e n) (initials_fits (i + length A) at o (j + 1) es n)

  rows_fit : (i : ℕ) (at : Spot) (o j : ℕ) (rows : List Exps) (n : ℕ) → Fits Free i (rows_code p i at o j rows) (flat f n) (flat f n)
  rows_fit i at o j [] n = nothing Free i (flat f n)
  rows_fit i at o j (es ∷ rows) n =
      let A = initials_code p i at o j es in
      seq Free i A (rows_code p (i + length A) at o (j + columns_of_object p o) rows) (flat f n) (flat f n) (flat f n) (initials_fits i at o j es n) (rows_fit (i + length A) at o (j + columns_of_object p o) rows n)

  init_fits : (i : ℕ) (at : Spot) (o : ℕ) (j : Init) (n : ℕ) → Fits Free i (init_code p i at o j) (flat f n) (flat f n)
  init_fits i at o Absent n = nothing Free i (flat f n)
  init_fits i at o (One e) n = initial_fits i at o 0 e n
  init_fits i at o (Many es) n = initials_fits i at o 0 es n
  init_fits i at o (Rows rows) n = rows_fit i at o 0 rows n

  name_fits : (i : ℕ) (at spot : Spot) (o : ℕ) (j : Init) (n : ℕ) → Fits Free i (name_code p i at spot o j) (flat f n) (flat f n)
  name_fits i at spot o j n =
      let declare = op (size_of_object p o) (DeclareOf spot o (size_of_object p o) (type_of_object p o) (draws j)) in
      seq Free i (declare ∷ []) (init_code p (i + 1) at o j) (flat f n) (flat f n) (flat f n)
      (one Free i declare (flat f n) (flat f n) (λ ts l e. e) (near_itself (flat f n))) (init_fits (i + 1) at o j n)

  names_fits : (i : ℕ) (at : Spot) (ns : Names) (n : ℕ) → Fits Free i (names_code p i at ns) (flat f n) (flat f n)
  names_fits i at NoName n = nothing Free i (flat f n)
  names_fits i at (MoreName spot o j ns) n =
      let A = name_code p i at spot o j in
      seq Free i A (names_code p (i + length A) at ns) (flat f n) (flat f n) (flat f n) (name_fits i at spot o j n) (names_fits (i + length A) at ns n)

  first_fits : (i : ℕ) (at : Spot) (x : First) (n : ℕ) → Fits Free i (first_code p i at x) (flat f n) (flat f n)
  first_fits i at NoFirst n = nothing Free i (flat f n)
  first_fits i at (FirstExp e) n = only_fits Free i at e n
  first_fits i at (FirstNames ns) n = names_fits i at ns n

  only_if_fits : (labels : List Shape → Type 0) (i : ℕ) (at : Spot) (e : Option Exp) (n : ℕ) → Fits labels i (only_if p i at e) (flat f n) (flat f n)
  only_if_fits labels i at None n = nothing labels i (flat f n)
  only_if_fits labels i at (Some e) n = only_fits labels i at e n

  -- a jump within a statement
  jump_fits : (to i n : ℕ) → Fits (λ ts. Has ts to (flat f n)) i (op 0 (Jump to) ∷ []) (flat f n) (flat f n)
  jump_fits to i n = one (λ ts. Has ts to (flat f n)) i (op 0 (Jump to)) (flat f n) (flat f n) (λ ts l e. l) (near_itself (flat f n))

  -- a loop's test
  test_fits : (i : ℕ) (at : Spot) (e : Option Exp) (to n : ℕ) → Fits (λ ts. Has ts to (flat f n)) i (test_code p i at e to) (flat f n) (flat f n)
  test_fits i at None to n = jump_fits to i n
  test_fits i at (Some e) to n = code_fits p (full_of at e) i 0 Used e (Branch at true to) (flat f n)

  -- a jump out of so many scopes
  out_fits : (i n m k to : ℕ) → k ≡ n + m → Fits (λ ts. Has ts to (flat f m)) i (jump_out n to) (flat f k) (flat f k)
  out_fits i n m k to e =
      let L : List Shape → Type 0 = λ ts. Has ts to (flat f m) in
      away L i (all_closed n) (op 0 (Jump to)) (flat f k) (flat f m) (flat f k) (closes L i f 0 n k m e) (λ ts l. l) (under_itself (flat f k))

  -- a way out of the function
  leaving_fits : (i n : ℕ) → Fits Free i (leaving n) (flat f n) (flat f n)
  leaving_fits i n =
      let e : n ≡ n + 0 = omega arith in
      away Free i (all_closed n) (op 0 Leave) (flat f n) (flat f 0) (flat f n) (closes Free i f 0 n n 0 e) (λ ts l. (refl, refl)) (under_itself (flat f n))

  return_fits : (i : ℕ) (at : Spot) (ty : Option IntType) (e : Exp) (n : ℕ) → Fits Free i (return_code p i at ty e n) (flat f n) (flat f n)
  return_fits i at ty e n =
      let z : n ≡ n + 0 = omega arith in
      let value = code p (full_of at e) i 0 Used e Push in
      away Free i (value ++ all_closed n) (op 0 (ReturnOf ty)) (flat f n) (with_open f 1 0) (flat f n)
      (seq Free i value (all_closed n) (flat f n) (with_open f 1 n) (with_open f 1 0) (code_fits p (full_of at e) i 0 Used e Push (flat f n)) (closes Free (i + length value) f 1 n n 0 z))
      (λ ts l. (refl, refl)) (under_itself (flat f n))

  -- a part that leads to no label
  freed : (labels : List Shape → Type 0) (i : ℕ) (ops : List Op) (n : ℕ) → Fits Free i ops (flat f n) (flat f n) → Fits labels i ops (flat f n) (flat f n)
  freed labels i ops n a = relabeled Free labels i ops (flat f n) (flat f n) (λ ts l. tt) a

  -- the turns of a loop, around its body
  turns_fits : (i head again broken m : ℕ) (at : Spot) (e s : Option Exp) (body : ℕ → List Op) (n : ℕ) → length (body (i + 1)) ≡ m → again ≡ i + 1 + m → head ≡ again + size_if s → broken ≡ head + size_of_test e
      → Fits (λ ts. Has ts broken (flat f n) × Has ts again (flat f n)) (i + 1) (body (i + 1)) (flat f n) (flat f n)
      → Fits Free i (turns p i (i + 1) head at e s body) (flat f n) (flat f n)
  turns_fits i head again broken m at e s body n size is_again is_head is_broken a =
      let x = flat f n in
      let A = body (i + 1) in
      let J : List Op = op 0 (Jump head) ∷ [] in
      let Both : List Shape → Type 0 = λ ts. Has ts broken x × Has ts again x in
      let L : List Shape → Type 0 = λ ts. Has ts head x × Has ts broken x × Has ts again x in
      let K : List Shape → Type 0 = λ ts. Has ts head x × Has ts broken x in
      let j = relabeled (λ ts. Has ts head x) L i J x x (λ ts l. l.0) (jump_fits head i n) in
      let b = relabeled Both L (i + 1) A x x (λ ts l. (l.1, l.2)) a in
      let turn = joined L L L i J A x x x j b (λ ts l s e. l) (λ ts l s m e. l) in
      let S = only_if p (i + length (J ++ A)) at s in
      let g = only_if_fits K (i + length (J ++ A)) at s n in
      let T = test_code p (i + length ((J ++ A) ++ S)) at e (i + 1) in
      let t = test_fits (i + length ((J ++ A) ++ S)) at e (i + 1) n in
      let first = length-append J A in
      let second = length-append (J ++ A) S in
      let third = only_size p (i + length (J ++ A)) at s in
      let last = test_size p (i + length ((J ++ A) ++ S)) at e (i + 1) in
      let c : i + length (J ++ A) ≡ again = omega (arith, first, size, is_again) in
      let d : i + length ((J ++ A) ++ S) ≡ head = omega (arith, c, second, third, is_head) in
      let h : i + length ((J ++ A) ++ S) + length T ≡ broken = omega (arith, d, last, is_broken) in
      let turns = joined L K K i (J ++ A) S x x x turn g (λ ts l q end. (l.0, l.1, subst (λ k. Has ts k x) c (g.enters ts q end))) (λ ts l q m end. l) in
      joined K (λ ts. Has ts (i + 1) x) Free i ((J ++ A) ++ S) T x x x turns t
      (λ ts l q end. (subst (λ k. Has ts k x) d (t.enters ts q end), subst (λ k. Has ts k x) h end))
      (λ ts l q middle end. seq_middle L L L i J A x x x j b ts (all_parts ts i (length (J ++ A)) turn.shapes g.shapes turn.same q).0 (seq_middle L K K i (J ++ A) S x x x turn g ts q middle))

  -- the value on the stack chooses an arm
  selection_fits : (d : Depth) (at : Spot) (i to n : ℕ) (b : Stms) → Fits (AtArms d to b (flat f n)) i (selection_code d at to b) (with_open f 1 n) (flat f n)
  selection_fits d at i to n b =
      let default = first_label is_default (labels_in b) in
      let choice = op 0 (Select at (with_cases [] d to b) (arm_at d to default b)) in
      one (AtArms d to b (flat f n)) i choice (with_open f 1 n) (flat f n) (λ ts l e v. subst (λ j. Has ts j (flat f n)) (sym (chosen_arm v d to b)) (l (arm_for v (labels_in b))))
      (record { function = refl; height = omega arith; scopes = omega arith })

  -- the arms of a `switch`, after the operation that chooses one
  arms_fit : (i : ℕ) (v : Inside) (outer around : ℕ) (at : Spot) (b : Stms)
      → FitsArms (Ways v f outer around) v.depth (i + 1) (block_code p (i + 1) v b) (flat f v.depth.scopes) b
      → Fits (Ways v f outer around) i (arms_code p i v at b) (with_open f 1 v.depth.scopes) (flat f v.depth.scopes)
  arms_fit i v outer around at b rest =
      let n = v.depth.scopes in
      let to = i + 1 in
      let C = selection_code v.depth at to b in
      let here : to ≡ i + length C = refl in
      let L = Ways v f outer around in
      let block = λ (k : ℕ). block_code p k v b in
      let moved_rest = subst (λ k. FitsArms L v.depth k (block k) (flat f n) b) here rest in
      joined (AtArms v.depth to b (flat f n)) L L i C (block (i + length C)) (with_open f 1 n) (flat f n) (flat f n) (selection_fits v.depth at i to n b) moved_rest.fits
      (λ ts l q last m. subst (λ k. Has ts (arm_at v.depth k m b) (flat f n)) (sym here) (moved_rest.arms m ts q last)) (λ ts l q middle last. l)

  mutual
    pub statement_fits : (i : ℕ) (w : Inside) (outer around : ℕ) (s : Stm) → w.depth.scopes ≡ w.depth.inner + outer → w.depth.scopes ≡ w.depth.turn + around → Fits (Ways w f outer around) i (statement_code p i w s) (flat f w.depth.scopes) (flat f w.depth.scopes)
    statement_fits i w outer around (Stmt at x) e g =
        let y = flat f w.depth.scopes in
        seq (Ways w f outer around) i (op 1 (Arrive at) ∷ []) (form_code p (i + 1) w at x) y y y
        (one (Ways w f outer around) i (op 1 (Arrive at)) y y (λ ts l e. e) (near_itself y)) (form_fits (i + 1) w outer around at x e g)

    pub form_fits : (i : ℕ) (w : Inside) (outer around : ℕ) (at : Spot) (x : Form) → w.depth.scopes ≡ w.depth.inner + outer → w.depth.scopes ≡ w.depth.turn + around → Fits (Ways w f outer around) i (form_code p i w at x) (flat f w.depth.scopes) (flat f w.depth.scopes)
    form_fits i w outer around at Empty e g = nothing (Ways w f outer around) i (flat f w.depth.scopes)
    form_fits i w outer around at (Do x) e g = only_fits (Ways w f outer around) i at x w.depth.scopes
    form_fits i w outer around at (Declare ns) e g = freed (Ways w f outer around) i (names_code p i at ns) w.depth.scopes (names_fits i at ns w.depth.scopes)
    form_fits i w outer around at (Block b) e g =
        let t = any_leaks b in
        let z : w.depth.scopes + one_if t ≡ w.depth.inner + one_if t + outer = omega (arith, e) in
        let z' : w.depth.scopes + one_if t ≡ w.depth.turn + one_if t + around = omega (arith, g) in
        scope_fits t (Ways w f outer around) i (λ j. block_code p j (deeper t w) b) f w.depth.scopes (λ j. (block_fits j (deeper t w) outer around b z z').fits)
    form_fits i w outer around at (If x a NoElse) e g =
        let t = leaks a in
        let z : w.depth.scopes + one_if t ≡ w.depth.inner + one_if t + outer = omega (arith, e) in
        let z' : w.depth.scopes + one_if t ≡ w.depth.turn + one_if t + around = omega (arith, g) in
        let to = i + (size x + size_of_arm w.depth a + 0) in
        let T = code p (full_of at x) i 0 Used x (Branch at false to) in
        let A = arm_code p (i + length T) w a in
        let y = flat f w.depth.scopes in
        let L : List Shape → Type 0 = λ ts. Ways w f outer around ts × Has ts to y in
        let first = seq L i T A y y y
        (relabeled (λ ts. Has ts to y) L i T y y (λ ts l. l.1) (code_fits p (full_of at x) i 0 Used x (Branch at false to) y))
        (relabeled (Ways w f outer around) L (i + length T) A y y (λ ts l. l.0)
        (scope_fits t (Ways w f outer around) (i + length T) (λ l. statement_code p l (deeper t w) a) f w.depth.scopes (λ j. statement_fits j (deeper t w) outer around a z z'))) in
        let c : i + length (T ++ A) + 0 ≡ to = omega (arith, length-append T A, code_size p (full_of at x) i 0 Used x (Branch at false to), arm_size p (i + length T) w a) in
        joined L Free (Ways w f outer around) i (T ++ A) [] y y y first (nothing Free (i + length (T ++ A)) y) (λ ts l q end. (l, subst (λ k. Has ts k y) c end)) (λ ts l q m end. tt)
    form_fits i w outer around at (If x a (OrElse b)) e g =
        let t = leaks a in
        let u = leaks b in
        let z : w.depth.scopes + one_if t ≡ w.depth.inner + one_if t + outer = omega (arith, e) in
        let z' : w.depth.scopes + one_if t ≡ w.depth.turn + one_if t + around = omega (arith, g) in
        let v : w.depth.scopes + one_if u ≡ w.depth.inner + one_if u + outer = omega (arith, e) in
        let v' : w.depth.scopes + one_if u ≡ w.depth.turn + one_if u + around = omega (arith, g) in
        let to = i + (size x + size_of_arm w.depth a + 1) in
        let past = to + size_of_arm w.depth b in
        let T = code p (full_of at x) i 0 Used x (Branch at false to) in
        let A = arm_code p (i + length T) w a in
        let J : List Op = op 0 (Jump past) ∷ [] in
        let j = i + length (T ++ A) + 1 in
        let B = arm_code p j w b in
        let y = flat f w.depth.scopes in
        let L : List Shape → Type 0 = λ ts. Ways w f outer around ts × Has ts to y × Has ts past y in
        let first = seq L i T A y y y
        (relabeled (λ ts. Has ts to y) L i T y y (λ ts l. l.1) (code_fits p (full_of at x) i 0 Used x (Branch at false to) y))
        (relabeled (Ways w f outer around) L (i + length T) A y y (λ ts l. l.0)
        (scope_fits t (Ways w f outer around) (i + length T) (λ l. statement_code p l (deeper t w) a) f w.depth.scopes (λ j. statement_fits j (deeper t w) outer around a z z'))) in
        let jumped = seq L i (T ++ A) J y y y first (relabeled (λ ts. Has ts past y) L (i + length (T ++ A)) J y y (λ ts l. l.2) (jump_fits past (i + length (T ++ A)) w.depth.scopes)) in
        let sum = length-append (T ++ A) J in
        let here : j ≡ i + length ((T ++ A) ++ J) = omega (arith, sum) in
        let last = moved (Ways w f outer around) j (i + length ((T ++ A) ++ J)) B y y here
        (scope_fits u (Ways w f outer around) j (λ l. statement_code p l (deeper u w) b) f w.depth.scopes (λ j. statement_fits j (deeper u w) outer around b v v')) in
        let c : i + length ((T ++ A) ++ J) ≡ to = omega (arith, sum, length-append T A, code_size p (full_of at x) i 0 Used x (Branch at false to), arm_size p (i + length T) w a) in
        let d : i + length ((T ++ A) ++ J) + length B ≡ past = omega (arith, c, arm_size p j w b) in
        subst (λ os. Fits (Ways w f outer around) i os y y) (append_assoc (T ++ A) J B)
        (joined L (Ways w f outer around) (Ways w f outer around) i ((T ++ A) ++ J) B y y y jumped last
        (λ ts l q end. (l, subst (λ k. Has ts k y) c (last.enters ts q end), subst (λ k. Has ts k y) d end)) (λ ts l q m end. l))
    form_fits i w outer around at (While x b) e g =
        let again = i + 1 + size_of_arm (in_turn w.depth) b in
        let v = in_loop again (again + size x) w in
        let t = leaks b in
        let z : w.depth.scopes + one_if t ≡ 0 + one_if t + w.depth.scopes = omega arith in
        let y = flat f w.depth.scopes in
        let J : List Op = op 0 (Jump again) ∷ [] in
        let A = arm_code p (i + 1) v b in
        let l = i + length (J ++ A) in
        let T = test_code p l at (Some x) (i + 1) in
        let L : List Shape → Type 0 = λ ts. Has ts (again + size x) y × Has ts again y in
        let j = relabeled (λ ts. Has ts again y) L i J y y (λ ts l. l.1) (jump_fits again i w.depth.scopes) in
        let a : Fits L (i + 1) A y y = scope_fits t (Ways v f w.depth.scopes w.depth.scopes) (i + 1) (λ l. statement_code p l (deeper t v) b) f w.depth.scopes (λ j. statement_fits j (deeper t v) w.depth.scopes w.depth.scopes b z z) in
        let turn = joined L L L i J A y y y j a (λ ts l q end. l) (λ ts l q m end. l) in
        let test = test_fits l at (Some x) (i + 1) w.depth.scopes in
        let c : l ≡ again = omega (arith, length-append J A, arm_size p (i + 1) v b) in
        let d : l + length T ≡ again + size x = omega (arith, c, test_size p l at (Some x) (i + 1)) in
        joined L (λ ts. Has ts (i + 1) y) (Ways w f outer around) i (J ++ A) T y y y turn test
        (λ ts l q end. (subst (λ k. Has ts k y) d end, subst (λ k. Has ts k y) c (test.enters ts q end)))
        (λ ts l q middle end. seq_middle L L L i J A y y y j a ts q middle)
    form_fits i w outer around at (DoWhile b x) e g =
        let again = i + size_of_arm (in_turn w.depth) b in
        let v = in_loop again (again + size x) w in
        let t = leaks b in
        let z : w.depth.scopes + one_if t ≡ 0 + one_if t + w.depth.scopes = omega arith in
        let y = flat f w.depth.scopes in
        let A = arm_code p i v b in
        let l = i + length A in
        let T = test_code p l at (Some x) i in
        let L : List Shape → Type 0 = λ ts. Has ts (again + size x) y × Has ts again y in
        let a : Fits L i A y y = scope_fits t (Ways v f w.depth.scopes w.depth.scopes) i (λ l. statement_code p l (deeper t v) b) f w.depth.scopes (λ j. statement_fits j (deeper t v) w.depth.scopes w.depth.scopes b z z) in
        let test = test_fits l at (Some x) i w.depth.scopes in
        let c : l ≡ again = omega (arith, arm_size p i v b) in
        let d : l + length T ≡ again + size x = omega (arith, c, test_size p l at (Some x) i) in
        joined L (λ ts. Has ts i y) (Ways w f outer around) i A T y y y a test
        (λ ts l q end. (subst (λ k. Has ts k y) d end, subst (λ k. Has ts k y) c (test.enters ts q end)))
        (λ ts l q middle end. a.enters ts q middle)
    form_fits i w outer around at (For first x s b) e g =
        let u = deeper (first_leaks first) w in
        let n = u.depth.scopes in
        let t = leaks b in
        let m = size_of_arm (in_turn u.depth) b in
        let z : n + one_if t ≡ 0 + one_if t + n = omega arith in
        scope_fits (first_leaks first) (Ways w f outer around) i _ f w.depth.scopes
        (λ l. let F = first_code p l at first in
        let k = l + length F in
        let again = k + 1 + m in
        let head = again + size_if s in
        let v = in_loop again (head + size_of_test x) u in
        freed (Ways w f outer around) l (F ++ turns_code p k u at x s b) n
        (seq Free l F (turns_code p k u at x s b) (flat f n) (flat f n) (flat f n) (first_fits l at first n)
        (turns_fits k head again (head + size_of_test x) m at x s (λ j. arm_code p j v b) n (arm_size p (k + 1) v b) refl refl refl
        (scope_fits t (Ways v f n n) (k + 1) (λ j. statement_code p j (deeper t v) b) f n (λ j. statement_fits j (deeper t v) n n b z z)))))
    form_fits i w outer around at Break e g = relabeled (λ ts. Has ts w.broken (flat f outer)) (Ways w f outer around) i (jump_out w.depth.inner w.broken) (flat f w.depth.scopes) (flat f w.depth.scopes) (λ ts l. l.0) (out_fits i w.depth.inner outer w.depth.scopes w.broken e)
    form_fits i w outer around at Continue e g = relabeled (λ ts. Has ts w.again (flat f around)) (Ways w f outer around) i (jump_out w.depth.turn w.again) (flat f w.depth.scopes) (flat f w.depth.scopes) (λ ts l. l.1) (out_fits i w.depth.turn around w.depth.scopes w.again g)
    form_fits i w outer around at (Return None) e g = freed (Ways w f outer around) i (leaving w.depth.scopes) w.depth.scopes (leaving_fits i w.depth.scopes)
    form_fits i w outer around at (Return (Some x)) e g = freed (Ways w f outer around) i (return_code p i at w.result x w.depth.scopes) w.depth.scopes (return_fits i at w.result x w.depth.scopes)
    form_fits i w outer around at (Label b) e g = statement_fits i w outer around b e g
    form_fits i w outer around at (Switch x b) e g =
        let t = any_leaks b in
        let n = w.depth.scopes in
        let y = flat f n in
        let T = switch_test_code p i at x in
        let j = i + length T in
        let arms = size_of_arms w.depth b in
        let end = j + arms in
        let v = in_switch end w in
        let S = scope t j (λ l. arms_code p l (deeper t v) at b) in
        let z : n + one_if t ≡ 0 + one_if t + n = omega arith in
        let z' : n + one_if t ≡ w.depth.turn + one_if t + around = omega (arith, g) in
        let test = operand_fits (operand_of x) i 0 (code p (full_of at x) i 0 Used x Push) (λ y. Convert (native p.model (promote_of (type_of x))) y (only Push)) (only Push) y (plain x) (λ ts i y x h. h)
        (code_fits p (full_of at x) i 0 Used x Push y) in
        let inner = scope_over t (Ways v f n around) j (λ l. arms_code p l (deeper t v) at b) f 1 n (λ l. arms_fit l (deeper t v) n around at b (block_fits (l + 1) (deeper t v) n around b z z')) in
        let long : j + length S ≡ end = omega (arith, length-append T S, form_size p i w at (Switch x b), switch_test_size p i at x) in
        joined Free (Ways v f n around) (Ways w f outer around) i T S y (with_open f 1 n) y test inner (λ ts l q last. tt) (λ ts l q middle last. (subst (λ k. Has ts k y) long last, l.1))

    -- the statements of a block, with the shapes where its arms begin
    pub block_fits : (i : ℕ) (w : Inside) (outer around : ℕ) (b : Stms) → w.depth.scopes ≡ w.depth.inner + outer → w.depth.scopes ≡ w.depth.turn + around
        → FitsArms (Ways w f outer around) w.depth i (block_code p i w b) (flat f w.depth.scopes) b
    block_fits i w outer around NoStm e g = no_arms (Ways w f outer around) w.depth i (flat f w.depth.scopes)
    block_fits i w outer around (MoreStm s b) e g =
        let A = statement_code p i w s in
        behind_arm (Ways w f outer around) w.depth i A (block_code p (i + length A) w b) (flat f w.depth.scopes) s b (statement_size p i w s) (statement_fits i w outer around s e g)
        (block_fits (i + length A) w outer around b e g)
    block_fits i w outer around (MoreCase spot l b) e g = one_arm (Ways w f outer around) w.depth i (block_code p i w b) (flat f w.depth.scopes) spot l b (block_fits i w outer around b e g)
