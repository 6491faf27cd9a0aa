-- The code of an expression keeps shapes right: its value goes where it was to go.
use Rattle.std.proofs.Common.{◌≡◌, ℕ, zero, suc, ◌+◌, pos, negsuc, Bool, true, false, not, List, [], ◌∷◌, ◌++◌, length, Option, Some, None, slice_get, refl, sym, ap, ◌∙◌, subst, arith, length-append, append_assoc}
use Rattle.c_core.specs.Operators.{op_of_step, is_prefix}
use Rattle.c_core.specs.Types.{promote_of}
use Rattle.c_core.specs.Tree.{Exp, Expr, Node, Const, Var, Index, Unary, Cast, Step, Binary, Logic, Choose, Comma, Assign, Call, Exps, NoExp, MoreExp, Program, Function}
use Rattle.c_core.specs.declared.number.BinOp.{BinOp}
use Rattle.c_core.specs.declared.number.DataModel.{DataModel}
use Rattle.c_core.specs.declared.number.IntType.{IntType}
use Rattle.c_core.specs.declared.number.IntType.TheVariants.{Int}
use Rattle.c_core.specs.declared.number.Spot.{Spot}
use Rattle.c_core.specs.declared.tree.Callee.{Callee}
use Rattle.c_core.specs.declared.tree.Callee.TheVariants.{Defined, Input as InputOf, ReachError, Abort, Exit}
use Rattle.c_meaning.specs.Meaning.{Use, Used, Unused}
use Rattle.c_meaning.specs.Objects.{type_of, size_of_object, columns_of_object}
use Rattle.run_state.specs.declared.machine.Around.{Around}
use Rattle.run_state.specs.declared.machine.CallSite.{CallSite}
use Rattle.flow_code.specs.declared.code.Action.{Action}
use Rattle.flow_code.specs.declared.code.Action.TheVariants.{Give, Truth, Convert, Look, Aim, Row, OperateOne, Jump, Enter, Call as CallOf, Input, Reach, End}
use Rattle.flow_code.specs.declared.code.Into.{Into}
use Rattle.flow_code.specs.declared.code.Op.{Op}
use Rattle.flow_code.specs.declared.code.Operand.{Operand}
use Rattle.flow_code.specs.declared.code.Operand.TheVariants.{Top, Cell, Number}
use Rattle.flow_code.specs.declared.code.Then.{Then}
use Rattle.flow_code.specs.declared.code.Then.TheVariants.{Push, Drop, Skip, Branch}
use Rattle.flow_code.specs.Expressions.{place_of, left_by, count_of, argument_to, source, constant, as_type, call_of, stored_at, site_at, operator, operated, callee_code, code, node_code, stored_code, place_code, element_code, rows_of_object, args_code, both_ready, conditional_arm}
use Rattle.flow_code.specs.Preparing.{followed, op, only, give, Ready, prepared, taken as taken_by, taken_both, with_operand, kept, rest, paired, paired_at}
use Rattle.flow_code.specs.Sizes.{operand_in, operand_of, size, with_one}
use Rattle.flow_code.specs.Words.{native, word_of}
use Rattle.flow_code.proofs.Lengths.{code_size, node_size}
use Rattle.flow_rooms.specs.Shapes.{Shape, pushed, popped, all_popped, taken, placed, passed, settled, Has, Leads, Keeps, aimed}
use Rattle.flow_rooms.proofs.Fitting.{Fits, one, nothing, joined, seq, Free, relabeled}
use Rattle.flow_rooms.proofs.Operations.{under_itself, taken_under, settled_near, under_both, near_itself, back_near, aimed_near, IsUnder, plain_in, IsPlain, plain, Left, held, held_taken, held_plain, taken_plain, one_taken, operand_fits, TakesTwo, two_taken, pair_fits}

-- the shape beside which a target's value is, from the one before the target: the index of an element is on the stack
abbrev pub indexed : Node → Shape → Shape
indexed (Index o is) x = pushed x
indexed _ x = x

-- a store in the target takes it
stored_indexed : (n : Node) (x : Shape) → placed (place_of n) (indexed n x) ≡ x
stored_indexed (Index o is) x = refl
stored_indexed (Var o) x = refl
stored_indexed _ x = refl

-- a value that goes on
abbrev pub Onto : Then → Shape → List Shape → Type 0
Onto then x ts = Leads ts then x

-- the operation that converts a conditional's value
as_type_fits : (m : DataModel) (ty : Option IntType) (into : Into) (i : ℕ) (x : Shape) → Fits (Left into x) i (as_type m ty into ∷ []) (pushed x) (settled into x)
as_type_fits m None into i x = one_taken (λ y. Give y into) into i 0 Top (pushed x) x (λ ts i y x h. h) refl
as_type_fits m (Some ty) into i x = one_taken (λ y. Convert (native m ty) y into) into i 0 Top (pushed x) x (λ ts i y x h. h) refl

-- an operation takes an operand that is on the stack or not, from the shape beside it to another
abbrev Ends : (List Shape → Type 0) → (Operand → Action) → Shape → Shape → Type 0
Ends labels f x z = (j n : ℕ) (y : Operand) (w : Shape) → taken y w ≡ x → Fits labels j (op n (f y) ∷ []) w z

-- the cell of an element, from the shape before it
aim_ends : (o n : ℕ) (spot : Spot) (reads : Bool) (x : Shape) → Ends Free (λ y. Aim o n y spot reads) x (aimed reads x)
aim_ends o n spot reads x j m y w e =
    one Free j (op m (Aim o n y spot reads)) w (aimed reads x) (λ ts l h. subst (λ z. Has ts (suc j) (aimed reads z)) (sym e) h) (aimed_near reads w x (subst (IsUnder w) e (taken_under y w)))

-- operations that make an operand ready, and the one that takes it
operand_ends : (labels : List Shape → Type 0) (y : Option Operand) (i k : ℕ) (ops : List Op) (f : Operand → Action) (x z : Shape) → IsPlain y → Ends labels f x z → Fits Free i ops x (pushed x)
    → Fits labels i (with_operand y k ops f) x z
operand_ends labels (Some y) i k ops f x z plain ends a = ends i (k + 1) y x (taken_plain y x plain)
operand_ends labels None i k ops f x z plain ends a =
    seq labels i ops (op 0 (f Top) ∷ []) x (pushed x) z (relabeled Free labels i ops x (pushed x) (λ ts l. tt) a) (ends (i + length ops) 0 Top (pushed x) refl)

-- a pair of operands, the left one of which an expression is or not
prepared_pair : (y : Option Operand) (i k : ℕ) (a : List Op) (x : Shape) → IsPlain y → Fits Free i a x (pushed x)
    → let j = prepared y k a in Fits Free i j.ops x (held j.operand x)
prepared_pair (Some y) i k a x plain f = subst (λ w. Fits Free i [] x w) (sym (held_plain y x plain)) (nothing Free i x)
prepared_pair None i k a x plain f = f

-- operations that make a left operand ready, then the right one, then the action that takes both
both_fits : (j : Ready) (i : ℕ) (z : Option Operand) (g : ℕ → ℕ → List Op) (f : Operand → Operand → Action) (into : Into) (x y : Shape) → IsPlain z → TakesTwo f into
    → Fits Free i j.ops x (held j.operand y)
    → ((l k : ℕ) → Fits Free l (g l k) (pushed y) (pushed (pushed y)))
    → Fits (Left into y) i (taken_both (paired_at i j z g) f) x (settled into y)
both_fits j i z g f into x y plain takes a b =
    let l = i + length j.ops + length (kept j.operand j.steps) in
    let ops = g l (rest j.operand j.steps) in
    let q = paired j.operand j.steps z ops in
    let last = op q.steps (f q.left q.right) in
    let whole = seq (Left into y) i j.ops (q.ops ++ last ∷ []) x (held j.operand y) (settled into y)
    (relabeled Free (Left into y) i j.ops x (held j.operand y) (λ ts l. tt) a)
    (pair_fits j.operand j.steps (i + length j.ops) z ops f into y plain takes (b l (rest j.operand j.steps))) in
    subst (λ os. Fits (Left into y) i os x (settled into y)) (sym (append_assoc j.ops q.ops (last ∷ []))) whole

leads_argument : (c : Callee) (ts : List Shape) (x : Shape) → Leads ts (argument_to c) x
leads_argument (Defined f) ts x = tt
leads_argument (InputOf ty) ts x = tt
leads_argument ReachError ts x = tt
leads_argument Abort ts x = tt
leads_argument Exit ts x = tt

-- behind the arguments of a call
abbrev each : Callee → ℕ → Shape → Shape
each c zero x = x
each c (suc n) x = each c n (passed (argument_to c) x)

popped_each : (f n : ℕ) (x : Shape) → popped (each (Defined f) n (pushed x)) ≡ each (Defined f) n x
popped_each f zero x = refl
popped_each f (suc n) x = popped_each f n (pushed x)

-- a call takes its arguments
call_takes : (f n : ℕ) (x : Shape) → all_popped n (each (Defined f) n x) ≡ x
call_takes f zero x = refl
call_takes f (suc n) x = ap (all_popped n) (popped_each f n x) ∙ call_takes f n x

-- an input function has none
input_takes : (ty : IntType) (n : ℕ) (x : Shape) → each (InputOf ty) n x ≡ x
input_takes ty zero x = refl
input_takes ty (suc n) x = input_takes ty n x

argument_over : (c : Callee) (x : Shape) → IsUnder (passed (argument_to c) x) x
argument_over (InputOf ty) x = under_itself x
argument_over _ x = record { function = refl; height = omega arith; scopes = omega arith }

each_over : (c : Callee) (n : ℕ) (x : Shape) → IsUnder (each c n x) x
each_over c zero x = under_itself x
each_over c (suc n) x = let y = passed (argument_to c) x in under_both (each c n y) y x (each_over c n y) (argument_over c x)

-- no run goes on behind an operation
stuck : (labels : List Shape → Type 0) (i n : ℕ) (c : Callee) (then : Then) (a : Action) (x : Shape) → ((ts : List Shape) (j : ℕ) (y : Shape) → Keeps ts j a y)
    → Fits labels i (op 0 a ∷ []) (each c n x) (passed then x)
stuck labels i n c then a x h =
    one labels i (op 0 a) (each c n x) (passed then x) (λ ts l e. h ts (suc i) (each c n x)) (settled_near (only then) (each c n x) x (each_over c n x))

-- the call of a function of the program
call_fits : (f n i : ℕ) (site : CallSite) (x : Shape) (o : Option Function) → Fits Free i (call_of f n site o ∷ []) (each (Defined f) n x) (pushed x)
call_fits f n i site x None = stuck Free i n (Defined f) Push End x (λ ts j y. tt)
call_fits f n i site x (Some g) =
    one Free i (op (length g.params) (CallOf f n site)) (each (Defined f) n x) (pushed x) (λ ts l h. subst (λ w. Has ts (suc i) (pushed w)) (sym (call_takes f n x)) h)
    (settled_near (only Push) (each (Defined f) n x) x (each_over (Defined f) n x))

module _ (p : Program) (at : Around) where
  -- what a call does behind its arguments
  callee_fits : (site : CallSite) (n i : ℕ) (then : Then) (c : Callee) (x : Shape) → Fits (Onto then x) i (callee_code p at site n then c) (each c n x) (passed then x)
  callee_fits site n i then (Defined f) x =
      let call = call_of f n site (slice_get p.functions f) in
      seq (Onto then x) i (call ∷ []) (give 0 Top then ∷ []) (each (Defined f) n x) (pushed x) (passed then x)
      (relabeled Free (Onto then x) i (call ∷ []) (each (Defined f) n x) (pushed x) (λ ts l. tt) (call_fits f n i site x (slice_get p.functions f)))
      (one_taken (λ y. Give y (only then)) (only then) (i + 1) 0 Top (pushed x) x (λ ts i y x h. h) refl)
  callee_fits site n i then (InputOf ty) x =
      subst (λ w. Fits (Onto then x) i (op 0 (Input site.spot site.close ty (only then)) ∷ []) w (passed then x)) (sym (input_takes ty n x))
      (one (Onto then x) i (op 0 (Input site.spot site.close ty (only then))) x (passed then x) (λ ts l h. (h, l)) (settled_near (only then) x x (under_itself x)))
  callee_fits site n i then ReachError x = stuck (Onto then x) i n ReachError then (Reach at site.spot) x (λ ts j y. tt)
  callee_fits site n i then Abort x = stuck (Onto then x) i n Abort then End x (λ ts j y. tt)
  callee_fits site n i then Exit x = stuck (Onto then x) i n Exit then End x (λ ts j y. tt)

  -- a way over other operations to an address behind a value, from which they begin without it
  over_fits : (then : Then) (to i : ℕ) (x : Shape) → Fits (λ ts. Has ts to (passed then x)) i (op 0 (Jump to) ∷ []) (passed then x) x
  over_fits then to i x = one (λ ts. Has ts to (passed then x)) i (op 0 (Jump to)) (passed then x) x (λ ts l h. l) (back_near then x)

  -- a target's store
  into_target : (i : ℕ) (ops : List Op) (s : Spot) (u : Option IntType) (n : Node) (old : Bool) (then : Then) (x : Shape) → let into = stored_at p.model (Expr s u n) old then in
      Fits (Left into (indexed n x)) i ops x (settled into (indexed n x)) → Fits (Onto then x) i ops x (passed then x)
  into_target i ops s u n old then x a = subst (λ z. Fits (λ ts. Leads ts then z) i ops x (passed then z)) (stored_indexed n x) a

  -- an arm of a conditional
  arm_fits : (i : ℕ) (ty : Option IntType) (e : Exp) (then : Then) (x : Shape) → Fits Free i (code p at i 0 Used e Push) x (pushed x)
      → Fits (Onto then x) i (conditional_arm p at i ty e (only then)) x (passed then x)
  arm_fits i ty e then x a =
      let value = code p at i 0 Used e Push in
      seq (Onto then x) i value (as_type p.model ty (only then) ∷ []) x (pushed x) (passed then x) (relabeled Free (Onto then x) i value x (pushed x) (λ ts l. tt) a)
      (as_type_fits p.model ty (only then) (i + length value) x)

  -- an operator, from its operands
  binary_fits : (i k : ℕ) (spot : Spot) (o : BinOp) (a b : Exp) (into : Into) (x : Shape) → Fits Free i (code p at i k Used a Push) x (pushed x)
      → ((l m : ℕ) → Fits Free l (code p at l m Used b Push) (pushed x) (pushed (pushed x)))
      → Fits (Left into x) i (operated p (source at spot) o (type_of a) (type_of b) into (both_ready p at i k a b)) x (settled into x)
  binary_fits i k spot o a b into x f g =
      both_fits (prepared (operand_of a) k (code p at i k Used a Push)) i (operand_of b) (λ j l. code p at j l Used b Push) (operator p (source at spot) o (type_of a) (type_of b) into) into x x (plain b)
      (λ ts i y z x h. h) (prepared_pair (operand_of a) i k (code p at i k Used a Push) x (plain a) f) g

  mutual
    -- the code of an expression
    pub code_fits : (i k : ℕ) (want : Use) (e : Exp) (then : Then) (x : Shape) → Fits (Onto then x) i (code p at i k want e then) x (passed then x)
    code_fits i k want (Expr spot ty n) then x = node_fits i (k + 1) want spot ty n then x

    node_fits : (i k : ℕ) (want : Use) (spot : Spot) (ty : Option IntType) (n : Node) (then : Then) (x : Shape)
        → Fits (Onto then x) i (node_code p at i k want spot ty n (only then)) x (passed then x)
    node_fits i k want spot ty (Const v) then x = one_taken (λ y. Give y (only then)) (only then) i k (Number v) x x (λ ts i y x h. h) refl
    node_fits i k want spot ty (Var o) then x = one_taken (λ y. Give y (only then)) (only then) i k (Cell o) x x (λ ts i y x h. h) refl
    node_fits i k want spot ty (Index o is) then x =
        let look = λ (y : Operand). Look o (size_of_object p o) y spot (only then) in
        element_fits then x i k spot o is look x (passed then x) (λ j n y w e. one_taken look (only then) j n y w x (λ ts i y x h. h) e)
    node_fits i k want spot ty (Unary o a) then x =
        operand_fits (operand_of a) i k (code p at i k Used a Push) (λ y. OperateOne o (word_of p.model (promote_of (type_of a))) y (source at spot) (only then)) (only then) x (plain a) (λ ts i y x h. h) (code_fits i k Used a Push x)
    node_fits i k want spot None (Cast a) then x = code_fits i k Unused a then x
    node_fits i k want spot (Some to) (Cast a) then x =
        operand_fits (operand_of a) i k (code p at i k Used a Push) (λ y. Convert (native p.model to) y (only then)) (only then) x (plain a) (λ ts i y x h. h) (code_fits i k Used a Push x)
    node_fits i k want spot ty (Step o (Expr s u n)) then x =
        let j = place_code p at i (k + 1) s n true in
        let y = indexed n x in
        let into = stored_at p.model (Expr s u n) (not (is_prefix o)) then in
        let act = operator p (source at spot) (op_of_step o) (type_of (Expr s u n)) Int into in
        into_target i (j.ops ++ op j.steps (act j.operand (Number (pos 1))) ∷ []) s u n (not (is_prefix o)) then x
        (seq (Left into y) i j.ops (op j.steps (act j.operand (Number (pos 1))) ∷ []) x (held j.operand y) (settled into y)
        (relabeled Free (Left into y) i j.ops x (held j.operand y) (λ ts l. tt) (read_fits i (k + 1) s n x))
        (two_taken act into (i + length j.ops) j.steps j.operand (Number (pos 1)) (held j.operand y) y (λ ts i y z x h. h) (held_taken j.operand y)))
    node_fits i k want spot ty (Binary o a b) then x = binary_fits i k spot o a b (only then) x (code_fits i k Used a Push x) (λ l m. code_fits l m Used b Push (pushed x))
    node_fits i k want spot ty (Logic both a b) then x =
        let decided = i + (size a + (with_one (operand_of b) (size b) + 1)) in
        let A = code p at i k Used a (Skip (not both) decided) in
        let B = λ (j : ℕ). with_operand (operand_of b) 0 (code p at j 0 Used b Push) (λ y. Truth y (only then)) in
        let jump : List Op = op 0 (Jump (decided + 1)) ∷ [] in
        let last : List Op = op 0 (Give (constant both) (only then)) ∷ [] in
        let L : List Shape → Type 0 = λ ts. Onto then x ts × Has ts decided x × Has ts (decided + 1) (passed then x) in
        let tested = followed i A B in
        let first = seq L i A (B (i + length A)) x x (passed then x)
        (relabeled (Onto (Skip (not both) decided) x) L i A x x (λ ts l. l.1) (code_fits i k Used a (Skip (not both) decided) x))
        (relabeled (Onto then x) L (i + length A) (B (i + length A)) x (passed then x) (λ ts l. l.0)
        (operand_fits (operand_of b) (i + length A) 0 (code p at (i + length A) 0 Used b Push) (λ y. Truth y (only then)) (only then) x (plain b) (λ ts i y x h. h) (code_fits (i + length A) 0 Used b Push x))) in
        let jumped = seq L i tested jump x (passed then x) x first
        (relabeled (λ ts. Has ts (decided + 1) (passed then x)) L (i + length tested) jump (passed then x) x (λ ts l. l.2) (over_fits then (decided + 1) (i + length tested) x)) in
        let final = one_taken (λ y. Give y (only then)) (only then) (i + length (tested ++ jump)) 0 (constant both) x x (λ ts i y x h. h) refl in
        let e : i + length (tested ++ jump) ≡ decided =
        omega (arith, node_size p at i k want spot ty (Logic both a b) (only then), length-append tested (op 0 (Jump (decided + 1)) ∷ last), length-append tested jump) in
        subst (λ os. Fits (Onto then x) i os x (passed then x)) (append_assoc tested jump last)
        (joined L (Onto then x) (Onto then x) i (tested ++ jump) last x x (passed then x) jumped final
        (λ ts l s end. (l, subst (λ j. Has ts j x) e (final.enters ts s end), subst (λ j. Has ts (j + 1) (passed then x)) e end)) (λ ts l s m end. l))
    node_fits i k want spot ty (Choose mark e a b) then x =
        let second = i + (size e + size a + 2) in
        let T = code p at i k Used e (Branch mark false second) in
        let yes = λ (j : ℕ). conditional_arm p at j ty a (only then) in
        let no = λ (j : ℕ). conditional_arm p at j ty b (only then) in
        let to = second + (size b + 1) in
        let jump : List Op = op 0 (Jump to) ∷ [] in
        let L : List Shape → Type 0 = λ ts. Onto then x ts × Has ts second x × Has ts to (passed then x) in
        let tested = followed i T yes in
        let first = seq L i T (yes (i + length T)) x x (passed then x)
        (relabeled (Onto (Branch mark false second) x) L i T x x (λ ts l. l.1) (code_fits i k Used e (Branch mark false second) x))
        (relabeled (Onto then x) L (i + length T) (yes (i + length T)) x (passed then x) (λ ts l. l.0)
        (arm_fits (i + length T) ty a then x (code_fits (i + length T) 0 Used a Push x))) in
        let jumped = seq L i tested jump x (passed then x) x first
        (relabeled (λ ts. Has ts to (passed then x)) L (i + length tested) jump (passed then x) x (λ ts l. l.2) (over_fits then to (i + length tested) x)) in
        let l = i + length (tested ++ jump) in
        let final = arm_fits l ty b then x (code_fits l 0 Used b Push x) in
        let whole = node_size p at i k want spot ty (Choose mark e a b) (only then) in
        let arm = length-append (code p at l 0 Used b Push) (as_type p.model ty (only then) ∷ []) in
        let value = code_size p at l 0 Used b Push in
        let sum = length-append (tested ++ jump) (no l) in
        let f : l ≡ second = omega (arith, whole, arm, value, sum) in
        let g : l + length (no l) ≡ to = omega (arith, arm, value, f) in
        joined L (Onto then x) (Onto then x) i (tested ++ jump) (no l) x x (passed then x) jumped final
        (λ ts h s end. (h, subst (λ j. Has ts j x) f (final.enters ts s end), subst (λ j. Has ts j (passed then x)) g end)) (λ ts h s m end. h)
    node_fits i k want spot ty (Comma a b) then x =
        let A = code p at i k Unused a Drop in
        seq (Onto then x) i A (code p at (i + length A) 0 Used b then) x x (passed then x) (relabeled Free (Onto then x) i A x x (λ ts l. tt) (code_fits i k Unused a Drop x))
        (code_fits (i + length A) 0 Used b then x)
    node_fits i k want spot ty (Assign None (Expr s u n) e) then x =
        let j = place_code p at i (k + 1) s n false in
        let y = indexed n x in
        let into = stored_at p.model (Expr s u n) false then in
        let value = stored_code p at (i + length j.ops) j.steps e into in
        into_target i (j.ops ++ value) s u n false then x
        (seq (Left into y) i j.ops value x y (settled into y) (relabeled Free (Left into y) i j.ops x y (λ ts l. tt) (place_fits i (k + 1) s n x))
        (stored_fits (i + length j.ops) j.steps e into y))
    node_fits i k want spot ty (Assign (Some o) (Expr s u n) e) then x =
        let j = place_code p at i (k + 1) s n true in
        let y = indexed n x in
        let into = stored_at p.model (Expr s u n) false then in
        into_target i _ s u n false then x
        (both_fits j i (operand_of e) (λ j l. code p at j l Used e Push) (operator p (source at spot) o (type_of (Expr s u n)) (type_of e) into) into x y (plain e) (λ ts i y z x h. h)
        (read_fits i (k + 1) s n x) (λ l k. code_fits l k Used e Push (pushed y)))
    node_fits i k want spot ty (Call callee es close) then x =
        let A = args_code p at i k (argument_to callee) es in
        let enter : List Op = op (left_by es k) (Enter close) ∷ [] in
        let n = count_of es in
        let site = site_at spot close want ty in
        let y = each callee n x in
        seq (Onto then x) i A (op (left_by es k) (Enter close) ∷ callee_code p at site n then callee) x y (passed then x)
        (relabeled Free (Onto then x) i A x y (λ ts l. tt) (args_fits i k callee es x))
        (seq (Onto then x) (i + length A) enter (callee_code p at site n then callee) y y (passed then x)
        (one (Onto then x) (i + length A) (op (left_by es k) (Enter close)) y y (λ ts l h. h) (near_itself y))
        (callee_fits site n (i + length A + 1) then callee x))

    -- a value that is stored, and then goes on
    pub stored_fits : (i k : ℕ) (e : Exp) (into : Into) (x : Shape) → Fits (Left into x) i (stored_code p at i k e into) x (settled into x)
    stored_fits i k (Expr s u (Binary o a b)) into x = binary_fits i (k + 1) s o a b into x (code_fits i (k + 1) Used a Push x) (λ l m. code_fits l m Used b Push (pushed x))
    stored_fits i k (Expr s u n) into x =
        operand_fits (operand_in n) i k (node_code p at i (k + 1) Used s u n (only Push)) (λ z. Give z into) into x (plain_in n) (λ ts i y x h. h) (node_fits i (k + 1) Used s u n Push x)

    -- a target that is written
    place_fits : (i k : ℕ) (spot : Spot) (n : Node) (x : Shape) → Fits Free i (place_code p at i k spot n false).ops x (indexed n x)
    place_fits i k spot (Index o is) x = element_fits Drop x i k spot o is (λ y. Aim o (size_of_object p o) y spot false) x (pushed x) (aim_ends o (size_of_object p o) spot false x)
    place_fits i k spot _ x = nothing Free i x

    -- a target that is read and written
    read_fits : (i k : ℕ) (spot : Spot) (n : Node) (x : Shape) → let j = place_code p at i k spot n true in Fits Free i j.ops x (held j.operand (indexed n x))
    read_fits i k spot (Index o is) x = element_fits Drop x i k spot o is (λ y. Aim o (size_of_object p o) y spot true) x (pushed (pushed x)) (aim_ends o (size_of_object p o) spot true x)
    read_fits i k spot (Var o) x = nothing Free i x
    read_fits i k spot _ x = nothing Free i x

    -- the indexes of an element, and the operation that takes its cell
    element_fits : (onward : Then) (w : Shape) (i k : ℕ) (spot : Spot) (o : ℕ) (is : Exps) (f : Operand → Action) (x z : Shape) → Ends (Onto onward w) f x z
        → Fits (Onto onward w) i (taken_by (element_code p at i k spot o is) f) x z
    element_fits onward w i k spot o NoExp f x z ends = ends i k (Number (negsuc 0)) x refl
    element_fits onward w i k spot o (MoreExp a NoExp) f x z ends = operand_ends (Onto onward w) (operand_of a) i k (code p at i k Used a Push) f x z (plain a) ends (code_fits i k Used a Push x)
    element_fits onward w i k spot o (MoreExp a (MoreExp b NoExp)) f x z ends =
        let A = code p at i k Used a Push in
        let row = λ (y z : Operand). Row (rows_of_object p o) (columns_of_object p o) y z spot in
        let first = taken_both (both_ready p at i k a b) row in
        seq (Onto onward w) i first (op 0 (f Top) ∷ []) x (pushed x) z
        (relabeled (Left (only Push) x) (Onto onward w) i first x (pushed x) (λ ts l. tt)
        (both_fits (prepared (operand_of a) k A) i (operand_of b) (λ j l. code p at j l Used b Push) row (only Push) x x (plain b) (λ ts i y z x h. h.0)
        (prepared_pair (operand_of a) i k A x (plain a) (code_fits i k Used a Push x)) (λ l m. code_fits l m Used b Push (pushed x))))
        (ends (i + length first) 0 Top (pushed x) refl)
    element_fits onward w i k spot o (MoreExp a (MoreExp b (MoreExp c es))) f x z ends =
        let A = code p at i k Used a Drop in
        let j = i + length A in
        let B = code p at j 0 Used b Drop in
        let l = j + length B in
        let C = code p at l 0 Used c Drop in
        let m = l + length C in
        let rest = args_code p at m 0 Drop es in
        let first = A ++ (B ++ (C ++ rest)) in
        let behind = subst (Fits Free m rest x) (input_takes Int (count_of es) x) (args_fits m 0 (InputOf Int) es x) in
        seq (Onto onward w) i first (op 0 (f (Number (negsuc 0))) ∷ []) x x z
        (relabeled Free (Onto onward w) i first x x (λ ts l. tt)
        (seq Free i A (B ++ (C ++ rest)) x x x (relabeled (Onto Drop x) Free i A x x (λ ts l. tt) (code_fits i k Used a Drop x))
        (seq Free j B (C ++ rest) x x x (relabeled (Onto Drop x) Free j B x x (λ ts l. tt) (code_fits j 0 Used b Drop x))
        (seq Free l C rest x x x (relabeled (Onto Drop x) Free l C x x (λ ts l. tt) (code_fits l 0 Used c Drop x)) behind))))
        (ends (i + length first) 0 (Number (negsuc 0)) x refl)

    args_fits : (i k : ℕ) (c : Callee) (es : Exps) (x : Shape) → Fits Free i (args_code p at i k (argument_to c) es) x (each c (count_of es) x)
    args_fits i k c NoExp x = nothing Free i x
    args_fits i k c (MoreExp e es) x =
        let A = code p at i k Used e (argument_to c) in
        let y = passed (argument_to c) x in
        seq Free i A (args_code p at (i + length A) 0 (argument_to c) es) x y (each c (count_of es) y)
        (relabeled (Onto (argument_to c) x) Free i A x y (λ ts l. leads_argument c ts x) (code_fits i k Used e (argument_to c) x)) (args_fits (i + length A) 0 c es y)
