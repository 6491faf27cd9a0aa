-- The code of an expression is as long as its size says.
use Rattle.std.proofs.Common.{◌≡◌, ℕ, suc, ◌+◌, Bool, true, false, cond, not, List, [], ◌∷◌, ◌++◌, length, Option, Some, None, refl, ap, ap₂, ◌∙◌, subst, arith, length-append}
use Rattle.c_core.specs.Tree.{Exp, Expr, Node, Const, Var, Index, Unary, Cast, Step, Binary, Logic, Choose, Comma, Assign, Call, Exps, NoExp, MoreExp, Program}
use Rattle.c_core.specs.declared.number.BinOp.{BinOp}
use Rattle.c_core.specs.declared.number.IntType.{IntType}
use Rattle.c_core.specs.declared.number.Spot.{Spot}
use Rattle.c_core.specs.declared.tree.Callee.{Callee}
use Rattle.c_core.specs.declared.tree.Callee.TheVariants.{Defined, Input as InputOf, ReachError, Abort, Exit}
use Rattle.c_meaning.specs.Meaning.{Use, Used, Unused}
use Rattle.run_state.specs.declared.machine.Around.{Around}
use Rattle.run_state.specs.declared.machine.CallSite.{CallSite}
use Rattle.flow_code.specs.Choosing.{by_some}
use Rattle.flow_code.specs.declared.code.Operand.{Operand}
use Rattle.flow_code.specs.declared.code.Operand.TheVariants.{Cell, Number}
use Rattle.flow_code.specs.declared.code.Then.{Then}
use Rattle.flow_code.specs.declared.code.Then.TheVariants.{Push, Drop, Skip, Branch}
use Rattle.flow_code.specs.declared.code.Into.{Into}
use Rattle.flow_code.specs.declared.code.Op.{Op}
use Rattle.flow_code.specs.Preparing.{followed, op, only, prepared, taken, with_operand, kept, rest, paired}
use Rattle.flow_code.specs.Sizes.{operand_in, operand_of, with_one, with_two, with_target, is_binary, as_stored, size, size_of_node, size_of_aim, size_of_place, size_of_element, size_of_all, size_of_callee}
use Rattle.flow_code.specs.declared.code.Action.{Action}
use Rattle.flow_code.specs.declared.code.Action.TheVariants.{Give, Truth, Look, Aim, Jump}
use Rattle.c_meaning.specs.Objects.{type_of, size_of_object}
use Rattle.flow_code.specs.Expressions.{code, node_code, aim_code, place_code, element_code, args_code, argument_to, callee_code, count_of, stored_by, stored_at, stored_code, site_at, constant, as_type, source, operator}

-- parts one behind another are as long as both
pub followed_size : (i : ℕ) (xs : List Op) (f : ℕ → List Op) (n m : ℕ) → length xs ≡ n → ((j : ℕ) → length (f j) ≡ m) → length (followed i xs f) ≡ n + m
followed_size i xs f n m h g = length-append xs (f (i + length xs)) ∙ ap₂ ◌+◌ h (g (i + length xs))

-- an operand that an expression is by itself is put on the stack by one operation
kept_one : (n : Node) (x : Operand) → operand_in n ≡ Some x → (k : ℕ) → length (kept x k) ≡ 1
kept_one (Const v) x e k = let h : Number v ≡ x = cc in subst (λ y. length (kept y k) ≡ 1) h refl
kept_one (Var o) x e k = let h : Cell o ≡ x = cc in subst (λ y. length (kept y k) ≡ 1) h refl
kept_one (Index o is) x e k = cc
kept_one (Unary o a) x e k = cc
kept_one (Cast a) x e k = cc
kept_one (Step o a) x e k = cc
kept_one (Binary o a b) x e k = cc
kept_one (Logic b a c) x e k = cc
kept_one (Choose m a b c) x e k = cc
kept_one (Comma a b) x e k = cc
kept_one (Assign o a b) x e k = cc
kept_one (Call c es s) x e k = cc

abbrev KeptOne : Option Operand → Type 0
KeptOne y = (x : Operand) → y ≡ Some x → (k : ℕ) → length (kept x k) ≡ 1

kept_of : (e : Exp) → KeptOne (operand_of e)
kept_of (Expr spot ty n) x h k = kept_one n x h k

-- an operand, and an operation that takes it
one_size : (y : Option Operand) (k : ℕ) (ops : List Op) (m : ℕ) (a : Op) → length ops ≡ m → length ((prepared y k ops).ops ++ a ∷ []) ≡ with_one y m
one_size (Some x) k ops m a h = refl
one_size None k ops m a h = omega (arith, h, length-append ops (a ∷ []))

-- two operands, and an operation that takes them
two_size : (y z : Option Operand) (k : ℕ) (A B : List Op) (n m : ℕ) (a : Op) → KeptOne y → length A ≡ n → length B ≡ m
    → length (((prepared y k A).ops ++ (paired (prepared y k A).operand (prepared y k A).steps z B).ops) ++ a ∷ []) ≡ with_two y z n m
two_size (Some x) (Some w) k A B n m a o h g = refl
two_size (Some x) None k A B n m a o h g =
    let one = o x refl (k + 1) in
    omega (arith, g, one, length-append (kept x (k + 1) ++ B) (a ∷ []), length-append (kept x (k + 1)) B)
two_size None (Some w) k A B n m a o h g = omega (arith, h, length-append (A ++ []) (a ∷ []), length-append A (let e : List Op = [] in e))
two_size None None k A B n m a o h g = omega (arith, h, g, length-append (A ++ B) (a ∷ []), length-append A B)

-- a right side whose left side needs l operations to be put on the stack
abbrev with_kept : Option Operand → ℕ → ℕ → ℕ
with_kept (Some w) m l = 1
with_kept None m l = m + l + 1

-- a right side behind a target
target_size : (z : Option Operand) (x : Operand) (k : ℕ) (J B : List Op) (n m l : ℕ) (a : Op) → length J ≡ n → length B ≡ m → length (kept x k) ≡ l
    → length ((J ++ (paired x k z B).ops) ++ a ∷ []) ≡ n + with_kept z m l
target_size (Some w) x k J B n m l a h g e = omega (arith, h, length-append (J ++ []) (a ∷ []), length-append J (let e : List Op = [] in e))
target_size None x k J B n m l a h g e = omega (arith, h, g, e, length-append (J ++ (kept x k ++ B)) (a ∷ []), length-append J (kept x k ++ B), length-append (kept x k) B)

stored_size : (p : Program) (t : Bool) (y : Option Operand) (k : ℕ) (x : Into) (V W : List Op) (m : ℕ) → length V ≡ m → length W ≡ m → length (stored_by p t y k x V W) ≡ cond t m (with_one y m)
stored_size p true y k x V W m h g = g
stored_size p false y k x V W m h g = one_size y k V m _ h

callee_size : (p : Program) (at : Around) (site : CallSite) (n : ℕ) (then : Then) (f : Callee) → suc (length (callee_code p at site n then f)) ≡ size_of_callee f
callee_size p at site n then (Defined f) = refl
callee_size p at site n then (InputOf ty) = refl
callee_size p at site n then ReachError = refl
callee_size p at site n then Abort = refl
callee_size p at site n then Exit = refl

cast_size : (ty : Option IntType) (xs : List Op) (f : IntType → List Op) (n m : ℕ) → length xs ≡ n → ((to : IntType) → length (f to) ≡ m) → length (by_some ty xs f) ≡ by_some ty n (λ to. m)
cast_size None xs f n m h g = h
cast_size (Some to) xs f n m h g = g to

assign_size : (o : Option BinOp) (xs : List Op) (f : BinOp → List Op) (n x y : ℕ) → length xs ≡ n + x → ((b : BinOp) → length (f b) ≡ n + y) → length (by_some o xs f) ≡ n + by_some o x (λ b. y)
assign_size None xs f n x y h g = h
assign_size (Some b) xs f n x y h g = g b

choice_sum : (n m l : ℕ) → n + (m + 1) + 1 + (l + 1) ≡ n + (m + l + 3)
choice_sum n m l = omega arith

call_sum : (n m : ℕ) → n + m ≡ m + n
call_sum n m = omega arith

-- one operation more
one_more : (xs : List Op) (a : Op) (n : ℕ) → length xs ≡ n → length (xs ++ a ∷ []) ≡ n + 1
one_more xs a n h = length-append xs (a ∷ []) ∙ ap (λ m. m + 1) h

-- what a target's value needs to be put on the stack
left_of : Node → ℕ
left_of (Index o is) = 0
left_of _ = 1

with_left : (n : Node) (z : Option Operand) (m : ℕ) → with_kept z m (left_of n) ≡ with_target n z m
unfolding left_of
with_left (Index o is) (Some w) m = refl
with_left (Index o is) None m = omega arith
with_left _ (Some w) m = refl
with_left _ None m = omega arith

module _ (p : Program) (at : Around) where
  kept_target : (i k : ℕ) (spot : Spot) (n : Node) (reads : Bool) (l : ℕ) → length (kept (place_code p at i k spot n reads).operand l) ≡ left_of n
  unfolding left_of
  kept_target i k spot (Index o is) reads l = refl
  kept_target i k spot _ reads l = refl

  mutual
    -- the code of an expression
    pub code_size : (i k : ℕ) (want : Use) (e : Exp) (then : Then) → length (code p at i k want e then) ≡ size e
    code_size i k want (Expr spot ty n) then = node_size i (k + 1) want spot ty n (only then)

    -- by its form
    pub node_size : (i k : ℕ) (want : Use) (spot : Spot) (ty : Option IntType) (n : Node) (x : Into) → length (node_code p at i k want spot ty n x) ≡ size_of_node ty n
    node_size i k want spot ty (Const v) x = refl
    node_size i k want spot ty (Var o) x = refl
    node_size i k want spot ty (Index o is) x = element_size i k spot o is (λ y. Look o (size_of_object p o) y spot x)
    node_size i k want spot ty (Unary o a) x = one_size (operand_of a) k (code p at i k Used a Push) (size a) _ (code_size i k Used a Push)
    node_size i k want spot ty (Cast a) x =
        cast_size ty (code p at i k Unused a x.then) _ (size a) (with_one (operand_of a) (size a)) (code_size i k Unused a x.then)
        (λ to. one_size (operand_of a) k (code p at i k Used a Push) (size a) _ (code_size i k Used a Push))
    node_size i k want spot ty (Step o t) x = one_more (aim_code p at i k t true).ops _ (size_of_aim t) (aim_size i k t true)
    node_size i k want spot ty (Binary o a b) x =
        let j = prepared (operand_of a) k (code p at i k Used a Push) in
        let from = i + length j.ops + length (kept j.operand j.steps) in
        two_size (operand_of a) (operand_of b) k (code p at i k Used a Push) (code p at from (rest j.operand j.steps) Used b Push) (size a) (size b) _ (kept_of a)
        (code_size i k Used a Push) (code_size from (rest j.operand j.steps) Used b Push)
    node_size i k want spot ty (Logic both a b) x =
        let decided = i + (size a + (with_one (operand_of b) (size b) + 1)) in
        let first = code p at i k Used a (Skip (not both) decided) in
        let second = λ (j : ℕ). with_operand (operand_of b) 0 (code p at j 0 Used b Push) (λ y. Truth y x) in
        let all = followed_size i first second (size a) (with_one (operand_of b) (size b)) (code_size i k Used a (Skip (not both) decided))
        (λ j. one_size (operand_of b) 0 (code p at j 0 Used b Push) (size b) (op (prepared (operand_of b) 0 (code p at j 0 Used b Push)).steps (Truth (prepared (operand_of b) 0 (code p at j 0 Used b Push)).operand x)) (code_size j 0 Used b Push)) in
        length-append (followed i first second) (op 0 (Jump (decided + 1)) ∷ op 0 (Give (constant both) x) ∷ []) ∙ ap (λ n. n + 2) all
    node_size i k want spot ty (Choose mark e a b) x =
        let second = i + (size e + size a + 2) in
        let test = code p at i k Used e (Branch mark false second) in
        let yes = λ (j : ℕ). code p at j 0 Used a Push ++ as_type p.model ty x ∷ [] in
        let no = λ (j : ℕ). code p at j 0 Used b Push ++ as_type p.model ty x ∷ [] in
        let past = λ (j : ℕ). op 0 (Jump (second + (size b + 1))) ∷ [] in
        let first = followed_size i test yes (size e) (size a + 1) (code_size i k Used e (Branch mark false second)) (λ j. one_more (code p at j 0 Used a Push) (as_type p.model ty x) (size a) (code_size j 0 Used a Push)) in
        let jumped = followed_size i (followed i test yes) past (size e + (size a + 1)) 1 first (λ j. refl) in
        followed_size i (followed i (followed i test yes) past) no (size e + (size a + 1) + 1) (size b + 1) jumped (λ j. one_more (code p at j 0 Used b Push) (as_type p.model ty x) (size b) (code_size j 0 Used b Push))
        ∙ choice_sum (size e) (size a) (size b)
    node_size i k want spot ty (Comma a b) x =
        followed_size i (code p at i k Unused a Drop) (λ j. code p at j 0 Used b x.then) (size a) (size b) (code_size i k Unused a Drop) (λ j. code_size j 0 Used b x.then)
    node_size i k want spot ty (Assign o (Expr s u n) e) x =
        let into = stored_at p.model (Expr s u n) false x.then in
        let plain = place_code p at i (k + 1) s n false in
        let j = place_code p at i (k + 1) s n true in
        let from = i + length j.ops + length (kept j.operand j.steps) in
        let value = code p at from (rest j.operand j.steps) Used e Push in
        let pair = paired j.operand j.steps (operand_of e) value in
        let last = λ (b : BinOp). op pair.steps (operator p (source at spot) b (type_of (Expr s u n)) (type_of e) into pair.left pair.right) in
        assign_size o (followed i plain.ops (λ l. stored_code p at l plain.steps e into)) (λ b. (j.ops ++ pair.ops) ++ last b ∷ []) (size_of_place n) (as_stored e (size e)) (with_target n (operand_of e) (size e))
        (followed_size i plain.ops (λ l. stored_code p at l plain.steps e into) (size_of_place n) (as_stored e (size e)) (place_size i (k + 1) s n false) (λ l. stored_code_size l plain.steps e into))
        (λ b. target_size (operand_of e) j.operand j.steps j.ops value (size_of_place n) (size e) (left_of n) (last b)
        (place_size i (k + 1) s n true) (code_size from (rest j.operand j.steps) Used e Push) (kept_target i (k + 1) s n true j.steps)
        ∙ ap (λ m. size_of_place n + m) (with_left n (operand_of e) (size e)))
    node_size i k want spot ty (Call callee es close) x =
        let c = callee_size p at (site_at spot close want ty) (count_of es) x.then callee in
        length-append (args_code p at i k (argument_to callee) es) _ ∙ ap₂ ◌+◌ (args_size i k (argument_to callee) es) c ∙ call_sum (size_of_all es) (size_of_callee callee)

    -- a value that is stored
    pub stored_code_size : (i k : ℕ) (e : Exp) (x : Into) → length (stored_code p at i k e x) ≡ as_stored e (size e)
    stored_code_size i k (Expr s u n) x =
        stored_size p (is_binary n) (operand_in n) k x _ _ (size_of_node u n) (node_size i (k + 1) Used s u n (only Push)) (node_size i (k + 1) Used s u n x)

    -- what finds an element that is written
    pub aim_size : (i k : ℕ) (t : Exp) (reads : Bool) → length (aim_code p at i k t reads).ops ≡ size_of_aim t
    aim_size i k (Expr spot ty n) reads = place_size i (k + 1) spot n reads

    -- by the target's form
    pub place_size : (i k : ℕ) (spot : Spot) (n : Node) (reads : Bool) → length (place_code p at i k spot n reads).ops ≡ size_of_place n
    place_size i k spot (Index o is) reads = element_size i k spot o is (λ y. Aim o (size_of_object p o) y spot reads)
    place_size i k spot _ reads = refl

    -- an element's indexes, and an operation that takes the cell
    pub element_size : (i k : ℕ) (spot : Spot) (o : ℕ) (is : Exps) (f : Operand → Action) → length (taken (element_code p at i k spot o is) f) ≡ size_of_element is
    element_size i k spot o NoExp f = refl
    element_size i k spot o (MoreExp a NoExp) f = one_size (operand_of a) k (code p at i k Used a Push) (size a) _ (code_size i k Used a Push)
    element_size i k spot o (MoreExp a (MoreExp b NoExp)) f =
        let j = prepared (operand_of a) k (code p at i k Used a Push) in
        let from = i + length j.ops + length (kept j.operand j.steps) in
        one_more _ _ _ (two_size (operand_of a) (operand_of b) k (code p at i k Used a Push) (code p at from (rest j.operand j.steps) Used b Push) (size a) (size b) _ (kept_of a)
        (code_size i k Used a Push) (code_size from (rest j.operand j.steps) Used b Push))
    element_size i k spot o (MoreExp a (MoreExp b (MoreExp c es))) f =
        one_more _ _ _ (followed_size i (code p at i k Used a Drop) _ (size a) (size b + (size c + size_of_all es)) (code_size i k Used a Drop)
        (λ j. followed_size j (code p at j 0 Used b Drop) _ (size b) (size c + size_of_all es) (code_size j 0 Used b Drop)
        (λ l. followed_size l (code p at l 0 Used c Drop) _ (size c) (size_of_all es) (code_size l 0 Used c Drop) (λ m. args_size m 0 Drop es))))

    -- arguments
    pub args_size : (i k : ℕ) (then : Then) (es : Exps) → length (args_code p at i k then es) ≡ size_of_all es
    args_size i k then NoExp = refl
    args_size i k then (MoreExp e es) =
        followed_size i (code p at i k Used e then) (λ j. args_code p at j 0 then es) (size e) (size_of_all es) (code_size i k Used e then) (λ j. args_size j 0 then es)
