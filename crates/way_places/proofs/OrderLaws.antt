-- The places of a program follow the order of its text, those at one place the order of their kinds.
use Rattle.std.proofs.Common.{◌≡◌, refl, sym, ap, ◌∙◌, subst, Bool, true, false, cond, ◌&&◌, ◌||◌, List, [], ◌∷◌, ◌++◌, Option, Some, None, nat_lt, nat_eq, eqb-true}
use Rattle.std.proofs.lemmas.Bool.{and_from as both_true}
use Rattle.std.proofs.Math.Bool.{or-true}
use Rattle.std.specs.List.{list_all, flat_map}
use Rattle.c_core.specs.Operators.{is_prefix}
use Rattle.c_core.specs.Parts.{same_spot}
use Rattle.c_core.specs.Places.{number_of_kind, place, places_if, places_in, places_in_arguments, places_in_first, places_in_init, places_in_names, places_in_node, places_of, places_of_block, places_of_body, places_of_else, places_of_form, places_of_statement}
use Rattle.c_core.specs.Program.{places_rise}
use Rattle.c_core.specs.TextOrder.{is_before, is_before_first, rises, spots_if, spots_of, spots_of_arguments, spots_of_block, spots_of_declarators, spots_of_else, spots_of_first, spots_of_form, spots_of_functions, spots_of_init, spots_of_node, spots_of_statement, whole}
use Rattle.c_core.specs.Tree.{Exp, Expr, Node, Const, Var, Index, Unary, Cast, Step, Binary, Logic, Choose, Comma, Assign, Call, Exps, NoExp, MoreExp, Init, Absent, One, Many, Rows, Names, NoName, MoreName, First, NoFirst, FirstExp, FirstNames, Stm, Stmt, Form, Empty, Do, Declare, Block, If, While, DoWhile, For, Break, Continue, Return, Label, Switch, Else, NoElse, OrElse, Stms, NoStm, MoreStm, MoreCase, Function, Program}
use Rattle.c_core.specs.declared.number.Spot.{Spot}
use Rattle.c_core.specs.declared.place.Place.{Place}
use Rattle.c_core.specs.declared.place.PlaceKind.{PlaceKind}
use Rattle.c_core.specs.declared.place.PlaceKind.TheVariants.{Statement, Loop, Branch, CallEnd}
use Rattle.c_core.proofs.TextOrderLaws.{before_all, left, right, same_spot-self}
use Rattle.way_places.specs.Ordered.{are_ordered, precedes, precedes_first}

-- the places of expressions along the places of all parts: at most one at each, no statement
data Inner : List Place → List Spot → Type 0 where
  ends : Inner [] []
  skips : (a : Spot) (ps : List Place) (ss : List Spot) → Inner ps ss → Inner ps (a ∷ ss)
  branches : (a : Spot) (ps : List Place) (ss : List Spot) → Inner ps ss → Inner (place Branch a ∷ ps) (a ∷ ss)
  comes_back : (a : Spot) (ps : List Place) (ss : List Spot) → Inner ps ss → Inner (place CallEnd a ∷ ps) (a ∷ ss)

-- those of statements: at each place at most three, in the order of their kinds
data Laid : List Place → List Spot → Type 0 where
  none : Laid [] []
  past : (a : Spot) (ps : List Place) (ss : List Spot) → Laid ps ss → Laid ps (a ∷ ss)
  one : (k : PlaceKind) (a : Spot) (ps : List Place) (ss : List Spot) → Laid ps ss → Laid (place k a ∷ ps) (a ∷ ss)
  two : (j k : PlaceKind) (a : Spot) (ps : List Place) (ss : List Spot) → nat_lt (number_of_kind j) (number_of_kind k) ≡ true → Laid ps ss → Laid (place j a ∷ place k a ∷ ps) (a ∷ ss)
  three : (a : Spot) (ps : List Place) (ss : List Spot) → Laid ps ss → Laid (place Statement a ∷ place Loop a ∷ place Branch a ∷ ps) (a ∷ ss)

inner_none : (ss : List Spot) → Inner [] ss
inner_none [] = ends
inner_none (a ∷ ss) = skips a [] ss (inner_none ss)

inner_both : (ps qs : List Place) (ss ts : List Spot) → Inner ps ss → Inner qs ts → Inner (ps ++ qs) (ss ++ ts)
inner_both _ qs _ ts ends q = q
inner_both ps qs _ ts (skips a _ ss p) q = skips a (ps ++ qs) (ss ++ ts) (inner_both ps qs ss ts p q)
inner_both _ qs _ ts (branches a ps ss p) q = branches a (ps ++ qs) (ss ++ ts) (inner_both ps qs ss ts p q)
inner_both _ qs _ ts (comes_back a ps ss p) q = comes_back a (ps ++ qs) (ss ++ ts) (inner_both ps qs ss ts p q)

laid_both : (ps qs : List Place) (ss ts : List Spot) → Laid ps ss → Laid qs ts → Laid (ps ++ qs) (ss ++ ts)
laid_both _ qs _ ts none q = q
laid_both ps qs _ ts (past a _ ss p) q = past a (ps ++ qs) (ss ++ ts) (laid_both ps qs ss ts p q)
laid_both _ qs _ ts (one k a ps ss p) q = one k a (ps ++ qs) (ss ++ ts) (laid_both ps qs ss ts p q)
laid_both _ qs _ ts (two j k a ps ss h p) q = two j k a (ps ++ qs) (ss ++ ts) h (laid_both ps qs ss ts p q)
laid_both _ qs _ ts (three a ps ss p) q = three a (ps ++ qs) (ss ++ ts) (laid_both ps qs ss ts p q)

laid : (ps : List Place) (ss : List Spot) → Inner ps ss → Laid ps ss
laid _ _ ends = none
laid ps _ (skips a _ ss p) = past a ps ss (laid ps ss p)
laid _ _ (branches a ps ss p) = one Branch a ps ss (laid ps ss p)
laid _ _ (comes_back a ps ss p) = one CallEnd a ps ss (laid ps ss p)

pub one_spot : (a b : Spot) → same_spot a b ≡ true → a ≡ b
one_spot a b h =
    let l : a.line ≡ b.line = eqb-true a.line b.line (left _ _ h) in
    let c : a.column ≡ b.column = eqb-true a.column b.column (right (nat_eq a.line b.line) _ h) in
    ap (λ n. record { line = n; column = a.column }) l ∙ ap (λ n. record { line = b.line; column = n }) c

-- a statement that begins where its expression does
begins : (a : Spot) (ps : List Place) (ss : List Spot) → Inner ps (a ∷ ss) → Laid (place Statement a ∷ ps) (a ∷ ss)
begins _ ps _ (skips a _ ss p) = one Statement a ps ss (laid ps ss p)
begins _ _ _ (branches a ps ss p) = two Statement Branch a ps ss refl (laid ps ss p)
begins _ _ _ (comes_back a ps ss p) = two Statement CallEnd a ps ss refl (laid ps ss p)

whole_by : (b : Bool) (a f : Spot) (ps : List Place) (ss : List Spot) → Inner ps (f ∷ ss) → Inner ps (cond b (f ∷ ss) (a ∷ f ∷ ss))
whole_by true a f ps ss p = p
whole_by false a f ps ss p = skips a ps (f ∷ ss) p

in_whole : (a : Spot) (ps : List Place) (ss : List Spot) → Inner ps ss → Inner ps (whole a ss)
in_whole a ps [] p = skips a ps [] p
in_whole a ps (f ∷ ss) p = whole_by (same_spot a f) a f ps ss p

only_by : (b : Bool) (a f : Spot) (ps : List Place) (ss : List Spot) → same_spot a f ≡ b → Inner ps (f ∷ ss) → Laid (place Statement a ∷ ps) (cond b (f ∷ ss) (a ∷ f ∷ ss))
only_by true a f ps ss e p =
    let P : Spot → Type 0 = λ s. Laid (place Statement s ∷ ps) (f ∷ ss) in subst P (sym (one_spot a f e)) (begins f ps ss p)
only_by false a f ps ss e p = one Statement a ps (f ∷ ss) (laid ps (f ∷ ss) p)

only : (a : Spot) (ps : List Place) (ss : List Spot) → Inner ps ss → Laid (place Statement a ∷ ps) (whole a ss)
only a ps [] p = one Statement a ps [] (laid ps [] p)
only a ps (f ∷ ss) p = only_by (same_spot a f) a f ps ss refl p

step_by : (b : Bool) (a : Spot) (ps : List Place) (ss : List Spot) → Inner ps ss → Inner ps (cond b (a ∷ ss) (whole a ss))
step_by true a ps ss p = skips a ps ss p
step_by false a ps ss p = in_whole a ps ss p

pair : (a : Spot) (ps qs : List Place) (ss ts : List Spot) → Inner ps ss → Inner qs ts → Inner (ps ++ qs) (whole a ss ++ ts)
pair a ps qs ss ts p q = inner_both ps qs (whole a ss) ts (in_whole a ps ss p) q

mutual
  in_exp : (e : Exp) → Inner (places_in e) (spots_of e)
  in_exp (Expr spot ty n) = in_node spot n

  in_node : (spot : Spot) (n : Node) → Inner (places_in_node n) (spots_of_node spot n)
  in_node spot (Const v) = inner_none (spot ∷ [])
  in_node spot (Var o) = inner_none (spot ∷ [])
  in_node spot (Index o is) = skips spot (places_in_arguments is) (spots_of_arguments is) (in_arguments is)
  in_node spot (Unary op a) = skips spot (places_in a) (spots_of a) (in_exp a)
  in_node spot (Cast a) = skips spot (places_in a) (spots_of a) (in_exp a)
  in_node spot (Step op a) = step_by (is_prefix op) spot (places_in a) (spots_of a) (in_exp a)
  in_node spot (Binary op a b) = pair spot (places_in a) (places_in b) (spots_of a) (spots_of b) (in_exp a) (in_exp b)
  in_node spot (Logic both a b) = pair spot (places_in a) (places_in b) (spots_of a) (spots_of b) (in_exp a) (in_exp b)
  in_node spot (Choose mark e a b) =
      inner_both (places_in e ++ place Branch mark ∷ places_in a) (places_in b) (whole spot (spots_of e) ++ mark ∷ spots_of a) (spots_of b)
      (pair spot (places_in e) (place Branch mark ∷ places_in a) (spots_of e) (mark ∷ spots_of a) (in_exp e) (branches mark (places_in a) (spots_of a) (in_exp a)))
      (in_exp b)
  in_node spot (Comma a b) = pair spot (places_in a) (places_in b) (spots_of a) (spots_of b) (in_exp a) (in_exp b)
  in_node spot (Assign op a b) = pair spot (places_in a) (places_in b) (spots_of a) (spots_of b) (in_exp a) (in_exp b)
  in_node spot (Call callee es close) =
      inner_both (places_in_arguments es) (place CallEnd close ∷ []) (spot ∷ spots_of_arguments es) (close ∷ [])
      (skips spot (places_in_arguments es) (spots_of_arguments es) (in_arguments es)) (comes_back close [] [] ends)

  in_arguments : (es : Exps) → Inner (places_in_arguments es) (spots_of_arguments es)
  in_arguments NoExp = ends
  in_arguments (MoreExp e es) = inner_both (places_in e) (places_in_arguments es) (spots_of e) (spots_of_arguments es) (in_exp e) (in_arguments es)

in_if : (e : Option Exp) → Inner (places_if e) (spots_if e)
in_if None = ends
in_if (Some e) = in_exp e

in_rows : (rows : List Exps) → Inner (flat_map places_in_arguments rows) (flat_map spots_of_arguments rows)
in_rows [] = ends
in_rows (es ∷ rows) = inner_both (places_in_arguments es) (flat_map places_in_arguments rows) (spots_of_arguments es) (flat_map spots_of_arguments rows) (in_arguments es) (in_rows rows)

in_init : (i : Init) → Inner (places_in_init i) (spots_of_init i)
in_init Absent = ends
in_init (One e) = in_exp e
in_init (Many es) = in_arguments es
in_init (Rows rows) = in_rows rows

in_names : (ns : Names) → Inner (places_in_names ns) (spots_of_declarators ns)
in_names NoName = ends
in_names (MoreName spot o i ns) =
    inner_both (places_in_init i) (places_in_names ns) (spot ∷ spots_of_init i) (spots_of_declarators ns) (skips spot (places_in_init i) (spots_of_init i) (in_init i)) (in_names ns)

in_first : (i : First) → Inner (places_in_first i) (spots_of_first i)
in_first NoFirst = ends
in_first (FirstExp e) = in_exp e
in_first (FirstNames ns) = in_names ns

abbrev at_once : Spot → List Place → List Spot → Type 0
at_once at ps ss = Laid (place Statement at ∷ ps) ss

mutual
  in_statement : (s : Stm) → Laid (places_of_statement s) (spots_of_statement s)
  in_statement (Stmt at f) = in_form at f

  in_form : (at : Spot) (f : Form) → at_once at (places_of_form at f) (spots_of_form at f)
  in_form at Empty = one Statement at [] [] none
  in_form at (Do e) = only at (places_in e) (spots_of e) (in_exp e)
  in_form at (Declare ns) = one Statement at (places_in_names ns) (spots_of_declarators ns) (laid (places_in_names ns) (spots_of_declarators ns) (in_names ns))
  in_form at (Block b) = one Statement at (places_of_block b) (spots_of_block b) (in_block b)
  in_form at (If e a b) =
      laid_both (place Statement at ∷ place Branch at ∷ places_in e ++ places_of_statement a) (places_of_else b) (at ∷ spots_of e ++ spots_of_statement a) (spots_of_else b)
      (laid_both (place Statement at ∷ place Branch at ∷ places_in e) (places_of_statement a) (at ∷ spots_of e) (spots_of_statement a)
      (two Statement Branch at (places_in e) (spots_of e) refl (laid (places_in e) (spots_of e) (in_exp e))) (in_statement a))
      (in_else b)
  in_form at (While e b) =
      laid_both (place Statement at ∷ place Loop at ∷ place Branch at ∷ places_in e) (places_of_statement b) (at ∷ spots_of e) (spots_of_statement b)
      (three at (places_in e) (spots_of e) (laid (places_in e) (spots_of e) (in_exp e))) (in_statement b)
  in_form at (DoWhile b e) =
      laid_both (place Statement at ∷ place Loop at ∷ place Branch at ∷ places_of_statement b) (places_in e) (at ∷ spots_of_statement b) (spots_of e)
      (three at (places_of_statement b) (spots_of_statement b) (in_statement b)) (laid (places_in e) (spots_of e) (in_exp e))
  in_form at (For i e s b) =
      laid_both (place Statement at ∷ place Loop at ∷ place Branch at ∷ places_in_first i ++ places_if e ++ places_if s) (places_of_statement b)
      (at ∷ spots_of_first i ++ spots_if e ++ spots_if s) (spots_of_statement b)
      (three at (places_in_first i ++ places_if e ++ places_if s) (spots_of_first i ++ spots_if e ++ spots_if s)
      (laid (places_in_first i ++ places_if e ++ places_if s) (spots_of_first i ++ spots_if e ++ spots_if s)
      (inner_both (places_in_first i ++ places_if e) (places_if s) (spots_of_first i ++ spots_if e) (spots_if s)
      (inner_both (places_in_first i) (places_if e) (spots_of_first i) (spots_if e) (in_first i) (in_if e)) (in_if s))))
      (in_statement b)
  in_form at Break = one Statement at [] [] none
  in_form at Continue = one Statement at [] [] none
  in_form at (Return e) = one Statement at (places_if e) (spots_if e) (laid (places_if e) (spots_if e) (in_if e))
  in_form at (Label b) = one Statement at (places_of_statement b) (spots_of_statement b) (in_statement b)
  in_form at (Switch e b) =
      laid_both (place Statement at ∷ place Branch at ∷ places_in e) (places_of_block b) (at ∷ spots_of e) (spots_of_block b)
      (two Statement Branch at (places_in e) (spots_of e) refl (laid (places_in e) (spots_of e) (in_exp e))) (in_block b)

  in_else : (b : Else) → Laid (places_of_else b) (spots_of_else b)
  in_else NoElse = none
  in_else (OrElse b) = in_statement b

  in_block : (b : Stms) → Laid (places_of_block b) (spots_of_block b)
  in_block NoStm = none
  in_block (MoreStm s b) = laid_both (places_of_statement s) (places_of_block b) (spots_of_statement s) (spots_of_block b) (in_statement s) (in_block b)
  in_block (MoreCase spot l b) = past spot (places_of_block b) (spots_of_block b) (in_block b)

-- without the first place
without_first : (x : Place) (ps : List Place) (ss : List Spot) → Laid (x ∷ ps) ss → Laid ps ss
without_first x ps _ (past a _ ss p) = past a ps ss (without_first x ps ss p)
without_first _ _ _ (one k a ps ss p) = past a ps ss p
without_first _ _ _ (two j k a ps ss h p) = one k a ps ss p
without_first _ _ _ (three a ps ss p) = two Loop Branch a ps ss refl p

in_body : (s : Stm) → Laid (places_of_body s) (spots_of_statement s)
in_body (Stmt at f) = without_first (place Statement at) (places_of_form at f) (spots_of_form at f) (in_form at f)

in_functions : (fs : List Function) → Laid (flat_map (λ f. places_of_body f.body) fs) (spots_of_functions fs)
in_functions [] = none
in_functions (f ∷ fs) =
    laid_both (places_of_body f.body) (flat_map (λ f. places_of_body f.body) fs) (spots_of_statement f.body) (spots_of_functions fs) (in_body f.body) (in_functions fs)

before_is : (k : PlaceKind) (a : Spot) (x : Place) → is_before a x.spot ≡ true → precedes (place k a) x ≡ true
before_is k a x h = rw h refl

same_is : (j k : PlaceKind) (a : Spot) → nat_lt (number_of_kind j) (number_of_kind k) ≡ true → precedes (place j a) (place k a) ≡ true
same_is j k a h = ap (λ b. is_before a a || (b && nat_lt (number_of_kind j) (number_of_kind k))) (same_spot-self a) ∙ ap (λ b. is_before a a || b) h ∙ or-true (is_before a a)

-- before the first place stands what stands before all
precedes_rest : (k : PlaceKind) (a : Spot) (ps : List Place) (ss : List Spot) → Laid ps ss → list_all (is_before a) ss ≡ true → precedes_first (place k a) ps ≡ true
precedes_rest k a _ _ none h = refl
precedes_rest k a ps _ (past b _ ss p) h = precedes_rest k a ps ss p (right (is_before a b) (list_all (is_before a) ss) h)
precedes_rest k a _ _ (one j b ps ss p) h = before_is k a (place j b) (left (is_before a b) (list_all (is_before a) ss) h)
precedes_rest k a _ _ (two i j b ps ss e p) h = before_is k a (place i b) (left (is_before a b) (list_all (is_before a) ss) h)
precedes_rest k a _ _ (three b ps ss p) h = before_is k a (place Statement b) (left (is_before a b) (list_all (is_before a) ss) h)

laid_ordered : (ps : List Place) (ss : List Spot) → Laid ps ss → rises ss ≡ true → are_ordered ps ≡ true
laid_ordered _ _ none h = refl
laid_ordered ps _ (past a _ ss p) h = laid_ordered ps ss p (right (is_before_first a ss) (rises ss) h)
laid_ordered _ _ (one k a ps ss p) h =
    both_true (precedes_first (place k a) ps) (are_ordered ps) (precedes_rest k a ps ss p (before_all a ss h)) (laid_ordered ps ss p (right (is_before_first a ss) (rises ss) h))
laid_ordered _ _ (two j k a ps ss e p) h =
    both_true (precedes (place j a) (place k a)) (precedes_first (place k a) ps && are_ordered ps) (same_is j k a e)
    (both_true (precedes_first (place k a) ps) (are_ordered ps) (precedes_rest k a ps ss p (before_all a ss h)) (laid_ordered ps ss p (right (is_before_first a ss) (rises ss) h)))
laid_ordered _ _ (three a ps ss p) h =
    both_true (precedes (place Statement a) (place Loop a)) (precedes (place Loop a) (place Branch a) && (precedes_first (place Branch a) ps && are_ordered ps)) (same_is Statement Loop a refl)
    (both_true (precedes (place Loop a) (place Branch a)) (precedes_first (place Branch a) ps && are_ordered ps) (same_is Loop Branch a refl)
    (both_true (precedes_first (place Branch a) ps) (are_ordered ps) (precedes_rest Branch a ps ss p (before_all a ss h)) (laid_ordered ps ss p (right (is_before_first a ss) (rises ss) h))))

pub places_ordered : (p : Program) → places_rise p ≡ true → are_ordered (places_of p) ≡ true
places_ordered p h = laid_ordered (places_of p) (spots_of_functions p.functions) (in_functions p.functions) h
