-- Two places of one kind differ: those of a kind are part of the places of all parts, in the order of the text.
use Rattle.std.proofs.Common.{◌≡◌, eqb-true, Bool, true, false, cond, List, [], ◌∷◌, ◌++◌, refl, sym, ap, ◌∙◌, subst, Option, Some, None, nat_eq}
use Rattle.std.specs.List.{flat_map}
use Rattle.c_core.specs.Tree.{Exp, Expr, Node, Const, Var, Index, Unary, Cast, Step, Binary, Logic, Choose, Comma, Assign, Call, Exps, NoExp, MoreExp, Init, Absent, One, Many, Rows, Names, NoName, MoreName, First, NoFirst, FirstExp, FirstNames, Stm, Stmt, Form, Empty, Do, Declare, Block, If, While, DoWhile, For, Break, Continue, Return, Label, Switch, Else, NoElse, OrElse, Stms, NoStm, MoreStm, MoreCase, Function, Program}
use Rattle.c_core.specs.Operators.{is_prefix}
use Rattle.c_core.specs.Parts.{same_spot}
use Rattle.c_core.specs.TextOrder.{rises, whole, spots_of, spots_of_node, spots_of_arguments, spots_if, spots_of_init, spots_of_declarators, spots_of_first, spots_of_statement, spots_of_form, spots_of_else, spots_of_block, spots_of_functions}
use Rattle.c_core.specs.Places.{place, same_kind, of_kind, spots_of_kind, places_in, places_in_node, places_in_arguments, places_if, places_in_init, places_in_names, places_in_first, places_of_statement, places_of_form, places_of_else, places_of_block, places_of_body}
use Rattle.c_core.specs.Program.{places_rise}
use Rattle.c_core.proofs.TextOrderLaws.{left, right, IsPart, ends, skips, takes, part_none, part_append, rises-part}
use Rattle.c_core.specs.declared.number.Spot.{Spot}
use Rattle.c_core.specs.declared.place.PlaceKind.{PlaceKind}
use Rattle.c_core.specs.declared.place.PlaceKind.TheVariants.{Statement, Loop, Branch, CallEnd}
use Rattle.c_core.specs.declared.place.Place.{Place}

with_first : (b : Bool) (a : Spot) (xs ys zs : List Spot) → zs ≡ xs ++ ys → cond b (a ∷ zs) zs ≡ cond b (a ∷ xs) xs ++ ys
with_first true a xs ys zs e = ap (λ l. a ∷ l) e
with_first false a xs ys zs e = e

of_kind-append : (k : PlaceKind) (ps qs : List Place) → of_kind k (ps ++ qs) ≡ of_kind k ps ++ of_kind k qs
of_kind-append k [] qs = refl
of_kind-append k (p ∷ ps) qs = with_first (same_kind k p.kind) p.spot (of_kind k ps) (of_kind k qs) (of_kind k (ps ++ qs)) (of_kind-append k ps qs)

-- those of a kind are part of the places of all
abbrev InOrder : PlaceKind → List Place → List Spot → Type 0
InOrder k ps spots = IsPart (of_kind k ps) spots

append_in : (k : PlaceKind) (ps qs : List Place) (ss ts : List Spot) → InOrder k ps ss → InOrder k qs ts → InOrder k (ps ++ qs) (ss ++ ts)
append_in k ps qs ss ts a b =
    let P : List Spot → Type 0 = λ l. IsPart l (ss ++ ts) in subst P (sym (of_kind-append k ps qs)) (part_append _ ss _ ts a b)

head_part : (b : Bool) (a : Spot) (xs ss : List Spot) → IsPart xs ss → IsPart (cond b (a ∷ xs) xs) (a ∷ ss)
head_part true a xs ss p = takes a xs ss p
head_part false a xs ss p = skips a xs ss p

head_in : (k kind : PlaceKind) (a : Spot) (ps : List Place) (ss : List Spot) → InOrder k ps ss → InOrder k (place kind a ∷ ps) (a ∷ ss)
head_in k kind a ps ss p = head_part (same_kind k kind) a (of_kind k ps) ss p

-- a place of several kinds
two_in : (k : PlaceKind) (a : Spot) (ps : List Place) (ss : List Spot) → InOrder k ps ss → InOrder k (place Statement a ∷ place Branch a ∷ ps) (a ∷ ss)
two_in Statement a ps ss p = takes a _ ss p
two_in Loop a ps ss p = skips a _ ss p
two_in Branch a ps ss p = takes a _ ss p
two_in CallEnd a ps ss p = skips a _ ss p

three_in : (k : PlaceKind) (a : Spot) (ps : List Place) (ss : List Spot) → InOrder k ps ss → InOrder k (place Statement a ∷ place Loop a ∷ place Branch a ∷ ps) (a ∷ ss)
three_in Statement a ps ss p = takes a _ ss p
three_in Loop a ps ss p = takes a _ ss p
three_in Branch a ps ss p = takes a _ ss p
three_in CallEnd a ps ss p = skips a _ ss p

whole_first : (b : Bool) (a f : Spot) (xs ss : List Spot) → IsPart xs (f ∷ ss) → IsPart xs (cond b (f ∷ ss) (a ∷ f ∷ ss))
whole_first true a f xs ss p = p
whole_first false a f xs ss p = skips a xs (f ∷ ss) p

whole_part : (a : Spot) (xs ss : List Spot) → IsPart xs ss → IsPart xs (whole a ss)
whole_part a xs [] p = skips a xs [] p
whole_part a xs (f ∷ ss) p = whole_first (same_spot a f) a f xs ss p

step_part : (b : Bool) (a : Spot) (xs ss : List Spot) → IsPart xs ss → IsPart xs (cond b (a ∷ ss) (whole a ss))
step_part true a xs ss p = skips a xs ss p
step_part false a xs ss p = whole_part a xs ss p

mutual
  exp_in : (k : PlaceKind) (e : Exp) → InOrder k (places_in e) (spots_of e)
  exp_in k (Expr spot ty n) = node_in k spot n

  node_in : (k : PlaceKind) (spot : Spot) (n : Node) → InOrder k (places_in_node n) (spots_of_node spot n)
  node_in k spot (Const v) = part_none _
  node_in k spot (Var o) = part_none _
  node_in k spot (Index o is) = skips spot _ _ (arguments_in k is)
  node_in k spot (Unary op a) = skips spot _ _ (exp_in k a)
  node_in k spot (Cast a) = skips spot _ _ (exp_in k a)
  node_in k spot (Step op a) = step_part (is_prefix op) spot _ (spots_of a) (exp_in k a)
  node_in k spot (Binary op a b) = append_in k (places_in a) (places_in b) _ _ (whole_part spot _ (spots_of a) (exp_in k a)) (exp_in k b)
  node_in k spot (Logic both a b) = append_in k (places_in a) (places_in b) _ _ (whole_part spot _ (spots_of a) (exp_in k a)) (exp_in k b)
  node_in k spot (Choose mark e a b) =
      append_in k (places_in e ++ place Branch mark ∷ places_in a) (places_in b) _ _
      (append_in k (places_in e) (place Branch mark ∷ places_in a) _ _ (whole_part spot _ (spots_of e) (exp_in k e)) (head_in k Branch mark (places_in a) _ (exp_in k a)))
      (exp_in k b)
  node_in k spot (Comma a b) = append_in k (places_in a) (places_in b) _ _ (whole_part spot _ (spots_of a) (exp_in k a)) (exp_in k b)
  node_in k spot (Assign op a b) = append_in k (places_in a) (places_in b) _ _ (whole_part spot _ (spots_of a) (exp_in k a)) (exp_in k b)
  node_in k spot (Call callee es close) =
      append_in k (places_in_arguments es) (place CallEnd close ∷ []) (spot ∷ spots_of_arguments es) (close ∷ [])
      (skips spot _ _ (arguments_in k es)) (head_in k CallEnd close [] [] ends)

  arguments_in : (k : PlaceKind) (es : Exps) → InOrder k (places_in_arguments es) (spots_of_arguments es)
  arguments_in k NoExp = ends
  arguments_in k (MoreExp e es) = append_in k (places_in e) (places_in_arguments es) _ _ (exp_in k e) (arguments_in k es)

none_append : (ps qs : List Place) → of_kind Statement ps ≡ [] → of_kind Statement qs ≡ [] → of_kind Statement (ps ++ qs) ≡ []
none_append ps qs a b = of_kind-append Statement ps qs ∙ rw a b

-- no statement stands in an expression
mutual
  none_in : (e : Exp) → of_kind Statement (places_in e) ≡ []
  none_in (Expr spot ty n) = none_in_node n

  none_in_node : (n : Node) → of_kind Statement (places_in_node n) ≡ []
  none_in_node (Const v) = refl
  none_in_node (Var o) = refl
  none_in_node (Index o is) = none_in_arguments is
  none_in_node (Unary op a) = none_in a
  none_in_node (Cast a) = none_in a
  none_in_node (Step op a) = none_in a
  none_in_node (Binary op a b) = none_append (places_in a) (places_in b) (none_in a) (none_in b)
  none_in_node (Logic both a b) = none_append (places_in a) (places_in b) (none_in a) (none_in b)
  none_in_node (Choose mark e a b) =
      none_append (places_in e ++ place Branch mark ∷ places_in a) (places_in b)
      (none_append (places_in e) (place Branch mark ∷ places_in a) (none_in e) (none_in a)) (none_in b)
  none_in_node (Comma a b) = none_append (places_in a) (places_in b) (none_in a) (none_in b)
  none_in_node (Assign op a b) = none_append (places_in a) (places_in b) (none_in a) (none_in b)
  none_in_node (Call callee es close) = none_append (places_in_arguments es) (place CallEnd close ∷ []) (none_in_arguments es) refl

  none_in_arguments : (es : Exps) → of_kind Statement (places_in_arguments es) ≡ []
  none_in_arguments NoExp = refl
  none_in_arguments (MoreExp e es) = none_append (places_in e) (places_in_arguments es) (none_in e) (none_in_arguments es)

same_spot-true : (a b : Spot) → same_spot a b ≡ true → a ≡ b
same_spot-true a b h =
    let l : a.line ≡ b.line = eqb-true a.line b.line (left _ _ h) in
    let c : a.column ≡ b.column = eqb-true a.column b.column (right (nat_eq a.line b.line) _ h) in
    ap (λ n. record { line = n; column = a.column }) l ∙ ap (λ n. record { line = b.line; column = n }) c

head_of_whole_by : (b : Bool) (a f : Spot) (ss : List Spot) → same_spot a f ≡ b → IsPart (a ∷ []) (cond b (f ∷ ss) (a ∷ f ∷ ss))
head_of_whole_by true a f ss e =
    let P : Spot → Type 0 = λ s. IsPart (s ∷ []) (f ∷ ss) in subst P (sym (same_spot-true a f e)) (takes f [] ss (part_none ss))
head_of_whole_by false a f ss e = takes a [] (f ∷ ss) (part_none (f ∷ ss))

head_of_whole : (a : Spot) (ss : List Spot) → IsPart (a ∷ []) (whole a ss)
head_of_whole a [] = takes a [] [] ends
head_of_whole a (f ∷ ss) = head_of_whole_by (same_spot a f) a f ss refl

-- an expression statement, which begins where its expression does
only_in : (k : PlaceKind) (at : Spot) (e : Exp) → InOrder k (place Statement at ∷ places_in e) (whole at (spots_of e))
only_in Statement at e =
    let P : List Spot → Type 0 = λ l. IsPart (at ∷ l) (whole at (spots_of e)) in subst P (sym (none_in e)) (head_of_whole at (spots_of e))
only_in Loop at e = whole_part at _ (spots_of e) (exp_in Loop e)
only_in Branch at e = whole_part at _ (spots_of e) (exp_in Branch e)
only_in CallEnd at e = whole_part at _ (spots_of e) (exp_in CallEnd e)

if_in : (k : PlaceKind) (e : Option Exp) → InOrder k (places_if e) (spots_if e)
if_in k None = ends
if_in k (Some e) = exp_in k e

rows_in : (k : PlaceKind) (rows : List Exps) → InOrder k (flat_map places_in_arguments rows) (flat_map spots_of_arguments rows)
rows_in k [] = ends
rows_in k (es ∷ rows) = append_in k (places_in_arguments es) (flat_map places_in_arguments rows) _ _ (arguments_in k es) (rows_in k rows)

init_in : (k : PlaceKind) (i : Init) → InOrder k (places_in_init i) (spots_of_init i)
init_in k Absent = ends
init_in k (One e) = exp_in k e
init_in k (Many es) = arguments_in k es
init_in k (Rows rows) = rows_in k rows

names_in : (k : PlaceKind) (ns : Names) → InOrder k (places_in_names ns) (spots_of_declarators ns)
names_in k NoName = ends
names_in k (MoreName spot o i ns) =
    append_in k (places_in_init i) (places_in_names ns) (spot ∷ spots_of_init i) _ (skips spot _ _ (init_in k i)) (names_in k ns)

first_in : (k : PlaceKind) (i : First) → InOrder k (places_in_first i) (spots_of_first i)
first_in k NoFirst = ends
first_in k (FirstExp e) = exp_in k e
first_in k (FirstNames ns) = names_in k ns

mutual
  statement_in : (k : PlaceKind) (s : Stm) → InOrder k (places_of_statement s) (spots_of_statement s)
  statement_in k (Stmt at f) = form_in k at f

  form_in : (k : PlaceKind) (at : Spot) (f : Form) → InOrder k (place Statement at ∷ places_of_form at f) (spots_of_form at f)
  form_in k at Empty = head_in k Statement at [] [] ends
  form_in k at (Do e) = only_in k at e
  form_in k at (Declare ns) = head_in k Statement at (places_in_names ns) _ (names_in k ns)
  form_in k at (Block b) = head_in k Statement at (places_of_block b) _ (block_in k b)
  form_in k at (If e a b) =
      append_in k (place Statement at ∷ place Branch at ∷ places_in e ++ places_of_statement a) (places_of_else b) (at ∷ spots_of e ++ spots_of_statement a) _
      (append_in k (place Statement at ∷ place Branch at ∷ places_in e) (places_of_statement a) (at ∷ spots_of e) _ (two_in k at (places_in e) _ (exp_in k e)) (statement_in k a))
      (else_in k b)
  form_in k at (While e b) =
      append_in k (place Statement at ∷ place Loop at ∷ place Branch at ∷ places_in e) (places_of_statement b) (at ∷ spots_of e) _
      (three_in k at (places_in e) _ (exp_in k e)) (statement_in k b)
  form_in k at (DoWhile b e) =
      append_in k (place Statement at ∷ place Loop at ∷ place Branch at ∷ places_of_statement b) (places_in e) (at ∷ spots_of_statement b) _
      (three_in k at (places_of_statement b) _ (statement_in k b)) (exp_in k e)
  form_in k at (For i e s b) =
      append_in k (place Statement at ∷ place Loop at ∷ place Branch at ∷ places_in_first i ++ places_if e ++ places_if s) (places_of_statement b)
      (at ∷ spots_of_first i ++ spots_if e ++ spots_if s) _
      (append_in k (place Statement at ∷ place Loop at ∷ place Branch at ∷ places_in_first i ++ places_if e) (places_if s) (at ∷ spots_of_first i ++ spots_if e) _
      (append_in k (place Statement at ∷ place Loop at ∷ place Branch at ∷ places_in_first i) (places_if e) (at ∷ spots_of_first i) _
      (three_in k at (places_in_first i) _ (first_in k i)) (if_in k e))
      (if_in k s))
      (statement_in k b)
  form_in k at Break = head_in k Statement at [] [] ends
  form_in k at Continue = head_in k Statement at [] [] ends
  form_in k at (Return e) = head_in k Statement at (places_if e) _ (if_in k e)
  form_in k at (Label b) = head_in k Statement at (places_of_statement b) _ (statement_in k b)
  form_in k at (Switch e b) =
      append_in k (place Statement at ∷ place Branch at ∷ places_in e) (places_of_block b) (at ∷ spots_of e) _ (two_in k at (places_in e) _ (exp_in k e)) (block_in k b)

  else_in : (k : PlaceKind) (b : Else) → InOrder k (places_of_else b) (spots_of_else b)
  else_in k NoElse = ends
  else_in k (OrElse b) = statement_in k b

  block_in : (k : PlaceKind) (b : Stms) → InOrder k (places_of_block b) (spots_of_block b)
  block_in k NoStm = ends
  block_in k (MoreStm s b) = append_in k (places_of_statement s) (places_of_block b) _ _ (statement_in k s) (block_in k b)
  block_in k (MoreCase spot l b) = skips spot _ _ (block_in k b)

part_tail : (a : Spot) (xs ss : List Spot) → IsPart (a ∷ xs) ss → IsPart xs ss
part_tail a xs _ (skips b _ ss p) = skips b xs ss (part_tail a xs ss p)
part_tail a xs _ (takes _ _ ss p) = skips a xs ss p

without_head : (b : Bool) (a : Spot) (xs ss : List Spot) → IsPart (cond b (a ∷ xs) xs) ss → IsPart xs ss
without_head true a xs ss p = part_tail a xs ss p
without_head false a xs ss p = p

body_in : (k : PlaceKind) (s : Stm) → InOrder k (places_of_body s) (spots_of_statement s)
body_in k (Stmt at f) = without_head (same_kind k Statement) at _ _ (form_in k at f)

functions_in : (k : PlaceKind) (fs : List Function) → InOrder k (flat_map (λ f. places_of_body f.body) fs) (spots_of_functions fs)
functions_in k [] = ends
functions_in k (f ∷ fs) = append_in k (places_of_body f.body) (flat_map (λ f. places_of_body f.body) fs) _ _ (body_in k f.body) (functions_in k fs)

-- the places of a kind rise, so that two of them differ
pub kinds_rise : (p : Program) → places_rise p ≡ true → (k : PlaceKind) → rises (spots_of_kind k p) ≡ true
kinds_rise p h k = rises-part _ _ (functions_in k p.functions) h
