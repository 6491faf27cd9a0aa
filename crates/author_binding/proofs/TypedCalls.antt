-- Every expression of a checked program fits its type.
use Rattle.std.proofs.Common.{◌≡◌, Bool, true, ◌&&◌, List, [], ◌∷◌, ◌++◌, Option}
use Rattle.std.proofs.lemmas.Grind.{flat_map-append}
use Rattle.std.specs.List.{flat_map, list_all}
use Rattle.c_core.specs.Tree.{Exp, Expr, Node, Const, Var, Index, Unary, Cast, Step, Binary, Logic, Choose, Comma, Assign, Call, Exps, NoExp, MoreExp, Stm, Stmt, Form, Empty, Do, Declare, Block, If, While, DoWhile, For, Break, Continue, Return, Label, Switch, Else, NoElse, OrElse, Stms, NoStm, MoreStm, MoreCase, Function, Program}
use Rattle.c_core.specs.Parts.{every_exp, every_part, every_argument, every_statement, every_statement_in, every_statement_else, every_statement_of, exps_of, exps_of_node, exps_of_arguments, exps_of_program, fulls_of_program, statements_of, statements_of_form, statements_of_else, statements_of_block, own_fulls, own_fulls_of}
use Rattle.c_core.specs.Program.{types_fit}
use Rattle.c_core.specs.Typing.{exp_fits, form_fits, function_fits, is_typed, statement_fits}
use Rattle.c_core.specs.declared.number.IntType.{IntType}
use Rattle.c_core.proofs.TextOrderLaws.{left, right}

all_both : {A : Type 0} (q : A → Bool) (xs ys : List A) → list_all q xs ≡ true → list_all q ys ≡ true
    → list_all q (xs ++ ys) ≡ true
all_both q [] ys h g = g
all_both q (x ∷ xs) ys h g = rw (left (q x) _ h) (all_both q xs ys (right (q x) _ h) g)

all_more : {A : Type 0} (q : A → Bool) (x : A) (xs : List A) → q x ≡ true → list_all q xs ≡ true
    → list_all q (x ∷ xs) ≡ true
all_more q x xs h g = rw h g

-- ---- expressions

module _ (q : Exp → Bool) where
  mutual
    all_exps : (e : Exp) → every_exp q e ≡ true → list_all q (exps_of e) ≡ true
    all_exps (Expr spot ty n) h =
        all_more q (Expr spot ty n) (exps_of_node n) (left (q (Expr spot ty n)) (every_part q n) h)
        (all_parts n (right (q (Expr spot ty n)) (every_part q n) h))

    all_parts : (n : Node) → every_part q n ≡ true → list_all q (exps_of_node n) ≡ true
    all_parts (Const v) h = h
    all_parts (Var o) h = h
    all_parts (Index o is) h = all_arguments is h
    all_parts (Unary op a) h = all_exps a h
    all_parts (Cast a) h = all_exps a h
    all_parts (Step op a) h = all_exps a h
    all_parts (Binary op a b) h =
        all_both q (exps_of a) (exps_of b) (all_exps a (left (every_exp q a) (every_exp q b) h))
        (all_exps b (right (every_exp q a) (every_exp q b) h))
    all_parts (Logic k a b) h =
        all_both q (exps_of a) (exps_of b) (all_exps a (left (every_exp q a) (every_exp q b) h))
        (all_exps b (right (every_exp q a) (every_exp q b) h))
    all_parts (Choose mark e a b) h =
        let arms = right (every_exp q e) (every_exp q a && every_exp q b) h in
        all_both q (exps_of e ++ exps_of a) (exps_of b)
        (all_both q (exps_of e) (exps_of a) (all_exps e (left (every_exp q e) (every_exp q a && every_exp q b) h))
        (all_exps a (left (every_exp q a) (every_exp q b) arms)))
        (all_exps b (right (every_exp q a) (every_exp q b) arms))
    all_parts (Comma a b) h =
        all_both q (exps_of a) (exps_of b) (all_exps a (left (every_exp q a) (every_exp q b) h))
        (all_exps b (right (every_exp q a) (every_exp q b) h))
    all_parts (Assign op a b) h =
        all_both q (exps_of a) (exps_of b) (all_exps a (left (every_exp q a) (every_exp q b) h))
        (all_exps b (right (every_exp q a) (every_exp q b) h))
    all_parts (Call callee es close) h = all_arguments es h

    all_arguments : (es : Exps) → every_argument q es ≡ true → list_all q (exps_of_arguments es) ≡ true
    all_arguments NoExp h = h
    all_arguments (MoreExp e es) h =
        all_both q (exps_of e) (exps_of_arguments es) (all_exps e (left (every_exp q e) (every_argument q es) h))
        (all_arguments es (right (every_exp q e) (every_argument q es) h))

  all_among : (es : List Exp) → list_all (every_exp q) es ≡ true → list_all q (flat_map exps_of es) ≡ true
  all_among [] h = h
  all_among (e ∷ es) h =
      all_both q (exps_of e) (flat_map exps_of es) (all_exps e (left (every_exp q e) (list_all (every_exp q) es) h))
      (all_among es (right (every_exp q e) (list_all (every_exp q) es) h))

-- ---- statements

module _ (q : Stm → Bool) where
  mutual
    all_statements : (s : Stm) → every_statement q s ≡ true → list_all q (statements_of s) ≡ true
    all_statements (Stmt at f) h =
        all_more q (Stmt at f) (statements_of_form f) (left (q (Stmt at f)) (every_statement_in q f) h)
        (all_in_form f (right (q (Stmt at f)) (every_statement_in q f) h))

    all_in_form : (f : Form) → every_statement_in q f ≡ true → list_all q (statements_of_form f) ≡ true
    all_in_form Empty h = h
    all_in_form (Do e) h = h
    all_in_form (Declare ns) h = h
    all_in_form (Block b) h = all_in_block b h
    all_in_form (If e a b) h =
        all_both q (statements_of a) (statements_of_else b)
        (all_statements a (left (every_statement q a) (every_statement_else q b) h))
        (all_in_else b (right (every_statement q a) (every_statement_else q b) h))
    all_in_form (While e b) h = all_statements b h
    all_in_form (DoWhile b e) h = all_statements b h
    all_in_form (For i e s b) h = all_statements b h
    all_in_form Break h = h
    all_in_form Continue h = h
    all_in_form (Return e) h = h
    all_in_form (Label b) h = all_statements b h
    all_in_form (Switch e b) h = all_in_block b h

    all_in_else : (b : Else) → every_statement_else q b ≡ true → list_all q (statements_of_else b) ≡ true
    all_in_else NoElse h = h
    all_in_else (OrElse b) h = all_statements b h

    all_in_block : (b : Stms) → every_statement_of q b ≡ true → list_all q (statements_of_block b) ≡ true
    all_in_block NoStm h = h
    all_in_block (MoreStm s b) h =
        all_both q (statements_of s) (statements_of_block b)
        (all_statements s (left (every_statement q s) (every_statement_of q b) h))
        (all_in_block b (right (every_statement q s) (every_statement_of q b) h))
    all_in_block (MoreCase spot l b) h = all_in_block b h

-- ---- programs

module _ (p : Program) where
  own_typed : (result : Option IntType) (s : Stm) → statement_fits p result s ≡ true
      → list_all (is_typed p) (own_fulls_of s) ≡ true
  own_typed result (Stmt at f) h = right (form_fits p result f) (list_all (is_typed p) (own_fulls f)) h

  fulls_typed : (result : Option IntType) (ss : List Stm) → list_all (statement_fits p result) ss ≡ true
      → list_all (is_typed p) (flat_map own_fulls_of ss) ≡ true
  fulls_typed result [] h = h
  fulls_typed result (s ∷ ss) h =
      all_both (is_typed p) (own_fulls_of s) (flat_map own_fulls_of ss)
      (own_typed result s (left (statement_fits p result s) (list_all (statement_fits p result) ss) h))
      (fulls_typed result ss (right (statement_fits p result s) (list_all (statement_fits p result) ss) h))

  fulls_both : (xs ys : List Stm) → list_all (is_typed p) (flat_map own_fulls_of xs) ≡ true
      → list_all (is_typed p) (flat_map own_fulls_of ys) ≡ true
      → list_all (is_typed p) (flat_map own_fulls_of (xs ++ ys)) ≡ true
  fulls_both xs ys h g =
      rw (flat_map-append own_fulls_of xs ys)
      (all_both (is_typed p) (flat_map own_fulls_of xs) (flat_map own_fulls_of ys) h g)

  functions_typed : (fs : List Function) → list_all (function_fits p) fs ≡ true
      → list_all (is_typed p) (flat_map own_fulls_of (flat_map (λ f. statements_of f.body) fs)) ≡ true
  functions_typed [] h = h
  functions_typed (f ∷ fs) h =
      fulls_both (statements_of f.body) (flat_map (λ f. statements_of f.body) fs)
      (fulls_typed f.result (statements_of f.body)
      (all_statements (statement_fits p f.result) f.body (left (function_fits p f) (list_all (function_fits p) fs) h)))
      (functions_typed fs (right (function_fits p f) (list_all (function_fits p) fs) h))

  pub exps_typed : types_fit p ≡ true → list_all (exp_fits p) (exps_of_program p) ≡ true
  exps_typed h = all_among (exp_fits p) (fulls_of_program p) (functions_typed p.functions h)
