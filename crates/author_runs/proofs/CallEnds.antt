-- The places of kind `CallEnd` are the closing parentheses of the calls among all expressions.
use Rattle.std.proofs.Common.{◌≡◌, ◌≤◌, ◌+◌, ◌<◌, arith, ℕ, zero, suc, Bool, true, false, cond, ◌&&◌, List, [], ◌∷◌, ◌++◌, length, refl, ap, ◌∙◌, subst, Option, Some, None}
use Rattle.std.proofs.lemmas.Grind.{flat_map-append}
use Rattle.std.specs.List.{Contains, find, flat_map, slice_index_or}
use Rattle.std.proofs.lemmas.List.Elements.{Contains-append_right}
use Rattle.c_core.specs.Tree.{Exp, Expr, Const, Var, Index, Unary, Cast, Step, Binary, Logic, Choose, Comma, Assign, Call, Exps, NoExp, MoreExp, Init, Absent, One, Many, Rows, Names, NoName, MoreName, First, NoFirst, FirstExp, FirstNames, Stm, Stmt, Form, Empty, Do, Declare, Block, If, While, DoWhile, For, Break, Continue, Return, Label, Switch, Else, NoElse, OrElse, Stms, NoStm, MoreStm, MoreCase, Function, Program}
use Rattle.c_core.specs.Parts.{same_spot, exps_in, exp_if, exps_of, exps_of_arguments, statements_of, statements_of_form, statements_of_else, statements_of_block, fulls_of_init, fulls_of_names, fulls_of_first, own_fulls, own_fulls_of, exps_of_program}
use Rattle.c_core.specs.Places.{place, same_kind, of_kind, spots_of_kind, places_of, places_in, places_in_arguments, places_if, places_in_init, places_in_names, places_in_first, places_of_statement, places_of_form, places_of_else, places_of_block, places_of_body, ends_at, call_at}
use Rattle.c_core.specs.declared.number.Spot.{Spot}
use Rattle.c_core.specs.declared.place.Place.{Place}
use Rattle.c_core.specs.declared.place.PlaceKind.TheVariants as c
use Rattle.c_core.specs.declared.place.PlaceKind.TheVariants.{CallEnd}
use Rattle.c_core.specs.declared.tree.Callee.{Callee}
use Rattle.c_core.specs.declared.number.IntType.{IntType}
use Rattle.c_core.proofs.TextOrderLaws.{same_spot-self}
use Rattle.author_runs.proofs.OneCall.{number, number-append, same_place}

module _ (close : Spot) where
  -- a spot, and a place of kind `CallEnd`, is that one
  abbrev pub is_end : Spot → Bool
  is_end a = same_spot a close

  abbrev is_end_place : Place → Bool
  is_end_place a = same_kind CallEnd a.kind && is_end a.spot

  -- the calls that end there among expressions, among those of full expressions, among those of statements; the places
  abbrev calls : List Exp → ℕ
  calls es = number (ends_at close) es

  abbrev calls_of_fulls : List Exp → ℕ
  calls_of_fulls es = calls (flat_map exps_of es)

  abbrev calls_of_statements : List Stm → ℕ
  calls_of_statements ss = calls_of_fulls (flat_map own_fulls_of ss)

  abbrev places : List Place → ℕ
  places ps = number is_end_place ps

  both : (xs ys : List Exp) (ps qs : List Place) → calls xs ≡ places ps → calls ys ≡ places qs
      → calls (xs ++ ys) ≡ places (ps ++ qs)
  both xs ys ps qs h g =
      let a = number-append (ends_at close) xs ys in
      let b = number-append is_end_place ps qs in
      omega (arith, a, b, h, g)

  -- ---- in an expression

  -- full expressions alone, statements alone, no call before these
  no_statements : (n m : ℕ) → n ≡ m → n + 0 ≡ m
  no_statements n m h = omega (arith, h)

  no_fulls : (n m : ℕ) → n ≡ m → 0 + n ≡ m
  no_fulls n m h = omega (arith, h)

  two_more : (n m : ℕ) → n ≡ m → n ≡ 0 + (0 + m)
  two_more n m h = omega (arith, h)

  no_place : (n m : ℕ) → n ≡ m → n ≡ 0 + m
  no_place n m h = omega (arith, h)

  mutual
    same_in : (e : Exp) → calls (exps_of e) ≡ places (places_in e)
    same_in (Expr spot ty (Call callee es end)) =
        let h = same_in_arguments es in
        let b = number-append is_end_place (places_in_arguments es) (place CallEnd end ∷ []) in
        omega (arith, h, b)
    same_in (Expr spot ty (Const v)) = refl
    same_in (Expr spot ty (Var o)) = refl
    same_in (Expr spot ty (Index o is)) = no_fulls _ _ (same_in_arguments is)
    same_in (Expr spot ty (Unary op a)) = no_fulls _ _ (same_in a)
    same_in (Expr spot ty (Cast a)) = no_fulls _ _ (same_in a)
    same_in (Expr spot ty (Step op a)) = no_fulls _ _ (same_in a)
    same_in (Expr spot ty (Binary op a b)) =
        no_fulls _ _ (both (exps_of a) (exps_of b) (places_in a) (places_in b) (same_in a) (same_in b))
    same_in (Expr spot ty (Logic k a b)) =
        no_fulls _ _ (both (exps_of a) (exps_of b) (places_in a) (places_in b) (same_in a) (same_in b))
    same_in (Expr spot ty (Choose mark e a b)) =
        no_fulls _ _ (both (exps_of e ++ exps_of a) (exps_of b) (places_in e ++ place c.Branch mark ∷ places_in a)
        (places_in b)
        (both (exps_of e) (exps_of a) (places_in e) (place c.Branch mark ∷ places_in a) (same_in e)
        (no_place _ _ (same_in a))) (same_in b))
    same_in (Expr spot ty (Comma a b)) =
        no_fulls _ _ (both (exps_of a) (exps_of b) (places_in a) (places_in b) (same_in a) (same_in b))
    same_in (Expr spot ty (Assign op a b)) =
        no_fulls _ _ (both (exps_of a) (exps_of b) (places_in a) (places_in b) (same_in a) (same_in b))

    same_in_arguments : (es : Exps) → calls (exps_of_arguments es) ≡ places (places_in_arguments es)
    same_in_arguments NoExp = refl
    same_in_arguments (MoreExp e es) =
        both (exps_of e) (exps_of_arguments es) (places_in e) (places_in_arguments es) (same_in e)
        (same_in_arguments es)

  -- ---- in full expressions

  fulls-append : (xs ys : List Exp) → calls_of_fulls (xs ++ ys) ≡ calls_of_fulls xs + calls_of_fulls ys
  fulls-append xs ys =
      ap calls (flat_map-append exps_of xs ys)
      ∙ number-append (ends_at close) (flat_map exps_of xs) (flat_map exps_of ys)

  both_fulls : (xs ys : List Exp) (ps qs : List Place) → calls_of_fulls xs ≡ places ps → calls_of_fulls ys ≡ places qs
      → calls_of_fulls (xs ++ ys) ≡ places (ps ++ qs)
  both_fulls xs ys ps qs h g =
      let a = fulls-append xs ys in
      let b = number-append is_end_place ps qs in
      omega (arith, a, b, h, g)

  same_in_one : (e : Exp) → calls_of_fulls (e ∷ []) ≡ places (places_in e)
  same_in_one e =
      let h = same_in e in
      let a = number-append (ends_at close) (exps_of e) [] in
      omega (arith, a, h)

  same_if : (e : Option Exp) → calls_of_fulls (exp_if e) ≡ places (places_if e)
  same_if None = refl
  same_if (Some e) = same_in_one e

  same_in_values : (es : Exps) → calls_of_fulls (exps_in es) ≡ places (places_in_arguments es)
  same_in_values NoExp = refl
  same_in_values (MoreExp e es) =
      both (exps_of e) (flat_map exps_of (exps_in es)) (places_in e) (places_in_arguments es) (same_in e)
      (same_in_values es)

  same_in_rows : (rows : List Exps)
      → calls_of_fulls (flat_map exps_in rows) ≡ places (flat_map places_in_arguments rows)
  same_in_rows [] = refl
  same_in_rows (es ∷ rows) =
      both_fulls (exps_in es) (flat_map exps_in rows) (places_in_arguments es) (flat_map places_in_arguments rows)
      (same_in_values es) (same_in_rows rows)

  same_in_init : (i : Init) → calls_of_fulls (fulls_of_init i) ≡ places (places_in_init i)
  same_in_init Absent = refl
  same_in_init (One e) = same_in_one e
  same_in_init (Many es) = same_in_values es
  same_in_init (Rows rows) = same_in_rows rows

  same_in_names : (ns : Names) → calls_of_fulls (fulls_of_names ns) ≡ places (places_in_names ns)
  same_in_names NoName = refl
  same_in_names (MoreName spot o i ns) =
      both_fulls (fulls_of_init i) (fulls_of_names ns) (places_in_init i) (places_in_names ns) (same_in_init i)
      (same_in_names ns)

  same_in_first : (i : First) → calls_of_fulls (fulls_of_first i) ≡ places (places_in_first i)
  same_in_first NoFirst = refl
  same_in_first (FirstExp e) = same_in_one e
  same_in_first (FirstNames ns) = same_in_names ns

  -- ---- in statements

  statements-append : (xs ys : List Stm)
      → calls_of_statements (xs ++ ys) ≡ calls_of_statements xs + calls_of_statements ys
  statements-append xs ys =
      ap calls_of_fulls (flat_map-append own_fulls_of xs ys)
      ∙ fulls-append (flat_map own_fulls_of xs) (flat_map own_fulls_of ys)

  both_statements : (xs ys : List Stm) (ps qs : List Place) → calls_of_statements xs ≡ places ps
      → calls_of_statements ys ≡ places qs
      → calls_of_statements (xs ++ ys) ≡ places (ps ++ qs)
  both_statements xs ys ps qs h g =
      let a = statements-append xs ys in
      let b = number-append is_end_place ps qs in
      omega (arith, a, b, h, g)

  -- full expressions before statements, and after them
  then_statements : (es : List Exp) (xs : List Stm) (ps qs : List Place) → calls_of_fulls es ≡ places ps
      → calls_of_statements xs ≡ places qs
      → calls_of_fulls es + calls_of_statements xs ≡ places (ps ++ qs)
  then_statements es xs ps qs h g = let b = number-append is_end_place ps qs in omega (arith, b, h, g)

  then_fulls : (es : List Exp) (xs : List Stm) (ps qs : List Place) → calls_of_statements xs ≡ places ps
      → calls_of_fulls es ≡ places qs
      → calls_of_fulls es + calls_of_statements xs ≡ places (ps ++ qs)
  then_fulls es xs ps qs h g = let b = number-append is_end_place ps qs in omega (arith, b, h, g)

  in_two_arms : (xs : List Exp) (ms ns : List Stm) (ps qs us : List Place)
      → calls_of_fulls xs ≡ places ps → calls_of_statements ms ≡ places qs → calls_of_statements ns ≡ places us
      → calls_of_fulls xs + calls_of_statements (ms ++ ns) ≡ places (ps ++ qs ++ us)
  in_two_arms xs ms ns ps qs us f g h =
      let a = statements-append ms ns in
      let b = number-append is_end_place (ps ++ qs) us in
      let c = number-append is_end_place ps qs in
      omega (arith, a, b, c, f, g, h)

  in_for : (xs ys zs : List Exp) (bs : List Stm) (ps qs us vs : List Place)
      → calls_of_fulls xs ≡ places ps → calls_of_fulls ys ≡ places qs → calls_of_fulls zs ≡ places us
      → calls_of_statements bs ≡ places vs
      → calls_of_fulls (xs ++ ys ++ zs) + calls_of_statements bs ≡ places (ps ++ qs ++ us ++ vs)
  in_for xs ys zs bs ps qs us vs f g h k =
      let a = fulls-append (xs ++ ys) zs in
      let b = fulls-append xs ys in
      let c = number-append is_end_place (ps ++ qs ++ us) vs in
      let d = number-append is_end_place (ps ++ qs) us in
      let e = number-append is_end_place ps qs in
      omega (arith, a, b, c, d, e, f, g, h, k)

  mutual
    same_in_statement : (b : Stm) → calls_of_statements (statements_of b) ≡ places (places_of_body b)
    same_in_statement (Stmt at f) =
        let h = same_in_form at f in
        let a = fulls-append (own_fulls f) (flat_map own_fulls_of (statements_of_form f)) in
        omega (arith, a, h)

    same_in_form : (at : Spot) (f : Form)
        → calls_of_fulls (own_fulls f) + calls_of_statements (statements_of_form f) ≡ places (places_of_form at f)
    same_in_form at Empty = refl
    same_in_form at (Do e) = no_statements _ _ (same_in_one e)
    same_in_form at (Declare ns) = no_statements _ _ (same_in_names ns)
    same_in_form at (Block b) = no_fulls _ _ (same_in_block b)
    same_in_form at (If e a b) =
        no_place _ _ (in_two_arms (e ∷ []) (statements_of a) (statements_of_else b) (places_in e)
        (places_of_statement a) (places_of_else b)
        (same_in_one e) (same_as_part a) (same_in_else b))
    same_in_form at (While e b) =
        two_more _ _ (then_statements (e ∷ []) (statements_of b) (places_in e) (places_of_statement b) (same_in_one e)
        (same_as_part b))
    same_in_form at (DoWhile b e) =
        two_more _ _ (then_fulls (e ∷ []) (statements_of b) (places_of_statement b) (places_in e) (same_as_part b)
        (same_in_one e))
    same_in_form at (For i e t b) =
        two_more _ _
        (in_for (fulls_of_first i) (exp_if e) (exp_if t) (statements_of b) (places_in_first i) (places_if e)
        (places_if t) (places_of_statement b)
        (same_in_first i) (same_if e) (same_if t) (same_as_part b))
    same_in_form at Break = refl
    same_in_form at Continue = refl
    same_in_form at (Return e) = no_statements _ _ (same_if e)
    same_in_form at (Label b) = no_fulls _ _ (same_as_part b)
    same_in_form at (Switch e b) =
        no_place _ _ (then_statements (e ∷ []) (statements_of_block b) (places_in e) (places_of_block b)
        (same_in_one e) (same_in_block b))

    same_as_part : (b : Stm) → calls_of_statements (statements_of b) ≡ places (places_of_statement b)
    same_as_part (Stmt at f) =
        let h = same_in_form at f in
        let a = fulls-append (own_fulls f) (flat_map own_fulls_of (statements_of_form f)) in
        omega (arith, a, h)

    same_in_else : (b : Else) → calls_of_statements (statements_of_else b) ≡ places (places_of_else b)
    same_in_else NoElse = refl
    same_in_else (OrElse b) = same_as_part b

    same_in_block : (b : Stms) → calls_of_statements (statements_of_block b) ≡ places (places_of_block b)
    same_in_block NoStm = refl
    same_in_block (MoreStm t b) =
        both_statements (statements_of t) (statements_of_block b) (places_of_statement t) (places_of_block b)
        (same_as_part t) (same_in_block b)
    same_in_block (MoreCase spot l b) = same_in_block b

  same_in_functions : (fs : List Function)
      → calls_of_statements (flat_map (λ f. statements_of f.body) fs) ≡ places (flat_map (λ f. places_of_body f.body) fs)
  same_in_functions [] = refl
  same_in_functions (f ∷ fs) =
      both_statements (statements_of f.body) (flat_map (λ f. statements_of f.body) fs) (places_of_body f.body)
      (flat_map (λ f. places_of_body f.body) fs)
      (same_in_statement f.body) (same_in_functions fs)

  -- the spots of a kind
  spots_by : (k : Bool) (a : Spot) (n : ℕ) (ss : List Spot) → n ≡ number is_end ss
      → number (λ (x : Bool). x) ((k && is_end a) ∷ []) + n ≡ number is_end (cond k (a ∷ ss) ss)
  spots_by true a n ss h = omega (arith, h)
  spots_by false a n ss h = omega (arith, h)

  spots_there : (ps : List Place) → places ps ≡ number is_end (of_kind CallEnd ps)
  spots_there [] = refl
  spots_there (p ∷ ps) =
      let h =
      spots_by (same_kind CallEnd p.kind) p.spot (places ps) (of_kind CallEnd ps) (spots_there ps) in omega
      (arith, h)

  -- as many calls end at a place as there are places of kind `CallEnd` at it
  pub ends_there : (p : Program) → number (ends_at close) (exps_of_program p) ≡ number is_end (spots_of_kind CallEnd p)
  ends_there p = same_in_functions p.functions ∙ spots_there (places_of p)

-- ---- one of a list

module _ {A : Type 0} (q : A → Bool) where
  found_by : (x : A) (xs : List A) (k : ℕ) → k < length xs → slice_index_or xs k x ≡ x → q x ≡ true → 1 ≤ number q xs
  found_by x [] k lt e h = absurd (omega (arith, lt))
  found_by x (y ∷ xs) zero lt e h = let g : q y ≡ true = ap q e ∙ h in rw g (omega arith)
  found_by x (y ∷ xs) (suc k) lt e h = let g = found_by x xs k (omega (arith, lt)) e h in omega (arith, g)

  -- one that is there is counted
  pub counted : (x : A) (xs : List A) → Contains xs x → q x ≡ true → 1 ≤ number q xs
  counted x xs c h = found_by x xs c.0 c.1 c.2 h

  -- the first that passes the test
  pub record IsFound (xs : List A) : Type 0 where
    pub item : A
    pub is_there : Contains xs item
    pub passes : q item ≡ true
    pub found : find q xs ≡ Some item

  skipped : (x : A) (xs : List A) → q x ≡ false → find q (x ∷ xs) ≡ find q xs
  skipped x xs e = rw e refl

  fewer : (x : A) (xs : List A) → q x ≡ false → 1 ≤ number q (x ∷ xs) → 1 ≤ number q xs
  fewer x xs e n = let g : number q (x ∷ xs) ≡ 0 + number q xs = rw e refl in omega (arith, n, g)

  at_head : (b : Bool) (x : A) (xs : List A) → q x ≡ b → (1 ≤ number q xs → IsFound xs) → 1 ≤ number q (x ∷ xs)
      → IsFound (x ∷ xs)
  at_head true x xs e rest n = record { item = x; is_there = (0, omega arith, refl); passes = e; found = rw e refl }
  at_head false x xs e rest n =
      let f = rest (fewer x xs e n) in
      record {
        item = f.item;
        is_there = Contains-append_right
            (x ∷ []) xs f.item f.is_there;
        passes = f.passes;
        found = skipped x xs e ∙ f.found;
      }

  -- where some are counted, one is found
  pub finds : (xs : List A) → 1 ≤ number q xs → IsFound xs
  finds [] n = absurd (omega (arith, n))
  finds (x ∷ xs) n = at_head (q x) x xs refl (finds xs) n

-- ---- calls and their ends

-- a call's closing parenthesis is a place of kind `CallEnd`
pub end_is_place : (p : Program) (spot : Spot) (ty : Option IntType) (callee : Callee) (es : Exps) (close : Spot)
    → Contains (exps_of_program p) (Expr spot ty (Call callee es close)) → Contains (spots_of_kind CallEnd p) close
end_is_place p spot ty callee es close c =
    let n =
    counted (ends_at close) (Expr spot ty (Call callee es close)) (exps_of_program p) c (same_spot-self close) in
    let m = ends_there close p in
    let f = finds (is_end close) (spots_of_kind CallEnd p) (omega (arith, n, m)) in
    subst (λ (s : Spot). Contains (spots_of_kind CallEnd p) s) (same_place f.item close f.passes) f.is_there

-- at each place of kind `CallEnd` a call ends, and `call_at` is one
pub place_is_end : (p : Program) (close : Spot) → Contains (spots_of_kind CallEnd p) close
    → IsFound (ends_at close) (exps_of_program p)
place_is_end p close c =
    let n = counted (is_end close) close (spots_of_kind CallEnd p) c (same_spot-self close) in
    let m = ends_there close p in
    finds (ends_at close) (exps_of_program p) (omega (arith, n, m))

-- the same as an equation
pub call_found : (p : Program) (close : Spot) (c : Contains (spots_of_kind CallEnd p) close)
    → call_at p close ≡ Some (place_is_end p close c).item
call_found p close c = (place_is_end p close c).found
