-- What a checked program's functions meet: targets are assigned, names are in reach, each object is declared once.
use Rattle.std.proofs.Common.{◌≡◌, ◌<◌, ◌≤◌, ◌+◌, ℕ, zero, suc, Bool, true, false, cond, not, ◌&&◌, ◌||◌, nat_eq, IsTrue, List, [], ◌∷◌, ◌++◌, length, Option, Some, None, is_some, slice_get, refl, sym, ap, ap₂, ◌∙◌, subst, ⊎_elim, arith, true≢false}
use Rattle.std.specs.List.{flat_map, list_all, range_with_len}
use Rattle.std.proofs.lemmas.Bool.{or_from, or_left, or_right, or_cases, cases_Bool}
use Rattle.std.proofs.lemmas.Bool.Decides.{nat_tests}
use Rattle.std.proofs.lemmas.List.Folds.{list_any-append}
use Rattle.c_core.specs.Parts.{every_exp, every_part, every_argument, every_statement, every_statement_in, every_statement_else, every_statement_of, own_fulls, names_in, names_in_form, names_in_else, names_in_block, names_of, names_of_first, DeclaredName, objects_of, exp_if, fulls_of_names, fulls_of_first, objects_of_names, objects_of_first, type_of}
use Rattle.c_core.specs.Program.{IsProgram}
use Rattle.c_core.specs.Scope.{is_in, times_in, is_fixed, is_object, is_owned_once, owned_by}
use Rattle.c_core.specs.Typing.{is_target, has_value, is_assignment, same_types, exp_fits, node_fits, is_typed, form_fits, statement_fits, function_fits}
use Rattle.c_core.specs.Tree.{Exp, Expr, Node, Const, Var, Index, Unary, Cast, Step, Binary, Logic, Choose, Comma, Assign, Call, Exps, NoExp, MoreExp, Init, Absent, One, Many, Rows, Names, NoName, MoreName, First, NoFirst, FirstExp, FirstNames, Stm, Stmt, Form, Empty, Do, Declare, Block, If, While, DoWhile, For, Break, Continue, Return, Label, Switch, Else, NoElse, OrElse, Stms, NoStm, MoreStm, MoreCase, Function, Program}
use Rattle.c_core.specs.declared.number.IntType.{IntType}
use Rattle.c_core.specs.declared.tree.Object.{Object}
use Rattle.c_meaning.specs.Parts as own
use Rattle.c_meaning.specs.Parts.{some_of, some_node, some_part, some_argument, fulls_of, fulls_of_form, fulls_of_else, fulls_of_block, declared_in, declared_in_form, declared_in_else, declared_in_block}
use Rattle.c_meaning.specs.Related.{FitsS, with_names}
use Rattle.c_meaning.proofs.Checked.{Asks, function_body}
use Rattle.c_meaning.proofs.TypeFacts.{both, neither, at_every, of_both}
use Rattle.c_frames.proofs.CellLaws.{same_number}
use Rattle.c_frames.proofs.Refitting.{assigns_no_target, some-append, times-append, named, most, Fresh}

pub in_same : (x : ℕ) (os : List ℕ) → own.is_in x os ≡ is_in x os
in_same x [] = refl
in_same x (o ∷ os) = ap (λ b. nat_eq x o || b) (in_same x os)

pub counted : (x : ℕ) (os : List ℕ) → is_in x os ≡ true → 1 ≤ times_in x os
counted x [] h = absurd (true≢false (sym h))
counted x (o ∷ os) h = by (nat_eq x o) h (counted x os)
  where
    by : (b : Bool) → (b || is_in x os) ≡ true → (is_in x os ≡ true → 1 ≤ times_in x os) → 1 ≤ cond b (suc (times_in x os)) (times_in x os)
    by true h f = omega arith
    by false h f = f h

pub uncounted : (x : ℕ) (os : List ℕ) → times_in x os ≡ 0 → is_in x os ≡ false
uncounted x os e = ⊎_elim (λ t. absurd (omega (arith, e, counted x os t))) (λ f. f) (cases_Bool (is_in x os))

-- ---- what is assigned or stepped is a target

module _ (p : Program) where
  targets_node : (ty : Option IntType) (n : Node) → IsTrue (node_fits p ty n) → assigns_no_target n ≡ false
  targets_node ty (Step op a) t = ap not (both (is_target a) (same_types (type_of a) ty) t).0
  targets_node ty (Assign op a b) t = ap not (both (is_target a) (has_value b && (is_assignment op && same_types (type_of a) ty)) t).0
  targets_node ty (Const v) t = refl
  targets_node ty (Var o) t = refl
  targets_node ty (Index o is) t = refl
  targets_node ty (Unary op a) t = refl
  targets_node ty (Cast a) t = refl
  targets_node ty (Binary op a b) t = refl
  targets_node ty (Logic test a b) t = refl
  targets_node ty (Choose mark e a b) t = refl
  targets_node ty (Comma a b) t = refl
  targets_node ty (Call callee es close) t = refl

  abbrev astray : Exp → Bool
  astray e = some_node assigns_no_target e

  mutual
    targets_e : (e : Exp) → IsTrue (every_exp (exp_fits p) e) → astray e ≡ false
    targets_e (Expr spot ty n) t = let a = both (exp_fits p (Expr spot ty n)) (every_part (exp_fits p) n) t in or_from _ _ (targets_node ty n a.0) (targets_p n a.1)

    targets_p : (n : Node) → IsTrue (every_part (exp_fits p) n) → some_part assigns_no_target n ≡ false
    targets_p (Const v) t = refl
    targets_p (Var o) t = refl
    targets_p (Index o is) t = targets_es is t
    targets_p (Unary op a) t = targets_e a t
    targets_p (Cast a) t = targets_e a t
    targets_p (Step op a) t = targets_e a t
    targets_p (Binary op a b) t = let g = both (every_exp (exp_fits p) a) (every_exp (exp_fits p) b) t in or_from _ _ (targets_e a g.0) (targets_e b g.1)
    targets_p (Logic test a b) t = let g = both (every_exp (exp_fits p) a) (every_exp (exp_fits p) b) t in or_from _ _ (targets_e a g.0) (targets_e b g.1)
    targets_p (Choose mark e a b) t =
        let g = both (every_exp (exp_fits p) e) (every_exp (exp_fits p) a && every_exp (exp_fits p) b) t in
        let h = both (every_exp (exp_fits p) a) (every_exp (exp_fits p) b) g.1 in
        or_from _ _ (targets_e e g.0) (or_from _ _ (targets_e a h.0) (targets_e b h.1))
    targets_p (Comma a b) t = let g = both (every_exp (exp_fits p) a) (every_exp (exp_fits p) b) t in or_from _ _ (targets_e a g.0) (targets_e b g.1)
    targets_p (Assign op a b) t = let g = both (every_exp (exp_fits p) a) (every_exp (exp_fits p) b) t in or_from _ _ (targets_e a g.0) (targets_e b g.1)
    targets_p (Call callee es close) t = targets_es es t

    targets_es : (es : Exps) → IsTrue (every_argument (exp_fits p) es) → some_argument assigns_no_target es ≡ false
    targets_es NoExp t = refl
    targets_es (MoreExp e es) t = let g = both (every_exp (exp_fits p) e) (every_argument (exp_fits p) es) t in or_from _ _ (targets_e e g.0) (targets_es es g.1)

  targets_all : (es : List Exp) → IsTrue (list_all (is_typed p) es) → some_of astray es ≡ false
  targets_all [] t = refl
  targets_all (e ∷ es) t = let g = both (is_typed p e) (list_all (is_typed p) es) t in or_from _ _ (targets_e e g.0) (targets_all es g.1)

  none_append : (xs ys : List Exp) → some_of astray xs ≡ false → some_of astray ys ≡ false → some_of astray (xs ++ ys) ≡ false
  none_append xs ys f g = some-append astray xs ys ∙ or_from _ _ f g

  module _ (result : Option IntType) where
    abbrev test : Stm → Bool
    test s = statement_fits p result s

    mutual
      pub targets_s : (s : Stm) → IsTrue (every_statement test s) → some_of astray (fulls_of s) ≡ false
      targets_s (Stmt at f) t =
          let a = both (test (Stmt at f)) (every_statement_in test f) t in
          targets_f f (both (form_fits p result f) (list_all (is_typed p) (own_fulls f)) a.0).1 a.1

      targets_f : (f : Form) → IsTrue (list_all (is_typed p) (own_fulls f)) → IsTrue (every_statement_in test f) → some_of astray (fulls_of_form f) ≡ false
      targets_f Empty t u = refl
      targets_f (Do e) t u = targets_all (e ∷ []) t
      targets_f (Declare ns) t u = targets_all (fulls_of_names ns) t
      targets_f (Block b) t u = targets_b b u
      targets_f (If e a b) t u =
          let g = both (every_statement test a) (every_statement_else test b) u in
          or_from _ _ (targets_e e (both (is_typed p e) true t).0) (none_append (fulls_of a) (fulls_of_else b) (targets_s a g.0) (targets_else b g.1))
      targets_f (While e b) t u = or_from _ _ (targets_e e (both (is_typed p e) true t).0) (targets_s b u)
      targets_f (DoWhile b e) t u = none_append (fulls_of b) (e ∷ []) (targets_s b u) (targets_all (e ∷ []) t)
      targets_f (For i e s b) t u =
          let w = of_both (is_typed p) (fulls_of_first i ++ exp_if e) (exp_if s) t in
          let v = of_both (is_typed p) (fulls_of_first i) (exp_if e) w.0 in
          none_append (fulls_of_first i ++ exp_if e ++ exp_if s) (fulls_of b)
          (none_append (fulls_of_first i ++ exp_if e) (exp_if s) (none_append (fulls_of_first i) (exp_if e) (targets_all (fulls_of_first i) v.0) (targets_all (exp_if e) v.1)) (targets_all (exp_if s) w.1)) (targets_s b u)
      targets_f Break t u = refl
      targets_f Continue t u = refl
      targets_f (Return e) t u = targets_all (exp_if e) t
      targets_f (Label b) t u = targets_s b u
      targets_f (Switch e b) t u = or_from _ _ (targets_e e (both (is_typed p e) true t).0) (targets_b b u)

      targets_else : (b : Else) → IsTrue (every_statement_else test b) → some_of astray (fulls_of_else b) ≡ false
      targets_else NoElse t = refl
      targets_else (OrElse b) t = targets_s b t

      targets_b : (b : Stms) → IsTrue (every_statement_of test b) → some_of astray (fulls_of_block b) ≡ false
      targets_b NoStm t = refl
      targets_b (MoreStm s b) t =
          let g = both (every_statement test s) (every_statement_of test b) t in
          none_append (fulls_of s) (fulls_of_block b) (targets_s s g.0) (targets_b b g.1)
      targets_b (MoreCase spot l b) t = targets_b b t

-- ---- declared names

objects-append : (xs ys : List DeclaredName) → objects_of (xs ++ ys) ≡ objects_of xs ++ objects_of ys
objects-append [] ys = refl
objects-append (x ∷ xs) ys = ap (λ os. x.object ∷ os) (objects-append xs ys)

same_objects : (ns : Names) → objects_of (names_of ns) ≡ objects_of_names ns
same_objects NoName = refl
same_objects (MoreName spot o i ns) = ap (λ os. o ∷ os) (same_objects ns)

same_objects_first : (i : First) → objects_of (names_of_first i) ≡ objects_of_first i
same_objects_first NoFirst = refl
same_objects_first (FirstExp e) = refl
same_objects_first (FirstNames ns) = same_objects ns

joined : (xs ys : List DeclaredName) (os qs : List ℕ) → objects_of xs ≡ os → objects_of ys ≡ qs → objects_of (xs ++ ys) ≡ os ++ qs
joined xs ys os qs e f = objects-append xs ys ∙ ap₂ (λ a b. a ++ b) e f

mutual
  pub declared_same : (s : Stm) → objects_of (names_in s) ≡ declared_in s
  declared_same (Stmt at f) = declared_same_form f

  declared_same_form : (f : Form) → objects_of (names_in_form f) ≡ declared_in_form f
  declared_same_form Empty = refl
  declared_same_form (Do e) = refl
  declared_same_form (Declare ns) = same_objects ns
  declared_same_form (Block b) = declared_same_block b
  declared_same_form (If e a b) = joined (names_in a) (names_in_else b) (declared_in a) (declared_in_else b) (declared_same a) (declared_same_else b)
  declared_same_form (While e b) = declared_same b
  declared_same_form (DoWhile b e) = declared_same b
  declared_same_form (For i e s b) = joined (names_of_first i) (names_in b) (objects_of_first i) (declared_in b) (same_objects_first i) (declared_same b)
  declared_same_form Break = refl
  declared_same_form Continue = refl
  declared_same_form (Return e) = refl
  declared_same_form (Label b) = declared_same b
  declared_same_form (Switch e b) = declared_same_block b

  declared_same_else : (b : Else) → objects_of (names_in_else b) ≡ declared_in_else b
  declared_same_else NoElse = refl
  declared_same_else (OrElse b) = declared_same b

  declared_same_block : (b : Stms) → objects_of (names_in_block b) ≡ declared_in_block b
  declared_same_block NoStm = refl
  declared_same_block (MoreStm s b) = joined (names_in s) (names_in_block b) (declared_in s) (declared_in_block b) (declared_same s) (declared_same_block b)
  declared_same_block (MoreCase spot l b) = declared_same_block b

in_range_of : (q : ℕ → Bool) (a n x : ℕ) → IsTrue (list_all q (range_with_len a n)) → a ≤ x → x < a + n → IsTrue (q x)
in_range_of q a zero x h l u = absurd (omega (arith, l, u))
in_range_of q a (suc n) x h l u =
    let b = both (q a) (list_all q (range_with_len (a + 1) n)) h in
    by (nat_eq a x) refl b.0 (λ m. in_range_of q (a + 1) n x b.1 m (omega (arith, u)))
  where
    by : (t : Bool) → nat_eq a x ≡ t → IsTrue (q a) → (a + 1 ≤ x → IsTrue (q x)) → IsTrue (q x)
    by true e g f = subst (λ y. IsTrue (q y)) (same_number a x e) g
    by false e g f = f (grind (arith, nat_tests))

pub none_there : (q : ℕ → Bool) (x : ℕ) (os : List ℕ) → q x ≡ false → IsTrue (list_all q os) → times_in x os ≡ 0
none_there q x [] e h = refl
none_there q x (o ∷ os) e h = let b = both (q o) (list_all q os) h in by (nat_eq x o) refl b.0 (none_there q x os e b.1)
  where
    by : (t : Bool) → nat_eq x o ≡ t → IsTrue (q o) → times_in x os ≡ 0 → cond t (suc (times_in x os)) (times_in x os) ≡ 0
    by true s g f = absurd (true≢false (sym (subst (λ y. IsTrue (q y)) (sym (same_number x o s)) g) ∙ e))
    by false s g f = f

one_of : (x i : ℕ) (fs : List Function) (fn : Function) → slice_get fs i ≡ Some fn → times_in x (fn.params ++ objects_of (names_in fn.body)) ≤ times_in x (owned_by fs)
one_of x i [] fn e = absurd (cc)
one_of x zero (f ∷ fs) fn e =
    let t = times-append x (f.params ++ objects_of (names_in f.body)) (owned_by fs) in
    let same : f ≡ fn = some_is e in
    subst (λ g. times_in x (g.params ++ objects_of (names_in g.body)) ≤ times_in x (owned_by (f ∷ fs))) same (omega (arith, t))
  where
    some_is : Some f ≡ Some fn → f ≡ fn
    some_is e = ap (λ o. some_or o) e
      where
        some_or : Option Function → Function
        some_or None = f
        some_or (Some g) = g
one_of x (suc i) (f ∷ fs) fn e =
    let t = times-append x (f.params ++ objects_of (names_in f.body)) (owned_by fs) in
    omega (arith, t, one_of x i fs fn e)

pub found_below : {A : Type 0} (xs : List A) (i : ℕ) (x : A) → slice_get xs i ≡ Some x → i < length xs
found_below [] i x e = absurd (cc)
found_below (y ∷ xs) zero x e = omega arith
found_below (y ∷ xs) (suc i) x e = let l = found_below xs i x e in omega (arith, l)

module _ (p : Program) (h : IsProgram p) where
  pub owned_most : (x : ℕ) → times_in x (owned_by p.functions) ≤ most p x
  owned_most x = by (slice_get p.objects x) refl
    where
      by : (o : Option Object) → slice_get p.objects x ≡ o → times_in x (owned_by p.functions) ≤ most p x
      by None e = let z = none_there (is_object p) x (owned_by p.functions) (ap is_some e) h.known in omega (arith, z)
      by (Some ob) e =
          let l = found_below p.objects x ob e in
          let q = in_range_of (is_owned_once p) 0 (length p.objects) x h.owned (omega arith) (omega (arith, l)) in
          let s : times_in x (owned_by p.functions) ≡ most p x = same_number _ _ q in
          omega (arith, s)

  -- a function's parameters, and what its body declares
  pub with_params : (L os : List ℕ) (x : ℕ) → times_in x (with_names p (named p) L os) ≡ times_in x L + times_in x os
  with_params L [] x = omega arith
  with_params L (o ∷ os) x = omega (arith, with_params (L ++ o ∷ []) os x, times-append x L (o ∷ []), times-append x (o ∷ []) os)

  abbrev pub params_of : Function → List ℕ
  params_of fn = with_names p (named p) [] fn.params

  pub fresh_body : (i : ℕ) (fn : Function) → slice_get p.functions i ≡ Some fn → Fresh p (params_of fn) (declared_in fn.body)
  fresh_body i fn e x =
      omega (arith, owned_most x, one_of x i p.functions fn e, times-append x fn.params (objects_of (names_in fn.body)), ap (times_in x) (declared_same fn.body), with_params [] fn.params x)

  pub targets_body : (i : ℕ) (fn : Function) → slice_get p.functions i ≡ Some fn → some_of (some_node assigns_no_target) (fulls_of fn.body) ≡ false
  targets_body i fn e = targets_s p fn.result fn.body (at_every (function_fits p) p.functions i fn h.types e)

  -- objects in reach are in the scope
  abbrev Sees : List ℕ → List ℕ → Type 0
  Sees L reach = (o : ℕ) → IsTrue (is_in o reach) → IsTrue (is_in o L)

  in_left : (x : ℕ) (xs ys : List ℕ) → IsTrue (is_in x xs) → IsTrue (is_in x (xs ++ ys))
  in_left x xs ys q = list_any-append (nat_eq x) xs ys ∙ or_left _ _ q

  in_right : (x : ℕ) (xs ys : List ℕ) → IsTrue (is_in x ys) → IsTrue (is_in x (xs ++ ys))
  in_right x xs ys q = list_any-append (nat_eq x) xs ys ∙ or_right (is_in x xs) _ q

  sees_more : (L reach : List ℕ) (o : ℕ) → Sees L reach → Sees (L ++ o ∷ []) (reach ++ o ∷ [])
  sees_more L reach o f x q = ⊎_elim (λ z. in_left x L (o ∷ []) (f x z)) (λ z. in_right x L (o ∷ []) z) (or_cases (is_in x reach) (is_in x (o ∷ [])) (sym (list_any-append (nat_eq x) reach (o ∷ [])) ∙ q))

  reached : (L reach : List ℕ) (o : ℕ) → Sees L reach → (is_fixed p o || is_in o reach) ≡ true → (is_fixed p o || is_in o L) ≡ true
  reached L reach o z q = ⊎_elim (λ f. or_left _ _ f) (λ f. or_right (is_fixed p o) _ (z o f)) (or_cases (is_fixed p o) (is_in o reach) q)

  pub asks : Asks p (named p)
  asks = record {
    Sees = λ L reach. Sees L reach;
    sees_more = λ L reach o f. sees_more L reach o f;
    sees_still = λ L reach o f. λ x q. in_left x L (o ∷ []) (f x q);
    agree = λ a b q. q;
    const = λ ty v q. q;
    cell = λ o i q. q;
    size = λ o. refl;
    read = λ L reach o z q. reached L reach o z q;
    write = λ L reach o z q. reached L reach o z q;
    call = λ f fn e. (fn, e);
    loop = λ L at l. tt;
  }

  -- what is in reach is in the scope that it is itself
  pub sees_itself : (L : List ℕ) → asks.Sees L L
  unfolding asks
  sees_itself L o q = q

  none_seen : (L : List ℕ) → Sees L []
  none_seen L o q = neither q

  pub named_body : (i : ℕ) (fn : Function) → slice_get p.functions i ≡ Some fn → FitsS p (named p) fn.result (params_of fn) fn.body
  unfolding asks
  named_body i fn e = function_body p h (named p) asks i fn e [] (none_seen [])
