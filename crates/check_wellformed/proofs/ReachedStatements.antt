-- Statements that aren't refused name objects in reach.
use Rattle.std.proofs.Common.{◌≡◌, ℕ, ◌+◌, ◌-◌, true, false, List, [], ◌∷◌, ◌++◌, length, map, refl, sym, ap, ◌∙◌, subst, Option, Some, None, inl, inr, arith, length-append, append-nil, append_assoc}
use Rattle.std.specs.List.{slice_get, list_all, flat_map}
use Rattle.c_core.specs.Tree as t
use Rattle.c_core.specs.Parts.{exps_in, exp_if, fulls_of_init, objects_of_names, objects_of_first, declared_by, type_of}
use Rattle.c_core.specs.Scope.{reaches, declarators_reach, first_reaches, statement_reaches, form_reaches, else_reaches, block_reaches, function_reaches}
use Rattle.c_core.specs.declared.number.IntType.{IntType}
use Rattle.c_core.specs.declared.number.Spot.{Spot}
use Rattle.c_core.specs.declared.tree.Object.{Object}
use Rattle.c_core.specs.declared.tree.Label.{Label as ArmLabel}
use Rattle.check_rules.specs.Arms.{switch_type, label_of}
use Rattle.c_parser.specs.Tree as raw
use Rattle.c_parser.specs.Tree.{Exp, Expr, Exps, NoExp, MoreExp, exps}
use Rattle.check_rules.specs.Names as kind
use Rattle.check_rules.specs.Names.{Kind, Entry, entry}
use Rattle.check_rules.specs.Typed.{typed, typed_all}
use Rattle.check_rules.specs.Scopes.{Scope, seen, opened, closed, with_object, with_entry, object_of, after_name, after_names, after_first, after_statement, after_form, after_item, after_parameters, inside, parameter, statements_of, entry_of_function, entry_of_prototype, after_arms}
use Rattle.check_rules.specs.declared.within.Within.{Within}
use Rattle.check_rules.specs.Parts.{Role, Value, Effect, Part, Initializing, parts, parts_if, parts_of_value, parts_of_values, parts_of_init, parts_of_name, parts_of_names, parts_of_first, parts_of_statement, parts_of_form, parts_of_else, parts_of_block, parts_of_parameters, parts_of_body, parts_of_item, parts_of_items, bodies_of, in_loop, in_body, parts_of, parts_of_label, parts_of_arms, in_switch}
use Rattle.check_rules.specs.Order.{is_object, reads, changes, SomeOf}
use Rattle.check_rules.specs.Checked.{typed_if, typed_init, typed_names, typed_first, typed_statement, typed_form, typed_else, typed_block, numbers_from, typed_function, functions_of, typed_arms}
use Rattle.check_wellformed.proofs.Lists.{AllOf, both, all_then, all_front, all_behind, all_weaker}
use Rattle.check_wellformed.proofs.Good.{IsGood}
use Rattle.check_wellformed.proofs.ReachedNames.{OfObject, OfEntry, of_parts, Either, but_untouched, Reached, reached_more, reached_last, with_names, expression_reaches}
use Rattle.check_wellformed.proofs.TypedStatements.{all_pass_then}

-- one entry more
of_push : (Q : ℕ → Type 0) (outer inner : List Entry) (e : Entry) → AllOf (OfEntry Q) (outer ++ inner) → OfEntry Q e → AllOf (OfEntry Q) (outer ++ (inner ++ e ∷ []))
of_push Q outer inner e h k =
    all_then (OfEntry Q) outer _ (all_front (OfEntry Q) outer inner h) (all_then (OfEntry Q) inner (e ∷ []) (all_behind (OfEntry Q) outer inner h) (k, tt))

of_weaker : (Q R : ℕ → Type 0) → ((n : ℕ) → Q n → R n) → (k : Kind) → OfObject Q k → OfObject R k
of_weaker Q R f (kind.Object n ty dims fixed) h = f n h
of_weaker Q R f (kind.Function result stated has_body) h = tt
of_weaker Q R f kind.Closed h = tt

all_weaker_of : (Q R : ℕ → Type 0) → ((n : ℕ) → Q n → R n) → (es : List Entry) → AllOf (OfEntry Q) es → AllOf (OfEntry R) es
all_weaker_of Q R f es h = all_weaker (OfEntry Q) (OfEntry R) (λ e. of_weaker Q R f e.kind) es h

last_number : (os : List Object) (o : Object) → length (os ++ o ∷ []) - 1 ≡ length os
last_number os o = omega (arith, length-append os (o ∷ []))

next_number : (os : List Object) (o : Object) → length (os ++ o ∷ []) ≡ length os + 1
next_number os o = length-append os (o ∷ [])

module _ (p : t.Program) (items : List raw.Item) (entries : List Entry) where
  abbrev Goods : List Part → Type 0
  Goods ps = AllOf (IsGood p items entries) ps

  -- the objects of these names are in reach
  abbrev AreReached : List ℕ → List Entry → Type 0
  AreReached reach es = AllOf (OfEntry (Reached p items entries reach)) es

  more_reached : (reach more : List ℕ) (es : List Entry) → AreReached reach es → AreReached (reach ++ more) es
  more_reached reach more es h = all_weaker_of (Reached p items entries reach) (Reached p items entries (reach ++ more)) (reached_more p items entries reach more) es h

  inside_reached : (reach : List ℕ) (s : Scope) → AreReached reach (seen s) → AreReached reach (seen (opened s))
  inside_reached reach s h = subst (λ l. AreReached reach l) (sym (append-nil (seen s))) h

  same_reach : (reach : List ℕ) (es : List Entry) → AreReached reach es → AreReached (reach ++ []) es
  same_reach reach es h = subst (λ l. AreReached l es) (sym (append-nil reach)) h

  expression_is : (reach : List ℕ) (es : List Entry) (r : Role) (e : Exp) → AreReached reach es → Goods (parts es r e) → reaches p reach (typed p.model (bodies_of items) es e) ≡ true
  expression_is reach es r e h g =
      expression_reaches p items entries reach es r e (with_names p items entries reach (parts es r e) g (of_parts (Reached p items entries reach) es r e h))

  if_is : (reach : List ℕ) (es : List Entry) (r : Role) (e : Option Exp) → AreReached reach es → Goods (parts_if es r e) → list_all (reaches p reach) (exp_if (typed_if p.model (bodies_of items) es e)) ≡ true
  if_is reach es r None h g = refl
  if_is reach es r (Some e) h g = both (expression_is reach es r e h g) refl

  -- ---- initializers

  record IsUntouched (o : ℕ) (ps : List Part) : Type 0 where
    unread : SomeOf (reads (is_object o)) ps → ⊥
    unchanged : SomeOf (changes (is_object o)) ps → ⊥

  untouched_as : (s : Scope) (e : Exp) → IsGood p items entries (Initializing false s e) → (o : ℕ) → length s.objects - 1 ≡ o → IsUntouched o (parts (seen s) Value e)
  untouched_as s e g o same =
      subst (λ n. IsUntouched n (parts (seen s) Value e)) same (record { unread = λ x. g.fair.ordered (inl (inl x)); unchanged = λ x. g.fair.ordered (inr (inl x)) })

  -- the names in scope behind a declared name d, in whose initializer only those before it are in reach
  module _ (reach : List ℕ) (s : Scope) (d : raw.Declared) (h : AreReached reach (seen s)) where
    abbrev behind : Scope
    behind = after_name p.model (bodies_of items) false s d

    either : AllOf (OfEntry (Either (Reached p items entries reach) (length s.objects))) (seen behind)
    either =
        of_push (Either (Reached p items entries reach) (length s.objects)) s.outer s.inner _
        (all_weaker_of (Reached p items entries reach) (Either (Reached p items entries reach) (length s.objects)) (λ n x. inl x) (seen s) h) (inr refl)

    value_is : (e : Exp) → Goods (parts_of_value false behind e) → reaches p reach (typed p.model (bodies_of items) (seen behind) e) ≡ true
    value_is e g =
        let u = untouched_as behind e g.0 (length s.objects) (last_number s.objects (object_of p.model (bodies_of items) false (seen s) d)) in
        let ps = parts (seen behind) Value e in
        expression_reaches p items entries reach (seen behind) Value e
        (with_names p items entries reach ps g.1
        (but_untouched (Reached p items entries reach) (length s.objects) ps
        (of_parts (Either (Reached p items entries reach) (length s.objects)) (seen behind) Value e either) u.unread u.unchanged))

    values_are : (gs : Exps) → Goods (parts_of_values false behind gs) → list_all (reaches p reach) (exps_in (typed_all p.model (bodies_of items) (seen behind) gs)) ≡ true
    values_are NoExp g = refl
    values_are (MoreExp e gs) g =
        both (value_is e (all_front (IsGood p items entries) (parts_of_value false behind e) _ g)) (values_are gs (all_behind (IsGood p items entries) (parts_of_value false behind e) _ g))

    rows_are : (rows : List Exps) → Goods (flat_map (parts_of_values false behind) rows) → list_all (reaches p reach) (flat_map exps_in (map (typed_all p.model (bodies_of items) (seen behind)) rows)) ≡ true
    rows_are [] g = refl
    rows_are (row ∷ rows) g =
        all_pass_then (reaches p reach) (exps_in (typed_all p.model (bodies_of items) (seen behind) row)) _ (values_are row (all_front (IsGood p items entries) (parts_of_values false behind row) _ g))
        (rows_are rows (all_behind (IsGood p items entries) (parts_of_values false behind row) _ g))

    init_is : (i : raw.Init) → Goods (parts_of_init false behind i) → list_all (reaches p reach) (fulls_of_init (typed_init p.model (bodies_of items) (seen behind) i)) ≡ true
    init_is raw.Absent g = refl
    init_is (raw.One e) g = both (value_is e g) refl
    init_is (raw.Many gs) g = values_are gs g
    init_is (raw.Rows rows) g = rows_are rows g

    one_more : AreReached (reach ++ length s.objects ∷ []) (seen behind)
    one_more =
        of_push (Reached p items entries (reach ++ length s.objects ∷ [])) s.outer s.inner _ (more_reached reach (length s.objects ∷ []) (seen s) h)
        (reached_last p items entries reach (length s.objects))

  -- ---- declared names

  record AreNamesReached (reach : List ℕ) (ns : t.Names) (es : List Entry) : Type 0 where
    inits : declarators_reach p reach ns ≡ true
    then : AreReached (reach ++ objects_of_names ns) es

  names_are : (reach : List ℕ) (s : Scope) (ds : List raw.Declared) → AreReached reach (seen s) → Goods (parts_of_names p.model (bodies_of items) false s ds) → AreNamesReached reach (typed_names p.model (bodies_of items) s ds) (seen (after_names p.model (bodies_of items) false s ds))
  names_are reach s [] h g = record { inits = refl; then = same_reach reach (seen s) h }
  names_are reach s (d ∷ ds) h g =
      let s' = after_name p.model (bodies_of items) false s d in
      let pd = parts_of_name p.model (bodies_of items) false s d in
      let one = all_front (IsGood p items entries) pd _ g in
      let rest = names_are (reach ++ length s.objects ∷ []) s' ds (one_more reach s d h) (all_behind (IsGood p items entries) pd _ g) in
      let here = all_behind (IsGood p items entries) (parts_of (seen s) (exps d.sizes)) _ one in
      let ns = typed_names p.model (bodies_of items) s' ds in
      record {
        inits = both (init_is reach s d h d.init here.1) rest.inits;
        then = subst (λ l. AreReached l (seen (after_names p.model (bodies_of items) false s' ds))) (append_assoc reach (length s.objects ∷ []) (objects_of_names ns)) rest.then;
      }

  record IsFirstReached (reach : List ℕ) (i : t.First) (es : List Entry) : Type 0 where
    inits : first_reaches p reach i ≡ true
    then : AreReached (reach ++ objects_of_first i) es

  first_is : (reach : List ℕ) (s : Scope) (i : raw.First) → AreReached reach (seen s) → Goods (parts_of_first p.model (bodies_of items) s i) → IsFirstReached reach (typed_first p.model (bodies_of items) s i) (seen (after_first p.model (bodies_of items) s i))
  first_is reach s raw.NoFirst h g = record { inits = refl; then = same_reach reach (seen s) h }
  first_is reach s (raw.FirstExp e) h g = record { inits = expression_is reach (seen s) Effect e h g; then = same_reach reach (seen s) h }
  first_is reach s (raw.FirstDeclared ds) h g = let n = names_are reach s ds h g in record { inits = n.inits; then = n.then }

  -- ---- statements

  -- after arms the same is in scope
  arms_see : (s : Scope) (b : raw.Stms) → seen (after_arms p.model (bodies_of items) s b) ≡ seen s
  arms_see s raw.NoStm = refl
  arms_see s (raw.MoreStm x b) = arms_see (closed s (after_statement p.model (bodies_of items) (opened s) x)) b
  arms_see s (raw.MoreCase q l b) = arms_see s b

  -- what is in reach behind a statement
  form_then : (result : Option IntType) (reach : List ℕ) (within : Within) (s : Scope) (q : Spot) (f : raw.Form) → AreReached reach (seen s) → Goods (parts_of_form p.model (bodies_of items) result within s q f) → AreReached (reach ++ declared_by (t.Stmt q (typed_form p.model (bodies_of items) s f))) (seen (after_form p.model (bodies_of items) s f))
  form_then result reach within s q (raw.Declare ds) h g = (names_are reach s ds h g).then
  form_then result reach within s q (raw.If e a raw.NoElse) h g = same_reach reach (seen s) h
  form_then result reach within s q (raw.If e a (raw.OrElse b)) h g = same_reach reach (seen s) h
  form_then result reach within s q raw.Empty h g = same_reach reach (seen s) h
  form_then result reach within s q (raw.Do e) h g = same_reach reach (seen s) h
  form_then result reach within s q (raw.Block b) h g = same_reach reach (seen s) h
  form_then result reach within s q (raw.While e a) h g = same_reach reach (seen s) h
  form_then result reach within s q (raw.DoWhile a e) h g = same_reach reach (seen s) h
  form_then result reach within s q (raw.For i e u a) h g = same_reach reach (seen s) h
  form_then result reach within s q raw.Break h g = same_reach reach (seen s) h
  form_then result reach within s q raw.Continue h g = same_reach reach (seen s) h
  form_then result reach within s q (raw.Return e) h g = same_reach reach (seen s) h
  form_then result reach within s q (raw.Label w a) h g = same_reach reach (seen s) h
  form_then result reach within s q (raw.Switch e b) h g = subst (λ l. AreReached (reach ++ []) l) (sym (arms_see s b)) (same_reach reach (seen s) h)

  statement_then : (result : Option IntType) (reach : List ℕ) (within : Within) (s : Scope) (x : raw.Stm) → AreReached reach (seen s) → Goods (parts_of_statement p.model (bodies_of items) result within s x) → AreReached (reach ++ declared_by (typed_statement p.model (bodies_of items) s x)) (seen (after_statement p.model (bodies_of items) s x))
  statement_then result reach within s (raw.Stmt q f) h g = form_then result reach within s q f h g

  module _ (result : Option IntType) where
    mutual
      statement_is : (reach : List ℕ) (within : Within) (s : Scope) (x : raw.Stm) → AreReached reach (seen s) → Goods (parts_of_statement p.model (bodies_of items) result within s x) → statement_reaches p reach (typed_statement p.model (bodies_of items) s x) ≡ true
      statement_is reach within s (raw.Stmt q f) h g = form_is reach within s q f h g

      form_is : (reach : List ℕ) (within : Within) (s : Scope) (q : Spot) (f : raw.Form) → AreReached reach (seen s) → Goods (parts_of_form p.model (bodies_of items) result within s q f) → form_reaches p reach (typed_form p.model (bodies_of items) s f) ≡ true
      form_is reach within s q raw.Empty h g = refl
      form_is reach within s q (raw.Do e) h g = expression_is reach (seen s) Effect e h g
      form_is reach within s q (raw.Declare ds) h g = (names_are reach s ds h g).inits
      form_is reach within s q (raw.Block b) h g = block_is reach within (opened s) b (inside_reached reach s h) g
      form_is reach within s q (raw.If e a b) h g =
          let pe = parts (seen s) Value e in
          let pa = parts_of_statement p.model (bodies_of items) result within (opened s) a in
          let gea = all_front (IsGood p items entries) (pe ++ pa) _ g in
          both (expression_is reach (seen s) Value e h (all_front (IsGood p items entries) pe _ gea))
          (both (statement_is reach within (opened s) a (inside_reached reach s h) (all_behind (IsGood p items entries) pe _ gea))
          (else_is reach within (closed s (after_statement p.model (bodies_of items) (opened s) a)) b h (all_behind (IsGood p items entries) (pe ++ pa) _ g)))
      form_is reach within s q (raw.While e a) h g =
          let pe = parts (seen s) Value e in
          both (expression_is reach (seen s) Value e h (all_front (IsGood p items entries) pe _ g)) (statement_is reach in_loop (opened s) a (inside_reached reach s h) (all_behind (IsGood p items entries) pe _ g))
      form_is reach within s q (raw.DoWhile a e) h g =
          let pa = parts_of_statement p.model (bodies_of items) result in_loop (opened s) a in
          both (statement_is reach in_loop (opened s) a (inside_reached reach s h) (all_front (IsGood p items entries) pa _ g)) (expression_is reach (seen s) Value e h (all_behind (IsGood p items entries) pa _ g))
      form_is reach within s q (raw.For i e u a) h g =
          let t = after_first p.model (bodies_of items) (opened s) i in
          let pi = parts_of_first p.model (bodies_of items) (opened s) i in
          let pe = parts_if (seen t) Value e in
          let pu = parts_if (seen t) Effect u in
          let gieu = all_front (IsGood p items entries) (pi ++ pe ++ pu) _ g in
          let gie = all_front (IsGood p items entries) (pi ++ pe) _ gieu in
          let i' = first_is reach (opened s) i (inside_reached reach s h) (all_front (IsGood p items entries) pi _ gie) in
          let more = reach ++ objects_of_first (typed_first p.model (bodies_of items) (opened s) i) in
          both i'.inits
          (both (all_pass_then (reaches p more) (exp_if (typed_if p.model (bodies_of items) (seen t) e)) _
          (if_is more (seen t) Value e i'.then (all_behind (IsGood p items entries) pi _ gie)) (if_is more (seen t) Effect u i'.then (all_behind (IsGood p items entries) (pi ++ pe) _ gieu)))
          (statement_is more in_loop (opened t) a (inside_reached more t i'.then) (all_behind (IsGood p items entries) (pi ++ pe ++ pu) _ g)))
      form_is reach within s q raw.Break h g = refl
      form_is reach within s q raw.Continue h g = refl
      form_is reach within s q (raw.Return e) h g = if_is reach (seen s) Value e h g.1
      form_is reach within s q (raw.Label w a) h g = statement_is reach within (opened s) a (inside_reached reach s h) g
      form_is reach within s q (raw.Switch e b) h g =
          let pe = parts (seen s) Value e in
          both (expression_is reach (seen s) Value e h (all_front (IsGood p items entries) pe _ g))
          (arms_are reach (in_switch within) (switch_type (type_of (typed p.model (bodies_of items) (seen s) e))) [] s b h (all_behind (IsGood p items entries) pe _ g))

      else_is : (reach : List ℕ) (within : Within) (s : Scope) (b : raw.Else) → AreReached reach (seen s) → Goods (parts_of_else p.model (bodies_of items) result within s b) → else_reaches p reach (typed_else p.model (bodies_of items) s b) ≡ true
      else_is reach within s raw.NoElse h g = refl
      else_is reach within s (raw.OrElse b) h g = statement_is reach within (opened s) b (inside_reached reach s h) g

      block_is : (reach : List ℕ) (within : Within) (s : Scope) (b : raw.Stms) → AreReached reach (seen s) → Goods (parts_of_block p.model (bodies_of items) result within s b) → block_reaches p reach (typed_block p.model (bodies_of items) s b) ≡ true
      block_is reach within s raw.NoStm h g = refl
      block_is reach within s (raw.MoreStm x b) h g =
          let px = parts_of_statement p.model (bodies_of items) result within s x in
          let gx = all_front (IsGood p items entries) px _ g in
          both (statement_is reach within s x h gx)
          (block_is (reach ++ declared_by (typed_statement p.model (bodies_of items) s x)) within (after_statement p.model (bodies_of items) s x) b (statement_then result reach within s x h gx) (all_behind (IsGood p items entries) px _ g))
      block_is reach within s (raw.MoreCase q l b) h g = block_is reach within s b h g

      arms_are : (reach : List ℕ) (within : Within) (ty : IntType) (before : List (Option ArmLabel)) (s : Scope) (b : raw.Stms) → AreReached reach (seen s)
          → Goods (parts_of_arms p.model (bodies_of items) result within ty before s b) → block_reaches p reach (typed_arms p.model (bodies_of items) ty s b) ≡ true
      arms_are reach within ty before s raw.NoStm h g = refl
      arms_are reach within ty before s (raw.MoreStm x b) h g =
          let px = parts_of_statement p.model (bodies_of items) result within (opened s) x in
          let more = declared_by (typed_statement p.model (bodies_of items) (opened s) x) in
          both (statement_is reach within (opened s) x (inside_reached reach s h) (all_front (IsGood p items entries) px _ g))
          (arms_are (reach ++ more) within ty before (closed s (after_statement p.model (bodies_of items) (opened s) x)) b (more_reached reach more (seen s) h) (all_behind (IsGood p items entries) px _ g))
      arms_are reach within ty before s (raw.MoreCase q l b) h g =
          arms_are reach within ty (before ++ label_of p.model (bodies_of items) (seen s) ty l ∷ []) s b h (all_behind (IsGood p items entries) (parts_of_label (seen s) l) _ g.1)

  -- ---- functions

  parameters_then : (reach : List ℕ) (s : Scope) (xs : List raw.Param) (n : ℕ) → length s.objects ≡ n → AreReached reach (seen s) → AreReached (reach ++ numbers_from p.model (bodies_of items) n xs) (seen (after_parameters s xs))
  parameters_then reach s [] n e h = same_reach reach (seen s) h
  parameters_then reach s (x ∷ xs) n e h =
      let more = of_push (Reached p items entries (reach ++ n ∷ [])) s.outer s.inner (entry x.name (kind.Object (length s.objects) x.ty 0 false)) (more_reached reach (n ∷ []) (seen s) h)
      (subst (λ k. Reached p items entries (reach ++ n ∷ []) k) (sym e) (reached_last p items entries reach n)) in
      subst (λ l. AreReached l (seen (after_parameters s (x ∷ xs)))) (append_assoc reach (n ∷ []) (numbers_from p.model (bodies_of items) (n + 1) xs))
      (parameters_then (reach ++ n ∷ []) (with_object s (parameter x)) xs (n + 1) (next_number s.objects (parameter x) ∙ ap (λ k. k + 1) e) more)

  function_is : (s : Scope) (q : Spot) (name : List ℕ) (result : Option IntType) (xs : List raw.Param) (body : raw.Stm) → AreReached [] (seen s) → Goods (parts_of_item p.model (bodies_of items) s (raw.Function q name result xs body)) → function_reaches p (typed_function p.model (bodies_of items) s name result xs body) ≡ true
  function_is s q name result xs body h g =
      let t = inside s name result xs in
      let ps = parts_of_parameters t xs in
      let bs = parts_of_body p.model (bodies_of items) s name result xs body in
      block_is result (numbers_from p.model (bodies_of items) (length s.objects) xs) in_body (after_parameters t xs) (statements_of body)
      (parameters_then [] t xs (length s.objects) refl (inside_reached [] (with_entry s (entry_of_function name result xs)) (of_push (Reached p items entries []) s.outer s.inner (entry_of_function name result xs) h tt)))
      (all_behind (IsGood p items entries) ps _ (all_front (IsGood p items entries) (ps ++ bs) _ g.1))

  fixed_reached : (n : ℕ) (o : Object) → slice_get p.objects n ≡ Some o → o.fixed ≡ true → Reached p items entries [] n
  fixed_reached n o e f = rw e (rw f refl)

  globals_then : (s : Scope) (ds : List raw.Declared) → AreReached [] (seen s) → Goods (parts_of_names p.model (bodies_of items) true s ds) → AreReached [] (seen (after_names p.model (bodies_of items) true s ds))
  globals_then s [] h g = h
  globals_then s (d ∷ ds) h g =
      let pd = parts_of_name p.model (bodies_of items) true s d in
      let here = all_behind (IsGood p items entries) (parts_of (seen s) (exps d.sizes)) _ (all_front (IsGood p items entries) pd _ g) in
      globals_then (after_name p.model (bodies_of items) true s d) ds
      (of_push (Reached p items entries []) s.outer s.inner _ h (fixed_reached (length s.objects) (object_of p.model (bodies_of items) true (seen s) d) here.0.placed refl))
      (all_behind (IsGood p items entries) pd _ g)

  item_then : (s : Scope) (x : raw.Item) → AreReached [] (seen s) → Goods (parts_of_item p.model (bodies_of items) s x) → AreReached [] (seen (after_item p.model (bodies_of items) s x))
  item_then s (raw.Function q name result xs body) h g = of_push (Reached p items entries []) s.outer s.inner (entry_of_function name result xs) h tt
  item_then s (raw.Prototype q name result types) h g = of_push (Reached p items entries []) s.outer s.inner (entry_of_prototype name result types) h tt
  item_then s (raw.Global ds) h g = globals_then s ds h g
  item_then s (raw.Closed q name) h g = of_push (Reached p items entries []) s.outer s.inner (entry name kind.Closed) h tt

  pub functions_reach : (s : Scope) (xs : List raw.Item) → AreReached [] (seen s) → Goods (parts_of_items p.model (bodies_of items) s xs) → list_all (function_reaches p) (functions_of p.model (bodies_of items) s xs) ≡ true
  functions_reach s [] h g = refl
  functions_reach s (raw.Function q name result ys body ∷ xs) h g =
      let x = raw.Function q name result ys body in
      let px = parts_of_item p.model (bodies_of items) s x in
      let gx = all_front (IsGood p items entries) px _ g in
      both (function_is s q name result ys body h gx) (functions_reach (after_item p.model (bodies_of items) s x) xs (item_then s x h gx) (all_behind (IsGood p items entries) px _ g))
  functions_reach s (raw.Prototype q name result types ∷ xs) h g =
      let x = raw.Prototype q name result types in
      functions_reach (after_item p.model (bodies_of items) s x) xs (item_then s x h (g.0, tt)) g.1
  functions_reach s (raw.Global ds ∷ xs) h g =
      let x = raw.Global ds in
      let px = parts_of_item p.model (bodies_of items) s x in
      functions_reach (after_item p.model (bodies_of items) s x) xs (item_then s x h (all_front (IsGood p items entries) px _ g)) (all_behind (IsGood p items entries) px _ g)
  functions_reach s (raw.Closed q name ∷ xs) h g =
      let x = raw.Closed q name in
      functions_reach (after_item p.model (bodies_of items) s x) xs (item_then s x h tt) g
