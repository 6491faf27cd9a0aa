-- The parameters and declared names of functions are the objects of automatic storage, each once, in the order of their numbers.
use Rattle.std.proofs.Common.{◌≡◌, ℕ, suc, ◌+◌, Bool, true, false, cond, List, [], ◌∷◌, ◌++◌, length, refl, sym, ap, ◌∙◌, subst, Option, arith, length-append, append-nil}
use Rattle.c_core.specs.Parts.{DeclaredName, names_of, names_of_first, names_in, names_in_form, names_in_else, names_in_block, objects_of, type_of}
use Rattle.c_core.specs.Scope.{owned_by}
use Rattle.c_core.specs.declared.number.IntType.{IntType}
use Rattle.c_core.specs.declared.number.DataModel.{DataModel}
use Rattle.c_core.specs.declared.number.Spot.{Spot}
use Rattle.c_core.specs.declared.tree.Object.{Object}
use Rattle.c_core.specs.declared.tree.Label.{Label as ArmLabel}
use Rattle.check_rules.specs.Typed.{typed}
use Rattle.check_rules.specs.Arms.{switch_type, label_of}
use Rattle.c_parser.specs.Tree as raw
use Rattle.check_rules.specs.Scopes.{Scope, seen, opened, closed, with_object, after_name, after_first, after_statement, after_item, after_parameters, inside, parameter, statements_of, entry_of_function, entry_of_prototype}
use Rattle.check_rules.specs.declared.within.Within.{Within}
use Rattle.check_rules.specs.Parts.{Value, Effect, Part, Declaring, Naming, Leaving, parts, parts_if, parts_of_init, parts_of_name, parts_of_names, parts_of_first, parts_of_statement, parts_of_form, parts_of_else, parts_of_block, labels_of, parts_of_labels, parts_of_parameters, parts_of_item, parts_of_items, in_loop, in_body, ArmLabelling, parts_of, parts_of_label, parts_of_arms, in_switch}
use Rattle.check_rules.specs.Checked.{typed_names, typed_first, typed_statement, typed_form, typed_else, typed_block, numbers_from, typed_function, functions_of, typed_arms}
use Rattle.check_wellformed.proofs.Lists.{AllOf}
use Rattle.check_wellformed.proofs.Threads.{IsQuiet, none_declared, expression_quiet, option_quiet, init_quiet, labels_quiet, declared, declared-append, Leads, leads_then, leads_quiet, expression_leads, option_leads, name_leads, names_lead, first_leads, statement_leads, block_leads, parameters_lead, item_leads, arguments_quiet, label_quiet, arguments_lead}

-- ---- numbers of objects

abbrev name_at : ℕ → Object → DeclaredName
name_at n o = record { spot = o.spot; object = n }

-- the objects that aren't fixed, from the number n
abbrev pub loose : ℕ → List Object → List DeclaredName
loose n [] = []
loose n (o ∷ os) = cond o.fixed (loose (n + 1) os) (name_at n o ∷ loose (n + 1) os)

one_in_front : (b : Bool) (x : DeclaredName) (xs ys zs : List DeclaredName) → zs ≡ xs ++ ys → cond b zs (x ∷ zs) ≡ cond b xs (x ∷ xs) ++ ys
one_in_front true x xs ys zs e = e
one_in_front false x xs ys zs e = ap (λ l. x ∷ l) e

later_number : (n k : ℕ) → (n + 1) + k ≡ n + suc k
later_number n k = omega arith

loose-append : (n : ℕ) (xs ys : List Object) → loose n (xs ++ ys) ≡ loose n xs ++ loose (n + length xs) ys
loose-append n [] ys = ap (λ k. loose k ys) (sym (omega arith))
loose-append n (x ∷ xs) ys =
    one_in_front x.fixed (name_at n x) (loose (n + 1) xs) (loose (n + suc (length xs)) ys) (loose (n + 1) (xs ++ ys))
    (loose-append (n + 1) xs ys ∙ ap (λ k. loose (n + 1) xs ++ loose k ys) (later_number n (length xs)))

pub objects-append : (xs ys : List DeclaredName) → objects_of (xs ++ ys) ≡ objects_of xs ++ objects_of ys
objects-append [] ys = refl
objects-append (x ∷ xs) ys = ap (λ l. x.object ∷ l) (objects-append xs ys)

-- ---- names declared in statements

module _ (m : DataModel) (bodies : List (List ℕ)) where
  -- behind the objects a, the parts declare these names
  record Owns (a : List Object) (ps : List Part) (ns : List DeclaredName) : Type 0 where
    are : ns ≡ loose (length a) (declared m bodies ps)

  owns_then : {a b : List Object} {ps qs : List Part} {ns us : List DeclaredName} → Leads m bodies a b ps → Owns a ps ns → Owns b qs us → Owns a (ps ++ qs) (ns ++ us)
  owns_then {a} {b} {ps} {qs} {ns} {us} l x y =
      let n : length b ≡ length a + length (declared m bodies ps) = ap length l.are ∙ length-append a (declared m bodies ps) in
      record {
        are = ap (λ k. k ++ us) x.are ∙ ap (λ k. loose (length a) (declared m bodies ps) ++ k) (y.are ∙ ap (λ k. loose k (declared m bodies qs)) n)
            ∙ sym (loose-append (length a) (declared m bodies ps) (declared m bodies qs)) ∙ ap (loose (length a)) (sym (declared-append m bodies ps qs));
      }

  owns_quiet : (a : List Object) (ps : List Part) → AllOf IsQuiet ps → Owns a ps []
  owns_quiet a ps h = record { are = ap (loose (length a)) (sym (none_declared m bodies ps h)) }

  owns_with : {a b : List Object} {ps : List Part} {ns : List DeclaredName} (qs : List Part) → Leads m bodies a b ps → Owns a ps ns → AllOf IsQuiet qs → Owns a (ps ++ qs) ns
  owns_with {a} {b} {ps} {ns} qs l x h = subst (λ k. Owns a (ps ++ qs) k) (append-nil ns) (owns_then l x (owns_quiet b qs h))

  owns_behind : {a b : List Object} {ps qs : List Part} {ns : List DeclaredName} → Leads m bodies a b ps → AllOf IsQuiet ps → Owns b qs ns → Owns a (ps ++ qs) ns
  owns_behind {a} {b} {ps} {qs} {ns} l h x = owns_then l (owns_quiet a ps h) x

  owns_one : (s : Scope) (d : raw.Declared) → Owns s.objects (Declaring false s d ∷ []) (record { spot = d.spot; object = length s.objects } ∷ [])
  owns_one s d = record { are = refl }

  name_owned : (s : Scope) (d : raw.Declared) → Owns s.objects (parts_of_name m bodies false s d) (record { spot = d.spot; object = length s.objects } ∷ [])
  name_owned s d =
      owns_behind (arguments_lead m bodies s.objects (seen s) (raw.exps d.sizes)) (arguments_quiet (seen s) (raw.exps d.sizes))
      (owns_with (parts_of_init false (after_name m bodies false s d) d.init) (record { are = refl; behind = (refl, tt) }) (owns_one s d) (init_quiet false (after_name m bodies false s d) d.init))

  names_owned : (s : Scope) (ds : List raw.Declared) → Owns s.objects (parts_of_names m bodies false s ds) (names_of (typed_names m bodies s ds))
  names_owned s [] = owns_quiet s.objects [] tt
  names_owned s (d ∷ ds) = owns_then (name_leads m bodies false s d) (name_owned s d) (names_owned (after_name m bodies false s d) ds)

  first_owned : (s : Scope) (i : raw.First) → Owns s.objects (parts_of_first m bodies s i) (names_of_first (typed_first m bodies s i))
  first_owned s raw.NoFirst = owns_quiet s.objects [] tt
  first_owned s (raw.FirstExp e) = owns_quiet s.objects (parts (seen s) Effect e) (expression_quiet (seen s) Effect e)
  first_owned s (raw.FirstDeclared ds) = names_owned s ds

  module _ (result : Option IntType) where
    mutual
      statement_owned : (within : Within) (s : Scope) (x : raw.Stm) → Owns s.objects (parts_of_statement m bodies result within s x) (names_in (typed_statement m bodies s x))
      statement_owned within s (raw.Stmt p f) = form_owned within s p f

      form_owned : (within : Within) (s : Scope) (p : Spot) (f : raw.Form) → Owns s.objects (parts_of_form m bodies result within s p f) (names_in_form (typed_form m bodies s f))
      form_owned within s p raw.Empty = owns_quiet s.objects [] tt
      form_owned within s p (raw.Do e) = owns_quiet s.objects (parts (seen s) Effect e) (expression_quiet (seen s) Effect e)
      form_owned within s p (raw.Declare ds) = names_owned s ds
      form_owned within s p (raw.Block b) = block_owned within (opened s) b
      form_owned within s p (raw.If e a b) =
          let le = expression_leads m bodies s.objects (seen s) Value e in
          owns_then (leads_then m bodies le (statement_leads m bodies result within (opened s) a)) (owns_behind le (expression_quiet (seen s) Value e) (statement_owned within (opened s) a))
          (else_owned within (closed s (after_statement m bodies (opened s) a)) b)
      form_owned within s p (raw.While e a) = owns_behind (expression_leads m bodies s.objects (seen s) Value e) (expression_quiet (seen s) Value e) (statement_owned in_loop (opened s) a)
      form_owned within s p (raw.DoWhile a e) = owns_with (parts (seen s) Value e) (statement_leads m bodies result in_loop (opened s) a) (statement_owned in_loop (opened s) a) (expression_quiet (seen s) Value e)
      form_owned within s p (raw.For i e u a) =
          let t = after_first m bodies (opened s) i in
          let li = first_leads m bodies (opened s) i in
          let le = option_leads m bodies t.objects (seen t) Value e in
          let lu = option_leads m bodies t.objects (seen t) Effect u in
          owns_then (leads_then m bodies (leads_then m bodies li le) lu)
          (owns_with (parts_if (seen t) Effect u) (leads_then m bodies li le) (owns_with (parts_if (seen t) Value e) li (first_owned (opened s) i) (option_quiet (seen t) Value e)) (option_quiet (seen t) Effect u))
          (statement_owned in_loop (opened t) a)
      form_owned within s p raw.Break = owns_quiet s.objects (Leaving within.breaks p ∷ []) (tt, tt)
      form_owned within s p raw.Continue = owns_quiet s.objects (Leaving within.continues p ∷ []) (tt, tt)
      form_owned within s p (raw.Return e) = owns_quiet s.objects (parts_of_form m bodies result within s p (raw.Return e)) (tt, option_quiet (seen s) Value e)
      form_owned within s p (raw.Label w a) = statement_owned within (opened s) a
      form_owned within s p (raw.Switch e b) =
          owns_behind (expression_leads m bodies s.objects (seen s) Value e) (expression_quiet (seen s) Value e) (arms_owned (in_switch within) (switch_type (type_of (typed m bodies (seen s) e))) [] s b)

      else_owned : (within : Within) (s : Scope) (b : raw.Else) → Owns s.objects (parts_of_else m bodies result within s b) (names_in_else (typed_else m bodies s b))
      else_owned within s raw.NoElse = owns_quiet s.objects [] tt
      else_owned within s (raw.OrElse b) = statement_owned within (opened s) b

      block_owned : (within : Within) (s : Scope) (b : raw.Stms) → Owns s.objects (parts_of_block m bodies result within s b) (names_in_block (typed_block m bodies s b))
      block_owned within s raw.NoStm = owns_quiet s.objects [] tt
      block_owned within s (raw.MoreStm x b) = owns_then (statement_leads m bodies result within s x) (statement_owned within s x) (block_owned within (after_statement m bodies s x) b)
      block_owned within s (raw.MoreCase p l b) = block_owned within s b

      arms_owned : (within : Within) (ty : IntType) (before : List (Option ArmLabel)) (s : Scope) (b : raw.Stms)
          → Owns s.objects (parts_of_arms m bodies result within ty before s b) (names_in_block (typed_arms m bodies ty s b))
      arms_owned within ty before s raw.NoStm = owns_quiet s.objects [] tt
      arms_owned within ty before s (raw.MoreStm x b) =
          owns_then (statement_leads m bodies result within (opened s) x) (statement_owned within (opened s) x) (arms_owned within ty before (closed s (after_statement m bodies (opened s) x)) b)
      arms_owned within ty before s (raw.MoreCase p l b) =
          let label = label_of m bodies (seen s) ty l in
          owns_behind (leads_quiet m bodies s.objects (ArmLabelling before label p ∷ []) (tt, tt)) (tt, tt)
          (owns_behind (leads_quiet m bodies s.objects (parts_of_label (seen s) l) (label_quiet (seen s) l)) (label_quiet (seen s) l) (arms_owned within ty (before ++ label ∷ []) s b))

  -- the names declared in a body
  pub body_names : (result : Option IntType) (s : Scope) (b : raw.Stms) → names_in_block (typed_block m bodies s b) ≡ loose (length s.objects) (declared m bodies (parts_of_block m bodies result in_body s b))
  body_names result s b = (block_owned result in_body s b).are

  -- ---- functions

  -- behind the objects a, the parts declare names with these numbers
  pub record OwnsNumbers (a : List Object) (ps : List Part) (os : List ℕ) : Type 0 where
    pub are : os ≡ objects_of (loose (length a) (declared m bodies ps))

  numbers_then : {a b : List Object} {ps qs : List Part} {ns us : List ℕ} → Leads m bodies a b ps → OwnsNumbers a ps ns → OwnsNumbers b qs us → OwnsNumbers a (ps ++ qs) (ns ++ us)
  numbers_then {a} {b} {ps} {qs} {ns} {us} l x y =
      let n : length b ≡ length a + length (declared m bodies ps) = ap length l.are ∙ length-append a (declared m bodies ps) in
      let P = loose (length a) (declared m bodies ps) in
      record {
        are = ap (λ k. k ++ us) x.are ∙ ap (λ k. objects_of P ++ k) (y.are ∙ ap (λ k. objects_of (loose k (declared m bodies qs))) n)
            ∙ sym (objects-append P (loose (length a + length (declared m bodies ps)) (declared m bodies qs)))
            ∙ ap objects_of (sym (loose-append (length a) (declared m bodies ps) (declared m bodies qs)) ∙ ap (loose (length a)) (sym (declared-append m bodies ps qs)));
      }

  numbers_quiet : (a : List Object) (ps : List Part) → AllOf IsQuiet ps → OwnsNumbers a ps []
  numbers_quiet a ps h = record { are = ap (λ l. objects_of (loose (length a) l)) (sym (none_declared m bodies ps h)) }

  numbers_with : {a b : List Object} {ps : List Part} {ns : List ℕ} (qs : List Part) → Leads m bodies a b ps → OwnsNumbers a ps ns → AllOf IsQuiet qs → OwnsNumbers a (ps ++ qs) ns
  numbers_with {a} {b} {ps} {ns} qs l x h = subst (λ k. OwnsNumbers a (ps ++ qs) k) (append-nil ns) (numbers_then l x (numbers_quiet b qs h))

  numbers_same : (n k : ℕ) (xs : List raw.Param) → n ≡ k → numbers_from m bodies n xs ≡ numbers_from m bodies k xs
  numbers_same n k xs e = ap (λ i. numbers_from m bodies i xs) e

  parameters_owned : (s : Scope) (xs : List raw.Param) → OwnsNumbers s.objects (parts_of_parameters s xs) (numbers_from m bodies (length s.objects) xs)
  parameters_owned s [] = numbers_quiet s.objects [] tt
  parameters_owned s (x ∷ xs) =
      let rest = parameters_owned (with_object s (parameter x)) xs in
      let e : length (s.objects ++ parameter x ∷ []) ≡ length s.objects + 1 = length-append s.objects (parameter x ∷ []) in
      record { are = ap (λ l. length s.objects ∷ l) (numbers_same _ _ xs (sym e) ∙ rest.are ∙ ap (λ k. objects_of (loose k (declared m bodies (parts_of_parameters (with_object s (parameter x)) xs)))) e) }

  block_numbers : (result : Option IntType) (s : Scope) (b : raw.Stms) → OwnsNumbers s.objects (parts_of_block m bodies result in_body s b) (objects_of (names_in_block (typed_block m bodies s b)))
  block_numbers result s b = record { are = ap objects_of (body_names result s b) }

  -- a declaration outside of functions owns nothing
  global_free : (s : Scope) (d : raw.Declared) → OwnsNumbers s.objects (Declaring true s d ∷ []) []
  global_free s d = record { are = refl }

  globals_free : (s : Scope) (ds : List raw.Declared) → OwnsNumbers s.objects (parts_of_names m bodies true s ds) []
  globals_free s [] = numbers_quiet s.objects [] tt
  globals_free s (d ∷ ds) =
      numbers_then {ns = []} (name_leads m bodies true s d)
      (numbers_then {ns = []} (arguments_lead m bodies s.objects (seen s) (raw.exps d.sizes)) (numbers_quiet s.objects (parts_of (seen s) (raw.exps d.sizes)) (arguments_quiet (seen s) (raw.exps d.sizes)))
      (numbers_with (parts_of_init true (after_name m bodies true s d) d.init) (record { are = refl; behind = (refl, tt) }) (global_free s d) (init_quiet true (after_name m bodies true s d) d.init)))
      (globals_free (after_name m bodies true s d) ds)

  function_owned : (s : Scope) (p : Spot) (name : List ℕ) (result : Option IntType) (xs : List raw.Param) (body : raw.Stm) → OwnsNumbers s.objects (parts_of_item m bodies s (raw.Function p name result xs body)) (numbers_from m bodies (length s.objects) xs ++ objects_of (names_in (typed_function m bodies s name result xs body).body))
  function_owned s p name result xs body =
      let t = inside s name result xs in
      let lp = parameters_lead m bodies t xs in
      let lb = block_leads m bodies result in_body (after_parameters t xs) (statements_of body) in
      numbers_then {ns = []} (leads_quiet m bodies s.objects (Naming s (entry_of_function name result xs) p ∷ []) (tt, tt)) (numbers_quiet s.objects (Naming s (entry_of_function name result xs) p ∷ []) (tt, tt))
      (numbers_with (parts_of_labels [] (labels_of body)) (leads_then m bodies lp lb) (numbers_then lp (parameters_owned t xs) (block_numbers result (after_parameters t xs) (statements_of body))) (labels_quiet [] (labels_of body)))

  pub functions_owned : (s : Scope) (xs : List raw.Item) → OwnsNumbers s.objects (parts_of_items m bodies s xs) (owned_by (functions_of m bodies s xs))
  functions_owned s [] = numbers_quiet s.objects [] tt
  functions_owned s (raw.Function p name result ys body ∷ xs) =
      let x = raw.Function p name result ys body in
      numbers_then (item_leads m bodies s x) (function_owned s p name result ys body) (functions_owned (after_item m bodies s x) xs)
  functions_owned s (raw.Prototype p name result types ∷ xs) =
      let x = raw.Prototype p name result types in
      numbers_then {ns = []} (item_leads m bodies s x) (numbers_quiet s.objects (Naming s (entry_of_prototype name result types) p ∷ []) (tt, tt)) (functions_owned (after_item m bodies s x) xs)
  functions_owned s (raw.Global ds ∷ xs) = numbers_then {ns = []} (names_lead m bodies true s ds) (globals_free s ds) (functions_owned (after_item m bodies s (raw.Global ds)) xs)
  functions_owned s (raw.Closed p name ∷ xs) = functions_owned (after_item m bodies s (raw.Closed p name)) xs

  -- the numbers that functions own, from the number n
  pub owned_are : (s : Scope) (xs : List raw.Item) → owned_by (functions_of m bodies s xs) ≡ objects_of (loose (length s.objects) (declared m bodies (parts_of_items m bodies s xs)))
  owned_are s xs = (functions_owned s xs).are
