-- Declarations stand directly in blocks, and `break` and `continue` in loops.
use Rattle.std.proofs.Common.{◌≡◌, ℕ, Bool, true, false, not, List, [], ◌∷◌, ◌++◌, refl, Option}
use Rattle.std.proofs.lemmas.Bool.{false≢true}
use Rattle.std.specs.List.{list_all}
use Rattle.c_core.specs.Tree as t
use Rattle.c_core.specs.Parts.{every_statement, every_statement_else, every_statement_of, type_of}
use Rattle.c_core.specs.Scope.{is_declaration, else_is_declaration, statement_nests, function_nests, statement_jumps, form_jumps, else_jumps, block_jumps, function_jumps, declares_nothing}
use Rattle.c_core.specs.declared.number.IntType.{IntType}
use Rattle.c_core.specs.declared.number.DataModel.{DataModel}
use Rattle.c_core.specs.declared.number.Spot.{Spot}
use Rattle.c_core.specs.declared.tree.Label.{Label as ArmLabel}
use Rattle.check_rules.specs.Typed.{typed}
use Rattle.check_rules.specs.Arms.{switch_type, label_of}
use Rattle.c_parser.specs.Tree as raw
use Rattle.c_parser.specs.Formed as formed
use Rattle.c_parser.specs.Formed.{nests, else_nests, block_nests, item_nests}
use Rattle.check_rules.specs.Scopes.{Scope, seen, opened, closed, after_first, after_statement, after_item, after_parameters, inside, statements_of}
use Rattle.check_rules.specs.declared.within.Within.{Within}
use Rattle.check_rules.specs.Parts.{Value, Effect, Part, parts, parts_if, parts_of_names, parts_of_first, parts_of_statement, parts_of_form, parts_of_else, parts_of_block, parts_of_parameters, parts_of_body, parts_of_item, parts_of_items, bodies_of, in_loop, in_body, parts_of_label, parts_of_arms, in_switch}
use Rattle.check_rules.specs.Checked.{typed_statement, typed_form, typed_else, typed_block, functions_of, typed_arms}
use Rattle.check_wellformed.proofs.Lists.{AllOf, both, left, right, all_front, all_behind, not_false}
use Rattle.check_wellformed.proofs.Fair.{IsFair}

module _ (m : DataModel) (bodies : List (List ℕ)) where
  -- ---- where declarations stand

  no_declaration : (s : Scope) (x : raw.Stm) → nests false x ≡ true → not (is_declaration (typed_statement m bodies s x)) ≡ true
  no_declaration s (raw.Stmt p raw.Empty) h = refl
  no_declaration s (raw.Stmt p (raw.Do e)) h = refl
  no_declaration s (raw.Stmt p (raw.Declare ds)) h = absurd (false≢true h)
  no_declaration s (raw.Stmt p (raw.Block b)) h = refl
  no_declaration s (raw.Stmt p (raw.If e a b)) h = refl
  no_declaration s (raw.Stmt p (raw.While e a)) h = refl
  no_declaration s (raw.Stmt p (raw.DoWhile a e)) h = refl
  no_declaration s (raw.Stmt p (raw.For i e u a)) h = refl
  no_declaration s (raw.Stmt p raw.Break) h = refl
  no_declaration s (raw.Stmt p raw.Continue) h = refl
  no_declaration s (raw.Stmt p (raw.Return e)) h = refl
  no_declaration s (raw.Stmt p (raw.Label w a)) h = refl
  no_declaration s (raw.Stmt p (raw.Switch e b)) h = refl

  no_declaration_else : (s : Scope) (b : raw.Else) → else_nests b ≡ true → not (else_is_declaration (typed_else m bodies s b)) ≡ true
  no_declaration_else s raw.NoElse h = refl
  no_declaration_else s (raw.OrElse b) h = no_declaration _ b h

  arms_declare_nothing : (ty : IntType) (s : Scope) (b : raw.Stms) → block_nests false b ≡ true → declares_nothing (typed_arms m bodies ty s b) ≡ true
  arms_declare_nothing ty s raw.NoStm h = refl
  arms_declare_nothing ty s (raw.MoreStm x b) h =
      both (no_declaration (opened s) x (left (nests false x) _ h)) (arms_declare_nothing ty (closed s (after_statement m bodies (opened s) x)) b (right (nests false x) _ h))
  arms_declare_nothing ty s (raw.MoreCase p l b) h = arms_declare_nothing ty s b h

  mutual
    statement_right : (s : Scope) (in_block : Bool) (x : raw.Stm) → nests in_block x ≡ true → every_statement statement_nests (typed_statement m bodies s x) ≡ true
    statement_right s in_block (raw.Stmt p f) h = form_right s in_block p f h

    form_right : (s : Scope) (in_block : Bool) (p : Spot) (f : raw.Form) → formed.form_nests in_block f ≡ true → every_statement statement_nests (t.Stmt p (typed_form m bodies s f)) ≡ true
    form_right s in_block p raw.Empty h = refl
    form_right s in_block p (raw.Do e) h = refl
    form_right s in_block p (raw.Declare ds) h = refl
    form_right s in_block p (raw.Block b) h = block_right (opened s) b h
    form_right s in_block p (raw.If e a b) h =
        let ha = left (nests false a) _ h in
        let hb = right (nests false a) _ h in
        let u = closed s (after_statement m bodies (opened s) a) in
        both (both (no_declaration (opened s) a ha) (no_declaration_else u b hb)) (both (statement_right (opened s) false a ha) (else_right u b hb))
    form_right s in_block p (raw.While e a) h = both (no_declaration (opened s) a h) (statement_right (opened s) false a h)
    form_right s in_block p (raw.DoWhile a e) h = both (no_declaration (opened s) a h) (statement_right (opened s) false a h)
    form_right s in_block p (raw.For i e u a) h =
        let s' = opened (after_first m bodies (opened s) i) in
        both (no_declaration s' a h) (statement_right s' false a h)
    form_right s in_block p raw.Break h = refl
    form_right s in_block p raw.Continue h = refl
    form_right s in_block p (raw.Return e) h = refl
    form_right s in_block p (raw.Label w a) h = both (no_declaration (opened s) a h) (statement_right (opened s) false a h)
    form_right s in_block p (raw.Switch e b) h =
        let ty = switch_type (type_of (typed m bodies (seen s) e)) in both (arms_declare_nothing ty s b h) (arms_right ty s b h)

    else_right : (s : Scope) (b : raw.Else) → else_nests b ≡ true → every_statement_else statement_nests (typed_else m bodies s b) ≡ true
    else_right s raw.NoElse h = refl
    else_right s (raw.OrElse b) h = statement_right (opened s) false b h

    block_right : (s : Scope) (b : raw.Stms) → block_nests true b ≡ true → every_statement_of statement_nests (typed_block m bodies s b) ≡ true
    block_right s raw.NoStm h = refl
    block_right s (raw.MoreStm x b) h = both (statement_right s true x (left (nests true x) _ h)) (block_right (after_statement m bodies s x) b (right (nests true x) _ h))
    block_right s (raw.MoreCase p l b) h = block_right s b h

    arms_right : (ty : IntType) (s : Scope) (b : raw.Stms) → block_nests false b ≡ true → every_statement_of statement_nests (typed_arms m bodies ty s b) ≡ true
    arms_right ty s raw.NoStm h = refl
    arms_right ty s (raw.MoreStm x b) h =
        both (statement_right (opened s) false x (left (nests false x) _ h)) (arms_right ty (closed s (after_statement m bodies (opened s) x)) b (right (nests false x) _ h))
    arms_right ty s (raw.MoreCase p l b) h = arms_right ty s b h

  body_right : (s : Scope) (body : raw.Stm) → nests false body ≡ true → every_statement_of statement_nests (typed_block m bodies s (statements_of body)) ≡ true
  body_right s (raw.Stmt p (raw.Block b)) h = block_right s b h
  body_right s (raw.Stmt p raw.Empty) h = refl
  body_right s (raw.Stmt p (raw.Do e)) h = refl
  body_right s (raw.Stmt p (raw.Declare ds)) h = refl
  body_right s (raw.Stmt p (raw.If e a b)) h = refl
  body_right s (raw.Stmt p (raw.While e a)) h = refl
  body_right s (raw.Stmt p (raw.DoWhile a e)) h = refl
  body_right s (raw.Stmt p (raw.For i e u a)) h = refl
  body_right s (raw.Stmt p raw.Break) h = refl
  body_right s (raw.Stmt p raw.Continue) h = refl
  body_right s (raw.Stmt p (raw.Return e)) h = refl
  body_right s (raw.Stmt p (raw.Label w a)) h = refl
  body_right s (raw.Stmt p (raw.Switch e b)) h = refl

  pub functions_nest : (s : Scope) (xs : List raw.Item) → list_all item_nests xs ≡ true → list_all function_nests (functions_of m bodies s xs) ≡ true
  functions_nest s [] h = refl
  functions_nest s (raw.Function p name result ys body ∷ xs) h =
      let rest = right (nests false body) _ h in
      both (body_right (after_parameters (inside s name result ys) ys) body (left (nests false body) _ h)) (functions_nest (after_item m bodies s (raw.Function p name result ys body)) xs rest)
  functions_nest s (raw.Prototype p name result types ∷ xs) h = functions_nest (after_item m bodies s (raw.Prototype p name result types)) xs h
  functions_nest s (raw.Global ds ∷ xs) h = functions_nest (after_item m bodies s (raw.Global ds)) xs h
  functions_nest s (raw.Closed p name ∷ xs) h = functions_nest (after_item m bodies s (raw.Closed p name)) xs h

-- ---- jumps

module _ (m : DataModel) (items : List raw.Item) where
  abbrev Fairs : List Part → Type 0
  Fairs ps = AllOf (IsFair m items) ps

  front : (ps qs : List Part) → Fairs (ps ++ qs) → Fairs ps
  front ps qs h = all_front (IsFair m items) ps qs h

  rest : (ps qs : List Part) → Fairs (ps ++ qs) → Fairs qs
  rest ps qs h = all_behind (IsFair m items) ps qs h

  module _ (result : Option IntType) where
    mutual
      statement_leaves : (within : Within) (s : Scope) (x : raw.Stm) → Fairs (parts_of_statement m (bodies_of items) result within s x) → statement_jumps within.continues within.breaks (typed_statement m (bodies_of items) s x) ≡ true
      statement_leaves within s (raw.Stmt p f) h = form_leaves within s p f h

      form_leaves : (within : Within) (s : Scope) (p : Spot) (f : raw.Form) → Fairs (parts_of_form m (bodies_of items) result within s p f) → form_jumps within.continues within.breaks (typed_form m (bodies_of items) s f) ≡ true
      form_leaves within s p raw.Empty h = refl
      form_leaves within s p (raw.Do e) h = refl
      form_leaves within s p (raw.Declare ds) h = refl
      form_leaves within s p (raw.Block b) h = block_leaves within (opened s) b h
      form_leaves within s p (raw.If e a b) h =
          let pe = parts (seen s) Value e in
          let pa = parts_of_statement m (bodies_of items) result within (opened s) a in
          both (statement_leaves within (opened s) a (rest pe _ (front (pe ++ pa) _ h))) (else_leaves within (closed s (after_statement m (bodies_of items) (opened s) a)) b (rest (pe ++ pa) _ h))
      form_leaves within s p (raw.While e a) h = statement_leaves in_loop (opened s) a (rest (parts (seen s) Value e) _ h)
      form_leaves within s p (raw.DoWhile a e) h = statement_leaves in_loop (opened s) a (front (parts_of_statement m (bodies_of items) result in_loop (opened s) a) _ h)
      form_leaves within s p (raw.For i e u a) h =
          let t = after_first m (bodies_of items) (opened s) i in
          statement_leaves in_loop (opened t) a (rest (parts_of_first m (bodies_of items) (opened s) i ++ parts_if (seen t) Value e ++ parts_if (seen t) Effect u) _ h)
      form_leaves within s p raw.Break h = not_false within.breaks h.0.typed
      form_leaves within s p raw.Continue h = not_false within.continues h.0.typed
      form_leaves within s p (raw.Return e) h = refl
      form_leaves within s p (raw.Label w a) h = statement_leaves within (opened s) a h
      form_leaves within s p (raw.Switch e b) h =
          arms_leave (in_switch within) (switch_type (type_of (typed m (bodies_of items) (seen s) e))) [] s b (rest (parts (seen s) Value e) _ h)

      else_leaves : (within : Within) (s : Scope) (b : raw.Else) → Fairs (parts_of_else m (bodies_of items) result within s b) → else_jumps within.continues within.breaks (typed_else m (bodies_of items) s b) ≡ true
      else_leaves within s raw.NoElse h = refl
      else_leaves within s (raw.OrElse b) h = statement_leaves within (opened s) b h

      block_leaves : (within : Within) (s : Scope) (b : raw.Stms) → Fairs (parts_of_block m (bodies_of items) result within s b) → block_jumps within.continues within.breaks (typed_block m (bodies_of items) s b) ≡ true
      block_leaves within s raw.NoStm h = refl
      block_leaves within s (raw.MoreStm x b) h =
          let px = parts_of_statement m (bodies_of items) result within s x in
          both (statement_leaves within s x (front px _ h)) (block_leaves within (after_statement m (bodies_of items) s x) b (rest px _ h))
      block_leaves within s (raw.MoreCase p l b) h = block_leaves within s b h

      arms_leave : (within : Within) (ty : IntType) (before : List (Option ArmLabel)) (s : Scope) (b : raw.Stms) → Fairs (parts_of_arms m (bodies_of items) result within ty before s b)
          → block_jumps within.continues within.breaks (typed_arms m (bodies_of items) ty s b) ≡ true
      arms_leave within ty before s raw.NoStm h = refl
      arms_leave within ty before s (raw.MoreStm x b) h =
          let px = parts_of_statement m (bodies_of items) result within (opened s) x in
          both (statement_leaves within (opened s) x (front px _ h)) (arms_leave within ty before (closed s (after_statement m (bodies_of items) (opened s) x)) b (rest px _ h))
      arms_leave within ty before s (raw.MoreCase p l b) h =
          arms_leave within ty (before ++ label_of m (bodies_of items) (seen s) ty l ∷ []) s b (rest (parts_of_label (seen s) l) _ h.1)

  pub functions_jump : (s : Scope) (xs : List raw.Item) → Fairs (parts_of_items m (bodies_of items) s xs) → list_all function_jumps (functions_of m (bodies_of items) s xs) ≡ true
  functions_jump s [] h = refl
  functions_jump s (raw.Function p name result ys body ∷ xs) h =
      let x = raw.Function p name result ys body in
      let px = parts_of_item m (bodies_of items) s x in
      let u = inside s name result ys in
      let ps = parts_of_parameters u ys in
      let bs = parts_of_body m (bodies_of items) s name result ys body in
      both (block_leaves result in_body (after_parameters u ys) (statements_of body) (rest ps bs (front (ps ++ bs) _ (front px _ h).1))) (functions_jump (after_item m (bodies_of items) s x) xs (rest px _ h))
  functions_jump s (raw.Prototype p name result types ∷ xs) h = functions_jump (after_item m (bodies_of items) s (raw.Prototype p name result types)) xs h.1
  functions_jump s (raw.Global ds ∷ xs) h = functions_jump (after_item m (bodies_of items) s (raw.Global ds)) xs (rest (parts_of_names m (bodies_of items) true s ds) _ h)
  functions_jump s (raw.Closed p name ∷ xs) h = functions_jump (after_item m (bodies_of items) s (raw.Closed p name)) xs h
