-- Lists that are read item by item.
use Rattle.std.proofs.Common.{◌≡◌, ℕ, suc, ◌++◌, Bool, true, false, List, [], ◌∷◌, map, drop, Some, None, refl, sym, ap, ◌∙◌, append_assoc}
use Rattle.c_tokens.specs.declared.token.Token.{Token}
use Rattle.c_tokens.specs.declared.token.Punct.TheVariants as sign
use Rattle.c_core.specs.declared.number.IntType.{IntType}
use Rattle.std.proofs.lemmas.Bool.{cond-true, cond-false}
use Rattle.c_parser.specs.Tree.{Param, Exp, Exps, Declared}
use Rattle.c_parser.specs.Signs.{◌>>=◌, is_sign}
use Rattle.c_parser.specs.ReadExpressions.{Read, closing}
use Rattle.c_parser.specs.Declarations.{up_to_brace, read_declarator, read_declarators}
use Rattle.c_parser.specs.ReadStatements.{until}
use Rattle.c_parser.specs.View.{expr_view, exprs_view}
use Rattle.c_parser.specs.declared.tree.RawExpr.{RawExpr}
use Rattle.c_parser.specs.ReadItems.{read_parameter, read_parameter_list, read_parameter_type, read_type_list}

-- a test that waits
pub when : {A : Type 0} (b : Bool) (x y : A) → b ≡ true → elim b [ true ↦ x | false ↦ y ] ≡ x
when true x y e = refl
when false x y e = absurd (cc)

pub unless : {A : Type 0} (b : Bool) (x y : A) → b ≡ false → elim b [ true ↦ x | false ↦ y ] ≡ y
unless true x y e = absurd (cc)
unless false x y e = refl

-- these were read before
abbrev pub following : {X : Type 0} → List X → Read (List X) → Read (List X)
following xs o = o >>= λ r. Some (xs ++ r.0, r.1)

pub following_one : {X : Type 0} (xs : List X) (x : X) (o : Read (List X)) → following xs (o >>= λ r. Some (x ∷ r.0, r.1)) ≡ following (xs ++ x ∷ []) o
following_one xs x None = refl
following_one {X = X} xs x (Some r) = ap (λ (ys : List X). Some (ys, r.1)) (sym (append_assoc xs (x ∷ []) r.0))

pub map_push : {X Y : Type 0} (f : X → Y) (xs : List X) (x : X) → map f (xs ++ x ∷ []) ≡ map f xs ++ f x ∷ []
map_push f [] x = refl
map_push {Y = Y} f (y ∷ xs) x = ap (λ (ys : List Y). f y ∷ ys) (map_push f xs x)

module _ (b n m : ℕ) (ts : List Token) (e : n ≡ suc m) where
  params_step : (x : Param) (end : List Token) → read_parameter b ts ≡ Some (x, end) → is_sign sign.Comma end ≡ true → read_parameter_list b n ts ≡ (read_parameter_list b m (drop 1 end) >>= λ r. Some (x ∷ r.0, r.1))
  params_step x end here comma = rw (e, here) (when (is_sign sign.Comma end) (read_parameter_list b m (drop 1 end) >>= λ r. Some (x ∷ r.0, r.1)) (Some (x ∷ [], end)) comma)

  params_end : (x : Param) (end : List Token) → read_parameter b ts ≡ Some (x, end) → is_sign sign.Comma end ≡ false → read_parameter_list b n ts ≡ Some (x ∷ [], end)
  params_end x end here comma = rw (e, here) (unless (is_sign sign.Comma end) (read_parameter_list b m (drop 1 end) >>= λ r. Some (x ∷ r.0, r.1)) (Some (x ∷ [], end)) comma)

  pub params_more : (xs : List Param) (x : Param) (end : List Token) → read_parameter b ts ≡ Some (x, end) → is_sign sign.Comma end ≡ true →
      following xs (read_parameter_list b n ts) ≡ following (xs ++ x ∷ []) (read_parameter_list b m (drop 1 end))
  params_more xs x end here comma = ap (following xs) (params_step x end here comma) ∙ following_one xs x (read_parameter_list b m (drop 1 end))

  pub params_last : (xs : List Param) (x : Param) (end : List Token) → read_parameter b ts ≡ Some (x, end) → is_sign sign.Comma end ≡ false →
      following xs (read_parameter_list b n ts) ≡ Some (xs ++ x ∷ [], end)
  params_last xs x end here comma = ap (following xs) (params_end x end here comma)

  pub params_none : (xs : List Param) → read_parameter b ts ≡ None → following xs (read_parameter_list b n ts) ≡ None
  params_none xs none = rw (e, none) refl

  types_step : (x : IntType) (end : List Token) → read_parameter_type b ts ≡ Some (x, end) → is_sign sign.Comma end ≡ true → read_type_list b n ts ≡ (read_type_list b m (drop 1 end) >>= λ r. Some (x ∷ r.0, r.1))
  types_step x end here comma = rw (e, here) (when (is_sign sign.Comma end) (read_type_list b m (drop 1 end) >>= λ r. Some (x ∷ r.0, r.1)) (Some (x ∷ [], end)) comma)

  types_end : (x : IntType) (end : List Token) → read_parameter_type b ts ≡ Some (x, end) → is_sign sign.Comma end ≡ false → read_type_list b n ts ≡ Some (x ∷ [], end)
  types_end x end here comma = rw (e, here) (unless (is_sign sign.Comma end) (read_type_list b m (drop 1 end) >>= λ r. Some (x ∷ r.0, r.1)) (Some (x ∷ [], end)) comma)

  pub types_more : (xs : List IntType) (x : IntType) (end : List Token) → read_parameter_type b ts ≡ Some (x, end) → is_sign sign.Comma end ≡ true →
      following xs (read_type_list b n ts) ≡ following (xs ++ x ∷ []) (read_type_list b m (drop 1 end))
  types_more xs x end here comma = ap (following xs) (types_step x end here comma) ∙ following_one xs x (read_type_list b m (drop 1 end))

  pub types_last : (xs : List IntType) (x : IntType) (end : List Token) → read_parameter_type b ts ≡ Some (x, end) → is_sign sign.Comma end ≡ false →
      following xs (read_type_list b n ts) ≡ Some (xs ++ x ∷ [], end)
  types_last xs x end here comma = ap (following xs) (types_end x end here comma)

  pub types_none : (xs : List IntType) → read_parameter_type b ts ≡ None → following xs (read_type_list b n ts) ≡ None
  types_none xs none = rw (e, none) refl

-- values or rows up to a brace
module _ (X : Type 0) (one : List Token → Read X) (n m : ℕ) (ts : List Token) (e : n ≡ suc m) where
  brace_turn : (x : X) (end : List Token) → one ts ≡ Some (x, end) → up_to_brace one n ts ≡
      elim (is_sign sign.Comma end) [
        | true ↦ elim (is_sign sign.BraceClose (drop 1 end)) [ true ↦ Some (x ∷ [], drop 1 end) | false ↦ (up_to_brace one m (drop 1 end) >>= λ r. Some (x ∷ r.0, r.1)) ]
        | false ↦ Some (x ∷ [], end)
      ]
  brace_turn x end here = rw (e, here) refl

  pub brace_last : (xs : List X) (x : X) (end : List Token) → one ts ≡ Some (x, end) → is_sign sign.Comma end ≡ false → following xs (up_to_brace one n ts) ≡ Some (xs ++ x ∷ [], end)
  brace_last xs x end here comma = ap (following xs) (brace_turn x end here ∙ unless (is_sign sign.Comma end) _ _ comma)

  pub brace_close : (xs : List X) (x : X) (end : List Token) → one ts ≡ Some (x, end) → is_sign sign.Comma end ≡ true → is_sign sign.BraceClose (drop 1 end) ≡ true →
      following xs (up_to_brace one n ts) ≡ Some (xs ++ x ∷ [], drop 1 end)
  brace_close xs x end here comma brace = ap (following xs) (brace_turn x end here ∙ when (is_sign sign.Comma end) _ _ comma ∙ when (is_sign sign.BraceClose (drop 1 end)) _ _ brace)

  pub brace_more : (xs : List X) (x : X) (end : List Token) → one ts ≡ Some (x, end) → is_sign sign.Comma end ≡ true → is_sign sign.BraceClose (drop 1 end) ≡ false →
      following xs (up_to_brace one n ts) ≡ following (xs ++ x ∷ []) (up_to_brace one m (drop 1 end))
  brace_more xs x end here comma brace =
      ap (following xs) (brace_turn x end here ∙ when (is_sign sign.Comma end) _ _ comma ∙ unless (is_sign sign.BraceClose (drop 1 end)) _ _ brace)
      ∙ following_one xs x (up_to_brace one m (drop 1 end))

  pub brace_none : (xs : List X) → one ts ≡ None → following xs (up_to_brace one n ts) ≡ None
  brace_none xs none = rw (e, none) refl

-- the declarators of a declaration
module _ (b : ℕ) (whole inner : ℕ → List Token → Read Exp) (rows : List Token → Read (List Exps)) (n m : ℕ) (ts : List Token) (e : n ≡ suc m) where
  module _ (ty : IntType) where
    declarators_turn : (x : Declared) (end : List Token) → read_declarator b whole inner rows ty ts ≡ Some (x, end) → read_declarators b whole inner rows n ty ts ≡
        elim (is_sign sign.Comma end) [ true ↦ (read_declarators b whole inner rows m ty (drop 1 end) >>= λ r. Some (x ∷ r.0, r.1)) | false ↦ closing sign.Semicolon (x ∷ []) end ]
    declarators_turn x end here = rw (e, here) refl

    pub declarators_last : (xs : List Declared) (x : Declared) (end : List Token) → read_declarator b whole inner rows ty ts ≡ Some (x, end) → is_sign sign.Comma end ≡ false → is_sign sign.Semicolon end ≡ true →
        following xs (read_declarators b whole inner rows n ty ts) ≡ Some (xs ++ x ∷ [], drop 1 end)
    declarators_last xs x end here comma last = ap (following xs) (declarators_turn x end here ∙ unless (is_sign sign.Comma end) _ _ comma ∙ cond-true _ _ _ last)

    pub declarators_open : (xs : List Declared) (x : Declared) (end : List Token) → read_declarator b whole inner rows ty ts ≡ Some (x, end) → is_sign sign.Comma end ≡ false → is_sign sign.Semicolon end ≡ false →
        following xs (read_declarators b whole inner rows n ty ts) ≡ None
    declarators_open xs x end here comma last = ap (following xs) (declarators_turn x end here ∙ unless (is_sign sign.Comma end) _ _ comma ∙ cond-false _ _ _ last)

    pub declarators_more : (xs : List Declared) (x : Declared) (end : List Token) → read_declarator b whole inner rows ty ts ≡ Some (x, end) → is_sign sign.Comma end ≡ true →
        following xs (read_declarators b whole inner rows n ty ts) ≡ following (xs ++ x ∷ []) (read_declarators b whole inner rows m ty (drop 1 end))
    declarators_more xs x end here comma =
        ap (following xs) (declarators_turn x end here ∙ when (is_sign sign.Comma end) _ _ comma) ∙ following_one xs x (read_declarators b whole inner rows m ty (drop 1 end))

    pub declarators_none : (xs : List Declared) → read_declarator b whole inner rows ty ts ≡ None → following xs (read_declarators b whole inner rows n ty ts) ≡ None
    declarators_none xs none = rw (e, none) refl

-- what stands up to a stop
module _ (X : Type 0) (stops : List Token → Bool) (one : List Token → Read X) (n m : ℕ) (ts : List Token) (e : n ≡ suc m) where
  until_turn : stops ts ≡ false → until stops one n ts ≡ (one ts >>= λ x. until stops one m x.1 >>= λ r. Some (x.0 ∷ r.0, r.1))
  until_turn on = rw e (unless (stops ts) _ _ on)

  pub until_more : (xs : List X) (x : X) (end : List Token) → stops ts ≡ false → one ts ≡ Some (x, end) → following xs (until stops one n ts) ≡ following (xs ++ x ∷ []) (until stops one m end)
  until_more xs x end on here = ap (following xs) (until_turn on ∙ rw here refl) ∙ following_one xs x (until stops one m end)

pub exprs_push : (es : List RawExpr) (e : RawExpr) → exprs_view (es ++ e ∷ []) ≡ exprs_view es ++ expr_view e ∷ []
exprs_push [] e = refl
exprs_push (x ∷ es) e = ap (λ (ys : List Exp). expr_view x ∷ ys) (exprs_push es e)
