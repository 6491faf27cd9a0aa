-- Arguments of a call, evaluated one after the other.
use Rattle.std.proofs.Common.{◌≡◌, ℕ, zero, suc, ◌+◌, ◌≤◌, ◌<◌, Bool, ℤ, List, [], ◌∷◌, ◌++◌, length, take, get_or, map, refl, sym, ◌∙◌, ap, subst, arith, Some, IsTrue}
use Rattle.std.specs.List.{list_all}
use Rattle.std.proofs.Math.Seq.{take-suc}
use Rattle.std.proofs.lemmas.List.{map-append}
use Rattle.std.proofs.lemmas.List.Elements.{All-cons, All-nil, All-append}
use Rattle.c_core.specs.Tree as t
use Rattle.c_core.specs.Tree.{Program, Exp, NoExp}
use Rattle.c_core.specs.Parts.{type_of as type_if, exps_in, every_exp, every_argument}
use Rattle.c_core.specs.Typing.{exp_fits, has_value}
use Rattle.c_core.specs.View.{expr_view, exprs_view}
use Rattle.c_core.specs.declared.number.IntType.{IntType}
use Rattle.c_core.specs.declared.tree.Expr.{Expr}
use Rattle.c_meaning.specs.Acts.{Res, Go, Stop, bind}
use Rattle.c_meaning.specs.Eval.{eval, evals}
use Rattle.c_meaning.specs.Fitting.{calls_in}
use Rattle.c_meaning.specs.Havoc.{Stopped}
use Rattle.sym_meaning.specs.Mode.{JudgedState, Mode}
use Rattle.sym_meaning.specs.Judged.{judged}
use Rattle.c_meaning.specs.Meaning.{Where, Calls, Used}
use Rattle.c_meaning.specs.Objects.{type_of, type_or_int}
use Rattle.c_meaning.proofs.TypeFacts.{both, some_type}
use Rattle.circuits.specs.declared.bits.Bits.{Bits}
use Rattle.sym_state.specs.declared.state.Sym.{Sym}
use Rattle.sym_state.specs.declared.state.Around.{Around}
use Rattle.sym_state.specs.Standing.{IsState}
use Rattle.sym_state.specs.Following.{Follows, AreOf, IsNumber}
use Rattle.sym_state.proofs.Nets.{unchanged, longer_by}
use Rattle.sym_state.proofs.Composed.{follows_then, follows_as, net_follows}
use Rattle.sym_values.specs.Valuing.{where_of}
use Rattle.sym_scale.specs.Cost.{Cost, expression, arguments}
use Rattle.sym_scale.specs.Cost.{nodes, bits as drawn_bits}
use Rattle.sym_eval.specs.Calling.{value_at, values_at, IsArgument, weight_of_all, bits_of_all, AllReady, AllValues}
use Rattle.sym_exprs.specs.Evaluating.{weight_of, bits_of, evaluated, Ready, Values}
use Rattle.sym_eval.specs.declared.parameters.Argument.{Argument}
use Rattle.sym_eval.proofs.Setting.{values_added, arguments_added}

-- ---- lists of arguments
list_snoc : (es : List Expr) (e : Expr) → exps_in (exprs_view (es ++ e ∷ [])) ≡ exps_in (exprs_view es) ++ expr_view e ∷ []
list_snoc [] e = refl
list_snoc (x ∷ es) e = ap (λ z. expr_view x ∷ z) (list_snoc es e)

every_at : (q : Exp → Bool) (es : List Expr) (i : ℕ) (d : Expr) → i < length es → IsTrue (every_argument q (exprs_view es)) → IsTrue (every_exp q (expr_view (get_or es i d)))
every_at q [] i d l h = absurd (omega (arith, l))
every_at q (e ∷ es) zero d l h = (both (every_exp q (expr_view e)) (every_argument q (exprs_view es)) h).0
every_at q (e ∷ es) (suc i) d l h = every_at q es i d (omega (arith, l)) (both (every_exp q (expr_view e)) (every_argument q (exprs_view es)) h).1

value_of_one : (es : List Expr) (i : ℕ) (d : Expr) → i < length es → IsTrue (list_all has_value (exps_in (exprs_view es))) → IsTrue (has_value (expr_view (get_or es i d)))
value_of_one [] i d l h = absurd (omega (arith, l))
value_of_one (e ∷ es) zero d l h = (both (has_value (expr_view e)) (list_all has_value (exps_in (exprs_view es))) h).0
value_of_one (e ∷ es) (suc i) d l h = value_of_one es i d (omega (arith, l)) (both (has_value (expr_view e)) (list_all has_value (exps_in (exprs_view es))) h).1

-- amounts that add up: and-nodes, or drawn bits
module _ (p : Program) (C : Cost) where
  abbrev all_of : List Expr → ℕ
  all_of es = arguments p C (exprs_view es)

  amount_snoc : (es : List Expr) (e : Expr) → all_of (es ++ e ∷ []) ≡ all_of es + expression p C (expr_view e)
  amount_snoc [] e = omega arith
  amount_snoc (x ∷ es) e = let h = amount_snoc es e in omega (arith, h)

  amount_front : (k : ℕ) (es : List Expr) → all_of (take k es) ≤ all_of es
  amount_front zero [] = omega arith
  amount_front zero (e ∷ es) = omega arith
  amount_front (suc k) [] = omega arith
  amount_front (suc k) (e ∷ es) = let h = amount_front k es in omega (arith, h)

  -- one of them, behind those in front of it
  amount_at : (es : List Expr) (i : ℕ) (e d : Expr) → i < length es → e ≡ get_or es i d → all_of (take i es) + expression p C (expr_view e) ≤ all_of es
  amount_at es i e d l q =
      let s : all_of (take (suc i) es) ≡ all_of (take i es) + expression p C (expr_view e) =
      ap all_of (take-suc es i d l ∙ ap (λ z. take i es ++ z ∷ []) (sym q)) ∙ amount_snoc (take i es) e in
      omega (arith, s, amount_front (suc i) es)

module _ (p : Program) (W : Mode) (call : Calls (judged p W)) (at : Where) where
  abbrev Pairs : Type 0
  Pairs = List (ℤ × IntType)

  abbrev with_one : Expr → Pairs → JudgedState → Res Stopped JudgedState Pairs
  with_one e vs s = bind (eval p (judged p W) call at Used (expr_view e) s) (λ z. Go (vs ++ (z, type_of (expr_view e)) ∷ []))

  -- a value in front of what comes
  moved : (e : Expr) (y : ℤ × IntType) (vs : Pairs) (r : Res Stopped JudgedState ℤ)
      → bind (bind r (λ z. Go (vs ++ (z, type_of (expr_view e)) ∷ []))) (λ ws. Go (y ∷ ws)) ≡ bind r (λ z. Go (y ∷ vs ++ (z, type_of (expr_view e)) ∷ []))
  moved e y vs (Stop x t) = refl
  moved e y vs (Go z t) = refl

  front_of : (e : Expr) (y : ℤ × IntType) (r : Res Stopped JudgedState Pairs) → bind (bind r (with_one e)) (λ vs. Go (y ∷ vs)) ≡ bind (bind r (λ vs. Go (y ∷ vs))) (with_one e)
  front_of e y (Stop x s) = refl
  front_of e y (Go vs s) = moved e y vs (eval p (judged p W) call at Used (expr_view e) s)

  evals_then : (x e : Expr) (es : List Expr) → ((s : JudgedState) → evals p (judged p W) call at (exprs_view (es ++ e ∷ [])) s ≡ bind (evals p (judged p W) call at (exprs_view es) s) (with_one e)) → (r : Res Stopped JudgedState ℤ)
      → bind r (λ z s. bind (evals p (judged p W) call at (exprs_view (es ++ e ∷ [])) s) (λ vs. Go ((z, type_of (expr_view x)) ∷ vs)))
      ≡ bind (bind r (λ z s. bind (evals p (judged p W) call at (exprs_view es) s) (λ vs. Go ((z, type_of (expr_view x)) ∷ vs)))) (with_one e)
  evals_then x e es h (Stop y s) = refl
  evals_then x e es h (Go z s) =
      ap (λ r. bind r (λ vs. Go ((z, type_of (expr_view x)) ∷ vs))) (h s) ∙ front_of e (z, type_of (expr_view x)) (evals p (judged p W) call at (exprs_view es) s)

  -- arguments, and one more
  pub evals_snoc : (es : List Expr) (e : Expr) (s : JudgedState) → evals p (judged p W) call at (exprs_view (es ++ e ∷ [])) s ≡ bind (evals p (judged p W) call at (exprs_view es) s) (with_one e)
  evals_snoc [] e s = refl
  evals_snoc (x ∷ es) e s = evals_then x e es (evals_snoc es e) (eval p (judged p W) call at Used (expr_view x) s)

type_or : (e : Exp) → type_or_int (type_if e) ≡ type_of e
type_or (t.Expr spot ty node) = refl

has_one : (e : Exp) → IsTrue (has_value e) → type_if e ≡ Some (type_of e)
has_one e h = some_type (type_if e) h ∙ ap Some (type_or e)

module _ (p : Program) (W : Mode) (n : ℕ) (at : Around) where
  -- an argument is evaluated behind those in front of it
  pub argument_ready : {s m : Sym} {xs : List Argument} (es : List Expr) (i : ℕ) (e : Expr) → i < length es → e ≡ get_or es i e → AllReady p W n at s (exprs_view es) → AllValues p W n at (exprs_view (take i es)) s m xs → Ready p W n at m (expr_view e)
  argument_ready {s} {m} es i e l q h x =
      let w = amount_at p (nodes p W.scale n) es i e e l q in
      let b = amount_at p (drawn_bits p W.scale n) es i e e l q in
      record {
        fits = x.follows.fits;
        types = subst (λ z. IsTrue (every_exp (exp_fits p) (expr_view z))) (sym q) (every_at (exp_fits p) es i e l h.types);
        duty = h.duty;
        room = omega (arith, w, b, h.room, (longer_by x.follows.added).1);
      }

  -- it weighs no more than all
  pub argument_weight : (es : List Expr) (i : ℕ) (e : Expr) → i < length es → e ≡ get_or es i e → weight_of p W n (expr_view e) ≤ weight_of_all p W n (exprs_view es)
  argument_weight es i e l q = let w = amount_at p (nodes p W.scale n) es i e e l q in omega (arith, w)

  pub first_values : (s : Sym) → IsState p s → AllValues p W n at NoExp s s []
  first_values s h = record {
    types = refl;
    bits_in = All-nil (IsArgument p s.net);
    follows = net_follows p W.duties (λ v. []) (record { fits = h; added = unchanged 0 s.net; level = refl; result = refl; is = λ v. refl }) (λ v. refl);
  }

  next_follows : {s m r : Sym} {bits : Bits} (es : List Expr) (e : Expr) (xs : List Argument) → type_if (expr_view e) ≡ Some (type_of (expr_view e)) → AllValues p W n at (exprs_view es) s m xs → Values p W n at Used (expr_view e) m r bits.bits
      → AllValues p W n at (exprs_view (es ++ e ∷ [])) s r (xs ++ record { bits = bits; ty = type_of (expr_view e) } ∷ [])
  next_follows {s} {m} {r} {bits} es e xs k x y =
      let ty = type_of (expr_view e) in
      let a : Argument = record { bits = bits; ty = ty } in
      let wide : IsArgument p r.net a = subst (λ z. AreOf p.model z r.net bits.bits) k y.bits_in in
      let one : Follows W.duties p (weight_of p W n (expr_view e)) (bits_of p W n (expr_view e)) m r (IsNumber p.model (Some ty) r.net bits.bits) (evaluated p W n at Used (expr_view e)) =
      subst (λ z. Follows W.duties p (weight_of p W n (expr_view e)) (bits_of p W n (expr_view e)) m r (IsNumber p.model z r.net bits.bits) (evaluated p W n at Used (expr_view e))) k y.follows in
      let all : (v : ℕ → Bool) → values_at p v m.net xs ++ value_at p v r.net a ∷ [] ≡ values_at p v r.net (xs ++ a ∷ []) =
      λ v. ap (λ z. z ++ value_at p v r.net a ∷ []) (sym (values_added p one.added v xs x.bits_in)) ∙ sym (map-append (value_at p v r.net) xs (a ∷ [])) in
      let last = follows_then p W.duties (weight_of p W n (expr_view e)) (bits_of p W n (expr_view e)) (λ v z. Go (values_at p v m.net xs ++ (z, ty) ∷ [])) one
      (net_follows p W.duties {i = 0} {S = λ v vs. vs ≡ values_at p v r.net (xs ++ a ∷ [])} (λ v. values_at p v m.net xs ++ value_at p v r.net a ∷ []) (record { fits = one.fits; added = unchanged 0 r.net; level = refl; result = refl; is = λ v. refl }) all)
      (λ v z q t. ap (λ z. Go (values_at p v m.net xs ++ (z, ty) ∷ []) t) q) (omega arith) (omega arith) in
      let w = amount_snoc p (nodes p W.scale n) es e in
      let b = amount_snoc p (drawn_bits p W.scale n) es e in
      record {
        types = map-append (λ x. x.ty) xs (a ∷ []) ∙ ap (λ z. z ++ ty ∷ []) x.types ∙ sym (map-append type_of (exps_in (exprs_view es)) (expr_view e ∷ [])) ∙ ap (map type_of) (sym (list_snoc es e));
        bits_in = All-append (IsArgument p r.net) xs (a ∷ []) (arguments_added p one.added xs x.bits_in) (All-cons (IsArgument p r.net) a [] wide (All-nil (IsArgument p r.net)));
        follows = follows_as p W.duties (follows_then p W.duties (weight_of_all p W n (exprs_view (es ++ e ∷ []))) (bits_of_all p W n (exprs_view (es ++ e ∷ [])))
            (λ v. with_one p W (calls_in p (judged p W) n) (where_of at) e) x.follows last (λ v vs q t. ap (λ z. with_one p W (calls_in p (judged p W) n) (where_of at) e z t) q) (omega (arith, w)) (omega (arith, b)))
            (λ v vs q. q) (λ v t. sym (evals_snoc p W (calls_in p (judged p W) n) (where_of at) es e t)) (omega arith) (omega arith);
      }

  -- the next argument of a list
  pub next_values : {s m r : Sym} {bits : Bits} (es : List Expr) (i j : ℕ) (e : Expr) (ty : IntType) (xs : List Argument) → i < length es → j ≡ suc i → e ≡ get_or es i e → ty ≡ type_of (expr_view e) → AllReady p W n at s (exprs_view es)
      → AllValues p W n at (exprs_view (take i es)) s m xs → Values p W n at Used (expr_view e) m r bits.bits → AllValues p W n at (exprs_view (take j es)) s r (xs ++ record { bits = bits; ty = ty } ∷ [])
  next_values {s} {m} {r} {bits} es i j e ty xs l ej q t h x y =
      let v : IsTrue (has_value (expr_view e)) = subst (λ z. IsTrue (has_value (expr_view z))) (sym q) (value_of_one es i e l h.values) in
      let front : take i es ++ e ∷ [] ≡ take j es = ap (λ z. take i es ++ z ∷ []) q ∙ sym (take-suc es i e l) ∙ ap (λ z. take z es) (sym ej) in
      subst (λ z. AllValues p W n at (exprs_view z) s r (xs ++ record { bits = bits; ty = ty } ∷ [])) front
      (subst (λ z. AllValues p W n at (exprs_view (take i es ++ e ∷ [])) s r (xs ++ record { bits = bits; ty = z } ∷ [])) (sym t) (next_follows (take i es) e xs (has_one (expr_view e) v) x y))
