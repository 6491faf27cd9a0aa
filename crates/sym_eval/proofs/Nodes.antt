-- An expression by its node: what is promised of the form is promised of the expression.
use Rattle.std.proofs.Common.{◌≡◌, ℕ, ◌&&◌, Bool, true, false, List, [], ◌∷◌, length, get_or, Option, Result, Ok, Err, IfOk, is_some, refl, sym, subst, arith}
use Rattle.c_core.specs.Tree.{Program, Exp, Exps, Expr, Node, Logic, Call, MoreExp, NoExp}
use Rattle.c_core.specs.Parts.{exps_in}
use Rattle.c_core.specs.View.{expr_view, exprs_view}
use Rattle.c_core.specs.declared.number.IntType.{IntType}
use Rattle.c_core.specs.declared.number.Property.{Property}
use Rattle.c_core.specs.declared.number.Property.TheVariants.{UnreachCall, NoOverflow}
use Rattle.c_core.specs.declared.number.Spot.{Spot}
use Rattle.c_core.specs.declared.tree.Callee.TheVariants.{ReachError}
use Rattle.c_core.specs.declared.tree.Expr.{Expr as CodeExpr}
use Rattle.c_meaning.specs.declared.run.Event.TheVariants.{Enter}
use Rattle.c_meaning.specs.Acts.{bind}
use Rattle.c_meaning.specs.Eval.{is_used, evals}
use Rattle.c_meaning.specs.Fitting.{calls_in}
use Rattle.sym_meaning.specs.Mode.{JudgedState, Mode}
use Rattle.sym_meaning.specs.Judged.{judged, reached, tell}
use Rattle.c_meaning.specs.Meaning.{Use, Used, Where, Site}
use Rattle.circuits.specs.declared.bits.Bits.{Bits}
use Rattle.sym_state.specs.declared.state.Sym.{Sym}
use Rattle.sym_state.specs.declared.state.Around.{Around}
use Rattle.sym_values.specs.Valuing.{where_of}
use Rattle.sym_exprs.specs.Evaluating.{evaluated, Values}
use Rattle.sym_exprs.proofs.Forms.{wanted}

module _ (p : Program) (W : Mode) (n : ℕ) (at : Around) where
  -- a form that is evaluated alike, whether its value is used or not
  pub as_node : {E : Type 0} (s m : Sym) (want : Use) (spot : Spot) (ty : Option IntType) (node form : Node) (r : Result Bits E) → node ≡ form
      → ((v : ℕ → Bool) (l : JudgedState) → evaluated p W n at Used (Expr spot ty form) v l ≡ evaluated p W n at want (Expr spot ty form) v l)
      → IfOk r (λ b. Values p W n at Used (Expr spot ty form) s m b.bits) → IfOk r (λ b. Values p W n at want (Expr spot ty node) s m b.bits)
  as_node s m want spot ty node form (Ok b) e same h = subst (λ k. Values p W n at want (Expr spot ty k) s m b.bits) (sym e) (wanted p W n at want (Expr spot ty form) same h)
  as_node s m want spot ty node form (Err x) e same h = tt

  -- `&&` and `||` are
  pub logic_alike : (want : Use) (spot : Spot) (ty : Option IntType) (both : Bool) (a b : Exp) (v : ℕ → Bool) (l : JudgedState) → evaluated p W n at Used (Expr spot ty (Logic both a b)) v l ≡ evaluated p W n at want (Expr spot ty (Logic both a b)) v l
  logic_alike want spot ty true a b v l = refl
  logic_alike want spot ty false a b v l = refl

  -- a call of `reach_error` is
  abbrev site : Spot → Spot → Bool → Site
  site spot close needed = record { spot = spot; close = close; needed = needed }

  same_reach : (q : Property) (w : Where) (spot close : Spot) (a b : Bool) (l : JudgedState) → reached p W q w (site spot close a) l ≡ reached p W q w (site spot close b) l
  same_reach UnreachCall w spot close a b l = refl
  same_reach NoOverflow w spot close a b l = refl

  pub reach_alike : (want : Use) (spot close : Spot) (ty : Option IntType) (es : Exps) (v : ℕ → Bool) (l : JudgedState) → evaluated p W n at Used (Expr spot ty (Call ReachError es close)) v l ≡ evaluated p W n at want (Expr spot ty (Call ReachError es close)) v l
  reach_alike want spot close ty es v l = λ i. bind (evals p (judged p W) (calls_in p (judged p W) n) (where_of at) es l) (λ vs k. bind (tell p W (Enter close) k) (λ u k. same_reach p.property (where_of at) spot close (is_used Used && is_some ty) (is_used want && is_some ty) k i))

  -- a call
  pub as_call : {E : Type 0} (s m : Sym) (want : Use) (spot : Spot) (ty : Option IntType) (node form : Node) (r : Result Bits E) → node ≡ form → IfOk r (λ b. Values p W n at want (Expr spot ty form) s m b.bits) → IfOk r (λ b. Values p W n at want (Expr spot ty node) s m b.bits)
  as_call s m want spot ty node form r e h = subst (λ k. IfOk r (λ b. Values p W n at want (Expr spot ty k) s m b.bits)) (sym e) h

-- the one argument of `exit`
pub one_argument : (es : List CodeExpr) (d : CodeExpr) → length (exps_in (exprs_view es)) ≡ 1 → exprs_view es ≡ MoreExp (expr_view (get_or es 0 d)) NoExp
one_argument [] d h = absurd (omega (arith, h))
one_argument (e ∷ []) d h = refl
one_argument (e ∷ f ∷ es) d h = absurd (omega (arith, h))

pub one_counted : (es : List CodeExpr) → length (exps_in (exprs_view es)) ≡ 1 → length es ≡ 1
one_counted [] h = absurd (omega (arith, h))
one_counted (e ∷ []) h = refl
one_counted (e ∷ f ∷ es) h = absurd (omega (arith, h))
