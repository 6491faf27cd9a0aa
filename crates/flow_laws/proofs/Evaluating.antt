-- The code of an expression does what the expression means.
use Rattle.std.proofs.Common.{◌≡◌, ℕ, ◌+◌, Bool, List, Option, sym, subst}
use Rattle.c_core.specs.Tree.{Exp, Expr, Node, Const, Var, Index, Unary, Cast, Step, Binary, Logic, Choose, Comma, Assign, Call, Exps, NoExp, MoreExp, Program}
use Rattle.c_core.specs.declared.number.IntType.{IntType}
use Rattle.c_meaning.specs.declared.run.Event.{Event}
use Rattle.c_meaning.specs.Cells.{Cell}
use Rattle.c_meaning.specs.Meaning.{Used}
use Rattle.flow_code.specs.declared.code.Code.{Code}
use Rattle.flow_code.specs.declared.code.Then.{Then}
use Rattle.flow_code.specs.Preparing.{only, stored_in}
use Rattle.flow_code.specs.Sizes.{size, size_stored}
use Rattle.flow_laws.specs.Stepping.{Does}
use Rattle.flow_laws.specs.inside.Simulating.{paying, CallIsDone, Evaluated, StoredAs, Finishes}
use Rattle.flow_laws.proofs.Operations.{standing, stands_as, Comes, paying_behind}
use Rattle.flow_laws.proofs.Operands.{Eval, goes_to, Values, finishes}
use Rattle.flow_laws.proofs.Answering.{only_new}
use Rattle.flow_laws.proofs.Nodes.{Noded, values_of_node, const_goes, var_goes, cast_goes, unary_goes, binary_goes}
use Rattle.flow_laws.proofs.Choosing.{logic_goes, choose_goes, comma_goes}
use Rattle.flow_laws.proofs.Targets.{AreSmall, InPlace, InTarget}
use Rattle.flow_laws.proofs.Assigning.{InBoth, InParts, stored_goes, step_goes, assign_goes}
use Rattle.flow_laws.proofs.Elements.{index_goes}
use Rattle.flow_laws.proofs.Invoking.{InArgs, call_goes}

module _ (p : Program) (c : Code) (S : Type 0) (after : Event → List Cell → S → S) (n : ℕ)
    (model : c.model ≡ p.model) (property : c.property ≡ p.property) (small : AreSmall p) (done : CallIsDone p c S after n) where
  mutual
    values : (e : Exp) → Values p c S after n e
    values (Expr spot ty x) = values_of_node p c S after n spot ty x (λ then. noded ty x then)

    noded : (ty : Option IntType) (x : Node) (then : Then) → Noded p c S after n ty x (only then)
    noded ty (Const v) then = const_goes p c S after n ty v (only then)
    noded ty (Var o) then = var_goes p c S after n ty o (only then)
    noded ty (Index o is) then = index_goes p c S after n ty o is (in_args is) (only then)
    noded ty (Unary o a) then = unary_goes p c S after n property ty o a (values a) (only then) (only_new p c S after n then)
    noded ty (Cast a) then = cast_goes p c S after n ty a (values a) then
    noded ty (Step o t) then = step_goes p c S after n property small ty o t (in_target t) then
    noded ty (Binary o a b) then = binary_goes p c S after n property ty o a b (values a) (values b) (only then) (only_new p c S after n then)
    noded ty (Logic both a b) then = logic_goes p c S after n ty both a b (values a) (values b) (only then)
    noded ty (Choose mark e a b) then = choose_goes p c S after n ty mark e a b (values e) (values a) (values b) then
    noded ty (Comma a b) then = comma_goes p c S after n ty a b (values a) (values b) then
    noded ty (Assign o t e) then =
        assign_goes p c S after n property small ty o t e (in_target t) (values e) (stored_goes p c S after n property e (values e) (in_parts e)) then
    noded ty (Call f es close) then = call_goes p c S after n model property done ty f es close (in_args es) then

    in_target : (t : Exp) → InTarget p c S after n t
    in_target (Expr spot ty x) = in_place x

    in_place : (x : Node) → InPlace p c S after n x
    in_place (Index o is) = in_args is
    in_place _ = tt

    in_parts : (e : Exp) → InParts p c S after n property e
    in_parts (Expr spot ty x) = in_both x

    in_both : (x : Node) → InBoth p c S after n property x
    in_both (Binary o a b) = (values a, values b)
    in_both _ = tt

    in_args : (es : Exps) → InArgs p c S after n es
    in_args NoExp = tt
    in_args (MoreExp e es) = (values e, in_args es)

  -- the code of an expression does what the expression means, where calls do
  pub evaluated : Evaluated p c S after n
  evaluated e at i k want then m h stands below =
      subst (λ z. Does c S after z (paying p c S after k (Eval p c S after n at want e) m.run) (Finishes p c S after m.control (i + size e) (only then))) (sym (stands_as p c S after i m stands))
      (finishes p c S after n (standing m.control i m.run) (paying p c S after k (Eval p c S after n at want e) m.run) m.control (i + size e) (only then)
      (subst (Comes p c S after (standing m.control i m.run)) (sym (paying_behind p c S after k (Eval p c S after n at want e) (goes_to p c S after n m.control (i + size e) (only then)) m.run))
      (values e at i k want then m.control m.run h below)))

  -- the same of a value that is stored
  pub stored_as : StoredAs p c S after n
  stored_as e at i k pl ty then m h stands below =
      let into = stored_in pl ty Bool.false then in
      subst (λ z. Does c S after z (paying p c S after k (Eval p c S after n at Used e) m.run) (Finishes p c S after m.control (i + size_stored e) into)) (sym (stands_as p c S after i m stands))
      (finishes p c S after n (standing m.control i m.run) (paying p c S after k (Eval p c S after n at Used e) m.run) m.control (i + size_stored e) into
      (subst (Comes p c S after (standing m.control i m.run)) (sym (paying_behind p c S after k (Eval p c S after n at Used e) (goes_to p c S after n m.control (i + size_stored e) into) m.run))
      (stored_goes p c S after n property e (values e) (in_parts e) at i k pl ty then m.control m.run h below)))
