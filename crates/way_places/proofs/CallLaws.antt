-- The full expressions and the calls that walks take are those of the program.
use Rattle.std.proofs.Common.{◌≡◌, refl, sym, ap, ◌∙◌, List, [], ◌∷◌, ◌++◌, Option, Some, None}
use Rattle.std.proofs.lemmas.List.Elements.{filter_map-append}
use Rattle.std.specs.List.{cons_option, filter_map, flat_map}
use Rattle.c_core.specs.Tree as t
use Rattle.c_core.specs.Tree.{Exp, Node, Const, Var, Index, Unary, Cast, Step, Binary, Logic, Choose, Comma, Assign, Call, Exps, NoExp, MoreExp, Program}
use Rattle.c_core.specs.Parts.{exps_of, exps_of_node, exps_of_arguments, fulls_of_program}
use Rattle.c_core.specs.Places.{input_by, input_of, input_of_node}
use Rattle.c_core.specs.declared.number.IntType.{IntType}
use Rattle.c_core.specs.declared.number.Spot.{Spot}
use Rattle.way_places.specs.Calls.{alone, call_by, call_of, calls_in, calls_in_arguments, calls_of, list_if}
use Rattle.way_places.specs.Inputs.{inputs_among}
use Rattle.way_places.specs.Sought.{each_in_functions}
use Rattle.way_places.proofs.SoughtLaws.{in_functions}

all_alone : (es : List Exp) → flat_map alone es ≡ es
all_alone [] = refl
all_alone (e ∷ es) = ap (λ l. e ∷ l) (all_alone es)

pub fulls_of_all : (p : Program) → each_in_functions alone p.functions ≡ fulls_of_program p
fulls_of_all p = in_functions alone p.functions ∙ all_alone (fulls_of_program p)

abbrev among : List Exp → List (Spot × Exp)
among es = filter_map call_of es

both : (xs ys : List Exp) (l m : List (Spot × Exp)) → l ≡ among xs → m ≡ among ys → l ++ m ≡ among (xs ++ ys)
both xs ys l m a b = ap (λ k. k ++ m) a ∙ ap (λ k. among xs ++ k) b ∙ sym (filter_map-append call_of xs ys)

one : {A : Type 0} (o : Option A) (l m : List A) → l ≡ m → list_if o ++ l ≡ cons_option o m
one None l m e = e
one (Some a) l m e = ap (λ k. a ∷ k) e

mutual
  calls_there : (e : Exp) → calls_of e ≡ among (exps_of e)
  calls_there (t.Expr spot ty n) = one (call_by (t.Expr spot ty n) n) (calls_in n) (among (exps_of_node n)) (in_node n)

  in_node : (n : Node) → calls_in n ≡ among (exps_of_node n)
  in_node (Const v) = refl
  in_node (Var o) = refl
  in_node (Index o is) = in_arguments is
  in_node (Unary op a) = calls_there a
  in_node (Cast a) = calls_there a
  in_node (Step op a) = calls_there a
  in_node (Binary op a b) = both (exps_of a) (exps_of b) (calls_of a) (calls_of b) (calls_there a) (calls_there b)
  in_node (Logic k a b) = both (exps_of a) (exps_of b) (calls_of a) (calls_of b) (calls_there a) (calls_there b)
  in_node (Choose mark e a b) =
      both (exps_of e ++ exps_of a) (exps_of b) (calls_of e ++ calls_of a) (calls_of b)
      (both (exps_of e) (exps_of a) (calls_of e) (calls_of a) (calls_there e) (calls_there a)) (calls_there b)
  in_node (Comma a b) = both (exps_of a) (exps_of b) (calls_of a) (calls_of b) (calls_there a) (calls_there b)
  in_node (Assign op a b) = both (exps_of a) (exps_of b) (calls_of a) (calls_of b) (calls_there a) (calls_there b)
  in_node (Call callee es close) = in_arguments es

  in_arguments : (es : Exps) → calls_in_arguments es ≡ among (exps_of_arguments es)
  in_arguments NoExp = refl
  in_arguments (MoreExp e es) = both (exps_of e) (exps_of_arguments es) (calls_of e) (calls_in_arguments es) (calls_there e) (in_arguments es)

pub calls_of_all : (es : List Exp) → flat_map calls_of es ≡ filter_map call_of (flat_map exps_of es)
calls_of_all [] = refl
calls_of_all (e ∷ es) = both (exps_of e) (flat_map exps_of es) (calls_of e) (flat_map calls_of es) (calls_there e) (calls_of_all es)

input_more : (spot : Spot) (ty : Option IntType) (n : Node) (es : List Exp) → inputs_among (among es) ≡ filter_map input_of es
    → inputs_among (cons_option (call_by (t.Expr spot ty n) n) (among es)) ≡ cons_option (input_of_node spot n) (filter_map input_of es)
input_more spot ty (Call callee args close) es h = one (input_by spot callee) (inputs_among (among es)) (filter_map input_of es) h
input_more spot ty _ es h = h

pub inputs_of_calls : (es : List Exp) → inputs_among (filter_map call_of es) ≡ filter_map input_of es
inputs_of_calls [] = refl
inputs_of_calls (t.Expr spot ty n ∷ es) = input_more spot ty n es (inputs_of_calls es)
