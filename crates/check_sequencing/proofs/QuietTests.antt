-- Where an expression only reads, nothing in it is without an order.
use Rattle.std.proofs.Common.{◌≡◌, ◌⊎◌, inl, inr, ℕ, zero, suc, ◌<◌, Bool, true, false, List, [], ◌∷◌, ◌++◌, length, Option, Some, None, refl, sym, ap, ◌∙◌, arith}
use Rattle.std.specs.Prelude.{get_or, ◌&&◌}
use Rattle.std.specs.List.{list_all, list_any, Contains}
use Rattle.std.proofs.lemmas.Bool.{false≢true, and_from as both_parts}
use Rattle.std.proofs.lemmas.List.Folds.{list_all-append}
use Rattle.c_core.specs.Tree.{Exp, Expr, Node, Const, Var, Index, Unary, Cast, Step, Binary, Logic, Choose, Comma, Assign, Call, Exps, NoExp, MoreExp}
use Rattle.c_core.specs.declared.tree.Object.{Object}
use Rattle.check_sequencing.specs.declared.effect.Effect.{Effect}
use Rattle.check_sequencing.specs.Effects.{SomePair, OfFirst, OfOthers, is_quiet, is_read}
use Rattle.check_sequencing.specs.Typed.{ChangedBeside, ChangedInIndex, IsUnorderedIn, Listed, Nothing, Operands, Passed, arguments, below, effects, effects_all, inner, left_side, operands, own, target, tested, tested_all, tested_in}
use Rattle.check_sequencing.proofs.Lists.{all_of, first_of, rest_of}
use Rattle.check_sequencing.proofs.QuietLaws.{quiet_is_ordered, unchanged}
use Rattle.check_sequencing.proofs.WalkLaws.{listed_append}

left_part : (xs ys : List Effect) → is_quiet (xs ++ ys) ≡ true → is_quiet xs ≡ true
left_part xs ys q = first_of (is_quiet xs) (is_quiet ys) (sym (list_all-append is_read xs ys) ∙ q)

right_part : (xs ys : List Effect) → is_quiet (xs ++ ys) ≡ true → is_quiet ys ≡ true
right_part xs ys q = rest_of (is_quiet xs) (is_quiet ys) (sym (list_all-append is_read xs ys) ∙ q)

module _ (objects : List Object) (count : ℕ) (bodies : List (List Effect)) where
  no_pair : (ls : List (List Effect)) → list_all is_quiet ls ≡ true → SomePair bodies objects ls → ⊥
  no_pair [] q p = elim p [ ]
  no_pair (es ∷ rest) q (OfFirst {fs = fs} c u) =
      quiet_is_ordered bodies objects es fs (first_of (is_quiet es) (list_all is_quiet rest) q) (all_of is_quiet rest fs c (rest_of (is_quiet es) (list_all is_quiet rest) q)) u
  no_pair (es ∷ rest) q (OfOthers p) = no_pair rest (rest_of (is_quiet es) (list_all is_quiet rest) q) p

  two_quiet : (es fs : List Effect) → is_quiet es ≡ true → is_quiet fs ≡ true → list_all is_quiet (es ∷ fs ∷ []) ≡ true
  two_quiet es fs p q = both_parts (is_quiet es) (list_all is_quiet (fs ∷ [])) p (both_parts (is_quiet fs) true q refl)

  quiet_below : (e : Exp) (stored : Bool) → is_quiet (effects objects count stored e) ≡ true → is_quiet (below objects count e) ≡ true
  quiet_below (Expr p ty n) stored q = right_part (own objects count stored n) (inner objects count n) q

  quiet_left : (e : Exp) → is_quiet (effects objects count true e) ≡ true → is_quiet (left_side objects count e) ≡ true
  quiet_left (Expr p ty (Call callee es close)) q = q
  quiet_left (Expr p ty (Const v)) q = quiet_below (Expr p ty (Const v)) true q
  quiet_left (Expr p ty (Var o)) q = quiet_below (Expr p ty (Var o)) true q
  quiet_left (Expr p ty (Index o is)) q = quiet_below (Expr p ty (Index o is)) true q
  quiet_left (Expr p ty (Unary op a)) q = quiet_below (Expr p ty (Unary op a)) true q
  quiet_left (Expr p ty (Cast a)) q = quiet_below (Expr p ty (Cast a)) true q
  quiet_left (Expr p ty (Step op a)) q = quiet_below (Expr p ty (Step op a)) true q
  quiet_left (Expr p ty (Binary op a b)) q = quiet_below (Expr p ty (Binary op a b)) true q
  quiet_left (Expr p ty (Logic both a b)) q = quiet_below (Expr p ty (Logic both a b)) true q
  quiet_left (Expr p ty (Choose mark e a b)) q = quiet_below (Expr p ty (Choose mark e a b)) true q
  quiet_left (Expr p ty (Comma a b)) q = quiet_below (Expr p ty (Comma a b)) true q
  quiet_left (Expr p ty (Assign op a b)) q = quiet_below (Expr p ty (Assign op a b)) true q

  quiet_arguments : (es : Exps) → is_quiet (effects_all objects count es) ≡ true → list_all is_quiet (arguments objects count es) ≡ true
  quiet_arguments NoExp q = refl
  quiet_arguments (MoreExp e es) q =
      both_parts (is_quiet (effects objects count false e)) (list_all is_quiet (arguments objects count es)) (left_part (effects objects count false e) (effects_all objects count es) q)
      (quiet_arguments es (right_part (effects objects count false e) (effects_all objects count es) q))

  unchanged_index : (t : Option ℕ) (a : Exp) → is_quiet (below objects count a) ≡ true → ChangedInIndex objects count bodies t a → ⊥
  unchanged_index None a q c = c
  unchanged_index (Some o) a q c = unchanged bodies objects (below objects count a) o q c

  unchanged_beside : (t : Option ℕ) (a b : Exp) → is_quiet (below objects count a) ≡ true → is_quiet (effects objects count false b) ≡ true → ChangedBeside objects count bodies t a b → ⊥
  unchanged_beside None a b q r c = c
  unchanged_beside (Some o) a b q r c =
      unchanged bodies objects (below objects count a ++ effects objects count false b) o
      (list_all-append is_read (below objects count a) (effects objects count false b) ∙ both_parts (is_quiet (below objects count a)) (is_quiet (effects objects count false b)) q r) (inl c)

  quiet_node : (n : Node) → is_quiet (inner objects count n) ≡ true → IsUnorderedIn objects count bodies n → ⊥
  quiet_node n q (inl p) = no_pair (operands objects count n) (each_quiet n q) p
    where
      each_quiet : (n : Node) → is_quiet (inner objects count n) ≡ true → list_all is_quiet (operands objects count n) ≡ true
      each_quiet (Binary op a b) q =
          two_quiet (effects objects count false a) (effects objects count false b) (left_part (effects objects count false a) (effects objects count false b) q) (right_part (effects objects count false a) (effects objects count false b) q)
      each_quiet (Assign op a b) q =
          two_quiet (left_side objects count a) (effects objects count false b) (quiet_left a (left_part (effects objects count true a) (effects objects count false b) q)) (right_part (effects objects count true a) (effects objects count false b) q)
      each_quiet (Call callee es close) q = quiet_arguments es q
      each_quiet (Const v) q = refl
      each_quiet (Var o) q = refl
      each_quiet (Index o is) q = quiet_arguments is q
      each_quiet (Unary op a) q = refl
      each_quiet (Cast a) q = refl
      each_quiet (Step op a) q = refl
      each_quiet (Logic both a b) q = refl
      each_quiet (Choose mark e a b) q = refl
      each_quiet (Comma a b) q = refl
  quiet_node (Step op a) q (inr s) = unchanged_index (target objects count a) a (quiet_below a true q) s
  quiet_node (Assign op a b) q (inr (inl s)) = unchanged_index (target objects count a) a (quiet_below a true (left_part (effects objects count true a) (effects objects count false b) q)) s
  quiet_node (Assign op a b) q (inr (inr s)) =
      unchanged_beside (target objects count a) a b (quiet_below a true (left_part (effects objects count true a) (effects objects count false b) q)) (right_part (effects objects count true a) (effects objects count false b) q) s
  quiet_node (Const v) q (inr s) = s
  quiet_node (Var o) q (inr s) = s
  quiet_node (Index o is) q (inr s) = s
  quiet_node (Unary op a) q (inr s) = s
  quiet_node (Cast a) q (inr s) = s
  quiet_node (Binary op a b) q (inr s) = s
  quiet_node (Logic both a b) q (inr s) = s
  quiet_node (Choose mark e a b) q (inr s) = s
  quiet_node (Comma a b) q (inr s) = s
  quiet_node (Call callee es close) q (inr s) = s

  mutual
    pub quiet_tested : (e : Exp) (stored : Bool) → is_quiet (effects objects count stored e) ≡ true → Listed objects count bodies (tested e) []
    quiet_tested (Expr p ty n) stored q =
        listed_append objects count bodies (tested_in n) (Operands (Expr p ty n) ∷ []) [] [] (quiet_in n (right_part (own objects count stored n) (inner objects count n) q))
        (Passed (quiet_node n (right_part (own objects count stored n) (inner objects count n) q)) Nothing)

    quiet_in : (n : Node) → is_quiet (inner objects count n) ≡ true → Listed objects count bodies (tested_in n) []
    quiet_in (Const v) q = Nothing
    quiet_in (Var o) q = Nothing
    quiet_in (Index o is) q = quiet_all is q
    quiet_in (Unary op a) q = quiet_tested a false q
    quiet_in (Cast a) q = quiet_tested a false q
    quiet_in (Step op a) q = quiet_tested a true q
    quiet_in (Binary op a b) q =
        listed_append objects count bodies (tested a) (tested b) [] [] (quiet_tested a false (left_part (effects objects count false a) (effects objects count false b) q)) (quiet_tested b false (right_part (effects objects count false a) (effects objects count false b) q))
    quiet_in (Logic both a b) q =
        listed_append objects count bodies (tested a) (tested b) [] [] (quiet_tested a false (left_part (effects objects count false a) (effects objects count false b) q)) (quiet_tested b false (right_part (effects objects count false a) (effects objects count false b) q))
    quiet_in (Choose mark e a b) q =
        listed_append objects count bodies (tested e ++ tested a) (tested b) [] []
        (listed_append objects count bodies (tested e) (tested a) [] [] (quiet_tested e false (left_part (effects objects count false e) (effects objects count false a) (left_part (effects objects count false e ++ effects objects count false a) (effects objects count false b) q))) (quiet_tested a false (right_part (effects objects count false e) (effects objects count false a) (left_part (effects objects count false e ++ effects objects count false a) (effects objects count false b) q))))
        (quiet_tested b false (right_part (effects objects count false e ++ effects objects count false a) (effects objects count false b) q))
    quiet_in (Comma a b) q =
        listed_append objects count bodies (tested a) (tested b) [] [] (quiet_tested a false (left_part (effects objects count false a) (effects objects count false b) q)) (quiet_tested b false (right_part (effects objects count false a) (effects objects count false b) q))
    quiet_in (Assign op a b) q =
        listed_append objects count bodies (tested a) (tested b) [] [] (quiet_tested a true (left_part (effects objects count true a) (effects objects count false b) q)) (quiet_tested b false (right_part (effects objects count true a) (effects objects count false b) q))
    quiet_in (Call callee es close) q = quiet_all es q

    quiet_all : (es : Exps) → is_quiet (effects_all objects count es) ≡ true → Listed objects count bodies (tested_all es) []
    quiet_all NoExp q = Nothing
    quiet_all (MoreExp e es) q =
        listed_append objects count bodies (tested e) (tested_all es) [] [] (quiet_tested e false (left_part (effects objects count false e) (effects_all objects count es) q))
        (quiet_all es (right_part (effects objects count false e) (effects_all objects count es) q))
