-- What holds of the typed tree of a constraint.
use Rattle.std.proofs.Common.{◌≡◌, ℕ, Bool, true, false, ◌||◌, ◌&&◌, List, [], is_none, refl}
use Rattle.c_core.specs.Tree as t
use Rattle.c_core.specs.Parts.{type_of, every_exp, every_argument as every_typed_argument}
use Rattle.c_core.specs.declared.number.DataModel.{DataModel}
use Rattle.c_core.specs.declared.number.Spot.{Spot}
use Rattle.c_core.specs.declared.tree.Object.{Object}
use Rattle.c_parser.specs.Formed.{every_node, every_part, every_argument}
use Rattle.c_parser.specs.Tree.{Exp, Expr, Node, Number, Char, Var, Index, Unary, Cast, Step, Binary, Logic, Choose, Comma, Assign, Call, Exps, NoExp, MoreExp}
use Rattle.check_rules.specs.Codes.{word_of, misused}
use Rattle.check_rules.specs.Names.{Entry}
use Rattle.check_rules.specs.Typed.{typed, typed_node, typed_all}
use Rattle.way_constraint.specs.Constraints.{entries, is_among, is_refused, is_passive, is_passive_exp, reads_among}
use Rattle.way_constraint.proofs.NameLaws.{number_among}
use Rattle.way_constraint.proofs.PartLaws.{left_of, right_of}

unrefused : (a b c : Bool) → ((a || b) || c) ≡ false → b ≡ false
unrefused true b c h = cc
unrefused false true c h = cc
unrefused false false c h = refl

both : {a b c d : Bool} → a ≡ c → b ≡ d → (a && b) ≡ (c && d)
both e f = cc

all_true : {a b : Bool} → a ≡ true → b ≡ true → (a && b) ≡ true
all_true e f = both e f

pub value_is_typed : (m : DataModel) (es : List Entry) (e : Exp) → is_refused m es e ≡ false → is_none (type_of (typed m [] es e)) ≡ false
value_is_typed m es (Expr p n) h = unrefused (misused m [] es n) _ _ h

module _ (m : DataModel) (bodies : List (List ℕ)) (es : List Entry) where
  mutual
    pub passive : (e : Exp) → every_exp is_passive_exp (typed m bodies es e) ≡ every_node is_passive e
    passive (Expr p n) = passive_in p n

    passive_in : (p : Spot) (n : Node) → every_exp is_passive_exp (typed_node m bodies es p n) ≡ (is_passive n && every_part is_passive n)
    passive_in p (Number v decimal unsigned longs) = refl
    passive_in p (Char v) = refl
    passive_in p (Var x w) = refl
    passive_in p (Index x w is) = passive_all is
    passive_in p (Unary op a) = passive a
    passive_in p (Cast to a) = passive a
    passive_in p (Step op a) = refl
    passive_in p (Binary op a b) = both (passive a) (passive b)
    passive_in p (Logic both' a b) = both (passive a) (passive b)
    passive_in p (Choose mark e a b) = both (passive e) (both (passive a) (passive b))
    passive_in p (Comma a b) = both (passive a) (passive b)
    passive_in p (Assign op a b) = refl
    passive_in p (Call f w gs close) = refl

    passive_all : (gs : Exps) → every_typed_argument is_passive_exp (typed_all m bodies es gs) ≡ every_argument is_passive gs
    passive_all NoExp = refl
    passive_all (MoreExp e gs) = both (passive e) (passive_all gs)

module _ (m : DataModel) (bodies : List (List ℕ)) (objects : List Object) (numbers : List ℕ) where
  abbrev es : List Entry
  es = entries objects numbers

  abbrev knows : Node → Bool
  knows n = is_among es (word_of n)

  abbrev known : Exp → Bool
  known e = every_node knows e

  abbrev tree : Exp → t.Exp
  tree e = typed m bodies es e

  two_read : (a b : Exp) → (known a ≡ true → every_exp (reads_among numbers) (tree a) ≡ true) → (known b ≡ true → every_exp (reads_among numbers) (tree b) ≡ true)
      → (known a && known b) ≡ true → (every_exp (reads_among numbers) (tree a) && every_exp (reads_among numbers) (tree b)) ≡ true
  two_read a b x y h = all_true (x (left_of (known a) _ h)) (y (right_of (known a) _ h))

  mutual
    pub reads_objects : (e : Exp) → known e ≡ true → every_exp (reads_among numbers) (tree e) ≡ true
    reads_objects (Expr p n) h = reads_in p n (left_of (knows n) _ h) (right_of (knows n) _ h)

    reads_in : (p : Spot) (n : Node) → knows n ≡ true → every_part knows n ≡ true → every_exp (reads_among numbers) (typed_node m bodies es p n) ≡ true
    reads_in p (Number v decimal unsigned longs) k h = refl
    reads_in p (Char v) k h = refl
    reads_in p (Var x w) k h = all_true (number_among objects numbers x k) refl
    reads_in p (Index x w is) k h = all_true (number_among objects numbers x k) (reads_arguments is h)
    reads_in p (Unary op a) k h = reads_objects a h
    reads_in p (Cast to a) k h = reads_objects a h
    reads_in p (Step op a) k h = reads_objects a h
    reads_in p (Binary op a b) k h = two_read a b (reads_objects a) (reads_objects b) h
    reads_in p (Logic both' a b) k h = two_read a b (reads_objects a) (reads_objects b) h
    reads_in p (Choose mark e a b) k h = all_true (reads_objects e (left_of (known e) _ h)) (two_read a b (reads_objects a) (reads_objects b) (right_of (known e) _ h))
    reads_in p (Comma a b) k h = two_read a b (reads_objects a) (reads_objects b) h
    reads_in p (Assign op a b) k h = two_read a b (reads_objects a) (reads_objects b) h
    reads_in p (Call f w gs close) k h = reads_arguments gs h

    reads_arguments : (gs : Exps) → every_argument knows gs ≡ true → every_typed_argument (reads_among numbers) (typed_all m bodies es gs) ≡ true
    reads_arguments NoExp h = refl
    reads_arguments (MoreExp e gs) h = all_true (reads_objects e (left_of (known e) _ h)) (reads_arguments gs (right_of (known e) _ h))
