-- The typed tree of an expression, with the numbers of its objects (C11 6.5). It is there for refused sources too: an unknown
-- name counts as an `int`, and so does void where a value is needed.
use Rattle.std.specs.Prelude.{ℕ, Bool, true, false, List, length, pos, Option, Some, None}
use Rattle.std.specs.List.{position_or_len}
use Rattle.std.specs.Str.{bytes_eq}
use Rattle.c_core.specs.Types.{promote_of, common_of}
use Rattle.c_core.specs.Typing.{binary_type}
use Rattle.c_core.specs.Tree as t
use Rattle.c_core.specs.Parts.{type_of}
use Rattle.c_core.specs.declared.number.IntType.{IntType}
use Rattle.c_core.specs.declared.number.IntType.TheVariants.{Int}
use Rattle.c_core.specs.declared.number.DataModel.{DataModel}
use Rattle.c_core.specs.declared.number.Spot.{Spot}
use Rattle.c_core.specs.declared.number.UnOp.{UnOp}
use Rattle.c_core.specs.declared.number.UnOp.TheVariants.{Plus, Neg, BitNot, Not}
use Rattle.c_core.specs.declared.tree.Callee.{Callee}
use Rattle.c_core.specs.declared.tree.Callee.TheVariants.{Defined}
use Rattle.c_parser.specs.Tree.{Exp, Expr, Node, Number, Char, Var, Index, Unary, Cast, Step, Binary, Logic, Choose, Comma, Assign, Call, Exps, NoExp, MoreExp}
use Rattle.check_rules.specs.Names.{Kind, Object, Function, Closed, Entry, named, is_function, built_in}
use Rattle.check_rules.specs.Constants.{constant_type, valued}

-- the number of no object
abbrev pub no_object : ℕ
no_object = 4294967295

-- the number of the object that a name means
abbrev pub number_named : Option Kind → ℕ
number_named None = no_object
number_named (Some (Object n ty dims fixed)) = n
number_named (Some (Function result stated has_body)) = no_object
number_named (Some Closed) = no_object

-- the type of an object, or of its elements
abbrev pub type_named : Option Kind → IntType
type_named None = Int
type_named (Some (Object n ty dims fixed)) = ty
type_named (Some (Function result stated has_body)) = Int
type_named (Some Closed) = Int

-- the result of the function that a name means; of what is none, `int`
abbrev pub result_named : Option Kind → Option IntType
result_named None = Some Int
result_named (Some (Object n ty dims fixed)) = Some Int
result_named (Some (Function result stated has_body)) = result
result_named (Some Closed) = Some Int

-- the type of an operator on one operand (C11 6.5.3.3)
abbrev pub unary_type : UnOp → IntType → IntType
unary_type Plus ty = promote_of ty
unary_type Neg ty = promote_of ty
unary_type BitNot ty = promote_of ty
unary_type Not ty = Int

-- void where both arms are (C11 6.5.15p5)
abbrev pub choice_type : DataModel → Option IntType → Option IntType → Option IntType
choice_type m None None = None
choice_type m None (Some b) = Some (common_of m Int b)
choice_type m (Some a) None = Some (common_of m a Int)
choice_type m (Some a) (Some b) = Some (common_of m a b)

-- a built-in function, else the one of that number
abbrev pub callee_or : Option Callee → ℕ → Callee
callee_or None f = Defined f
callee_or (Some callee) f = callee

-- a built-in function, or the number of the function of that name among those with a body, in the order of the source
abbrev pub callee_of : List (List ℕ) → List ℕ → Callee
callee_of bodies x = callee_or (built_in x) (position_or_len (bytes_eq x) bodies)

-- what isn't declared as a function is none of those with a body
abbrev pub callee_for : Bool → List (List ℕ) → List ℕ → Callee
callee_for true bodies x = callee_of bodies x
callee_for false bodies x = Defined (length bodies)

-- the names of the functions with a body; the names in scope
module _ (m : DataModel) (bodies : List (List ℕ)) (es : List Entry) where
  abbrev mutual
    -- the typed expression where these names are seen
    pub typed : Exp → t.Exp
    typed (Expr p n) = typed_node p n

    -- the typed expression by its node
    pub typed_node : Spot → Node → t.Exp
    typed_node p (Number v decimal unsigned longs) = t.Expr p (Some (valued (constant_type m v decimal unsigned longs))) (t.Const (pos v))
    typed_node p (Char v) = t.Expr p (Some Int) (t.Const v)
    typed_node p (Var x w) = t.Expr p (Some (type_named (named es x))) (t.Var (number_named (named es x)))
    typed_node p (Index x w is) = t.Expr p (Some (type_named (named es x))) (t.Index (number_named (named es x)) (typed_all is))
    typed_node p (Unary op a) = t.Expr p (Some (unary_type op (valued (type_of (typed a))))) (t.Unary op (typed a))
    typed_node p (Cast to a) = t.Expr p to (t.Cast (typed a))
    typed_node p (Step op a) = t.Expr p (Some (valued (type_of (typed a)))) (t.Step op (typed a))
    typed_node p (Binary op a b) = t.Expr p (Some (binary_type m op (valued (type_of (typed a))) (valued (type_of (typed b))))) (t.Binary op (typed a) (typed b))
    typed_node p (Logic both a b) = t.Expr p (Some Int) (t.Logic both (typed a) (typed b))
    typed_node p (Choose mark e a b) = t.Expr p (choice_type m (type_of (typed a)) (type_of (typed b))) (t.Choose mark (typed e) (typed a) (typed b))
    typed_node p (Comma a b) = t.Expr p (type_of (typed b)) (t.Comma (typed a) (typed b))
    typed_node p (Assign op a b) = t.Expr p (Some (valued (type_of (typed a)))) (t.Assign op (typed a) (typed b))
    typed_node p (Call f w gs close) = t.Expr p (result_named (named es f)) (t.Call (callee_for (is_function (named es f)) bodies f) (typed_all gs) close)

    -- typed arguments
    pub typed_all : Exps → t.Exps
    typed_all NoExp = t.NoExp
    typed_all (MoreExp e gs) = t.MoreExp (typed e) (typed_all gs)
