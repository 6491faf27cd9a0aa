-- Trees as text with parentheses round each operation and brackets round each statement that is a part, for examples.
use Rattle.std.specs.Prelude.{ℕ, zero, suc, ◌+◌, ◌/◌, ◌%◌, true, false, take, drop, length, List, [], ◌∷◌, ◌++◌, Option, Some, None, codes}
use Rattle.c_core.specs.declared.number.IntType.{IntType}
use Rattle.c_core.specs.declared.number.IntType.TheVariants as ty
use Rattle.c_core.specs.declared.number.BinOp.{BinOp}
use Rattle.c_core.specs.declared.number.BinOp.TheVariants as op
use Rattle.c_core.specs.declared.number.UnOp.{UnOp}
use Rattle.c_core.specs.declared.number.UnOp.TheVariants as one
use Rattle.c_core.specs.declared.number.StepOp.{StepOp}
use Rattle.c_core.specs.declared.number.StepOp.TheVariants as step
use Rattle.c_tokens.specs.declared.token.Token.{Token}
use Rattle.c_tokens.specs.declared.gap.Gap.TheVariants.{Space, Refused, Unclosed, Absent}
use Rattle.c_tokens.specs.declared.place.Place.{Place}
use Rattle.c_tokens.specs.Gaps.{gap}
use Rattle.c_tokens.specs.Scan.{good, scan}
use Rattle.c_tokens.specs.Reading as reading
use Rattle.c_parser.specs.Tree.{Exp, Expr, Node, Number, Char, Var, Index, Unary, Cast, Step, Binary, Logic, Choose, Comma, Assign, Call, Exps, NoExp, MoreExp, exps, Init, Absent as NoInit, One, Many, Rows, Declared, First, NoFirst, FirstExp, FirstDeclared, Stm, Stmt, Form, Empty, Do, Declare, Block, If, While, DoWhile, For, Break, Continue, Return, Label, Switch, Else, NoElse, OrElse, ArmLabel, Case, Default, Stms, NoStm, MoreStm, MoreCase, Param, Item, Function, Prototype, Global, Closed}
use Rattle.c_parser.specs.Signs.{expr}
use Rattle.c_parser.specs.ReadExpressions.{Read, read, level, within}
use Rattle.c_parser.specs.ReadStatements.{rows_within, header_within, statement_level, braced_within, armed_within}
use Rattle.c_parser.specs.ReadItems.{Outcome, Source, Syntax, read_items}

-- the tokens of a text that is nothing but tokens
abbrev pub tokens_from : ℕ → Place → List ℕ → List Token
tokens_from zero at text = []
tokens_from (suc n) at [] = []
tokens_from (suc n) at (b ∷ text) = elim (gap at.fresh (b ∷ text)) [
  | Space size ↦ tokens_from n (reading.past at (take size (b ∷ text))) (drop size (b ∷ text))
  | Refused ↦ []
  | Unclosed ↦ []
  | Absent ↦ elim (good (scan (b ∷ text))) [
    | None ↦ []
    | Some t ↦ reading.token t.1 at ∷ tokens_from n (reading.past at (take t.0 (b ∷ text))) (drop t.0 (b ∷ text))
  ]
]

abbrev pub tokens_of : List ℕ → List Token
tokens_of text = tokens_from (length text) reading.start text

abbrev pub text_of_type : IntType → List ℕ
text_of_type ty.Bool = codes "bool"
text_of_type ty.Char = codes "char"
text_of_type ty.SChar = codes "schar"
text_of_type ty.UChar = codes "uchar"
text_of_type ty.Short = codes "short"
text_of_type ty.UShort = codes "ushort"
text_of_type ty.Int = codes "int"
text_of_type ty.UInt = codes "uint"
text_of_type ty.Long = codes "long"
text_of_type ty.ULong = codes "ulong"
text_of_type ty.LongLong = codes "llong"
text_of_type ty.ULongLong = codes "ullong"

abbrev pub text_of_result : Option IntType → List ℕ
text_of_result None = codes "void"
text_of_result (Some t) = text_of_type t

abbrev pub text_of_op : BinOp → List ℕ
text_of_op op.Add = codes "+"
text_of_op op.Sub = codes "-"
text_of_op op.Mul = codes "*"
text_of_op op.Div = codes "/"
text_of_op op.Rem = codes "%"
text_of_op op.Shl = codes "<<"
text_of_op op.Shr = codes ">>"
text_of_op op.And = codes "&"
text_of_op op.Xor = codes "^"
text_of_op op.Or = codes "|"
text_of_op op.Lt = codes "<"
text_of_op op.Le = codes "<="
text_of_op op.Gt = codes ">"
text_of_op op.Ge = codes ">="
text_of_op op.Eq = codes "=="
text_of_op op.Ne = codes "!="

abbrev pub text_of_one : UnOp → List ℕ
text_of_one one.Plus = codes "+"
text_of_one one.Neg = codes "-"
text_of_one one.BitNot = codes "~"
text_of_one one.Not = codes "!"

abbrev pub text_of_step : StepOp → List ℕ → List ℕ
text_of_step step.PreInc e = codes "(++" ++ (e ++ codes ")")
text_of_step step.PreDec e = codes "(--" ++ (e ++ codes ")")
text_of_step step.PostInc e = codes "(" ++ (e ++ codes "++)")
text_of_step step.PostDec e = codes "(" ++ (e ++ codes "--)")

abbrev pub text_of_assign : Option BinOp → List ℕ
text_of_assign None = codes "="
text_of_assign (Some o) = text_of_op o ++ codes "="

abbrev pub between : List ℕ → List ℕ → List ℕ → List ℕ
between a sign b = codes "(" ++ (a ++ (sign ++ (b ++ codes ")")))

abbrev mutual
  pub text_of : Exp → List ℕ
  text_of (Expr p n) = text_of_node n

  pub text_of_node : Node → List ℕ
  text_of_node (Number v decimal unsigned longs) = (48 + v) ∷ []
  text_of_node (Char v) = codes "char"
  text_of_node (Var w p) = w
  text_of_node (Index w p es) = w ++ text_of_indexes es
  text_of_node (Unary o e) = codes "(" ++ (text_of_one o ++ (text_of e ++ codes ")"))
  text_of_node (Cast to e) = codes "(" ++ (text_of_result to ++ (codes ":" ++ (text_of e ++ codes ")")))
  text_of_node (Step o e) = text_of_step o (text_of e)
  text_of_node (Binary o a b) = between (text_of a) (text_of_op o) (text_of b)
  text_of_node (Logic true a b) = between (text_of a) (codes "&&") (text_of b)
  text_of_node (Logic false a b) = between (text_of a) (codes "||") (text_of b)
  text_of_node (Choose mark e a b) = between (text_of e) (codes "?") (text_of a ++ (codes ":" ++ text_of b))
  text_of_node (Comma a b) = between (text_of a) (codes ",") (text_of b)
  text_of_node (Assign o a b) = between (text_of a) (text_of_assign o) (text_of b)
  text_of_node (Call w p es close) = w ++ (codes "(" ++ (text_of_row es ++ codes ")"))

  pub text_of_row : Exps → List ℕ
  text_of_row NoExp = []
  text_of_row (MoreExp e es) = text_of e ++ (codes ";" ++ text_of_row es)

  pub text_of_indexes : Exps → List ℕ
  text_of_indexes NoExp = []
  text_of_indexes (MoreExp e es) = codes "[" ++ (text_of e ++ (codes "]" ++ text_of_indexes es))

abbrev pub text_if : Option Exp → List ℕ
text_if None = []
text_if (Some e) = text_of e

abbrev pub text_of_rows : List Exps → List ℕ
text_of_rows [] = []
text_of_rows (row ∷ rows) = codes "{" ++ (text_of_row row ++ (codes "}" ++ text_of_rows rows))

abbrev pub text_of_init : Init → List ℕ
text_of_init NoInit = []
text_of_init (One e) = codes "=" ++ text_of e
text_of_init (Many es) = codes "={" ++ (text_of_row es ++ codes "}")
text_of_init (Rows rows) = codes "={" ++ (text_of_rows rows ++ codes "}")

abbrev pub text_of_declared : List Declared → List ℕ
text_of_declared [] = []
text_of_declared (d ∷ ds) = text_of_type d.ty ++ (codes " " ++ (d.name ++ (text_of_indexes (exps d.sizes) ++ (text_of_init d.init ++ (codes ";" ++ text_of_declared ds)))))

abbrev pub text_of_first : First → List ℕ
text_of_first NoFirst = codes ";"
text_of_first (FirstExp e) = text_of e ++ codes ";"
text_of_first (FirstDeclared ds) = text_of_declared ds

abbrev pub text_of_label : ArmLabel → List ℕ
text_of_label (Case e) = codes "case " ++ (text_of e ++ codes ":")
text_of_label Default = codes "default:"

abbrev mutual
  pub text_of_statement : Stm → List ℕ
  text_of_statement (Stmt p f) = text_of_form f

  pub text_of_form : Form → List ℕ
  text_of_form Empty = codes ";"
  text_of_form (Do e) = text_of e ++ codes ";"
  text_of_form (Declare ds) = text_of_declared ds
  text_of_form (Block b) = codes "{" ++ (text_of_block b ++ codes "}")
  text_of_form (If e s o) = codes "if " ++ (text_of e ++ (codes " [" ++ (text_of_statement s ++ (codes "]" ++ text_of_else o))))
  text_of_form (While e s) = codes "while " ++ (text_of e ++ (codes " [" ++ (text_of_statement s ++ codes "]")))
  text_of_form (DoWhile s e) = codes "do [" ++ (text_of_statement s ++ (codes "] while " ++ text_of e))
  text_of_form (For i e u s) = codes "for " ++ (text_of_first i ++ (text_if e ++ (codes ";" ++ (text_if u ++ (codes " [" ++ (text_of_statement s ++ codes "]"))))))
  text_of_form Break = codes "break;"
  text_of_form Continue = codes "continue;"
  text_of_form (Return e) = codes "return " ++ (text_if e ++ codes ";")
  text_of_form (Label w s) = w ++ (codes ":[" ++ (text_of_statement s ++ codes "]"))
  text_of_form (Switch e b) = codes "switch " ++ (text_of e ++ (codes "{" ++ (text_of_block b ++ codes "}")))

  pub text_of_else : Else → List ℕ
  text_of_else NoElse = []
  text_of_else (OrElse s) = codes " else [" ++ (text_of_statement s ++ codes "]")

  pub text_of_block : Stms → List ℕ
  text_of_block NoStm = []
  text_of_block (MoreStm s b) = text_of_statement s ++ text_of_block b
  text_of_block (MoreCase p l b) = text_of_label l ++ text_of_block b

abbrev pub text_of_params : List Param → List ℕ
text_of_params [] = []
text_of_params (x ∷ xs) = text_of_type x.ty ++ (codes " " ++ (x.name ++ (codes ";" ++ text_of_params xs)))

abbrev pub text_of_types : List IntType → List ℕ
text_of_types [] = []
text_of_types (t ∷ ts) = text_of_type t ++ (codes ";" ++ text_of_types ts)

abbrev pub text_of_stated : Option (List IntType) → List ℕ
text_of_stated None = codes "unstated"
text_of_stated (Some ts) = text_of_types ts

abbrev pub text_of_item : Item → List ℕ
text_of_item (Function p w result xs s) = text_of_result result ++ (codes " " ++ (w ++ (codes "(" ++ (text_of_params xs ++ (codes ")" ++ text_of_statement s)))))
text_of_item (Prototype p w result ts) = codes "proto " ++ (text_of_result result ++ (codes " " ++ (w ++ (codes "(" ++ (text_of_stated ts ++ codes ")")))))
text_of_item (Global ds) = codes "global " ++ text_of_declared ds
text_of_item (Closed p w) = codes "closed " ++ w

abbrev pub text_of_items : List Item → List ℕ
text_of_items [] = []
text_of_items (x ∷ xs) = text_of_item x ++ (codes "|" ++ text_of_items xs)

-- with at most this many brackets open and this height: an expression that is the whole text, or nothing
abbrev pub whole_of : Read Exp → List ℕ
whole_of None = codes "none"
whole_of (Some (e, [])) = text_of e
whole_of (Some (e, t ∷ ts)) = codes "rest"

abbrev pub shown_within : ℕ → ℕ → List ℕ → List ℕ
unfolding level within
shown_within b h text = whole_of (read b h expr (tokens_of text))

abbrev pub shown : List ℕ → List ℕ
unfolding level within
shown text = shown_within 9 9 text

-- the items of a source, or the column of the first that fits no form
abbrev pub text_of_outcome : Outcome → List ℕ
text_of_outcome (Source xs) = text_of_items xs
text_of_outcome (Syntax p) = codes "syntax " ++ ((48 + p.column / 10) ∷ (48 + p.column % 10) ∷ [])

abbrev pub items_within : ℕ → ℕ → List ℕ → List ℕ
unfolding level within rows_within header_within statement_level braced_within armed_within
items_within b h text = text_of_outcome (read_items h b (length text) (tokens_of text))

abbrev pub items : List ℕ → List ℕ
unfolding level within rows_within header_within statement_level braced_within armed_within
items text = items_within 9 9 text
