-- Expressions of witnesses: what their words stand for, which are refused, and the trees of those that aren't.
use Rattle.std.specs.Prelude.{◌≡◌, ℕ, Bool, true, false, List, [], ◌∷◌, Option, Some, None, is_none, Result, Ok, Err, slice_get}
use Rattle.std.specs.List.{list_any, flat_map}
use Rattle.std.specs.Str.{bytes_eq}
use Rattle.c_core.specs.Parts.{type_of, every_exp}
use Rattle.c_core.specs.Scope.{is_in}
use Rattle.c_core.specs.Tree as t
use Rattle.c_core.specs.View.{expr_view}
use Rattle.c_core.specs.declared.number.DataModel.{DataModel}
use Rattle.c_core.specs.declared.tree.Expr.{Expr}
use Rattle.c_core.specs.declared.tree.Object.{Object}
use Rattle.c_parser.specs.Formed.{every_node}
use Rattle.c_parser.specs.Tree as raw
use Rattle.c_parser.specs.declared.fault.ExprFault.{ExprFault}
use Rattle.c_parser.specs.declared.fault.ExprFault.TheVariants.{Expression, Scope, OutOfMemory}
use Rattle.check_rules.specs.Codes.{word_of, mistyped}
use Rattle.check_rules.specs.Names as kind
use Rattle.check_rules.specs.Names.{Entry, entry}
use Rattle.check_rules.specs.Parts.{Value, parts}
use Rattle.check_rules.specs.Typed.{typed}

-- an object as a name in scope; a number of no object is no name
abbrev pub entry_at : ℕ → Option Object → List Entry
entry_at n None = []
entry_at n (Some o) = entry o.name (kind.Object n o.ty o.dims o.fixed) ∷ []

-- the objects of these numbers as names, in their order: of two with one name the later one counts
abbrev pub entries : List Object → List ℕ → List Entry
entries objects numbers = flat_map (λ n. entry_at n (slice_get objects n)) numbers

-- the word of a node is one of these names, where it has a word
abbrev pub is_among : List Entry → Option (List ℕ) → Bool
is_among es None = true
is_among es (Some x) = list_any (λ (e : Entry). bytes_eq e.name x) es

-- every word of an expression is one of these names
abbrev pub in_scope : List Entry → raw.Exp → Bool
in_scope es e = every_node (λ n. is_among es (word_of n)) e

-- some part breaks a rule on types
abbrev pub is_refused : DataModel → List Entry → raw.Exp → Bool
is_refused m es e = list_any (mistyped m []) (parts es Value e)

-- all its words are names in scope, it breaks no rule on types, and this is its typed tree
pub record IsTyped (m : DataModel) (es : List Entry) (e : raw.Exp) (tree : t.Exp) : Type 0 where
  pub scope : in_scope es e ≡ true
  pub typing : is_refused m es e ≡ false
  pub made : tree ≡ typed m [] es e

-- all its words are names in scope, and it breaks a rule on types
pub record IsMistyped (m : DataModel) (es : List Entry) (e : raw.Exp) : Type 0 where
  pub scope : in_scope es e ≡ true
  pub typing : is_refused m es e ≡ true

-- by the names in scope
abbrev pub AnswersIn : DataModel → List Entry → raw.Exp → Result Expr ExprFault → Type 0
AnswersIn m es e (Ok tree) = IsTyped m es e (expr_view tree)
AnswersIn m es e (Err Scope) = in_scope es e ≡ false
AnswersIn m es e (Err Expression) = IsMistyped m es e
AnswersIn m es e (Err OutOfMemory) = Unit {0}

-- the answer over a program and the numbers of the objects in scope, innermost last
abbrev pub AnswersConstraint : t.Program → List ℕ → raw.Exp → Result Expr ExprFault → Type 0
AnswersConstraint p numbers e answer = AnswersIn p.model (entries p.objects numbers) e answer

-- ---- what holds of each typed tree

abbrev pub is_passive : raw.Node → Bool
is_passive (raw.Step op a) = false
is_passive (raw.Assign op a b) = false
is_passive (raw.Call f w gs close) = false
is_passive _ = true

abbrev pub is_passive_exp : t.Exp → Bool
is_passive_exp (t.Expr p ty (t.Step op a)) = false
is_passive_exp (t.Expr p ty (t.Assign op a b)) = false
is_passive_exp (t.Expr p ty (t.Call f gs close)) = false
is_passive_exp _ = true

-- the object that is read, where it is one, is among these
abbrev pub reads_among : List ℕ → t.Exp → Bool
reads_among numbers (t.Expr p ty (t.Var o)) = is_in o numbers
reads_among numbers (t.Expr p ty (t.Index o is)) = is_in o numbers
reads_among numbers _ = true

pub record FitsConstraint (numbers : List ℕ) (e : raw.Exp) (tree : t.Exp) : Type 0 where
  -- it isn't void
  pub valued : is_none (type_of tree) ≡ false
  -- steps, assignments and calls stand in it where they stand in the text, and nowhere else
  pub passive : every_exp is_passive_exp tree ≡ every_node is_passive e
  pub objects : every_exp (reads_among numbers) tree ≡ true
