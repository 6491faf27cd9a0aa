-- The view of a statement, by its parts: a `Seq` is seen as a list.
use denote.Hole.Carrier.{out}
use Rattle.std.proofs.Common.{◌≡◌, refl, ap, sym, ◌∙◌, List, [], ◌∷◌, map}
use Rattle.std.specs.Option.{option_map}
use Rattle.c_parser.specs.Tree as t
use Rattle.c_parser.specs.Tree.{Stms, stms, joined, arms}
use Rattle.c_parser.specs.View.{expr_view}
use Rattle.c_parser.specs.SourceView.{declared_view, first_view, label_view, form_view, block_view, stmt_view, arms_view, arm_view, switch_view, else_if}
use Rattle.c_parser.specs.StatementParts.{raw_arm_view}
use Rattle.c_parser.specs.declared.tree.RawExpr.{RawExpr}
use Rattle.c_parser.specs.declared.tree.RawStmt.{RawStmt}
use Rattle.c_parser.specs.declared.tree.RawArm.{RawArm, RawArm', out-RawArm}
use Rattle.c_parser.specs.declared.tree.RawForm.{RawForm, out-RawForm, Row_of-RawStmt, end_of-RawStmt, more_of-RawStmt, items-the_row-RawStmt, items_shown-the_row-RawStmt-0, Row_of-RawArm, end_of-RawArm, more_of-RawArm, items-the_row-RawArm, items_shown-the_row-RawArm-1, None', Some'}
use Rattle.c_parser.specs.declared.tree.RawForm.TheVariants.{Empty, Expr as Only, Declare, Block, outs-Block, Block', If', While', Do', For', Break, Continue, Return, Label', Switch, outs-Switch, Switch'}
use Rattle.c_parser.specs.declared.tree.RawForm.TheOpen.{RawForm-F, Empty as EmptyF, Expr as OnlyF, Declare as DeclareF, Block as BlockF, If as IfF, While as WhileF, Do as DoF, For as ForF, Break as BreakF, Continue as ContinueF, Return as ReturnF, Label as LabelF, Switch as SwitchF}

-- one level of a form
abbrev pub form_of : RawForm-F RawForm RawArm RawStmt → t.Form
form_of EmptyF = t.Empty
form_of (OnlyF e) = t.Do (expr_view e)
form_of (DeclareF ds) = t.Declare (map declared_view ds)
form_of (BlockF ss) = t.Block (stms (map stmt_view ss))
form_of (IfF e a b) = t.If (expr_view e) (stmt_view a.value) (else_if b)
form_of (WhileF e b) = t.While (expr_view e) (stmt_view b.value)
form_of (DoF b e) = t.DoWhile (stmt_view b.value) (expr_view e)
form_of (ForF i e s b) = t.For (first_view i) (option_map expr_view e) (option_map expr_view s) (stmt_view b.value)
form_of BreakF = t.Break
form_of ContinueF = t.Continue
form_of (ReturnF e) = t.Return (option_map expr_view e)
form_of (LabelF w b) = t.Label w (stmt_view b.value)
form_of (SwitchF e all) = t.Switch (expr_view e) (switch_view all)

block_views : {m : _} (k : Row_of-RawStmt m) → block_view k ≡ stms (map stmt_view (items-the_row-RawStmt m k))
block_views end_of-RawStmt = refl
block_views (more_of-RawStmt spot form rest) = ap (λ (ss : Stms). t.MoreStm (t.Stmt spot (form_view form)) ss) (block_views rest)

arms_views : {m : _} (k : Row_of-RawArm m) → arms_view k ≡ switch_view (items-the_row-RawArm m k)
arms_views end_of-RawArm = refl
arms_views (more_of-RawArm a rest) = ap (arm_view a) (arms_views rest)

-- one level of an arm
pub arm_views : (a : RawArm) (rest : Stms) → arm_view a rest ≡ t.MoreCase (out-RawArm a).spot (label_view (out-RawArm a).label) (joined (stms (map stmt_view (out-RawArm a).body)) rest)
unfolding out-RawArm out
arm_views (RawArm' spot label shape body) rest =
    ap (λ (b : Stms). t.MoreCase spot (label_view label) (joined b rest)) (block_views body ∙ ap (λ (ss : List RawStmt). stms (map stmt_view ss)) (sym (items_shown-the_row-RawStmt-0 shape body)))

-- arms that were read are those of definitions
pub switch_views : (all : List RawArm) → switch_view all ≡ arms (map raw_arm_view all)
switch_views [] = refl
switch_views (a ∷ rest) =
    ap (arm_view a) (switch_views rest) ∙ arm_views a (arms (map raw_arm_view rest))

pub form_views : (f : RawForm) → form_view f ≡ form_of (out-RawForm f)
unfolding out-RawForm out
form_views Empty = refl
form_views (Only e) = refl
form_views (Declare xs) = refl
form_views (Block' shape row) = ap t.Block (block_views row ∙ ap (λ (ss : List RawStmt). stms (map stmt_view ss)) (sym (items_shown-the_row-RawStmt-0 shape row)))
form_views (If' test b s f None') = refl
form_views (If' test b s f (Some' b' s' f')) = refl
form_views (While' test b s f) = refl
form_views (Do' b s f test) = refl
form_views (For' first test step b s f) = refl
form_views (Label' w b s f) = refl
form_views (Switch' test shape row) = ap (λ (b : Stms). t.Switch (expr_view test) b) (arms_views row ∙ ap switch_view (sym (items_shown-the_row-RawArm-1 shape row)))
form_views Break = refl
form_views Continue = refl
form_views (Return e) = refl

pub view_of_block : (ss : List RawStmt) → form_view (Block ss) ≡ t.Block (stms (map stmt_view ss))
view_of_block ss = form_views (Block ss) ∙ ap form_of (outs-Block ss)

pub view_of_switch : (e : RawExpr) (all : List RawArm) → form_view (Switch e all) ≡ t.Switch (expr_view e) (arms (map raw_arm_view all))
view_of_switch e all = form_views (Switch e all) ∙ ap form_of (outs-Switch e all) ∙ ap (λ (b : Stms). t.Switch (expr_view e) b) (switch_views all)
