-- Forms of statements that are no loops.
use Rattle.std.proofs.Common.{◌≡◌, refl, Option, None}
use Rattle.std.specs.declared.alloc.Global.{Global}
use Rattle.std.specs.declared.boxed.Box.{Box}
use Rattle.c_calls.specs.Loops.{loop_of}
use Rattle.c_core.specs.View.{form_view}
use Rattle.c_core.specs.declared.tree.Expr.{Expr}
use Rattle.c_core.specs.declared.tree.First.{First}
use Rattle.c_core.specs.declared.tree.Form.{Form}
use Rattle.c_core.specs.declared.tree.Form.TheVariants.{While, Do, For, While', Do', For'}
use Rattle.c_core.specs.declared.tree.Stmt.{Stmt}

-- a form that is none of the three has no loop
pub no_loop : (f : Form) → ((e : Expr) (b : Box Stmt Global) → f ≡ While e b → ⊥) → ((b : Box Stmt Global) (e : Expr) → f ≡ Do b e → ⊥) → ((i : First) (e s : Option Expr) (b : Box Stmt Global) → f ≡ For i e s b → ⊥)
    → loop_of (form_view f) ≡ None
no_loop (While' e b s f) w d x = absurd (w e _ refl)
no_loop (Do' b s f e) w d x = absurd (d _ e refl)
no_loop (For' i e s b at f) w d x = absurd (x i e s _ refl)
no_loop f w d x = refl
