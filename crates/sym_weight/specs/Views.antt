-- Rust values as pure ones: the statement after `else`.
use Rattle.std.specs.Prelude.{Option, Some, None}
use Rattle.std.specs.declared.alloc.Global.{Global}
use Rattle.std.specs.declared.boxed.Box.{Box}
use Rattle.c_core.specs.Tree.{Else, NoElse, OrElse}
use Rattle.c_core.specs.TreeView.{stmt_view}
use Rattle.c_core.specs.declared.tree.Stmt.{Stmt}

-- the arm after `else`, where there is one
abbrev pub else_of : Option (Box Stmt Global) → Else
else_of None = NoElse
else_of (Some b) = OrElse (stmt_view b.value)
