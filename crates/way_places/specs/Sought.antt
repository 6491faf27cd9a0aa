-- What a walk over bodies takes from each full expression, in its order.
use Rattle.std.specs.Prelude.{Bool, false, true, List, [], ◌∷◌, ◌++◌, Option, Some, None}
use Rattle.std.specs.List.{flat_map}
use Rattle.c_core.specs.Tree.{Exp, Exps, NoExp, MoreExp, Init, Absent, One, Many, Rows, Names, NoName, MoreName, First, NoFirst, FirstExp, FirstNames, Stm, Stmt, Form, Empty, Do, Declare, Block, If, While, DoWhile, For, Break, Continue, Return, Label, Switch, Else, NoElse, OrElse, Stms, NoStm, MoreStm, MoreCase, Function, Program}
use Rattle.c_core.specs.Parts.{exps_of}
use Rattle.c_core.specs.declared.number.Property.{Property}
use Rattle.c_core.specs.declared.number.Property.TheVariants.{UnreachCall, NoOverflow}
use Rattle.way_places.specs.Seeking.{first_of, is_wanted}
use Rattle.way_places.specs.declared.expressions.Wanted.{Wanted}
use Rattle.way_places.specs.declared.expressions.Wanted.TheVariants.{EndsAt, Starts, ReachesError}

-- of a full expression its own start alone, else every expression in it
abbrev pub parts_of : Wanted → Exp → List Exp
parts_of (Starts line column) e = e ∷ []
parts_of (EndsAt close) e = exps_of e
parts_of (ReachesError line column) e = exps_of e

abbrev pub each_if : {A : Type 0} → (Exp → List A) → Option Exp → List A
each_if f None = []
each_if f (Some e) = f e

abbrev pub each_in_list : {A : Type 0} → (Exp → List A) → Exps → List A
each_in_list f NoExp = []
each_in_list f (MoreExp e es) = f e ++ each_in_list f es

abbrev pub each_in_init : {A : Type 0} → (Exp → List A) → Init → List A
each_in_init f Absent = []
each_in_init f (One e) = f e
each_in_init f (Many es) = each_in_list f es
each_in_init f (Rows rows) = flat_map (each_in_list f) rows

abbrev pub each_in_names : {A : Type 0} → (Exp → List A) → Names → List A
each_in_names f NoName = []
each_in_names f (MoreName spot o i ns) = each_in_init f i ++ each_in_names f ns

abbrev pub each_in_first : {A : Type 0} → (Exp → List A) → First → List A
each_in_first f NoFirst = []
each_in_first f (FirstExp e) = f e
each_in_first f (FirstNames ns) = each_in_names f ns

abbrev mutual
  pub each_in : {A : Type 0} → (Exp → List A) → Stm → List A
  each_in f (Stmt at form) = each_in_form f form

  pub each_in_form : {A : Type 0} → (Exp → List A) → Form → List A
  each_in_form f Empty = []
  each_in_form f (Do e) = f e
  each_in_form f (Declare ns) = each_in_names f ns
  each_in_form f (Block b) = each_in_block f b
  each_in_form f (If e a b) = f e ++ (each_in f a ++ each_in_else f b)
  each_in_form f (While e b) = f e ++ each_in f b
  each_in_form f (DoWhile b e) = f e ++ each_in f b
  each_in_form f (For i e s b) = each_in_first f i ++ (each_if f e ++ (each_if f s ++ each_in f b))
  each_in_form f Break = []
  each_in_form f Continue = []
  each_in_form f (Return e) = each_if f e
  each_in_form f (Label b) = each_in f b
  each_in_form f (Switch e b) = f e ++ each_in_block f b

  pub each_in_else : {A : Type 0} → (Exp → List A) → Else → List A
  each_in_else f NoElse = []
  each_in_else f (OrElse b) = each_in f b

  pub each_in_block : {A : Type 0} → (Exp → List A) → Stms → List A
  each_in_block f NoStm = []
  each_in_block f (MoreStm s b) = each_in f s ++ each_in_block f b
  each_in_block f (MoreCase spot l b) = each_in_block f b

abbrev pub each_in_functions : {A : Type 0} → (Exp → List A) → List Function → List A
each_in_functions f [] = []
each_in_functions f (function ∷ functions) = each_in f function.body ++ each_in_functions f functions

abbrev pub is_reachability : Property → Bool
is_reachability UnreachCall = true
is_reachability NoOverflow = false

-- the first of a kind that a walk finds
abbrev pub found_by : Wanted → Program → Option Exp
found_by w p = first_of (is_wanted w) None (each_in_functions (parts_of w) p.functions)
