-- Where each part of a meaning stays within its room, the meaning of every tree does: as the lemma on two meanings, but that it knows how many cells are declared where room is asked for.
use Rattle.std.proofs.Common.{◌≡◌, ◌≤◌, ◌+◌, ℕ, zero, suc, Bool, true, false, ◌||◌, List, [], ◌∷◌, ◌++◌, Option, Some, None, sym, ap, ◌∙◌, subst, arith, append_assoc}
use Rattle.std.specs.List.{flat_map}
use Rattle.std.proofs.lemmas.Bool.{or_left, or_right}
use Rattle.c_core.specs.Types.{promote_of}
use Rattle.c_core.specs.Typing.{labels_in}
use Rattle.c_core.specs.Operators.{op_of_step}
use Rattle.c_core.specs.Tree.{Exp, Expr, Node, Const, Var, Index, Unary, Cast, Step, Binary, Logic, Choose, Comma, Assign, Call, Exps, NoExp, MoreExp, Init, Absent, One, Many, Rows, Names, NoName, MoreName, First, NoFirst, FirstExp, FirstNames, Stm, Stmt, Form, Empty, Do, Declare, Block, If, While, DoWhile, For, Break, Continue, Return, Label, Switch, Else, NoElse, OrElse, Stms, NoStm, MoreStm, MoreCase, Program}
use Rattle.c_core.specs.declared.number.IntType.{IntType}
use Rattle.c_core.specs.declared.number.IntType.TheVariants.{Int}
use Rattle.c_core.specs.declared.number.Spot.{Spot}
use Rattle.c_core.specs.declared.number.BinOp.{BinOp}
use Rattle.c_core.specs.declared.number.UnOp.{UnOp}
use Rattle.c_core.specs.declared.tree.Callee.{Callee}
use Rattle.c_core.specs.declared.tree.Label.{Label as ArmLabel}
use Rattle.c_core.specs.declared.tree.Callee.TheVariants.{Defined, Input as InputOf, ReachError, Abort, Exit}
use Rattle.c_meaning.specs.declared.run.DrawKind.{DrawKind}
use Rattle.c_meaning.specs.declared.run.DrawKind.TheVariants.{Input, Cell as ACellDraw}
use Rattle.c_meaning.specs.Objects.{type_of, type_of_object, size_of_object, columns_of_object}
use Rattle.c_meaning.specs.Parts.{some_of, some_node, some_part, some_argument, fulls_of, fulls_of_form, fulls_of_else, fulls_of_block, declared_in, declared_in_form, declared_in_else, declared_in_block, calls}
use Rattle.c_core.specs.Parts.{exps_in, exp_if, fulls_of_init, fulls_of_names, fulls_of_first, objects_of_names, objects_of_first}
use Rattle.c_meaning.specs.Meaning.{Tick, AStatement, ANode, ACell, Use, Used, Unused, Where, Site, Loop, Meaning, Calls, ForLoop}
use Rattle.c_meaning.specs.Eval.{convert_to, operate, store, assign, tested, called, eval, node, target, place, evals}
use Rattle.c_meaning.specs.Exec.{ticks, full, full_if, control, going, for_turn, draw_cells, initials, row_initials, initial, declare, first, exec, form, otherwise, execs, from_arm, body, with_params}
use Rattle.c_frames.proofs.CellLaws.{same_itself}
use Rattle.c_frames.proofs.Refitting.{some-append, some_exps}

-- a statement declares so many cells for what is behind it, and so many in all
pub record Parts (p : Program) (M : Meaning) : Type 1 where
  pub Keeps : {A : Type 0} → M.Act A → Type 0
  pub Moves : ℕ → ℕ → M.Done → Type 0
  pub ret : {A : Type 0} (a : A) → Keeps (M.ret a)
  pub bind : {A B : Type 0} (m : M.Act A) (k : A → M.Act B) → Keeps m → ((a : A) → Keeps (k a)) → Keeps (M.bind m k)
  pub using : {A : Type 0} (c d : ℕ) (m : M.Act A) (k : A → M.Done) → Keeps m → ((a : A) → Moves c d (k a)) → Moves c d (M.using m k)
  pub tick : (t : Tick) → Keeps (M.tick t)
  pub room : (c d n : ℕ) (m : M.Done) → n ≤ d → Moves c d m → Moves c d (M.using (M.room n) (λ _. m))
  pub convert : (from to : IntType) (v : M.Value) → Keeps (M.convert from to v)
  pub test : (ty : IntType) (v : M.Value) → Keeps (M.test ty v)
  pub draw : (kind : DrawKind) (spot : Spot) (ty : IntType) → Keeps (M.draw kind spot ty)
  pub element : (spot : Spot) (o : ℕ) (vs : List (M.Value × IntType)) → Keeps (M.element spot o (size_of_object p o) (columns_of_object p o) vs)
  pub look : (k : M.Target) → Keeps (M.look k)
  pub write : (k : M.Target) (v : M.Value) → Keeps (M.write k v)
  pub answer : (at : Where) (spot : Spot) (op : BinOp) (ty : IntType) (x : M.Value) (right : IntType) (y : M.Value) → Keeps (M.answer at spot op ty x right y)
  pub answer_one : (at : Where) (spot : Spot) (op : UnOp) (ty : IntType) (x : M.Value) → Keeps (M.answer_one at spot op ty x)
  pub choose : (t : M.Truth) (a b : M.Act M.Value) → Keeps a → Keeps b → Keeps (M.choose t a b)
  pub pick : (mark : Spot) (t : M.Truth) (a b : M.Act M.Value) → Keeps a → Keeps b → Keeps (M.pick mark t a b)
  pub enter : (site : Site) → Keeps (M.enter site)
  pub came_back : (site : Site) (v : M.Value) → Keeps (M.came_back site v)
  pub reach : (at : Where) (site : Site) → Keeps (M.reach at site)
  pub ending : Keeps M.ending
  pub here : (spot : Spot) → Keeps (M.here spot)
  pub declare : (o n : ℕ) → Moves n n (M.declare o n)
  pub branch : (c d : ℕ) (spot : Spot) (t : M.Truth) (a b : M.Done) → Moves c d a → Moves c d b → Moves c d (M.branch spot t a b)
  pub select : (spot : Spot) (ty : IntType) (v : M.Value) (ls : List ArmLabel) → Keeps (M.select spot ty v ls)
  pub next : (d : ℕ) → Moves 0 d M.next
  pub leave : (c d : ℕ) → Moves c d M.leave
  pub again : (c d : ℕ) → Moves c d M.again
  pub give : (c d : ℕ) (v : Option M.Value) → Moves c d (M.give v)
  pub seq : (c d e f : ℕ) (a b : M.Done) → c ≤ d → Moves c d a → Moves e f b → Moves (c + e) (d + f) (M.seq a b)
  pub scoped : (c d : ℕ) (a : M.Done) → Moves c d a → Moves 0 d (M.scoped a)
  pub continued : (c d : ℕ) (a : M.Done) → Moves c d a → Moves 0 d (M.continued a)
  pub breaks : (c d : ℕ) (a : M.Done) → Moves c d a → Moves 0 d (M.breaks a)
  pub loop : (d : ℕ) (spot : Spot) (l : Loop) (turn : M.Done) → Moves 0 d turn → Moves 0 d (M.loop spot l turn)
  pub wider : (c d e : ℕ) (a : M.Done) → d ≤ e → Moves c d a → Moves c e a

-- so many cells, and one for each parameter
abbrev pub params_and : List ℕ → ℕ → ℕ
params_and [] c = c
params_and (o ∷ os) c = 1 + params_and os c

module _ (p : Program) where
  -- the cells of these objects
  abbrev pub sizes : List ℕ → ℕ
  sizes [] = 0
  sizes (o ∷ os) = size_of_object p o + sizes os

  pub sizes-append : (os qs : List ℕ) → sizes (os ++ qs) ≡ sizes os + sizes qs
  sizes-append [] qs = omega arith
  sizes-append (o ∷ os) qs = omega (arith, sizes-append os qs)

  -- the cells that a statement declares for what is behind it
  abbrev mutual
    pub own_size : Stm → ℕ
    own_size (Stmt at' f) = own_size_form f

    pub own_size_form : Form → ℕ
    own_size_form (Declare ns) = sizes (objects_of_names ns)
    own_size_form (Label b) = own_size b
    own_size_form Empty = 0
    own_size_form (Do e) = 0
    own_size_form (Block b) = 0
    own_size_form (If e x y) = 0
    own_size_form (While e b) = 0
    own_size_form (DoWhile b e) = 0
    own_size_form (For i e s b) = 0
    own_size_form Break = 0
    own_size_form Continue = 0
    own_size_form (Return e) = 0
    own_size_form (Switch e b) = 0

  mutual
    own_small : (s : Stm) → own_size s ≤ sizes (declared_in s)
    own_small (Stmt at' f) = own_small_form f

    own_small_form : (f : Form) → own_size_form f ≤ sizes (declared_in_form f)
    own_small_form (Declare ns) = omega arith
    own_small_form (Label b) = own_small b
    own_small_form Empty = omega arith
    own_small_form (Do e) = omega arith
    own_small_form (Block b) = omega arith
    own_small_form (If e x y) = omega arith
    own_small_form (While e b) = omega arith
    own_small_form (DoWhile b e) = omega arith
    own_small_form (For i e s b) = omega arith
    own_small_form Break = omega arith
    own_small_form Continue = omega arith
    own_small_form (Return e) = omega arith
    own_small_form (Switch e b) = omega arith

  abbrev own_sizes : Stms → ℕ
  own_sizes NoStm = 0
  own_sizes (MoreStm s b) = own_size s + own_sizes b
  own_sizes (MoreCase spot l b) = own_sizes b

  module _ {M : Meaning} (parts : Parts p M) (call : Calls M) where
    abbrev pub CallCalm : ℕ → Type 0
    CallCalm f = (site : Site) (vs : List (M.Value × IntType)) → parts.Keeps (call site f vs)

    -- each function called from a part
    abbrev pub Called : ((Node → Bool) → Bool) → Type 0
    Called some = (f : ℕ) → some (calls f) ≡ true → CallCalm f

    left : (x y : (Node → Bool) → Bool) → Called (λ q. x q || y q) → Called x
    left x y h = λ f e. h f (or_left _ _ e)

    right : (x y : (Node → Bool) → Bool) → Called (λ q. x q || y q) → Called y
    right x y h = λ f e. h f (or_right (x (calls f)) _ e)

    keeps_operate : (at' : Where) (spot : Spot) (op : BinOp) (s : IntType) (x : M.Value) (t : IntType) (y : M.Value) → parts.Keeps (operate p M at' spot op s x t y)
    keeps_operate at' spot op s x t y = parts.bind _ _ (parts.convert _ _ x) (λ x1. parts.bind _ _ (parts.convert _ _ y) (λ y1. parts.answer at' spot op _ x1 _ y1))

    keeps_store : (k : M.Target) (from to : IntType) (v : M.Value) → parts.Keeps (store p M k from to v)
    keeps_store k from to v = parts.bind _ _ (parts.convert from to v) (λ w. parts.bind _ _ (parts.write k w) (λ _. parts.ret w))

    keeps_assign : (at' : Where) (spot : Spot) (op : Option BinOp) (k : M.Target) (s t : IntType) (m : M.Act M.Value) → parts.Keeps m → parts.Keeps (assign p M at' spot op k s t m)
    keeps_assign at' spot None k s t m g = parts.bind _ _ g (λ y. keeps_store k t s y)
    keeps_assign at' spot (Some op) k s t m g = parts.bind _ _ (parts.look k) (λ x. parts.bind _ _ g (λ y. parts.bind _ _ (keeps_operate at' spot op s x t y) (λ z. keeps_store k _ s z)))

    keeps_tested : (ty : IntType) (m : M.Act M.Value) → parts.Keeps m → parts.Keeps (tested p M ty m)
    keeps_tested ty m g = parts.bind _ _ g (λ v. parts.bind _ _ (parts.test ty v) (λ t. parts.ret (M.truth t)))

    keeps_to : (to : Option IntType) (from : IntType) (v : M.Value) → parts.Keeps (convert_to p M to from v)
    keeps_to None from v = parts.ret v
    keeps_to (Some to) from v = parts.convert from to v

    keeps_callee : (at' : Where) (site : Site) (callee : Callee) (es : Exps) (close : Spot) (vs : List (M.Value × IntType)) → Called (λ q. q (Call callee es close) || some_part q (Call callee es close)) → parts.Keeps (called p M call at' site callee vs)
    keeps_callee at' site (Defined f) es close vs h = h f (or_left _ _ (same_itself f)) site vs
    keeps_callee at' site (InputOf ty) es close vs h = parts.bind _ _ (parts.draw Input site.spot ty) (λ v. parts.bind _ _ (parts.came_back site v) (λ _. parts.ret v))
    keeps_callee at' site ReachError es close vs h = parts.reach at' site
    keeps_callee at' site Abort es close vs h = parts.ending
    keeps_callee at' site Exit es close vs h = parts.ending

    module _ (at' : Where) where
      mutual
        pub calm_e : (want : Use) (e : Exp) → Called (λ q. some_node q e) → parts.Keeps (eval p M call at' want e)
        calm_e want (Expr spot ty n) h = parts.bind _ _ (parts.tick ANode) (λ _. calm_n want spot ty n h)

        calm_n : (want : Use) (spot : Spot) (ty : Option IntType) (n : Node) → Called (λ q. q n || some_part q n) → parts.Keeps (node p M call at' want spot ty n)
        calm_n want spot ty (Const v) h = parts.ret _
        calm_n want spot ty (Var o) h = parts.look (M.cell o 0)
        calm_n want spot ty (Index o is) h = parts.bind _ _ (calm_es is (right (λ q. q (Index o is)) (λ q. some_argument q is) h)) (λ js. parts.bind _ _ (parts.element spot o js) (λ k. parts.look k))
        calm_n want spot ty (Unary op x) h = parts.bind _ _ (calm_e Used x (right (λ q. q (Unary op x)) (λ q. some_node q x) h)) (λ v. parts.bind _ _ (parts.convert _ _ v) (λ w. parts.answer_one at' spot op _ w))
        calm_n want spot None (Cast x) h = calm_e Unused x (right (λ q. q (Cast x)) (λ q. some_node q x) h)
        calm_n want spot (Some ty) (Cast x) h = parts.bind _ _ (calm_e Used x (right (λ q. q (Cast x)) (λ q. some_node q x) h)) (λ v. parts.convert (type_of x) ty v)
        calm_n want spot ty (Step op x) h =
            parts.bind _ _ (calm_t x (right (λ q. q (Step op x)) (λ q. some_node q x) h)) (λ k. parts.bind _ _ (parts.look k) (λ v.
            parts.bind _ _ (keeps_operate at' spot (op_of_step op) (type_of x) v Int _) (λ w. parts.bind _ _ (keeps_store k _ (type_of x) w) (λ z. parts.ret _))))
        calm_n want spot ty (Binary op x y) h =
            let g = right (λ q. q (Binary op x y)) (λ q. some_node q x || some_node q y) h in
            parts.bind _ _ (calm_e Used x (left (λ q. some_node q x) (λ q. some_node q y) g)) (λ v. parts.bind _ _ (calm_e Used y (right (λ q. some_node q x) (λ q. some_node q y) g)) (λ w. keeps_operate at' spot op (type_of x) v (type_of y) w))
        calm_n want spot ty (Logic true x y) h =
            let g = right (λ q. q (Logic true x y)) (λ q. some_node q x || some_node q y) h in
            parts.bind _ _ (calm_e Used x (left (λ q. some_node q x) (λ q. some_node q y) g)) (λ v. parts.bind _ _ (parts.test _ v) (λ t.
            parts.choose t _ _ (keeps_tested (type_of y) _ (calm_e Used y (right (λ q. some_node q x) (λ q. some_node q y) g))) (parts.ret _)))
        calm_n want spot ty (Logic false x y) h =
            let g = right (λ q. q (Logic false x y)) (λ q. some_node q x || some_node q y) h in
            parts.bind _ _ (calm_e Used x (left (λ q. some_node q x) (λ q. some_node q y) g)) (λ v. parts.bind _ _ (parts.test _ v) (λ t.
            parts.choose t _ _ (parts.ret _) (keeps_tested (type_of y) _ (calm_e Used y (right (λ q. some_node q x) (λ q. some_node q y) g)))))
        calm_n want spot ty (Choose mark e x y) h =
            let g = right (λ q. q (Choose mark e x y)) (λ q. some_node q e || (some_node q x || some_node q y)) h in
            let k = right (λ q. some_node q e) (λ q. some_node q x || some_node q y) g in
            parts.bind _ _ (calm_e Used e (left (λ q. some_node q e) (λ q. some_node q x || some_node q y) g)) (λ v. parts.bind _ _ (parts.test _ v) (λ t. parts.pick mark t _ _
            (parts.bind _ _ (calm_e Used x (left (λ q. some_node q x) (λ q. some_node q y) k)) (λ w. keeps_to ty (type_of x) w))
            (parts.bind _ _ (calm_e Used y (right (λ q. some_node q x) (λ q. some_node q y) k)) (λ w. keeps_to ty (type_of y) w))))
        calm_n want spot ty (Comma x y) h =
            let g = right (λ q. q (Comma x y)) (λ q. some_node q x || some_node q y) h in
            parts.bind _ _ (calm_e Unused x (left (λ q. some_node q x) (λ q. some_node q y) g)) (λ _. calm_e Used y (right (λ q. some_node q x) (λ q. some_node q y) g))
        calm_n want spot ty (Assign op x y) h =
            let g = right (λ q. q (Assign op x y)) (λ q. some_node q x || some_node q y) h in
            parts.bind _ _ (calm_t x (left (λ q. some_node q x) (λ q. some_node q y) g)) (λ k. keeps_assign at' spot op k (type_of x) (type_of y) _ (calm_e Used y (right (λ q. some_node q x) (λ q. some_node q y) g)))
        calm_n want spot ty (Call callee es close) h =
            parts.bind _ _ (calm_es es (right (λ q. q (Call callee es close)) (λ q. some_argument q es) h)) (λ vs. parts.bind _ _ (parts.enter _) (λ _. keeps_callee at' _ callee es close vs h))

        calm_t : (e : Exp) → Called (λ q. some_node q e) → parts.Keeps (target p M call at' e)
        calm_t (Expr spot ty n) h = parts.bind _ _ (parts.tick ANode) (λ _. calm_p spot n (right (λ q. q n) (λ q. some_part q n) h))

        calm_p : (spot : Spot) (n : Node) → Called (λ q. some_part q n) → parts.Keeps (place p M call at' spot n)
        calm_p spot (Index o is) h = parts.bind _ _ (calm_es is h) (λ js. parts.element spot o js)
        calm_p spot (Var o) h = parts.ret _
        calm_p spot (Const v) h = parts.ret _
        calm_p spot (Unary op x) h = parts.ret _
        calm_p spot (Cast x) h = parts.ret _
        calm_p spot (Step op x) h = parts.ret _
        calm_p spot (Binary op x y) h = parts.ret _
        calm_p spot (Logic both x y) h = parts.ret _
        calm_p spot (Choose mark e x y) h = parts.ret _
        calm_p spot (Comma x y) h = parts.ret _
        calm_p spot (Assign op x y) h = parts.ret _
        calm_p spot (Call callee es close) h = parts.ret _

        calm_es : (es : Exps) → Called (λ q. some_argument q es) → parts.Keeps (evals p M call at' es)
        calm_es NoExp h = parts.ret _
        calm_es (MoreExp e es) h =
            parts.bind _ _ (calm_e Used e (left (λ q. some_node q e) (λ q. some_argument q es) h)) (λ v. parts.bind _ _ (calm_es es (right (λ q. some_node q e) (λ q. some_argument q es) h)) (λ vs. parts.ret _))

    -- full expressions
    abbrev pub Fulls : List Exp → Type 0
    Fulls es = Called (λ q. some_of (some_node q) es)

    front : (xs ys : List Exp) → Fulls (xs ++ ys) → Fulls xs
    front xs ys h = λ f e. h f (some-append (some_node (calls f)) xs ys ∙ or_left _ _ e)

    back : (xs ys : List Exp) → Fulls (xs ++ ys) → Fulls ys
    back xs ys h = λ f e. h f (some-append (some_node (calls f)) xs ys ∙ or_right (some_of (some_node (calls f)) xs) _ e)

    head : (e : Exp) (es : List Exp) → Fulls (e ∷ es) → Called (λ q. some_node q e)
    head e es h = λ f z. h f (or_left _ _ z)

    tail : (e : Exp) (es : List Exp) → Fulls (e ∷ es) → Fulls es
    tail e es h = λ f z. h f (or_right (some_node (calls f) e) _ z)

    calm_full : (at' : Spot) (want : Use) (e : Exp) → Called (λ q. some_node q e) → parts.Keeps (full p M call at' want e)
    calm_full at' want e h = calm_e _ want e h

    calm_control : (c d : ℕ) (at' : Spot) (e : Exp) (x y : M.Done) → Called (λ q. some_node q e) → parts.Moves c d x → parts.Moves c d y → parts.Moves c d (control p M call at' e x y)
    calm_control c d at' e x y h g k = parts.using c d _ _ (calm_full at' Used e h) (λ v. parts.using c d _ _ (parts.test _ v) (λ t. parts.branch c d at' t x y g k))

    calm_going : (d : ℕ) (at' : Spot) (e : Option Exp) (x : M.Done) → Fulls (exp_if e) → parts.Moves 0 d x → parts.Moves 0 d (going p M call at' e x)
    calm_going d at' None x h g = g
    calm_going d at' (Some e) x h g = calm_control 0 d at' e x M.leave (head e [] h) g (parts.leave 0 d)

    calm_full_if : (d : ℕ) (at' : Spot) (e : Option Exp) (x : M.Done) → Fulls (exp_if e) → parts.Moves 0 d x → parts.Moves 0 d (full_if p M call at' e x)
    calm_full_if d at' None x h g = g
    calm_full_if d at' (Some e) x h g = parts.using 0 d _ _ (calm_full at' Unused e (head e [] h)) (λ _. g)

    calm_draws : (spot : Spot) (o i n : ℕ) → parts.Keeps (draw_cells p M call spot o i n)
    calm_draws spot o i zero = parts.ret tt
    calm_draws spot o i (suc n) = parts.bind _ _ (parts.draw ACellDraw spot (type_of_object p o)) (λ v. parts.bind _ _ (parts.write (M.cell o i) v) (λ _. calm_draws spot o (suc i) n))

    calm_initials : (at' : Spot) (o i : ℕ) (es : Exps) → Called (λ q. some_argument q es) → parts.Keeps (initials p M call at' o i es)
    calm_initials at' o i NoExp h = parts.ret tt
    calm_initials at' o i (MoreExp e es) h =
        parts.bind _ _ (calm_full at' Used e (left (λ q. some_node q e) (λ q. some_argument q es) h)) (λ v. parts.bind _ _ (parts.convert _ _ v) (λ w.
        parts.bind _ _ (parts.write _ w) (λ _. calm_initials at' o (suc i) es (right (λ q. some_node q e) (λ q. some_argument q es) h))))

    calm_rows : (at' : Spot) (o i : ℕ) (rows : List Exps) → Fulls (flat_map exps_in rows) → parts.Keeps (row_initials p M call at' o i rows)
    calm_rows at' o i [] h = parts.ret tt
    calm_rows at' o i (es ∷ rows) h =
        let g = front (exps_in es) (flat_map exps_in rows) h in
        parts.bind _ _ (calm_initials at' o i es (λ f e. g f (some_exps (calls f) es ∙ e))) (λ _. calm_rows at' o (i + columns_of_object p o) rows (back (exps_in es) (flat_map exps_in rows) h))

    calm_initial : (at' spot : Spot) (o : ℕ) (i : Init) → Fulls (fulls_of_init i) → parts.Keeps (initial p M call at' spot o i)
    calm_initial at' spot o Absent h = calm_draws spot o 0 (size_of_object p o)
    calm_initial at' spot o (One e) h = calm_initials at' o 0 (MoreExp e NoExp) h
    calm_initial at' spot o (Many es) h = calm_initials at' o 0 es (λ f e. h f (some_exps (calls f) es ∙ e))
    calm_initial at' spot o (Rows rows) h = calm_rows at' o 0 rows h

    pub keeps_ticks : (t : Tick) (n : ℕ) → parts.Keeps (ticks p M t n)
    keeps_ticks t zero = parts.ret tt
    keeps_ticks t (suc n) = parts.bind _ _ (parts.tick t) (λ _. keeps_ticks t n)

    pub calm_declare : (at' : Spot) (ns : Names) → Fulls (fulls_of_names ns) → parts.Moves (sizes (objects_of_names ns)) (sizes (objects_of_names ns)) (declare p M call at' ns)
    calm_declare at' NoName h = parts.next 0
    calm_declare at' (MoreName spot o i ns) h =
        let c = size_of_object p o in
        let e = sizes (objects_of_names ns) in
        parts.using (c + e) (c + e) _ _ (keeps_ticks ACell c) (λ _. parts.room (c + e) (c + e) c _ (omega arith) (parts.seq c c e e _ _ (omega arith) (parts.declare o c)
        (parts.using e e _ _ (calm_initial at' spot o i (front (fulls_of_init i) (fulls_of_names ns) h)) (λ _. calm_declare at' ns (back (fulls_of_init i) (fulls_of_names ns) h)))))

    moves_sized : (c d e : ℕ) (m : M.Done) → d ≡ e → parts.Moves c d m → parts.Moves c e m
    moves_sized c d e m q g = subst (λ x. parts.Moves c x m) q g

    calm_return : (result : Option IntType) (c d : ℕ) (at' : Spot) (e : Option Exp) → Fulls (exp_if e) → parts.Moves c d (form p M call result at' (Return e))
    calm_return result c d at' None h = parts.give c d None
    calm_return result c d at' (Some e) h = parts.using c d _ _ (calm_full at' Used e (head e [] h)) (λ v. parts.using c d _ _ (keeps_to result (type_of e) v) (λ w. parts.give c d (Some w)))

    module _ (result : Option IntType) where
      calm_first : (d : ℕ) (at' : Spot) (i : First) (k : M.Done) → Fulls (fulls_of_first i) → parts.Moves 0 d k → (c : ℕ) × parts.Moves c (sizes (objects_of_first i) + d) (first p M call at' i k)
      calm_first d at' NoFirst k h g = (0, moves_sized 0 d (0 + d) k (omega arith) g)
      calm_first d at' (FirstExp e) k h g = (0, moves_sized 0 d (0 + d) _ (omega arith) (parts.using 0 d _ _ (calm_full at' Unused e (head e [] h)) (λ _. g)))
      calm_first d at' (FirstNames ns) k h g = let c = sizes (objects_of_names ns) in (c + 0, parts.seq c c 0 d _ k (omega arith) (calm_declare at' ns h) g)

      mutual
        pub calm_s : (s : Stm) → Fulls (fulls_of s) → parts.Moves (own_size s) (sizes (declared_in s)) (exec p M call result s)
        calm_s (Stmt at' f) h = parts.using _ _ _ _ (parts.tick AStatement) (λ _. parts.using _ _ _ _ (parts.here at') (λ _. calm_f at' f h))

        pub calm_f : (at' : Spot) (f : Form) → Fulls (fulls_of_form f) → parts.Moves (own_size_form f) (sizes (declared_in_form f)) (form p M call result at' f)
        calm_f at' Empty h = parts.next 0
        calm_f at' (Do e) h = parts.using 0 0 _ _ (calm_full at' Unused e (head e [] h)) (λ _. parts.next 0)
        calm_f at' (Declare ns) h = calm_declare at' ns h
        calm_f at' (Block b) h = parts.scoped (own_sizes b) (sizes (declared_in_block b)) _ (calm_b b h)
        calm_f at' (If e x y) h =
            let g = tail e (fulls_of x ++ fulls_of_else y) h in
            let k = sizes-append (declared_in x) (declared_in_else y) in
            calm_control 0 _ at' e _ _ (head e (fulls_of x ++ fulls_of_else y) h)
            (parts.wider 0 (sizes (declared_in x)) _ _ (omega (arith, k)) (parts.scoped (own_size x) (sizes (declared_in x)) _ (calm_s x (front (fulls_of x) (fulls_of_else y) g))))
            (parts.wider 0 (sizes (declared_in_else y)) _ _ (omega (arith, k)) (calm_else y (back (fulls_of x) (fulls_of_else y) g)))
        calm_f at' (While e b) h =
            let d = sizes (declared_in b) in
            parts.loop d at' _ _ (calm_control 0 d at' e _ _ (head e (fulls_of b) h) (parts.continued (own_size b) d _ (calm_s b (tail e (fulls_of b) h))) (parts.leave 0 d))
        calm_f at' (DoWhile b e) h =
            let d = sizes (declared_in b) in
            parts.loop d at' _ _ (parts.wider 0 (d + 0) d _ (omega arith) (parts.seq 0 d 0 0 _ _ (omega arith) (parts.continued (own_size b) d _ (calm_s b (front (fulls_of b) (e ∷ []) h))) (calm_control 0 0 at' e _ _ (head e [] (back (fulls_of b) (e ∷ []) h)) (parts.next 0) (parts.leave 0 0))))
        calm_f at' (For i e s b) h =
            let d = sizes (declared_in b) in
            let x = subst Fulls (ap (λ es. es ++ fulls_of b) (append_assoc (fulls_of_first i) (exp_if e) (exp_if s)) ∙ append_assoc (fulls_of_first i) (exp_if e ++ exp_if s) (fulls_of b)) h in
            let v = back (fulls_of_first i) (exp_if e ++ exp_if s ++ fulls_of b) x in
            let u = front (exp_if e ++ exp_if s) (fulls_of b) v in
            let turn : parts.Moves 0 d (for_turn p M call at' e s (exec p M call result b)) =
            calm_going d at' e _ (front (exp_if e) (exp_if s) u) (parts.wider 0 (d + 0) d _ (omega arith) (parts.seq 0 d 0 0 _ _ (omega arith) (parts.continued (own_size b) d _ (calm_s b (back (exp_if e ++ exp_if s) (fulls_of b) v))) (calm_full_if 0 at' s _ (back (exp_if e) (exp_if s) u) (parts.next 0)))) in
            let g = calm_first d at' i _ (front (fulls_of_first i) (exp_if e ++ exp_if s ++ fulls_of b) x) (parts.loop d at' (ForLoop e s b) _ turn) in
            moves_sized 0 (sizes (objects_of_first i) + d) _ _ (sym (sizes-append (objects_of_first i) (declared_in b))) (parts.scoped g.0 (sizes (objects_of_first i) + d) _ g.1)
        calm_f at' Break h = parts.leave 0 0
        calm_f at' Continue h = parts.again 0 0
        calm_f at' (Return e) h = calm_return result 0 0 at' e h
        calm_f at' (Label b) h = calm_s b h
        calm_f at' (Switch e b) h =
            let d = sizes (declared_in_block b) in
            parts.using 0 d _ _ (calm_full at' Used e (head e (fulls_of_block b) h)) (λ v. parts.using 0 d _ _ (parts.convert _ _ v) (λ w.
            parts.using 0 d _ _ (parts.select at' (promote_of (type_of e)) w (labels_in b)) (λ n. calm_arms n b (tail e (fulls_of_block b) h))))

        calm_else : (b : Else) → Fulls (fulls_of_else b) → parts.Moves 0 (sizes (declared_in_else b)) (otherwise p M call result b)
        calm_else NoElse h = parts.next 0
        calm_else (OrElse b) h = parts.scoped (own_size b) (sizes (declared_in b)) _ (calm_s b h)

        calm_b : (b : Stms) → Fulls (fulls_of_block b) → parts.Moves (own_sizes b) (sizes (declared_in_block b)) (execs p M call result b)
        calm_b NoStm h = parts.next 0
        calm_b (MoreStm s b) h =
            moves_sized _ _ _ _ (sym (sizes-append (declared_in s) (declared_in_block b)))
            (parts.seq (own_size s) (sizes (declared_in s)) (own_sizes b) (sizes (declared_in_block b)) _ _ (own_small s) (calm_s s (front (fulls_of s) (fulls_of_block b) h)) (calm_b b (back (fulls_of s) (fulls_of_block b) h)))
        calm_b (MoreCase spot l b) h = calm_b b h

        calm_arms : (n : ℕ) (b : Stms) → Fulls (fulls_of_block b) → parts.Moves 0 (sizes (declared_in_block b)) (from_arm p M call result n b)
        calm_arms n NoStm h = parts.next 0
        calm_arms n (MoreStm s b) h =
            let k = sizes-append (declared_in s) (declared_in_block b) in
            parts.wider 0 (sizes (declared_in_block b)) _ _ (omega (arith, k)) (calm_arms n b (back (fulls_of s) (fulls_of_block b) h))
        calm_arms zero (MoreCase spot l b) h = parts.breaks (own_sizes b) (sizes (declared_in_block b)) _ (calm_b b h)
        calm_arms (suc n) (MoreCase spot l b) h = calm_arms n b h

      pub calm_body : (s : Stm) → Fulls (fulls_of s) → parts.Moves (own_size s) (sizes (declared_in s)) (body p M call result s)
      calm_body (Stmt at' f) h = parts.using _ _ _ _ (parts.tick AStatement) (λ _. calm_f at' f h)

    -- each parameter is one cell
    pub calm_params : (c d : ℕ) (os : List ℕ) (vs : List (M.Value × IntType)) (k : M.Done) → parts.Moves c d k → parts.Moves (params_and os c) (params_and os d) (with_params p M os vs k)
    calm_params c d [] vs k g = g
    calm_params c d (o ∷ os) [] k g = parts.seq 1 1 (params_and os c) (params_and os d) _ _ (omega arith) (parts.declare o 1) (calm_params c d os [] k g)
    calm_params c d (o ∷ os) (v ∷ vs) k g =
        parts.seq 1 1 (params_and os c) (params_and os d) _ _ (omega arith) (parts.declare o 1)
        (parts.using (params_and os c) (params_and os d) _ _ (parts.convert v.1 (type_of_object p o) v.0) (λ w. parts.using (params_and os c) (params_and os d) _ _ (parts.write (M.cell o 0) w) (λ _. calm_params c d os vs k g)))
