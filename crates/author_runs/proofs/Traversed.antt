-- What the parts of a meaning keep, where each call is known by its ends and each statement by its place, the meaning
-- of every tree keeps.
use Rattle.std.proofs.Common.{◌≡◌, ℕ, zero, suc, ◌+◌, true, false, List, [], ◌∷◌, ◌++◌, length, Option, Some, None, slice_get, refl}
use Rattle.std.proofs.lemmas.Bool.{false≢true}
use Rattle.std.specs.List.{flat_map}
use Rattle.c_core.specs.Parts.{exps_in, exp_if, exps_of, exps_of_node, exps_of_arguments, fulls_of_init, fulls_of_names, fulls_of_first, own_fulls, own_fulls_of, spot_of_statement, statements_of, statements_of_form, statements_of_else, statements_of_block}
use Rattle.c_core.specs.Scope.{is_block, is_block_form}
use Rattle.c_core.specs.Types.{promote_of}
use Rattle.c_core.specs.Typing.{labels_in}
use Rattle.c_core.specs.Tree.{Exp, Expr, Node, Const, Var, Index, Unary, Cast, Step, Binary, Logic, Choose, Comma, Assign, Call, Exps, NoExp, MoreExp, Init, Absent, One, Many, Rows, Names, NoName, MoreName, First, NoFirst, FirstExp, FirstNames, Stm, Stmt, Form, Empty, Do, Declare, Block, If, While, DoWhile, For, Break, Continue, Return, Label, Switch, Else, NoElse, OrElse, Stms, NoStm, MoreStm, MoreCase, Function, Program}
use Rattle.c_core.specs.declared.number.IntType.{IntType}
use Rattle.c_core.specs.declared.number.IntType.TheVariants.{Int}
use Rattle.c_core.specs.declared.number.Spot.{Spot}
use Rattle.c_core.specs.declared.number.BinOp.{BinOp}
use Rattle.c_core.specs.declared.number.UnOp.{UnOp}
use Rattle.c_core.specs.declared.tree.Callee.{Callee}
use Rattle.c_core.specs.declared.tree.Label.{Label as ArmLabel}
use Rattle.c_core.specs.declared.tree.Callee.TheVariants.{Defined, Input as InputOf, ReachError, Abort, Exit}
use Rattle.c_meaning.specs.declared.run.DrawKind.TheVariants.{Input, Cell}
use Rattle.c_meaning.specs.Meaning.{Tick, AStatement, ANode, ACell, AParameter, Use, Used, Unused, Where, Site, Loop, WhileLoop, DoLoop, ForLoop, Meaning, Calls}
use Rattle.c_meaning.specs.Objects.{type_of, columns_of_object}
use Rattle.c_meaning.specs.Eval.{convert_to, operate, store, assign, tested, called, eval, node, target, place, evals}
use Rattle.c_meaning.specs.Exec.{ticks, full, full_if, control, going, while_turn, do_turn, for_turn, draw_cells, initials, row_initials, initial, declare, first, exec, form, otherwise, execs, from_arm, body, with_params, call_of, run_in, run_if, run_main}
use Rattle.author_runs.proofs.Each.{Each, each_front, each_back, each_at}

-- ---- what is known of the parts of a program

-- the statements inside a statement
abbrev pub inside : Stm → List Stm
inside (Stmt at f) = statements_of_form f

module _ (Ends : Callee → Spot → Spot → Type 0) where
  abbrev IsKnownNode : Spot → Node → Type 0
  IsKnownNode spot (Call callee es close) = Ends callee spot close
  IsKnownNode spot _ = Unit {0}

  -- a call begins and ends as such calls do
  abbrev pub IsKnown : Exp → Type 0
  IsKnown (Expr spot ty n) = IsKnownNode spot n

  -- and so do those in full expressions
  abbrev pub AreKnown : List Exp → Type 0
  AreKnown es = Each (λ e. Each IsKnown (exps_of e)) es

  module _ (In : Spot → Type 0) where
    -- a statement stands where statements do
    abbrev pub Stands : Stm → Type 0
    Stands s = In (spot_of_statement s) × AreKnown (own_fulls_of s)

    -- a body is a block, which is no place of a statement
    abbrev pub IsBody : Stm → Type 0
    IsBody s = (is_block s ≡ true) × Each Stands (inside s)

-- what is kept by the parts of a meaning
pub record Kept (p : Program) (M : Meaning) (Ends : Callee → Spot → Spot → Type 0) (In : Spot → Type 0) : Type 1 where
  pub Acts : (A : Type 0) → M.Act A → Type 0
  pub Dones : M.Done → Type 0
  pub ret : (A : Type 0) (a : A) → Acts A (M.ret a)
  pub bind : (A B : Type 0) (m : M.Act A) (k : A → M.Act B) → Acts A m → ((a : A) → Acts B (k a)) → Acts B (M.bind m k)
  pub using : (A : Type 0) (m : M.Act A) (k : A → M.Done) → Acts A m → ((a : A) → Dones (k a)) → Dones (M.using m k)
  pub tick : (t : Tick) → Acts (Unit {0}) (M.tick t)
  pub room : (n : ℕ) → Acts (Unit {0}) (M.room n)
  pub convert : (from to : IntType) (v : M.Value) → Acts M.Value (M.convert from to v)
  pub test : (ty : IntType) (v : M.Value) → Acts M.Truth (M.test ty v)
  pub cell : (spot : Spot) (ty : IntType) → Acts M.Value (M.draw Cell spot ty)
  pub input : (site : Site) (ty : IntType) → Ends (InputOf ty) site.spot site.close
      → Acts M.Value (M.bind (M.draw Input site.spot ty) (λ v. M.bind (M.came_back site v) (λ _. M.ret v)))
  pub element : (spot : Spot) (o n c : ℕ) (vs : List (M.Value × IntType)) → Acts M.Target (M.element spot o n c vs)
  pub look : (x : M.Target) → Acts M.Value (M.look x)
  pub write : (x : M.Target) (v : M.Value) → Acts (Unit {0}) (M.write x v)
  pub answer : (at : Where) (spot : Spot) (op : BinOp) (ty : IntType) (x : M.Value) (right : IntType) (y : M.Value)
      → In at.statement → Acts M.Value (M.answer at spot op ty x right y)
  pub answer_one : (at : Where) (spot : Spot) (op : UnOp) (ty : IntType) (x : M.Value) → In at.statement
      → Acts M.Value (M.answer_one at spot op ty x)
  pub choose : (t : M.Truth) (a b : M.Act M.Value) → Acts M.Value a → Acts M.Value b → Acts M.Value (M.choose t a b)
  pub pick : (mark : Spot) (t : M.Truth) (a b : M.Act M.Value) → Acts M.Value a → Acts M.Value b
      → Acts M.Value (M.pick mark t a b)
  pub enter : (site : Site) → Acts (Unit {0}) (M.enter site)
  pub reach : (at : Where) (site : Site) → In at.statement → Acts M.Value (M.reach at site)
  pub ending : Acts M.Value M.ending
  pub called : (site : Site) (f : ℕ) (a : M.Done) → Ends (Defined f) site.spot site.close → Dones a
      → Acts M.Value (M.called site a)
  pub missing : Acts M.Value M.missing
  pub here : (at : Spot) → Acts (Unit {0}) (M.here at)
  pub declare : (o n : ℕ) → Dones (M.declare o n)
  pub branch : (at : Spot) (t : M.Truth) (a b : M.Done) → Dones a → Dones b → Dones (M.branch at t a b)
  pub select : (at : Spot) (ty : IntType) (v : M.Value) (ls : List ArmLabel) → Acts ℕ (M.select at ty v ls)
  pub next : Dones M.next
  pub leave : Dones M.leave
  pub again : Dones M.again
  pub give : (v : Option M.Value) → Dones (M.give v)
  pub seq : (a b : M.Done) → Dones a → Dones b → Dones (M.seq a b)
  pub scoped : (a : M.Done) → Dones a → Dones (M.scoped a)
  pub continued : (a : M.Done) → Dones a → Dones (M.continued a)
  pub breaks : (a : M.Done) → Dones a → Dones (M.breaks a)
  pub loop : (at : Spot) (l : Loop) (a : M.Done) → Dones a → Dones (M.loop at l a)
  pub deep : Dones M.deep

module _ (p : Program) (M : Meaning) (Ends : Callee → Spot → Spot → Type 0) (In : Spot → Type 0)
    (k : Kept p M Ends In) where
  -- what is known of an expression and of all in it
  abbrev Known : List Exp → Type 0
  Known es = Each (IsKnown Ends) es

  abbrev Fulls : List Exp → Type 0
  Fulls es = AreKnown Ends es

  abbrev Statements : List Stm → Type 0
  Statements ss = Each (Stands Ends In) ss

  known_front : (xs ys : List Exp) → Known (xs ++ ys) → Known xs
  known_front xs ys h = each_front (IsKnown Ends) xs ys h

  known_back : (xs ys : List Exp) → Known (xs ++ ys) → Known ys
  known_back xs ys h = each_back (IsKnown Ends) xs ys h

  fulls_front : (xs ys : List Exp) → Fulls (xs ++ ys) → Fulls xs
  fulls_front xs ys h = each_front (λ e. Known (exps_of e)) xs ys h

  fulls_back : (xs ys : List Exp) → Fulls (xs ++ ys) → Fulls ys
  fulls_back xs ys h = each_back (λ e. Known (exps_of e)) xs ys h

  front : (xs ys : List Stm) → Statements (xs ++ ys) → Statements xs
  front xs ys h = each_front (Stands Ends In) xs ys h

  back : (xs ys : List Stm) → Statements (xs ++ ys) → Statements ys
  back xs ys h = each_back (Stands Ends In) xs ys h

  ticked : (A : Type 0) (t : Tick) (m : M.Act A) → k.Acts A m → k.Acts A (M.bind (M.tick t) (λ _. m))
  ticked A t m h = k.bind _ _ _ _ (k.tick t) (λ _. h)

  kept_as : (to : Option IntType) (from : IntType) (v : M.Value) → k.Acts M.Value (convert_to p M to from v)
  kept_as None from v = k.ret _ v
  kept_as (Some to) from v = k.convert from to v

  kept_store : (x : M.Target) (from to : IntType) (v : M.Value) → k.Acts M.Value (store p M x from to v)
  kept_store x from to v = k.bind _ _ _ _ (k.convert from to v) (λ w. k.bind _ _ _ _ (k.write x w) (λ _. k.ret _ w))

  kept_tested : (ty : IntType) (m : M.Act M.Value) → k.Acts M.Value m → k.Acts M.Value (tested p M ty m)
  kept_tested ty m h = k.bind _ _ _ _ h (λ v. k.bind _ _ _ _ (k.test ty v) (λ t. k.ret _ _))

  module _ (c : Calls M)
      (calls : (site : Site) (f : ℕ) (vs : List (M.Value × IntType)) → Ends (Defined f) site.spot site.close
      → k.Acts M.Value (c site f vs)) where
    module _ (at : Where) (stands : In at.statement) where
      kept_operate : (spot : Spot) (op : BinOp) (a : IntType) (x : M.Value) (b : IntType) (y : M.Value)
          → k.Acts M.Value (operate p M at spot op a x b y)
      kept_operate spot op a x b y =
          k.bind _ _ _ _ (k.convert a _ x)
          (λ v. k.bind _ _ _ _ (k.convert b _ y) (λ w. k.answer at spot op _ v _ w stands))

      kept_assign : (spot : Spot) (op : Option BinOp) (x : M.Target) (a b : IntType) (m : M.Act M.Value)
          → k.Acts M.Value m → k.Acts M.Value (assign p M at spot op x a b m)
      kept_assign spot None x a b m f = k.bind _ _ _ _ f (λ v. kept_store x _ _ v)
      kept_assign spot (Some op) x a b m f =
          k.bind _ _ _ _ (k.look x)
          (λ v. k.bind _ _ _ _ f (λ w. k.bind _ _ _ _ (kept_operate spot op _ v _ w) (λ z. kept_store x _ _ z)))

      kept_called : (site : Site) (callee : Callee) (vs : List (M.Value × IntType)) → Ends callee site.spot site.close
          → k.Acts M.Value (called p M c at site callee vs)
      kept_called site (Defined f) vs h = calls site f vs h
      kept_called site (InputOf ty) vs h = k.input site ty h
      kept_called site ReachError vs h = k.reach at site stands
      kept_called site Abort vs h = k.ending
      kept_called site Exit vs h = k.ending

      mutual
        pub kept_eval : (want : Use) (e : Exp) → Known (exps_of e) → k.Acts M.Value (eval p M c at want e)
        kept_eval want (Expr spot ty n) h = ticked _ ANode _ (kept_node want spot ty n h.0 h.1)

        kept_node : (want : Use) (spot : Spot) (ty : Option IntType) (n : Node) → IsKnown Ends (Expr spot ty n)
            → Known (exps_of_node n) → k.Acts M.Value (node p M c at want spot ty n)
        kept_node want spot ty (Const v) h g = k.ret _ _
        kept_node want spot ty (Var o) h g = k.look _
        kept_node want spot ty (Index o is) h g =
            k.bind _ _ _ _ (kept_evals is g) (λ vs. k.bind _ _ _ _ (k.element spot o _ _ vs) (λ x. k.look x))
        kept_node want spot ty (Unary op a) h g =
            k.bind _ _ _ _ (kept_eval Used a g)
            (λ v. k.bind _ _ _ _ (k.convert _ _ v) (λ w. k.answer_one at spot op _ w stands))
        kept_node want spot None (Cast a) h g = kept_eval Unused a g
        kept_node want spot (Some ty) (Cast a) h g = k.bind _ _ _ _ (kept_eval Used a g) (λ v. k.convert _ ty v)
        kept_node want spot ty (Step op a) h g =
            k.bind _ _ _ _ (kept_target a g) (λ x. k.bind _ _ _ _ (k.look x) (λ v.
            k.bind _ _ _ _ (kept_operate spot _ _ v Int _) (λ y. k.bind _ _ _ _ (kept_store x _ _ y) (λ z. k.ret _ _))))
        kept_node want spot ty (Binary op a b) h g =
            k.bind _ _ _ _ (kept_eval Used a (known_front (exps_of a) (exps_of b) g))
            (λ v. k.bind _ _ _ _ (kept_eval Used b (known_back (exps_of a) (exps_of b) g))
            (λ w. kept_operate spot op _ v _ w))
        kept_node want spot ty (Logic true a b) h g =
            k.bind _ _ _ _ (kept_eval Used a (known_front (exps_of a) (exps_of b) g))
            (λ v. k.bind _ _ _ _ (k.test _ v) (λ t.
            k.choose t _ _ (kept_tested _ _ (kept_eval Used b (known_back (exps_of a) (exps_of b) g))) (k.ret _ _)))
        kept_node want spot ty (Logic false a b) h g =
            k.bind _ _ _ _ (kept_eval Used a (known_front (exps_of a) (exps_of b) g))
            (λ v. k.bind _ _ _ _ (k.test _ v) (λ t.
            k.choose t _ _ (k.ret _ _) (kept_tested _ _ (kept_eval Used b (known_back (exps_of a) (exps_of b) g)))))
        kept_node want spot ty (Choose mark e a b) h g =
            let two = known_front (exps_of e ++ exps_of a) (exps_of b) g in
            k.bind _ _ _ _ (kept_eval Used e (known_front (exps_of e) (exps_of a) two))
            (λ v. k.bind _ _ _ _ (k.test _ v) (λ t.
            k.pick mark t _ _ (k.bind _ _ _ _ (kept_eval Used a (known_back (exps_of e) (exps_of a) two))
            (λ w. kept_as ty _ w))
            (k.bind _ _ _ _ (kept_eval Used b (known_back (exps_of e ++ exps_of a) (exps_of b) g))
            (λ w. kept_as ty _ w))))
        kept_node want spot ty (Comma a b) h g =
            k.bind _ _ _ _ (kept_eval Unused a (known_front (exps_of a) (exps_of b) g))
            (λ _. kept_eval Used b (known_back (exps_of a) (exps_of b) g))
        kept_node want spot ty (Assign op a b) h g =
            k.bind _ _ _ _ (kept_target a (known_front (exps_of a) (exps_of b) g))
            (λ x. kept_assign spot op x _ _ _ (kept_eval Used b (known_back (exps_of a) (exps_of b) g)))
        kept_node want spot ty (Call callee es close) h g =
            k.bind _ _ _ _ (kept_evals es g) (λ vs. k.bind _ _ _ _ (k.enter _) (λ _. kept_called _ callee vs h))

        kept_target : (e : Exp) → Known (exps_of e) → k.Acts M.Target (target p M c at e)
        kept_target (Expr spot ty n) h = ticked _ ANode _ (kept_place spot n h.1)

        kept_place : (spot : Spot) (n : Node) → Known (exps_of_node n) → k.Acts M.Target (place p M c at spot n)
        kept_place spot (Index o is) g = k.bind _ _ _ _ (kept_evals is g) (λ vs. k.element spot o _ _ vs)
        kept_place spot (Var o) g = k.ret _ _
        kept_place spot (Const v) g = k.ret _ _
        kept_place spot (Unary op a) g = k.ret _ _
        kept_place spot (Cast a) g = k.ret _ _
        kept_place spot (Step op a) g = k.ret _ _
        kept_place spot (Binary op a b) g = k.ret _ _
        kept_place spot (Logic both a b) g = k.ret _ _
        kept_place spot (Choose mark e a b) g = k.ret _ _
        kept_place spot (Comma a b) g = k.ret _ _
        kept_place spot (Assign op a b) g = k.ret _ _
        kept_place spot (Call callee es close) g = k.ret _ _

        kept_evals : (es : Exps) → Known (exps_of_arguments es) → k.Acts (List (M.Value × IntType)) (evals p M c at es)
        kept_evals NoExp g = k.ret _ _
        kept_evals (MoreExp e es) g =
            k.bind _ _ _ _ (kept_eval Used e (known_front (exps_of e) (exps_of_arguments es) g)) (λ v.
            k.bind _ _ _ _ (kept_evals es (known_back (exps_of e) (exps_of_arguments es) g)) (λ vs. k.ret _ _))

    -- of a statement that stands there
    module _ (at : Spot) (stands : In at) where
      kept_full : (want : Use) (e : Exp) → Known (exps_of e) → k.Acts M.Value (full p M c at want e)
      kept_full want e h = kept_eval _ stands want e h

      kept_full_if : (e : Option Exp) (a : M.Done) → Fulls (exp_if e) → k.Dones a → k.Dones (full_if p M c at e a)
      kept_full_if None a h f = f
      kept_full_if (Some e) a h f = k.using _ _ _ (kept_full Unused e h.0) (λ _. f)

      kept_control : (e : Exp) (a b : M.Done) → Known (exps_of e) → k.Dones a → k.Dones b
          → k.Dones (control p M c at e a b)
      kept_control e a b h f g =
          k.using _ _ _ (kept_full Used e h) (λ v. k.using _ _ _ (k.test _ v) (λ t. k.branch at t a b f g))

      kept_going : (e : Option Exp) (a : M.Done) → Fulls (exp_if e) → k.Dones a → k.Dones (going p M c at e a)
      kept_going None a h f = f
      kept_going (Some e) a h f = kept_control e a M.leave h.0 f k.leave

      kept_while : (e : Exp) (a : M.Done) → Known (exps_of e) → k.Dones a → k.Dones (while_turn p M c at e a)
      kept_while e a h f = kept_control e _ _ h (k.continued a f) k.leave

      kept_do : (e : Exp) (a : M.Done) → Known (exps_of e) → k.Dones a → k.Dones (do_turn p M c at a e)
      kept_do e a h f = k.seq _ _ (k.continued a f) (kept_control e _ _ h k.next k.leave)

      kept_for : (e s : Option Exp) (a : M.Done) → Fulls (exp_if e) → Fulls (exp_if s) → k.Dones a
          → k.Dones (for_turn p M c at e s a)
      kept_for e s a h g f = kept_going e _ h (k.seq _ _ (k.continued a f) (kept_full_if s _ g k.next))

      kept_draws : (spot : Spot) (o i n : ℕ) → k.Acts (Unit {0}) (draw_cells p M c spot o i n)
      kept_draws spot o i zero = k.ret _ _
      kept_draws spot o i (suc n) =
          k.bind _ _ _ _ (k.cell spot _) (λ v. k.bind _ _ _ _ (k.write _ v) (λ _. kept_draws spot o (suc i) n))

      kept_initials : (o i : ℕ) (es : Exps) → Fulls (exps_in es) → k.Acts (Unit {0}) (initials p M c at o i es)
      kept_initials o i NoExp h = k.ret _ _
      kept_initials o i (MoreExp e es) h =
          k.bind _ _ _ _ (kept_full Used e h.0)
          (λ v. k.bind _ _ _ _ (k.convert _ _ v)
          (λ w. k.bind _ _ _ _ (k.write _ w) (λ _. kept_initials o (suc i) es h.1)))

      kept_rows : (o i : ℕ) (rows : List Exps) → Fulls (flat_map exps_in rows)
          → k.Acts (Unit {0}) (row_initials p M c at o i rows)
      kept_rows o i [] h = k.ret _ _
      kept_rows o i (es ∷ rows) h =
          k.bind _ _ _ _ (kept_initials o i es (fulls_front (exps_in es) (flat_map exps_in rows) h))
          (λ _. kept_rows o (i + columns_of_object p o) rows (fulls_back (exps_in es) (flat_map exps_in rows) h))

      kept_initial : (spot : Spot) (o : ℕ) (i : Init) → Fulls (fulls_of_init i)
          → k.Acts (Unit {0}) (initial p M c at spot o i)
      kept_initial spot o Absent h = kept_draws spot o 0 _
      kept_initial spot o (One e) h = kept_initials o 0 (MoreExp e NoExp) h
      kept_initial spot o (Many es) h = kept_initials o 0 es h
      kept_initial spot o (Rows rows) h = kept_rows o 0 rows h

      kept_ticks : (t : Tick) (n : ℕ) → k.Acts (Unit {0}) (ticks p M t n)
      kept_ticks t zero = k.ret _ _
      kept_ticks t (suc n) = ticked _ t _ (kept_ticks t n)

      kept_declare : (ns : Names) → Fulls (fulls_of_names ns) → k.Dones (declare p M c at ns)
      kept_declare NoName h = k.next
      kept_declare (MoreName spot o i ns) h =
          k.using _ _ _ (kept_ticks ACell _) (λ _. k.using _ _ _ (k.room _) (λ _. k.seq _ _ (k.declare o _)
          (k.using _ _ _ (kept_initial spot o i (fulls_front (fulls_of_init i) (fulls_of_names ns) h))
          (λ _. kept_declare ns (fulls_back (fulls_of_init i) (fulls_of_names ns) h)))))

      kept_first : (i : First) (a : M.Done) → Fulls (fulls_of_first i) → k.Dones a → k.Dones (first p M c at i a)
      kept_first NoFirst a h f = f
      kept_first (FirstExp e) a h f = k.using _ _ _ (kept_full Unused e h.0) (λ _. f)
      kept_first (FirstNames ns) a h f = k.seq _ _ (kept_declare ns h) f

    module _ (result : Option IntType) where
      mutual
        pub kept_exec : (s : Stm) → Statements (statements_of s) → k.Dones (exec p M c result s)
        kept_exec (Stmt at f) h =
            k.using _ _ _ (k.tick AStatement) (λ _. k.using _ _ _ (k.here at) (λ _. kept_form at h.0.0 f h.0.1 h.1))

        kept_form : (at : Spot) → In at → (f : Form) → Fulls (own_fulls f) → Statements (statements_of_form f)
            → k.Dones (form p M c result at f)
        kept_form at z Empty h g = k.next
        kept_form at z (Do e) h g = k.using _ _ _ (kept_full at z Unused e h.0) (λ _. k.next)
        kept_form at z (Declare ns) h g = kept_declare at z ns h
        kept_form at z (Block b) h g = k.scoped _ (kept_execs b g)
        kept_form at z (If e a b) h g =
            kept_control at z e _ _ h.0 (k.scoped _ (kept_exec a (front (statements_of a) (statements_of_else b) g)))
            (kept_otherwise b (back (statements_of a) (statements_of_else b) g))
        kept_form at z (While e b) h g = k.loop at (WhileLoop e b) _ (kept_while at z e _ h.0 (kept_exec b g))
        kept_form at z (DoWhile b e) h g = k.loop at (DoLoop b e) _ (kept_do at z e _ h.0 (kept_exec b g))
        kept_form at z (For i e s b) h g =
            let two = fulls_front (fulls_of_first i ++ exp_if e) (exp_if s) h in
            k.scoped _ (kept_first at z i _ (fulls_front (fulls_of_first i) (exp_if e) two) (k.loop at (ForLoop e s b) _
            (kept_for at z e s _ (fulls_back (fulls_of_first i) (exp_if e) two)
            (fulls_back (fulls_of_first i ++ exp_if e) (exp_if s) h) (kept_exec b g))))
        kept_form at z Break h g = k.leave
        kept_form at z Continue h g = k.again
        kept_form at z (Return None) h g = k.give None
        kept_form at z (Return (Some e)) h g =
            k.using _ _ _ (kept_full at z Used e h.0) (λ v. k.using _ _ _ (kept_as result _ v) (λ w. k.give (Some w)))
        kept_form at z (Label b) h g = kept_exec b g
        kept_form at z (Switch e b) h g =
            k.using _ _ _ (kept_full at z Used e h.0)
            (λ v. k.using _ _ _ (k.convert _ _ v)
            (λ w. k.using _ _ _ (k.select at (promote_of (type_of e)) w (labels_in b)) (λ n. kept_arms n b g)))

        kept_otherwise : (b : Else) → Statements (statements_of_else b) → k.Dones (otherwise p M c result b)
        kept_otherwise NoElse g = k.next
        kept_otherwise (OrElse b) g = k.scoped _ (kept_exec b g)

        kept_execs : (b : Stms) → Statements (statements_of_block b) → k.Dones (execs p M c result b)
        kept_execs NoStm g = k.next
        kept_execs (MoreStm s b) g =
            k.seq _ _ (kept_exec s (front (statements_of s) (statements_of_block b) g))
            (kept_execs b (back (statements_of s) (statements_of_block b) g))
        kept_execs (MoreCase spot l b) g = kept_execs b g

        kept_arms : (n : ℕ) (b : Stms) → Statements (statements_of_block b) → k.Dones (from_arm p M c result n b)
        kept_arms n NoStm g = k.next
        kept_arms n (MoreStm s b) g = kept_arms n b (back (statements_of s) (statements_of_block b) g)
        kept_arms zero (MoreCase spot l b) g = k.breaks _ (kept_execs b g)
        kept_arms (suc n) (MoreCase spot l b) g = kept_arms n b g

      kept_block : (at : Spot) (f : Form) → is_block_form f ≡ true → Statements (statements_of_form f)
          → k.Dones (form p M c result at f)
      kept_block at (Block b) e g = k.scoped _ (kept_execs b g)
      kept_block at _ e g = absurd (false≢true e)

      pub kept_body : (s : Stm) → IsBody Ends In s → k.Dones (body p M c result s)
      kept_body (Stmt at f) h = k.using _ _ _ (k.tick AStatement) (λ _. kept_block at f h.0 h.1)

  kept_params : (os : List ℕ) (vs : List (M.Value × IntType)) (a : M.Done) → k.Dones a
      → k.Dones (with_params p M os vs a)
  kept_params [] vs a f = f
  kept_params (o ∷ os) [] a f = k.seq _ _ (k.declare o 1) (kept_params os [] a f)
  kept_params (o ∷ os) (v ∷ vs) a f =
      k.seq _ _ (k.declare o 1)
      (k.using _ _ _ (k.convert _ _ v.0) (λ w. k.using _ _ _ (k.write _ w) (λ _. kept_params os vs a f)))

  -- what is known of every function's body
  module _ (bodies : Each (λ (f : Function). IsBody Ends In f.body) p.functions) where
    call_ticks : (n : ℕ) → k.Acts (Unit {0}) (ticks p M AParameter n)
    call_ticks zero = k.ret _ _
    call_ticks (suc n) = ticked _ AParameter _ (call_ticks n)

    kept_call : (run : Function → M.Done) (site : Site) (g : ℕ) (o : Option Function) (vs : List (M.Value × IntType))
        → Ends (Defined g) site.spot site.close
        → ((f : Function) → o ≡ Some f → k.Dones (run f)) → k.Acts M.Value (call_of p M run site o vs)
    kept_call run site g None vs ends h = k.missing
    kept_call run site g (Some f) vs ends h =
        k.bind _ _ _ _ (call_ticks (length f.params))
        (λ _. k.bind _ _ _ _ (k.room _) (λ _. k.called site g _ ends (kept_params f.params vs _ (h f refl))))

    kept_run : (n i : ℕ) (f : Function) → slice_get p.functions i ≡ Some f → k.Dones (run_in p M n f)
    kept_run zero i f e = k.deep
    kept_run (suc n) i f e =
        kept_body (λ site g vs. call_of p M (run_in p M n) site (slice_get p.functions g) vs)
        (λ site g vs ends. kept_call (run_in p M n) site g (slice_get p.functions g) vs ends
        (λ f' e'. kept_run n g f' e'))
        f.result f.body (each_at (λ (f : Function). IsBody Ends In f.body) p.functions i f e bodies)

    kept_if : (n : ℕ) (o : Option Function) → slice_get p.functions p.main ≡ o → k.Dones (run_if p M n o)
    kept_if n None e = k.next
    kept_if n (Some f) e = kept_run n p.main f e

    pub kept_main : (n : ℕ) → k.Dones (run_main p M n)
    kept_main n = kept_if n (slice_get p.functions p.main) refl
