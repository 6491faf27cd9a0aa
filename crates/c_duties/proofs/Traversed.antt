-- What the parts of a meaning keep, where each knows the full expression that it is of, the meaning of every tree keeps.
use Rattle.std.proofs.Common.{◌≡◌, ℕ, zero, suc, ◌+◌, Bool, true, false, ◌&&◌, ◌||◌, List, [], ◌∷◌, ◌++◌, length, Option, Some, None, slice_get, refl}
use Rattle.c_core.specs.Operators.{overflows, overflows_one, type_for}
use Rattle.std.specs.List.{flat_map}
use Rattle.c_core.specs.Types.{is_signed, promote_of}
use Rattle.c_core.specs.Typing.{labels_in}
use Rattle.c_core.specs.Tree.{Exp, Expr, Node, Const, Var, Index, Unary, Cast, Step, Binary, Logic, Choose, Comma, Assign, Call, Exps, NoExp, MoreExp, Init, Absent, One, Many, Rows, Names, NoName, MoreName, First, NoFirst, FirstExp, FirstNames, Stm, Stmt, Form, Empty, Do, Declare, Block, If, While, DoWhile, For, Break, Continue, Return, Label, Switch, Else, NoElse, OrElse, Stms, NoStm, MoreStm, MoreCase, Function, Program}
use Rattle.c_core.specs.declared.number.IntType.{IntType}
use Rattle.c_core.specs.declared.number.IntType.TheVariants.{Int}
use Rattle.c_core.specs.declared.number.Spot.{Spot}
use Rattle.c_core.specs.declared.number.BinOp.{BinOp}
use Rattle.c_core.specs.declared.number.UnOp.{UnOp}
use Rattle.c_core.specs.declared.number.Property.{Property}
use Rattle.c_core.specs.declared.number.Property.TheVariants.{UnreachCall, NoOverflow}
use Rattle.c_core.specs.declared.tree.Callee.{Callee}
use Rattle.c_core.specs.declared.tree.Label.{Label as ArmLabel}
use Rattle.c_core.specs.declared.tree.Callee.TheVariants.{Defined, Input as InputOf, ReachError, Abort, Exit}
use Rattle.c_meaning.specs.declared.run.DrawKind.{DrawKind}
use Rattle.c_meaning.specs.declared.run.DrawKind.TheVariants.{Input, Cell}
use Rattle.c_meaning.specs.Meaning.{Tick, AStatement, ANode, ACell, AParameter, Use, Used, Unused, Where, Site, Loop, WhileLoop, DoLoop, ForLoop, Meaning, Calls}
use Rattle.c_meaning.specs.Objects.{type_of, columns_of_object}
use Rattle.c_core.specs.Parts.{spot_of}
use Rattle.c_meaning.specs.Parts.{some_node, some_part, some_argument, fulls_of, fulls_of_form, fulls_of_else, fulls_of_block}
use Rattle.c_core.specs.Parts.{exps_in, exp_if, fulls_of_init, fulls_of_names, fulls_of_first}
use Rattle.c_meaning.specs.Duties.{may_violate, node_may_overflow}
use Rattle.c_meaning.specs.Eval.{convert_to, operate, store, assign, tested, called, eval, node, target, place, evals}
use Rattle.c_meaning.specs.Exec.{ticks, full, full_if, control, going, while_turn, do_turn, for_turn, draw_cells, initials, row_initials, initial, declare, first, exec, form, otherwise, execs, from_arm, body, with_params, call_of, run_in, run_if, run_main}

-- what is kept by the parts of a meaning; a violation may show only where the full expression fails
pub record Kept (p : Program) (M : Meaning) (MayFail : Spot → Type 0) : Type 1 where
  pub Acts : (A : Type 0) → M.Act A → Type 0
  pub Dones : M.Done → Type 0
  pub ret : (A : Type 0) (a : A) → Acts A (M.ret a)
  pub bind : (A B : Type 0) (m : M.Act A) (k : A → M.Act B) → Acts A m → ((a : A) → Acts B (k a)) → Acts B (M.bind m k)
  pub using : (A : Type 0) (m : M.Act A) (k : A → M.Done) → Acts A m → ((a : A) → Dones (k a)) → Dones (M.using m k)
  pub tick : (t : Tick) → Acts (Unit {0}) (M.tick t)
  pub room : (n : ℕ) → Acts (Unit {0}) (M.room n)
  pub convert : (from to : IntType) (v : M.Value) → Acts M.Value (M.convert from to v)
  pub test : (ty : IntType) (v : M.Value) → Acts M.Truth (M.test ty v)
  pub draw : (kind : DrawKind) (spot : Spot) (ty : IntType) → Acts M.Value (M.draw kind spot ty)
  pub element : (spot : Spot) (o n c : ℕ) (vs : List (M.Value × IntType)) → Acts M.Target (M.element spot o n c vs)
  pub look : (x : M.Target) → Acts M.Value (M.look x)
  pub write : (x : M.Target) (v : M.Value) → Acts (Unit {0}) (M.write x v)
  pub answer : (at : Where) (spot : Spot) (op : BinOp) (ty : IntType) (x : M.Value) (right : IntType) (y : M.Value) → (p.property ≡ NoOverflow → overflows op && is_signed ty ≡ true → MayFail at.full) → Acts M.Value (M.answer at spot op ty x right y)
  pub answer_one : (at : Where) (spot : Spot) (op : UnOp) (ty : IntType) (x : M.Value) → (p.property ≡ NoOverflow → overflows_one op && is_signed ty ≡ true → MayFail at.full) → Acts M.Value (M.answer_one at spot op ty x)
  pub choose : (t : M.Truth) (a b : M.Act M.Value) → Acts M.Value a → Acts M.Value b → Acts M.Value (M.choose t a b)
  pub pick : (mark : Spot) (t : M.Truth) (a b : M.Act M.Value) → Acts M.Value a → Acts M.Value b → Acts M.Value (M.pick mark t a b)
  pub enter : (site : Site) → Acts (Unit {0}) (M.enter site)
  pub came_back : (site : Site) (v : M.Value) → Acts (Unit {0}) (M.came_back site v)
  pub reach : (at : Where) (site : Site) → (p.property ≡ UnreachCall → MayFail at.full) → Acts M.Value (M.reach at site)
  pub ending : Acts M.Value M.ending
  pub called : (site : Site) (a : M.Done) → Dones a → Acts M.Value (M.called site a)
  pub missing : Acts M.Value M.missing
  pub here : (at : Spot) → Acts (Unit {0}) (M.here at)
  pub declare : (o n : ℕ) → Dones (M.declare o n)
  pub branch : (at : Spot) (t : M.Truth) (a b : M.Done) → Dones a → Dones b → Dones (M.branch at t a b)
  pub select : (at : Spot) (ty : IntType) (v : M.Value) (ls : List ArmLabel) → Acts ℕ (M.select at ty v ls)
  pub next : Dones M.next
  pub leave : Dones M.leave
  pub again : Dones M.again
  pub give : (v : Option M.Value) → Dones (M.give v)
  pub seq : (a b : M.Done) → Dones a → Dones b → Dones (M.seq a b)
  pub scoped : (a : M.Done) → Dones a → Dones (M.scoped a)
  pub continued : (a : M.Done) → Dones a → Dones (M.continued a)
  pub breaks : (a : M.Done) → Dones a → Dones (M.breaks a)
  pub loop : (at : Spot) (l : Loop) (a : M.Done) → Dones a → Dones (M.loop at l a)
  pub deep : Dones M.deep

either_left : (a b : Bool) → a ≡ true → a || b ≡ true
either_left true b h = refl
either_left false b h = absurd (cc)

either_right : (a b : Bool) → b ≡ true → a || b ≡ true
either_right true b h = refl
either_right false b h = h

module _ (p : Program) (M : Meaning) (MayFail : Spot → Type 0) (k : Kept p M MayFail) where
  abbrev pub violates : Node → Bool
  violates n = may_violate p.property p.model n

  overflow_violates : (q : Property) (n : Node) → q ≡ NoOverflow → node_may_overflow p.model n ≡ true → may_violate q p.model n ≡ true
  overflow_violates NoOverflow n e h = h
  overflow_violates UnreachCall n e h = absurd (cc)

  reach_violates : (q : Property) (es : Exps) (close : Spot) → q ≡ UnreachCall → may_violate q p.model (Call ReachError es close) ≡ true
  reach_violates UnreachCall es close e = refl
  reach_violates NoOverflow es close e = absurd (cc)

  -- full expressions fail where a node of theirs can violate the property
  abbrev pub FailsIf : Bool → Spot → Type 0
  FailsIf b spot = b ≡ true → MayFail spot

  abbrev pub EachFails : List Exp → Type 0
  EachFails [] = Unit {0}
  EachFails (e ∷ es) = FailsIf (some_node violates e) (spot_of e) × EachFails es

  pub each_front : (xs ys : List Exp) → EachFails (xs ++ ys) → EachFails xs
  each_front [] ys h = tt
  each_front (x ∷ xs) ys h = (h.0, each_front xs ys h.1)

  pub each_back : (xs ys : List Exp) → EachFails (xs ++ ys) → EachFails ys
  each_back [] ys h = h
  each_back (x ∷ xs) ys h = each_back xs ys h.1

  of_left : (spot : Spot) (a b : Bool) → FailsIf (a || b) spot → FailsIf a spot
  of_left spot a b h e = h (either_left a b e)

  of_right : (spot : Spot) (a b : Bool) → FailsIf (a || b) spot → FailsIf b spot
  of_right spot a b h e = h (either_right a b e)

  ticked : (A : Type 0) (t : Tick) (m : M.Act A) → k.Acts A m → k.Acts A (M.bind (M.tick t) (λ _. m))
  ticked A t m h = k.bind _ _ _ _ (k.tick t) (λ _. h)

  kept_as : (to : Option IntType) (from : IntType) (v : M.Value) → k.Acts M.Value (convert_to p M to from v)
  kept_as None from v = k.ret _ v
  kept_as (Some to) from v = k.convert from to v

  kept_store : (x : M.Target) (from to : IntType) (v : M.Value) → k.Acts M.Value (store p M x from to v)
  kept_store x from to v = k.bind _ _ _ _ (k.convert from to v) (λ w. k.bind _ _ _ _ (k.write x w) (λ _. k.ret _ w))

  kept_operate : (at : Where) (spot : Spot) (op : BinOp) (a : IntType) (x : M.Value) (b : IntType) (y : M.Value) → (p.property ≡ NoOverflow → overflows op && is_signed (type_for p.model op a b) ≡ true → MayFail at.full) → k.Acts M.Value (operate p M at spot op a x b y)
  kept_operate at spot op a x b y h = k.bind _ _ _ _ (k.convert a _ x) (λ v. k.bind _ _ _ _ (k.convert b _ y) (λ w. k.answer at spot op _ v _ w h))

  kept_tested : (ty : IntType) (m : M.Act M.Value) → k.Acts M.Value m → k.Acts M.Value (tested p M ty m)
  kept_tested ty m h = k.bind _ _ _ _ h (λ v. k.bind _ _ _ _ (k.test ty v) (λ t. k.ret _ _))

  module _ (c : Calls M) (calls : (site : Site) (f : ℕ) (vs : List (M.Value × IntType)) → k.Acts M.Value (c site f vs)) where
    module _ (at : Where) where
      abbrev Fails : Bool → Type 0
      Fails b = FailsIf b at.full

      kept_assign : (spot : Spot) (op : Option BinOp) (x : M.Target) (a b : Exp) (m : M.Act M.Value) → Fails (violates (Assign op a b)) → k.Acts M.Value m → k.Acts M.Value (assign p M at spot op x (type_of a) (type_of b) m)
      kept_assign spot None x a b m h f = k.bind _ _ _ _ f (λ v. kept_store x _ _ v)
      kept_assign spot (Some op) x a b m h f =
          k.bind _ _ _ _ (k.look x) (λ v. k.bind _ _ _ _ f (λ w. k.bind _ _ _ _ (kept_operate at spot op _ v _ w (λ q o. h (overflow_violates p.property (Assign (Some op) a b) q o))) (λ z. kept_store x _ _ z)))

      kept_called : (site : Site) (callee : Callee) (es : Exps) (close : Spot) (vs : List (M.Value × IntType)) → Fails (violates (Call callee es close)) → k.Acts M.Value (called p M c at site callee vs)
      kept_called site (Defined f) es close vs h = calls site f vs
      kept_called site (InputOf ty) es close vs h = k.bind _ _ _ _ (k.draw Input site.spot ty) (λ v. k.bind _ _ _ _ (k.came_back site v) (λ _. k.ret _ v))
      kept_called site ReachError es close vs h = k.reach at site (λ q. h (reach_violates p.property es close q))
      kept_called site Abort es close vs h = k.ending
      kept_called site Exit es close vs h = k.ending

      mutual
        pub kept_eval : (want : Use) (e : Exp) → Fails (some_node violates e) → k.Acts M.Value (eval p M c at want e)
        kept_eval want (Expr spot ty n) h = ticked _ ANode _ (kept_node want spot ty n (of_left at.full (violates n) (some_part violates n) h) (of_right at.full (violates n) (some_part violates n) h))

        kept_node : (want : Use) (spot : Spot) (ty : Option IntType) (n : Node) → Fails (violates n) → Fails (some_part violates n) → k.Acts M.Value (node p M c at want spot ty n)
        kept_node want spot ty (Const v) h g = k.ret _ _
        kept_node want spot ty (Var o) h g = k.look _
        kept_node want spot ty (Index o is) h g = k.bind _ _ _ _ (kept_evals is g) (λ vs. k.bind _ _ _ _ (k.element spot o _ _ vs) (λ x. k.look x))
        kept_node want spot ty (Unary op a) h g = k.bind _ _ _ _ (kept_eval Used a g) (λ v. k.bind _ _ _ _ (k.convert _ _ v) (λ w. k.answer_one at spot op _ w (λ q o. h (overflow_violates p.property (Unary op a) q o))))
        kept_node want spot None (Cast a) h g = kept_eval Unused a g
        kept_node want spot (Some ty) (Cast a) h g = k.bind _ _ _ _ (kept_eval Used a g) (λ v. k.convert _ ty v)
        kept_node want spot ty (Step op a) h g =
            k.bind _ _ _ _ (kept_target a g) (λ x. k.bind _ _ _ _ (k.look x) (λ v.
            k.bind _ _ _ _ (kept_operate at spot _ _ v Int _ (λ q o. h (overflow_violates p.property (Step op a) q o))) (λ y. k.bind _ _ _ _ (kept_store x _ _ y) (λ z. k.ret _ _))))
        kept_node want spot ty (Binary op a b) h g =
            k.bind _ _ _ _ (kept_eval Used a (of_left at.full (some_node violates a) (some_node violates b) g)) (λ v. k.bind _ _ _ _ (kept_eval Used b (of_right at.full (some_node violates a) (some_node violates b) g)) (λ w.
            kept_operate at spot op _ v _ w (λ q o. h (overflow_violates p.property (Binary op a b) q o))))
        kept_node want spot ty (Logic true a b) h g =
            k.bind _ _ _ _ (kept_eval Used a (of_left at.full (some_node violates a) (some_node violates b) g)) (λ v. k.bind _ _ _ _ (k.test _ v) (λ t.
            k.choose t _ _ (kept_tested _ _ (kept_eval Used b (of_right at.full (some_node violates a) (some_node violates b) g))) (k.ret _ _)))
        kept_node want spot ty (Logic false a b) h g =
            k.bind _ _ _ _ (kept_eval Used a (of_left at.full (some_node violates a) (some_node violates b) g)) (λ v. k.bind _ _ _ _ (k.test _ v) (λ t.
            k.choose t _ _ (k.ret _ _) (kept_tested _ _ (kept_eval Used b (of_right at.full (some_node violates a) (some_node violates b) g)))))
        kept_node want spot ty (Choose mark e a b) h g =
            let rest = of_right at.full (some_node violates e) (some_node violates a || some_node violates b) g in
            k.bind _ _ _ _ (kept_eval Used e (of_left at.full (some_node violates e) (some_node violates a || some_node violates b) g)) (λ v. k.bind _ _ _ _ (k.test _ v) (λ t.
            k.pick mark t _ _ (k.bind _ _ _ _ (kept_eval Used a (of_left at.full (some_node violates a) (some_node violates b) rest)) (λ w. kept_as ty _ w)) (k.bind _ _ _ _ (kept_eval Used b (of_right at.full (some_node violates a) (some_node violates b) rest)) (λ w. kept_as ty _ w))))
        kept_node want spot ty (Comma a b) h g =
            k.bind _ _ _ _ (kept_eval Unused a (of_left at.full (some_node violates a) (some_node violates b) g)) (λ _. kept_eval Used b (of_right at.full (some_node violates a) (some_node violates b) g))
        kept_node want spot ty (Assign op a b) h g =
            k.bind _ _ _ _ (kept_target a (of_left at.full (some_node violates a) (some_node violates b) g)) (λ x. kept_assign spot op x a b _ h (kept_eval Used b (of_right at.full (some_node violates a) (some_node violates b) g)))
        kept_node want spot ty (Call callee es close) h g = k.bind _ _ _ _ (kept_evals es g) (λ vs. k.bind _ _ _ _ (k.enter _) (λ _. kept_called _ callee es close vs h))

        kept_target : (e : Exp) → Fails (some_node violates e) → k.Acts M.Target (target p M c at e)
        kept_target (Expr spot ty n) h = ticked _ ANode _ (kept_place spot n (of_right at.full (violates n) (some_part violates n) h))

        kept_place : (spot : Spot) (n : Node) → Fails (some_part violates n) → k.Acts M.Target (place p M c at spot n)
        kept_place spot (Index o is) g = k.bind _ _ _ _ (kept_evals is g) (λ vs. k.element spot o _ _ vs)
        kept_place spot (Var o) g = k.ret _ _
        kept_place spot (Const v) g = k.ret _ _
        kept_place spot (Unary op a) g = k.ret _ _
        kept_place spot (Cast a) g = k.ret _ _
        kept_place spot (Step op a) g = k.ret _ _
        kept_place spot (Binary op a b) g = k.ret _ _
        kept_place spot (Logic both a b) g = k.ret _ _
        kept_place spot (Choose mark e a b) g = k.ret _ _
        kept_place spot (Comma a b) g = k.ret _ _
        kept_place spot (Assign op a b) g = k.ret _ _
        kept_place spot (Call callee es close) g = k.ret _ _

        kept_evals : (es : Exps) → Fails (some_argument violates es) → k.Acts (List (M.Value × IntType)) (evals p M c at es)
        kept_evals NoExp g = k.ret _ _
        kept_evals (MoreExp e es) g =
            k.bind _ _ _ _ (kept_eval Used e (of_left at.full (some_node violates e) (some_argument violates es) g)) (λ v. k.bind _ _ _ _ (kept_evals es (of_right at.full (some_node violates e) (some_argument violates es) g)) (λ vs. k.ret _ _))

    kept_full : (at : Spot) (want : Use) (e : Exp) → FailsIf (some_node violates e) (spot_of e) → k.Acts M.Value (full p M c at want e)
    kept_full at want e h = kept_eval _ want e h

    kept_full_if : (at : Spot) (e : Option Exp) (a : M.Done) → EachFails (exp_if e) → k.Dones a → k.Dones (full_if p M c at e a)
    kept_full_if at None a h f = f
    kept_full_if at (Some e) a h f = k.using _ _ _ (kept_full at Unused e h.0) (λ _. f)

    kept_control : (at : Spot) (e : Exp) (a b : M.Done) → FailsIf (some_node violates e) (spot_of e) → k.Dones a → k.Dones b → k.Dones (control p M c at e a b)
    kept_control at e a b h f g = k.using _ _ _ (kept_full at Used e h) (λ v. k.using _ _ _ (k.test _ v) (λ t. k.branch at t a b f g))

    kept_going : (at : Spot) (e : Option Exp) (a : M.Done) → EachFails (exp_if e) → k.Dones a → k.Dones (going p M c at e a)
    kept_going at None a h f = f
    kept_going at (Some e) a h f = kept_control at e a M.leave h.0 f k.leave

    kept_while : (at : Spot) (e : Exp) (a : M.Done) → FailsIf (some_node violates e) (spot_of e) → k.Dones a → k.Dones (while_turn p M c at e a)
    kept_while at e a h f = kept_control at e _ _ h (k.continued a f) k.leave

    kept_do : (at : Spot) (e : Exp) (a : M.Done) → FailsIf (some_node violates e) (spot_of e) → k.Dones a → k.Dones (do_turn p M c at a e)
    kept_do at e a h f = k.seq _ _ (k.continued a f) (kept_control at e _ _ h k.next k.leave)

    kept_for : (at : Spot) (e s : Option Exp) (a : M.Done) → EachFails (exp_if e) → EachFails (exp_if s) → k.Dones a → k.Dones (for_turn p M c at e s a)
    kept_for at e s a h g f = kept_going at e _ h (k.seq _ _ (k.continued a f) (kept_full_if at s _ g k.next))

    kept_draws : (spot : Spot) (o i n : ℕ) → k.Acts (Unit {0}) (draw_cells p M c spot o i n)
    kept_draws spot o i zero = k.ret _ _
    kept_draws spot o i (suc n) = k.bind _ _ _ _ (k.draw Cell spot _) (λ v. k.bind _ _ _ _ (k.write _ v) (λ _. kept_draws spot o (suc i) n))

    kept_initials : (at : Spot) (o i : ℕ) (es : Exps) → EachFails (exps_in es) → k.Acts (Unit {0}) (initials p M c at o i es)
    kept_initials at o i NoExp h = k.ret _ _
    kept_initials at o i (MoreExp e es) h =
        k.bind _ _ _ _ (kept_full at Used e h.0) (λ v. k.bind _ _ _ _ (k.convert _ _ v) (λ w. k.bind _ _ _ _ (k.write _ w) (λ _. kept_initials at o (suc i) es h.1)))

    kept_rows : (at : Spot) (o i : ℕ) (rows : List Exps) → EachFails (flat_map exps_in rows) → k.Acts (Unit {0}) (row_initials p M c at o i rows)
    kept_rows at o i [] h = k.ret _ _
    kept_rows at o i (es ∷ rows) h =
        k.bind _ _ _ _ (kept_initials at o i es (each_front (exps_in es) (flat_map exps_in rows) h)) (λ _. kept_rows at o (i + columns_of_object p o) rows (each_back (exps_in es) (flat_map exps_in rows) h))

    kept_initial : (at spot : Spot) (o : ℕ) (i : Init) → EachFails (fulls_of_init i) → k.Acts (Unit {0}) (initial p M c at spot o i)
    kept_initial at spot o Absent h = kept_draws spot o 0 _
    kept_initial at spot o (One e) h = kept_initials at o 0 (MoreExp e NoExp) h
    kept_initial at spot o (Many es) h = kept_initials at o 0 es h
    kept_initial at spot o (Rows rows) h = kept_rows at o 0 rows h

    kept_ticks : (t : Tick) (n : ℕ) → k.Acts (Unit {0}) (ticks p M t n)
    kept_ticks t zero = k.ret _ _
    kept_ticks t (suc n) = ticked _ t _ (kept_ticks t n)

    kept_declare : (at : Spot) (ns : Names) → EachFails (fulls_of_names ns) → k.Dones (declare p M c at ns)
    kept_declare at NoName h = k.next
    kept_declare at (MoreName spot o i ns) h =
        k.using _ _ _ (kept_ticks ACell _) (λ _. k.using _ _ _ (k.room _) (λ _. k.seq _ _ (k.declare o _)
        (k.using _ _ _ (kept_initial at spot o i (each_front (fulls_of_init i) (fulls_of_names ns) h)) (λ _. kept_declare at ns (each_back (fulls_of_init i) (fulls_of_names ns) h)))))

    kept_first : (at : Spot) (i : First) (a : M.Done) → EachFails (fulls_of_first i) → k.Dones a → k.Dones (first p M c at i a)
    kept_first at NoFirst a h f = f
    kept_first at (FirstExp e) a h f = k.using _ _ _ (kept_full at Unused e h.0) (λ _. f)
    kept_first at (FirstNames ns) a h f = k.seq _ _ (kept_declare at ns h) f

    module _ (result : Option IntType) where
      mutual
        pub kept_exec : (s : Stm) → EachFails (fulls_of s) → k.Dones (exec p M c result s)
        kept_exec (Stmt at f) h = k.using _ _ _ (k.tick AStatement) (λ _. k.using _ _ _ (k.here at) (λ _. kept_form at f h))

        kept_form : (at : Spot) (f : Form) → EachFails (fulls_of_form f) → k.Dones (form p M c result at f)
        kept_form at Empty h = k.next
        kept_form at (Do e) h = k.using _ _ _ (kept_full at Unused e h.0) (λ _. k.next)
        kept_form at (Declare ns) h = kept_declare at ns h
        kept_form at (Block b) h = k.scoped _ (kept_execs b h)
        kept_form at (If e a b) h = kept_control at e _ _ h.0 (k.scoped _ (kept_exec a (each_front (fulls_of a) (fulls_of_else b) h.1))) (kept_otherwise b (each_back (fulls_of a) (fulls_of_else b) h.1))
        kept_form at (While e b) h = k.loop at (WhileLoop e b) _ (kept_while at e _ h.0 (kept_exec b h.1))
        kept_form at (DoWhile b e) h = k.loop at (DoLoop b e) _ (kept_do at e _ (each_back (fulls_of b) (e ∷ []) h).0 (kept_exec b (each_front (fulls_of b) (e ∷ []) h)))
        kept_form at (For i e s b) h =
            let parts = each_front (fulls_of_first i ++ exp_if e ++ exp_if s) (fulls_of b) h in
            let parts' = each_front (fulls_of_first i ++ exp_if e) (exp_if s) parts in
            k.scoped _ (kept_first at i _ (each_front (fulls_of_first i) (exp_if e) parts') (k.loop at (ForLoop e s b) _
            (kept_for at e s _ (each_back (fulls_of_first i) (exp_if e) parts') (each_back (fulls_of_first i ++ exp_if e) (exp_if s) parts)
            (kept_exec b (each_back (fulls_of_first i ++ exp_if e ++ exp_if s) (fulls_of b) h)))))
        kept_form at Break h = k.leave
        kept_form at Continue h = k.again
        kept_form at (Return None) h = k.give None
        kept_form at (Return (Some e)) h = k.using _ _ _ (kept_full at Used e h.0) (λ v. k.using _ _ _ (kept_as result _ v) (λ w. k.give (Some w)))
        kept_form at (Label b) h = kept_exec b h
        kept_form at (Switch e b) h =
            k.using _ _ _ (kept_full at Used e h.0) (λ v. k.using _ _ _ (k.convert _ _ v) (λ w. k.using _ _ _ (k.select at (promote_of (type_of e)) w (labels_in b)) (λ n. kept_arms n b h.1)))

        kept_otherwise : (b : Else) → EachFails (fulls_of_else b) → k.Dones (otherwise p M c result b)
        kept_otherwise NoElse h = k.next
        kept_otherwise (OrElse b) h = k.scoped _ (kept_exec b h)

        kept_execs : (b : Stms) → EachFails (fulls_of_block b) → k.Dones (execs p M c result b)
        kept_execs NoStm h = k.next
        kept_execs (MoreStm s b) h = k.seq _ _ (kept_exec s (each_front (fulls_of s) (fulls_of_block b) h)) (kept_execs b (each_back (fulls_of s) (fulls_of_block b) h))
        kept_execs (MoreCase spot l b) h = kept_execs b h

        kept_arms : (n : ℕ) (b : Stms) → EachFails (fulls_of_block b) → k.Dones (from_arm p M c result n b)
        kept_arms n NoStm h = k.next
        kept_arms n (MoreStm s b) h = kept_arms n b (each_back (fulls_of s) (fulls_of_block b) h)
        kept_arms zero (MoreCase spot l b) h = k.breaks _ (kept_execs b h)
        kept_arms (suc n) (MoreCase spot l b) h = kept_arms n b h

      pub kept_body : (s : Stm) → EachFails (fulls_of s) → k.Dones (body p M c result s)
      kept_body (Stmt at f) h = k.using _ _ _ (k.tick AStatement) (λ _. kept_form at f h)

  kept_params : (os : List ℕ) (vs : List (M.Value × IntType)) (a : M.Done) → k.Dones a → k.Dones (with_params p M os vs a)
  kept_params [] vs a f = f
  kept_params (o ∷ os) [] a f = k.seq _ _ (k.declare o 1) (kept_params os [] a f)
  kept_params (o ∷ os) (v ∷ vs) a f = k.seq _ _ (k.declare o 1) (k.using _ _ _ (k.convert _ _ v.0) (λ w. k.using _ _ _ (k.write _ w) (λ _. kept_params os vs a f)))

  -- the full expressions of every function's body
  module _ (bodies : (i : ℕ) (f : Function) → slice_get p.functions i ≡ Some f → EachFails (fulls_of f.body)) where
    call_ticks : (n : ℕ) → k.Acts (Unit {0}) (ticks p M AParameter n)
    call_ticks zero = k.ret _ _
    call_ticks (suc n) = ticked _ AParameter _ (call_ticks n)

    kept_call : (run : Function → M.Done) (site : Site) (o : Option Function) (vs : List (M.Value × IntType)) → ((f : Function) → o ≡ Some f → k.Dones (run f)) → k.Acts M.Value (call_of p M run site o vs)
    kept_call run site None vs h = k.missing
    kept_call run site (Some f) vs h = k.bind _ _ _ _ (call_ticks (length f.params)) (λ _. k.bind _ _ _ _ (k.room _) (λ _. k.called site _ (kept_params f.params vs _ (h f refl))))

    kept_run : (n i : ℕ) (f : Function) → slice_get p.functions i ≡ Some f → k.Dones (run_in p M n f)
    kept_run zero i f e = k.deep
    kept_run (suc n) i f e = kept_body (λ site g vs. call_of p M (run_in p M n) site (slice_get p.functions g) vs) (λ site g vs. kept_call (run_in p M n) site (slice_get p.functions g) vs (λ f' e'. kept_run n g f' e')) f.result f.body (bodies i f e)

    kept_if : (n : ℕ) (o : Option Function) → slice_get p.functions p.main ≡ o → k.Dones (run_if p M n o)
    kept_if n None e = k.next
    kept_if n (Some f) e = kept_run n p.main f e

    pub kept_main : (n : ℕ) → k.Dones (run_main p M n)
    kept_main n = kept_if n (slice_get p.functions p.main) refl
