-- What a checked program's types and names give, for each other relation that asks of a region's nodes no more.
use Rattle.std.proofs.Common.{◌≡◌, ◌<◌, ◌≤◌, ◌+◌, ℕ, zero, suc, ℤ, Bool, true, false, cond, not, ◌||◌, nat_eq, IsTrue, List, [], ◌∷◌, ◌++◌, length, Option, Some, None, slice_get, refl, ap, ◌∙◌, subst, arith, append_assoc}
use Rattle.std.specs.List.{flat_map}
use Rattle.std.proofs.lemmas.Bool.{or_left, or_right}
use Rattle.c_core.specs.Operators.{op_of_step}
use Rattle.c_core.specs.Parts.{exps_in, exp_if, fulls_of_init, fulls_of_names, fulls_of_first, objects_of_names, objects_of_first}
use Rattle.c_core.specs.Scope.{is_reached, is_fixed, times_in}
use Rattle.c_core.specs.Typing.{is_constant, is_target}
use Rattle.c_core.specs.Tree.{Exp, Expr, Node, Const, Var, Index, Unary, Cast, Step, Binary, Logic, Choose, Comma, Assign, Call, Exps, NoExp, MoreExp, Init, Absent, One, Many, Rows, Names, NoName, MoreName, First, NoFirst, FirstExp, FirstNames, Stm, Stmt, Form, Empty, Do, Declare, Block, If, While, DoWhile, For, Break, Continue, Return, Label, Switch, Else, NoElse, OrElse, Stms, NoStm, MoreStm, MoreCase, Function, Program}
use Rattle.c_core.specs.declared.number.IntType.{IntType}
use Rattle.c_core.specs.declared.number.IntType.TheVariants.{Int}
use Rattle.c_core.specs.declared.number.Spot.{Spot}
use Rattle.c_core.specs.declared.number.BinOp.{BinOp}
use Rattle.c_core.specs.declared.tree.Callee.{Callee}
use Rattle.c_core.specs.declared.tree.Callee.TheVariants.{Defined, Input, ReachError, Abort, Exit}
use Rattle.c_meaning.specs.Meaning.{Loop, WhileLoop, DoLoop, ForLoop, Meaning}
use Rattle.c_meaning.specs.Objects.{object_of, type_of, type_or_int, size_of_object, columns_of_object}
use Rattle.c_meaning.specs.Parts.{some_of, some_node, some_part, some_argument, fulls_of, fulls_of_form, fulls_of_else, fulls_of_block, declared_in, declared_in_form, declared_in_else, declared_in_block, names_object, changes, calls}
use Rattle.c_meaning.specs.Changed.{fulls_of_loop, body_of}
use Rattle.c_meaning.specs.Value.{in_memory}
use Rattle.c_meaning.specs.Related.{Relation, FitsCallee, FitsCompound, FitsE, FitsV, FitsAs, FitsN, FitsT, FitsP, FitsEs, FitsIf, FitsTest, HasCells, FitsRows, FitsInit, after_names, FitsNames, after_first, FitsFirst, after, after_form, FitsReturn, FitsS, FitsF, FitsElse, FitsB, FitsArms, FitsLoop}
use Rattle.c_meaning.proofs.Checked.{Agreeing}
use Rattle.c_frames.proofs.CellLaws.{same_itself}

-- a node that assigns or steps what is no target
abbrev pub assigns_no_target : Node → Bool
assigns_no_target (Step op a) = not (is_target a)
assigns_no_target (Assign op a b) = not (is_target a)
assigns_no_target _ = false

pub some-append : {A : Type 0} (q : A → Bool) (xs ys : List A) → some_of q (xs ++ ys) ≡ (some_of q xs || some_of q ys)
some-append q [] ys = refl
some-append q (x ∷ xs) ys = ap (λ b. q x || b) (some-append q xs ys) ∙ or_assoc (q x) (some_of q xs) (some_of q ys)
  where
    or_assoc : (a b c : Bool) → (a || (b || c)) ≡ ((a || b) || c)
    or_assoc true b c = refl
    or_assoc false b c = refl

pub some_exps : (q : Node → Bool) (es : Exps) → some_of (some_node q) (exps_in es) ≡ some_argument q es
some_exps q NoExp = refl
some_exps q (MoreExp e es) = ap (λ b. some_node q e || b) (some_exps q es)

pub times-append : (x : ℕ) (xs ys : List ℕ) → times_in x (xs ++ ys) ≡ times_in x xs + times_in x ys
times-append x [] ys = omega arith
times-append x (y ∷ xs) ys = by (nat_eq x y) (times-append x xs ys)
  where
    by : (b : Bool) → times_in x (xs ++ ys) ≡ times_in x xs + times_in x ys → cond b (suc (times_in x (xs ++ ys))) (times_in x (xs ++ ys)) ≡ cond b (suc (times_in x xs)) (times_in x xs) + times_in x ys
    by true e = omega (arith, e)
    by false e = e

module _ (p : Program) where
  -- names in reach, and types
  abbrev pub named : Relation (in_memory p) (in_memory p)
  named = record {
    Scope = List ℕ;
    more = λ L o. L ++ o ∷ [];
    Entry = λ L. Unit {0};
    Values = λ ty v w. Unit {0};
    Truths = λ t u. Unit {0};
    Targets = λ o x y. Unit {0};
    Acts = λ L R m n. Unit {0};
    Dones = λ ty L M a b. Unit {0};
    Agree = λ a b. Agreeing a b;
    IsConst = λ ty v. IsTrue (is_constant p.model ty v);
    HasCell = λ o i. i < size_of_object p o;
    HasSize = λ o n. n ≡ size_of_object p o;
    MayRead = λ L o. IsTrue (is_reached p L o);
    MayWrite = λ L o. IsTrue (is_reached p L o);
    MayCall = λ f. (fn : Function) × (slice_get p.functions f ≡ Some fn);
    MayLoop = λ L at l. Unit {0};
  }

  -- how often an object is declared
  abbrev pub most : ℕ → ℕ
  most x = cond (is_fixed p x) 0 1

  -- what is declared is not yet in reach, and is declared once
  abbrev pub Fresh : List ℕ → List ℕ → Type 0
  Fresh L ds = (x : ℕ) → times_in x L + times_in x ds ≤ most x

  pub fresh_left : (L ds es : List ℕ) → Fresh L (ds ++ es) → Fresh L ds
  fresh_left L ds es f x = omega (arith, f x, times-append x ds es)

  pub fresh_right : (L ds es : List ℕ) → Fresh L (ds ++ es) → Fresh L es
  fresh_right L ds es f x = omega (arith, f x, times-append x ds es)

  times_names : (x : ℕ) (L : List ℕ) (ns : Names) → times_in x (after_names p named L ns) ≡ times_in x L + times_in x (objects_of_names ns)
  times_names x L NoName = omega arith
  times_names x L (MoreName spot o i ns) = omega (arith, times_names x (L ++ o ∷ []) ns, times-append x L (o ∷ []), times-append x (o ∷ []) (objects_of_names ns))

  times_first : (x : ℕ) (L : List ℕ) (i : First) → times_in x (after_first p named L i) ≡ times_in x L + times_in x (objects_of_first i)
  times_first x L NoFirst = omega arith
  times_first x L (FirstExp e) = omega arith
  times_first x L (FirstNames ns) = times_names x L ns

  more_times : (a b : ℕ) → a ≤ a + b
  more_times a b = omega arith

  mutual
    times_after : (x : ℕ) (L : List ℕ) (s : Stm) → times_in x (after p named L s) ≤ times_in x L + times_in x (declared_in s)
    times_after x L (Stmt at f) = times_after_form x L f

    times_after_form : (x : ℕ) (L : List ℕ) (f : Form) → times_in x (after_form p named L f) ≤ times_in x L + times_in x (declared_in_form f)
    times_after_form x L (Declare ns) = omega (arith, times_names x L ns)
    times_after_form x L (Label b) = times_after x L b
    times_after_form x L Empty = more_times _ _
    times_after_form x L (Do e) = more_times _ _
    times_after_form x L (Block b) = more_times _ _
    times_after_form x L (If e a b) = more_times _ _
    times_after_form x L (While e b) = more_times _ _
    times_after_form x L (DoWhile b e) = more_times _ _
    times_after_form x L (For i e s b) = more_times _ _
    times_after_form x L Break = more_times _ _
    times_after_form x L Continue = more_times _ _
    times_after_form x L (Return e) = more_times _ _
    times_after_form x L (Switch e b) = more_times _ _

  fresh_behind : (L : List ℕ) (s : Stm) (es : List ℕ) → Fresh L (declared_in s ++ es) → Fresh (after p named L s) es
  fresh_behind L s es f x = omega (arith, f x, times-append x (declared_in s) es, times_after x L s)

  pub fresh_first : (L : List ℕ) (i : First) (es : List ℕ) → Fresh L (objects_of_first i ++ es) → Fresh (after_first p named L i) es
  fresh_first L i es f x = omega (arith, f x, times-append x (objects_of_first i) es, times_first x L i)

  -- a test of nodes holds of one of these
  module _ (Seen : (Node → Bool) → Type 0) where
    abbrev pub Within : ((Node → Bool) → Bool) → Type 0
    Within some = (q : Node → Bool) → IsTrue (some q) → Seen q

    -- a loop in the region, where these objects are in reach
    pub record Looped (L : List ℕ) (l : Loop) : Type 0 where
      pub result : Option IntType
      pub fits : FitsLoop p named result L l
      pub fresh : Fresh L (declared_in (body_of l))
      pub seen : Within (λ q. some_of (some_node q) (fulls_of_loop l))

    abbrev pub AgreesTo : Option IntType → Option IntType → Type 0
    AgreesTo None ty = Agreeing ty None
    AgreesTo (Some to) ty = Agreeing ty (Some (type_or_int ty))

    module _ {M N : Meaning} (R : Relation M N) where
      abbrev pub OwnAgreesTo : Option IntType → Option IntType → Type 0
      OwnAgreesTo None ty = R.Agree ty None
      OwnAgreesTo (Some to) ty = R.Agree ty (Some (type_or_int ty))

      -- what the relation asks of the region's nodes
      pub record Refit (r1 r2 : Option IntType) : Type 1 where
        pub sound : Seen assigns_no_target → ⊥
        pub Sees : List ℕ → R.Scope → Type 0
        pub sees_more : (L : List ℕ) (K : R.Scope) (o : ℕ) → Sees L K → Sees (L ++ o ∷ []) (R.more K o)
        pub agree : (a b : Option IntType) → Agreeing a b → R.Agree a b
        pub returned : (ty : Option IntType) → AgreesTo r1 ty → OwnAgreesTo r2 ty
        pub returned_none : Agreeing None r1 → R.Agree None r2
        pub const : (ty : Option IntType) (v : ℤ) → IsTrue (is_constant p.model ty v) → R.IsConst ty v
        pub cell : (o i : ℕ) → i < size_of_object p o → R.HasCell o i
        pub size : (o n : ℕ) → n ≡ size_of_object p o → R.HasSize o n
        pub read : (L : List ℕ) (K : R.Scope) (o : ℕ) → Sees L K → IsTrue (is_reached p L o) → R.MayRead K o
        pub write : (L : List ℕ) (K : R.Scope) (o : ℕ) → Sees L K → IsTrue (is_reached p L o) → Seen (changes o) → R.MayWrite K o
        pub call : (f : ℕ) (fn : Function) → slice_get p.functions f ≡ Some fn → Seen (calls f) → R.MayCall f
        pub loop : (L : List ℕ) (K : R.Scope) (at : Spot) (l : Loop) → Sees L K → Looped L l → R.MayLoop K at l

      module _ (r1 r2 : Option IntType) (c : Refit r1 r2) where
        left : (a b : (Node → Bool) → Bool) → Within (λ q. a q || b q) → Within a
        left a b w = λ q h. w q (or_left _ _ h)

        right : (a b : (Node → Bool) → Bool) → Within (λ q. a q || b q) → Within b
        right a b w = λ q h. w q (or_right _ _ h)

        -- of full expressions one after the other
        abbrev Fulls : List Exp → Type 0
        Fulls es = Within (λ q. some_of (some_node q) es)

        front : (xs ys : List Exp) → Fulls (xs ++ ys) → Fulls xs
        front xs ys w = λ q h. w q (some-append (some_node q) xs ys ∙ or_left _ _ h)

        back : (xs ys : List Exp) → Fulls (xs ++ ys) → Fulls ys
        back xs ys w = λ q h. w q (some-append (some_node q) xs ys ∙ or_right (some_of (some_node q) xs) _ h)

        head : (e : Exp) (es : List Exp) → Fulls (e ∷ es) → Within (λ q. some_node q e)
        head e es w = λ q h. w q (or_left _ _ h)

        tail : (e : Exp) (es : List Exp) → Fulls (e ∷ es) → Fulls es
        tail e es w = λ q h. w q (or_right (some_node q e) _ h)

        inner : (n : Node) → Within (λ q. q n || some_part q n) → Within (λ q. some_part q n)
        inner n w = λ q h. w q (or_right (q n) _ h)

        -- what is assigned or stepped is a target
        target_seen : (a : Exp) → (IsTrue (names_object (object_of a) a) → Seen (changes (object_of a))) → (IsTrue (not (is_target a)) → Seen assigns_no_target) → Seen (changes (object_of a))
        target_seen (Expr spot ty (Var x)) h b = h (same_itself x)
        target_seen (Expr spot ty (Index x is)) h b = h (same_itself x)
        target_seen (Expr spot ty (Const v)) h b = absurd (c.sound (b refl))
        target_seen (Expr spot ty (Unary op a)) h b = absurd (c.sound (b refl))
        target_seen (Expr spot ty (Cast a)) h b = absurd (c.sound (b refl))
        target_seen (Expr spot ty (Step op a)) h b = absurd (c.sound (b refl))
        target_seen (Expr spot ty (Binary op x y)) h b = absurd (c.sound (b refl))
        target_seen (Expr spot ty (Logic both x y)) h b = absurd (c.sound (b refl))
        target_seen (Expr spot ty (Choose mark e x y)) h b = absurd (c.sound (b refl))
        target_seen (Expr spot ty (Comma x y)) h b = absurd (c.sound (b refl))
        target_seen (Expr spot ty (Assign op x y)) h b = absurd (c.sound (b refl))
        target_seen (Expr spot ty (Call f es close)) h b = absurd (c.sound (b refl))

        refit_callee : (ty : Option IntType) (callee : Callee) (es : Exps) (close : Spot) → FitsCallee p named ty callee → Within (λ q. q (Call callee es close) || some_part q (Call callee es close)) → FitsCallee p R ty callee
        refit_callee ty (Defined f) es close h w = (c.call f h.0.0 h.0.1 (w (calls f) (or_left _ _ (same_itself f))), c.agree _ ty h.1)
        refit_callee ty (Input input) es close h w = c.agree _ ty h
        refit_callee ty ReachError es close h w = c.agree _ ty h
        refit_callee ty Abort es close h w = c.agree _ ty h
        refit_callee ty Exit es close h w = c.agree _ ty h

        module _ (L : List ℕ) (K : R.Scope) (z : c.Sees L K) where
          refit_compound : (o : ℕ) (op : Option BinOp) (a b : IntType) → FitsCompound p named L o op a b → FitsCompound p R K o op a b
          refit_compound o None a b f = tt
          refit_compound o (Some op) a b f = (c.read L K o z f.0, c.agree _ _ f.1)

          mutual
            refit_e : (e : Exp) → FitsE p named L e → Within (λ q. some_node q e) → FitsE p R K e
            refit_e (Expr spot ty n) f w = refit_n ty n f w

            refit_v : (e : Exp) → FitsV p named L e → Within (λ q. some_node q e) → FitsV p R K e
            refit_v (Expr spot ty n) f w = (refit_n ty n f.0 w, c.agree _ _ f.1)

            refit_as : (to : Option IntType) (e : Exp) → FitsAs p named L to e → Within (λ q. some_node q e) → FitsAs p R K to e
            refit_as None (Expr spot ty n) f w = (refit_n ty n f.0 w, c.agree _ _ f.1)
            refit_as (Some to) (Expr spot ty n) f w = (refit_n ty n f.0 w, c.agree _ _ f.1)

            refit_n : (ty : Option IntType) (n : Node) → FitsN p named L ty n → Within (λ q. q n || some_part q n) → FitsN p R K ty n
            refit_n ty (Const v) f w = c.const ty v f
            refit_n ty (Var o) f w = (c.read L K o z f.0, c.cell o 0 f.1, c.agree _ ty f.2)
            refit_n ty (Index o is) f w = (c.read L K o z f.0, refit_es is f.1 (inner (Index o is) w), c.agree _ ty f.2)
            refit_n ty (Unary op a) f w = (refit_v a f.0 (inner (Unary op a) w), c.agree _ ty f.1)
            refit_n ty (Cast a) f w = refit_as ty a f (inner (Cast a) w)
            refit_n ty (Step op a) f w =
                (c.write L K (object_of a) z f.0 (target_seen a (λ h. w (changes (object_of a)) (or_left _ _ h)) (λ h. w assigns_no_target (or_left _ _ h))), refit_t a f.1 (inner (Step op a) w), refit_compound (object_of a) (Some (op_of_step op)) (type_of a) Int f.2, c.agree _ ty f.3)
            refit_n ty (Binary op a b) f w =
                let v = inner (Binary op a b) w in
                (refit_v a f.0 (left (λ q. some_node q a) (λ q. some_node q b) v), refit_v b f.1 (right (λ q. some_node q a) (λ q. some_node q b) v), c.agree _ ty f.2)
            refit_n ty (Logic both a b) f w =
                let v = inner (Logic both a b) w in
                (refit_v a f.0 (left (λ q. some_node q a) (λ q. some_node q b) v), refit_v b f.1 (right (λ q. some_node q a) (λ q. some_node q b) v), c.agree _ ty f.2)
            refit_n ty (Choose mark e a b) f w =
                let v = inner (Choose mark e a b) w in
                let u = right (λ q. some_node q e) (λ q. some_node q a || some_node q b) v in
                (refit_v e f.0 (left (λ q. some_node q e) (λ q. some_node q a || some_node q b) v), refit_as ty a f.1 (left (λ q. some_node q a) (λ q. some_node q b) u), refit_as ty b f.2 (right (λ q. some_node q a) (λ q. some_node q b) u))
            refit_n ty (Comma a b) f w =
                let v = inner (Comma a b) w in
                (refit_e a f.0 (left (λ q. some_node q a) (λ q. some_node q b) v), refit_e b f.1 (right (λ q. some_node q a) (λ q. some_node q b) v), c.agree _ ty f.2)
            refit_n ty (Assign op a b) f w =
                let v = inner (Assign op a b) w in
                (c.write L K (object_of a) z f.0 (target_seen a (λ h. w (changes (object_of a)) (or_left _ _ h)) (λ h. w assigns_no_target (or_left _ _ h))), refit_t a f.1 (left (λ q. some_node q a) (λ q. some_node q b) v), refit_v b f.2 (right (λ q. some_node q a) (λ q. some_node q b) v), refit_compound (object_of a) op (type_of a) (type_of b) f.3, c.agree _ ty f.4)
            refit_n ty (Call callee es close) f w = (refit_callee ty callee es close f.0 w, refit_es es f.1 (inner (Call callee es close) w))

            refit_t : (e : Exp) → FitsT p named L e → Within (λ q. some_node q e) → FitsT p R K e
            refit_t (Expr spot ty n) f w = (refit_p n f.0 (inner n w), c.agree _ _ f.1, c.agree _ _ f.2)

            refit_p : (n : Node) → FitsP p named L n → Within (λ q. some_part q n) → FitsP p R K n
            refit_p (Index o is) f w = refit_es is f w
            refit_p (Var o) f w = c.cell o 0 f
            refit_p (Const v) f w = c.cell 0 0 f
            refit_p (Unary op a) f w = c.cell 0 0 f
            refit_p (Cast a) f w = c.cell 0 0 f
            refit_p (Step op a) f w = c.cell 0 0 f
            refit_p (Binary op a b) f w = c.cell 0 0 f
            refit_p (Logic both a b) f w = c.cell 0 0 f
            refit_p (Choose mark e a b) f w = c.cell 0 0 f
            refit_p (Comma a b) f w = c.cell 0 0 f
            refit_p (Assign op a b) f w = c.cell 0 0 f
            refit_p (Call callee es close) f w = c.cell 0 0 f

            refit_es : (es : Exps) → FitsEs p named L es → Within (λ q. some_argument q es) → FitsEs p R K es
            refit_es NoExp f w = tt
            refit_es (MoreExp e es) f w = (refit_v e f.0 (left (λ q. some_node q e) (λ q. some_argument q es) w), refit_es es f.1 (right (λ q. some_node q e) (λ q. some_argument q es) w))

          refit_if : (e : Option Exp) → FitsIf p named L e → Fulls (exp_if e) → FitsIf p R K e
          refit_if None f w = tt
          refit_if (Some e) f w = refit_e e f (head e [] w)

          refit_test : (e : Option Exp) → FitsTest p named L e → Fulls (exp_if e) → FitsTest p R K e
          refit_test None f w = tt
          refit_test (Some e) f w = refit_v e f (head e [] w)

          refit_cells : (o i n : ℕ) → HasCells p named o i n → HasCells p R o i n
          refit_cells o i zero f = tt
          refit_cells o i (suc n) f = (c.cell o i f.0, refit_cells o (suc i) n f.1)

          refit_rows : (o i : ℕ) (rows : List Exps) → FitsRows p named L o i rows → Fulls (flat_map exps_in rows) → FitsRows p R K o i rows
          refit_rows o i [] f w = tt
          refit_rows o i (es ∷ rows) f w =
              let front_seen = front (exps_in es) (flat_map exps_in rows) w in
              (refit_cells o i (length (exps_in es)) f.0, refit_es es f.1 (λ q h. front_seen q (some_exps q es ∙ h)), refit_rows o (i + columns_of_object p o) rows f.2 (back (exps_in es) (flat_map exps_in rows) w))

          refit_init : (o : ℕ) (i : Init) → FitsInit p named L o i → Fulls (fulls_of_init i) → FitsInit p R K o i
          refit_init o Absent f w = refit_cells o 0 (size_of_object p o) f
          refit_init o (One e) f w = (refit_cells o 0 1 f.0, refit_v e f.1 (head e [] w))
          refit_init o (Many es) f w = (refit_cells o 0 (length (exps_in es)) f.0, refit_es es f.1 (λ q h. w q (some_exps q es ∙ h)))
          refit_init o (Rows rows) f w = refit_rows o 0 rows f w

          refit_return : (e : Option Exp) → FitsReturn p named r1 L e → Fulls (exp_if e) → FitsReturn p R r2 K e
          refit_return None f w = c.returned_none f
          refit_return (Some (Expr spot ty n)) f w = let g = parts_of r1 f in whole_of r2 (refit_n ty n g.0 (head (Expr spot ty n) [] w)) (c.returned ty g.1)
            where
              parts_of : (r : Option IntType) → FitsAs p named L r (Expr spot ty n) → FitsN p named L ty n × AgreesTo r ty
              parts_of None f = f
              parts_of (Some to) f = f

              whole_of : (r : Option IntType) → FitsN p R K ty n → OwnAgreesTo r ty → FitsAs p R K r (Expr spot ty n)
              whole_of None f a = (f, a)
              whole_of (Some to) f a = (f, a)

        refit_names : (L : List ℕ) (K : R.Scope) → c.Sees L K → (ns : Names) → FitsNames p named L ns → Fulls (fulls_of_names ns) → FitsNames p R K ns
        refit_names L K z NoName f w = tt
        refit_names L K z (MoreName spot o i ns) f w =
            let y = c.sees_more L K o z in
            (c.size o _ f.0, refit_init (L ++ o ∷ []) (R.more K o) y o i f.1 (front (fulls_of_init i) (fulls_of_names ns) w), refit_names (L ++ o ∷ []) (R.more K o) y ns f.2 (back (fulls_of_init i) (fulls_of_names ns) w))

        sees_names : (L : List ℕ) (K : R.Scope) → c.Sees L K → (ns : Names) → c.Sees (after_names p named L ns) (after_names p R K ns)
        sees_names L K z NoName = z
        sees_names L K z (MoreName spot o i ns) = sees_names (L ++ o ∷ []) (R.more K o) (c.sees_more L K o z) ns

        sees_first : (L : List ℕ) (K : R.Scope) → c.Sees L K → (i : First) → c.Sees (after_first p named L i) (after_first p R K i)
        sees_first L K z NoFirst = z
        sees_first L K z (FirstExp e) = z
        sees_first L K z (FirstNames ns) = sees_names L K z ns

        refit_first : (L : List ℕ) (K : R.Scope) → c.Sees L K → (i : First) → FitsFirst p named L i → Fulls (fulls_of_first i) → FitsFirst p R K i
        refit_first L K z NoFirst f w = tt
        refit_first L K z (FirstExp e) f w = refit_e L K z e f (head e [] w)
        refit_first L K z (FirstNames ns) f w = refit_names L K z ns f w

        mutual
          sees_after : (L : List ℕ) (K : R.Scope) → c.Sees L K → (s : Stm) → c.Sees (after p named L s) (after p R K s)
          sees_after L K z (Stmt at f) = sees_after_form L K z f

          sees_after_form : (L : List ℕ) (K : R.Scope) → c.Sees L K → (f : Form) → c.Sees (after_form p named L f) (after_form p R K f)
          sees_after_form L K z (Declare ns) = sees_names L K z ns
          sees_after_form L K z (Label b) = sees_after L K z b
          sees_after_form L K z Empty = z
          sees_after_form L K z (Do e) = z
          sees_after_form L K z (Block b) = z
          sees_after_form L K z (If e a b) = z
          sees_after_form L K z (While e b) = z
          sees_after_form L K z (DoWhile b e) = z
          sees_after_form L K z (For i e s b) = z
          sees_after_form L K z Break = z
          sees_after_form L K z Continue = z
          sees_after_form L K z (Return e) = z
          sees_after_form L K z (Switch e b) = z

        mutual
          pub refit_s : (L : List ℕ) (K : R.Scope) → c.Sees L K → (s : Stm) → FitsS p named r1 L s → Fresh L (declared_in s) → Fulls (fulls_of s) → FitsS p R r2 K s
          refit_s L K z (Stmt at f) h d w = refit_f L K z at f h d w

          refit_f : (L : List ℕ) (K : R.Scope) → c.Sees L K → (at : Spot) (f : Form) → FitsF p named r1 L at f → Fresh L (declared_in_form f) → Fulls (fulls_of_form f) → FitsF p R r2 K at f
          refit_f L K z at Empty h d w = tt
          refit_f L K z at (Do e) h d w = refit_e L K z e h (head e [] w)
          refit_f L K z at (Declare ns) h d w = refit_names L K z ns h w
          refit_f L K z at (Block b) h d w = refit_b L K z b h d w
          refit_f L K z at (If e a b) h d w =
              let v = tail e (fulls_of a ++ fulls_of_else b) w in (
                refit_v L K z e h.0 (head e (fulls_of a ++ fulls_of_else b) w),
                refit_s L K z a h.1 (fresh_left L (declared_in a) (declared_in_else b) d) (front (fulls_of a) (fulls_of_else b) v),
                refit_else L K z b h.2 (fresh_right L (declared_in a) (declared_in_else b) d) (back (fulls_of a) (fulls_of_else b) v),
              )
          refit_f L K z at (While e b) h d w =
              (c.loop L K at (WhileLoop e b) z (record { result = r1; fits = (h.1, h.2); fresh = d; seen = w }), refit_v L K z e h.1 (head e (fulls_of b) w), refit_s L K z b h.2 d (tail e (fulls_of b) w))
          refit_f L K z at (DoWhile b e) h d w =
              (c.loop L K at (DoLoop b e) z (record { result = r1; fits = (h.1, h.2); fresh = d; seen = w }), refit_v L K z e h.1 (head e [] (back (fulls_of b) (e ∷ []) w)), refit_s L K z b h.2 d (front (fulls_of b) (e ∷ []) w))
          refit_f L K z at (For i e s b) h d w =
              let y = sees_first L K z i in
              let L' = after_first p named L i in
              let K' = after_first p R K i in
              let d' = fresh_first L i (declared_in b) d in
              let x = subst Fulls (ap (λ es. es ++ fulls_of b) (append_assoc (fulls_of_first i) (exp_if e) (exp_if s)) ∙ append_assoc (fulls_of_first i) (exp_if e ++ exp_if s) (fulls_of b)) w in
              let v = back (fulls_of_first i) (exp_if e ++ exp_if s ++ fulls_of b) x in
              let u = front (exp_if e ++ exp_if s) (fulls_of b) v in (
                refit_first L K z i h.0 (front (fulls_of_first i) (exp_if e ++ exp_if s ++ fulls_of b) x),
                c.loop L' K' at (ForLoop e s b) y (record { result = r1; fits = (h.2, h.3, h.4); fresh = d'; seen = v }),
                refit_test L' K' y e h.2 (front (exp_if e) (exp_if s) u),
                refit_if L' K' y s h.3 (back (exp_if e) (exp_if s) u),
                refit_s L' K' y b h.4 d' (back (exp_if e ++ exp_if s) (fulls_of b) v),
              )
          refit_f L K z at Break h d w = tt
          refit_f L K z at Continue h d w = tt
          refit_f L K z at (Return e) h d w = refit_return L K z e h w
          refit_f L K z at (Label b) h d w = refit_s L K z b h d w
          refit_f L K z at (Switch e b) h d w = (refit_v L K z e h.0 (head e (fulls_of_block b) w), refit_arms L K z b h.1 d (tail e (fulls_of_block b) w))

          refit_else : (L : List ℕ) (K : R.Scope) → c.Sees L K → (b : Else) → FitsElse p named r1 L b → Fresh L (declared_in_else b) → Fulls (fulls_of_else b) → FitsElse p R r2 K b
          refit_else L K z NoElse h d w = tt
          refit_else L K z (OrElse b) h d w = refit_s L K z b h d w

          refit_b : (L : List ℕ) (K : R.Scope) → c.Sees L K → (b : Stms) → FitsB p named r1 L b → Fresh L (declared_in_block b) → Fulls (fulls_of_block b) → FitsB p R r2 K b
          refit_b L K z NoStm h d w = tt
          refit_b L K z (MoreStm s b) h d w =
              (refit_s L K z s h.0 (fresh_left L (declared_in s) (declared_in_block b) d) (front (fulls_of s) (fulls_of_block b) w), refit_b (after p named L s) (after p R K s) (sees_after L K z s) b h.1 (fresh_behind L s (declared_in_block b) d) (back (fulls_of s) (fulls_of_block b) w))
          refit_b L K z (MoreCase spot l b) h d w = refit_b L K z b h d w

          refit_arms : (L : List ℕ) (K : R.Scope) → c.Sees L K → (b : Stms) → FitsArms p named r1 L b → Fresh L (declared_in_block b) → Fulls (fulls_of_block b) → FitsArms p R r2 K b
          refit_arms L K z NoStm h d w = tt
          refit_arms L K z (MoreStm s b) h d w = refit_arms L K z b h (fresh_right L (declared_in s) (declared_in_block b) d) (back (fulls_of s) (fulls_of_block b) w)
          refit_arms L K z (MoreCase spot l b) h d w = (refit_b L K z b h.0 d w, refit_arms L K z b h.1 d w)

        pub refit_loop : (L : List ℕ) (K : R.Scope) → c.Sees L K → (l : Loop) → FitsLoop p named r1 L l → Fresh L (declared_in (body_of l)) → Fulls (fulls_of_loop l) → FitsLoop p R r2 K l
        refit_loop L K z (WhileLoop e b) h d w = (refit_v L K z e h.0 (head e (fulls_of b) w), refit_s L K z b h.1 d (tail e (fulls_of b) w))
        refit_loop L K z (DoLoop b e) h d w = (refit_v L K z e h.0 (head e [] (back (fulls_of b) (e ∷ []) w)), refit_s L K z b h.1 d (front (fulls_of b) (e ∷ []) w))
        refit_loop L K z (ForLoop e s b) h d w =
            let u = front (exp_if e ++ exp_if s) (fulls_of b) w in
            (refit_test L K z e h.0 (front (exp_if e) (exp_if s) u), refit_if L K z s h.1 (back (exp_if e) (exp_if s) u), refit_s L K z b h.2 d (back (exp_if e ++ exp_if s) (fulls_of b) w))
