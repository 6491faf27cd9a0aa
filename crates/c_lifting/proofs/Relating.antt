-- Every tree's real meaning follows its havoc meaning.
use Rattle.std.proofs.Common.{◌≡◌, ℕ, ℤ, Bool, true, false, cond, not, IsTrue, List, [], ◌∷◌, Option, Some, None, refl, sym, ap, ap₂, subst}
use Rattle.c_core.specs.Types.{fit, is_zero, number_of}
use Rattle.c_core.specs.Operators.{apply_of, apply_one_of}
use Rattle.c_core.specs.Tree.{Program}
use Rattle.c_core.specs.Typing.{is_constant}
use Rattle.c_core.specs.declared.number.IntType.{IntType}
use Rattle.c_core.specs.declared.number.Spot.{Spot}
use Rattle.c_core.specs.declared.number.BinOp.{BinOp}
use Rattle.c_core.specs.declared.number.UnOp.{UnOp}
use Rattle.c_core.proofs.Fits.{fit_in_range}
use Rattle.c_meaning.specs.declared.run.End.{End}
use Rattle.c_meaning.specs.declared.run.End.TheVariants.{Ended}
use Rattle.c_meaning.specs.declared.run.Way.TheVariants.{Truth}
use Rattle.c_meaning.specs.declared.run.Event.TheVariants.{Branch, Enter, Return}
use Rattle.c_meaning.specs.Cells.{Cell}
use Rattle.c_meaning.specs.Objects.{size_of_object, columns_of_object}
use Rattle.c_meaning.specs.Meaning.{Where, Meaning}
use Rattle.c_meaning.specs.Acts.{Res, Go, Stop, Flow, Next, Broken, Again, Gave, go_on}
use Rattle.c_meaning.specs.Duties.{Placed}
use Rattle.c_meaning.specs.Havoc.{havoc}
use Rattle.c_meaning.specs.Related as related
use Rattle.c_meaning.specs.Related.{Both, Typed, given_by, given_by_one, Relation, Preserves}
use Rattle.c_meaning.specs.Run as run
use Rattle.c_meaning.specs.Run.{State, cell_among, arm_for, way_for, real}
use Rattle.c_meaning.proofs.Checked.{Agreeing}
use Rattle.c_meaning.proofs.FittingCells.{retyped_value, constant_value, digit_value, answered_value, answered_one_value}
use Rattle.c_frames.proofs.Heads.{Seen, keep, FramedTurn}
use Rattle.c_lifting.proofs.Lifts.{Follows, Lifts, Same, OneOf, SameFlow, lifts_ret, lifts_stop, lifts_then, lifts_told, lifts_tell, lifts_tick, lifts_room, lifts_draw, lifts_look, lifts_write, lifts_declare, lifts_scoped, lifts_key, lifts_answered, lifts_reached, lifts_called, lifts_go_on, lifts_continued, lifts_breaks, lifts_here}

module _ (p : Program) (I : List Placed) where
  abbrev pub H : Meaning
  H = havoc p I

  abbrev pub N : Meaning
  N = real p Seen keep

  module _ (MayCall : ℕ → Type 0) where
    abbrev pub lifting : Relation H N
    lifting = record {
      Scope = Unit {0};
      more = λ L o. L;
      Entry = λ L. Unit {0};
      Values = λ ty v w. Same p I ty v w;
      Truths = λ t u. t ≡ u;
      Targets = λ o x y. OneOf p I o x y;
      Acts = λ L S K k. Lifts p I S K k;
      Dones = λ ty L M K k. Lifts p I (SameFlow p I ty) K k;
      Agree = λ a b. Agreeing a b;
      IsConst = λ ty v. IsTrue (is_constant p.model ty v);
      HasCell = λ o i. Unit {0};
      HasSize = λ o n. Unit {0};
      MayRead = λ L o. Unit {0};
      MayWrite = λ L o. Unit {0};
      MayCall = λ f. MayCall f;
      MayLoop = λ L at l. FramedTurn p at l;
    }

    abbrev Of : Option IntType → ℤ → ℤ → Type 0
    Of ty v w = Same p I ty v w

    abbrev Flows : Option IntType → Flow → Flow → Type 0
    Flows ty f g = SameFlow p I ty f g

    retyped_same : (a b : Option IntType) (v w : ℤ) → Agreeing a b → Of a v w → Of b v w
    retyped_same a b v w e q = (q.0, retyped_value p.model a b w e q.1)

    weaker : {A B : Type 0} (S T : A → B → Type 0) (K : H.Act A) (k : N.Act B) → ((a : A) (b : B) → S a b → T a b) → Lifts p I S K k → Lifts p I T K k
    weaker S T K k f h = record { by = λ s ds q g safe. on s.cells (k s) (h.by s ds q g safe) }
      where
        on : (c : List Cell) (r : Res End (State Seen) _) → Follows p I S K c r → Follows p I T K c r
        on c (Go b t) x = (x.0, f x.0 b x.1, x.2, x.3, x.4)
        on c (Stop e t) x = x

    chosen : {A B : Type 0} (S : A → B → Type 0) (t u : Bool) (a : H.Act A) (a' : N.Act B) (b : H.Act A) (b' : N.Act B) → t ≡ u → Lifts p I S a a' → Lifts p I S b b' → Lifts p I S (cond t a b) (cond u a' b')
    chosen S t u a a' b b' e g h = subst (λ x. Lifts p I S (cond x a b) (cond u a' b')) (sym e) (by u)
      where
        by : (u : Bool) → Lifts p I S (cond u a b) (cond u a' b')
        by true = g
        by false = h

    answered : (at : Where) (spot : Spot) (op : BinOp) (ty : IntType) (x x' : ℤ) (right : IntType) (y y' : ℤ) → Of (Some ty) x x' → Of (Some right) y y' → Lifts p I (Of (Some (given_by op ty))) (H.answer at spot op ty x right y) (N.answer at spot op ty x' right y')
    answered at spot op ty x x' right y y' q r =
        subst (λ z. Lifts p I (Of (Some (given_by op ty))) (H.answer at spot op ty z right y) (N.answer at spot op ty x' right y')) (sym q.0)
        (subst (λ z. Lifts p I (Of (Some (given_by op ty))) (H.answer at spot op ty x' right z) (N.answer at spot op ty x' right y')) (sym r.0)
        (lifts_answered p I at spot (given_by op ty) (apply_of p.model op ty x' y') (answered_value p.model op ty x' y')))

    answered_one : (at : Where) (spot : Spot) (op : UnOp) (ty : IntType) (x x' : ℤ) → Of (Some ty) x x' → Lifts p I (Of (Some (given_by_one op ty))) (H.answer_one at spot op ty x) (N.answer_one at spot op ty x')
    answered_one at spot op ty x x' q =
        subst (λ z. Lifts p I (Of (Some (given_by_one op ty))) (H.answer_one at spot op ty z) (N.answer_one at spot op ty x')) (sym q.0)
        (lifts_answered p I at spot (given_by_one op ty) (apply_one_of p.model op ty x') (answered_one_value p.model op ty x' q.1))

    -- equal values of equal types
    same_list : (vs ws : List (ℤ × IntType)) → Both (Typed (Same p I)) vs ws → vs ≡ ws
    same_list [] [] q = refl
    same_list [] (w ∷ ws) q = absurd q
    same_list (v ∷ vs) [] q = absurd q
    same_list (v ∷ vs) (w ∷ ws) q = ap₂ (λ x xs. x ∷ xs) (ap₂ (λ x t. (x, t)) q.0.0.0 q.0.1) (same_list vs ws q.1)

    element_lifts : (spot : Spot) (o : ℕ) (vs ws : List (ℤ × IntType)) → vs ≡ ws
        → Lifts p I (OneOf p I o) (H.element spot o (size_of_object p o) (columns_of_object p o) vs) (N.element spot o (size_of_object p o) (columns_of_object p o) ws)
    element_lifts spot o vs ws e =
        subst (λ xs. Lifts p I (OneOf p I o) (H.element spot o (size_of_object p o) (columns_of_object p o) xs) (N.element spot o (size_of_object p o) (columns_of_object p o) ws)) (sym e)
        (lifts_key p I spot o (cell_among (size_of_object p o) (columns_of_object p o) ws))

    pub lifting_keeps : Preserves p lifting
    lifting_keeps = record {
      ret = λ L S a b q. lifts_ret p I S a b q;
      bind = λ L S T m n k l g h. lifts_then p I S T m n k l g h;
      using = λ ty L M S m n k l g h. lifts_then p I S (Flows ty) m n k l g h;
      tick = λ L t. lifts_tick p I;
      room = λ L n. lifts_room p I n;
      retype = λ a b v w e q. retyped_same a b v w e q;
      retyped = λ L a b m n e h. weaker (Of a) (Of b) m n (λ v w q. retyped_same a b v w e q) h;
      const = λ ty v q. (refl, constant_value p.model ty v q);
      digit = λ b. (refl, digit_value p.model b);
      convert = λ L from to v w q. lifts_ret p I (Of (Some to)) (fit p.model to v) (fit p.model to w) (ap (fit p.model to) q.0, fit_in_range p.model to w);
      test = λ L ty v w q. lifts_ret p I (λ t u. t ≡ u) (not (is_zero v)) (not (is_zero w)) (ap (λ x. not (is_zero x)) q.0);
      truth = λ t u q. (ap number_of q, digit_value p.model u);
      draw = λ L kind spot ty. lifts_draw p I kind spot ty;
      cell = λ o i q. (refl, refl);
      element = λ L spot o vs ws q. element_lifts spot o vs ws (same_list vs ws q);
      look = λ L o x y m q. lifts_look p I o x y q;
      write = λ L o x y v w m t q. lifts_write p I o x y v w t q;
      answer = λ L at spot op ty x x' right y y' q r. answered at spot op ty x x' right y y' q r;
      answer_one = λ L at spot op ty x x' q. answered_one at spot op ty x x' q;
      choose = λ ty L t u a a' b b' q g h. chosen (Of ty) t u a a' b b' q g h;
      pick = λ ty L mark t u a a' b b' q g h. lifts_tell p I (Of ty) _ (Branch mark (Truth u)) (λ s. cond u a' b' s) (chosen (Of ty) t u a a' b b' q g h);
      enter = λ L site. lifts_told p I (Enter site.close);
      came_back = λ L site ty v w q. lifts_told p I (Return site.close (Some w));
      reach = λ L at site. lifts_reached p I p.property at site;
      ending = λ L. lifts_stop p I (Of None) _ Ended tt;
      called = λ ty L site a b end h. lifts_called p I ty site a b (h tt tt);
      missing = λ L. lifts_stop p I (Of None) _ Ended tt;
      here = λ L at. lifts_here p I at;
      declare = λ ty L o n q. lifts_declare p I ty o n;
      own = λ L o. tt;
      branch = λ ty L M at t u a a' b b' q g h. lifts_tell p I (Flows ty) _ (Branch at (Truth u)) (λ s. cond u a' b' s) (chosen (Flows ty) t u a a' b b' q g h);
      select = λ L at ty v w ls q. lifts_tell p I related.Same _ (Branch at (way_for w ls)) (run.ret p Seen keep (arm_for w ls)) (lifts_ret p I related.Same (arm_for v ls) (arm_for w ls) (ap (λ x. arm_for x ls) q.0));
      next = λ ty L. lifts_ret p I (Flows ty) Next Next (refl, tt);
      leave = λ ty L. lifts_ret p I (Flows ty) Broken Broken (refl, tt);
      again = λ ty L. lifts_ret p I (Flows ty) Again Again (refl, tt);
      give = λ ty L v w q. lifts_ret p I (Flows ty) (Gave (Some v)) (Gave (Some w)) (ap (λ x. Gave (Some x)) q.0, q.1);
      give_none = λ ty L q. lifts_ret p I (Flows ty) (Gave None) (Gave None) (refl, tt);
      seq = λ ty L M M' a a' b b' g h. lifts_then p I (Flows ty) (Flows ty) a a' (go_on b) (go_on b') g (λ f f' q. lifts_go_on p I ty b b' h f f' q);
      scoped = λ ty L M a b h. lifts_scoped p I (Flows ty) a b h;
      continued = λ ty L M a b h. lifts_continued p I ty a b h;
      breaks = λ ty L M a b h. lifts_breaks p I ty a b h;
    }
