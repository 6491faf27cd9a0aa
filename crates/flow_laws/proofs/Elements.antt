-- The elements of arrays: their indexes one by one, and then the cell that these name.
use Rattle.std.proofs.Common.{◌≡◌, ℕ, suc, ◌+◌, ◌≤◌, ◌<◌, ℤ, pos, negsuc, cond, List, [], ◌∷◌, length, Option, Some, None, refl, sym, ap, ◌∙◌, subst, arith, length-append}
use Rattle.std.proofs.lemmas.Bool.{lt-ltb}
use Rattle.c_core.specs.Tree.{Exp, Index, Exps, NoExp, MoreExp, Program}
use Rattle.c_core.specs.declared.number.IntType.{IntType}
use Rattle.c_core.specs.declared.number.Spot.{Spot}
use Rattle.c_meaning.specs.declared.run.End.{End}
use Rattle.c_meaning.specs.declared.run.Event.{Event}
use Rattle.c_meaning.specs.Cells.{Cell, Key, read}
use Rattle.c_meaning.specs.Acts.{Res, Go, Stop, bind}
use Rattle.c_meaning.specs.Meaning.{AStatement, Used}
use Rattle.c_meaning.specs.Exec.{ticks}
use Rattle.c_meaning.specs.Objects.{type_of, size_of_object, columns_of_object}
use Rattle.c_meaning.specs.Run.{State, index_below, in_row, cell_among}
use Rattle.c_meaning.specs.Run as run
use Rattle.c_meaning.specs.Watching.{seen_by}
use Rattle.c_meaning.proofs.Indexes.{one_index, two_indexes, among_is}
use Rattle.run_state.specs.declared.machine.Around.{Around}
use Rattle.flow_code.specs.declared.code.Operand.{Operand}
use Rattle.flow_code.specs.declared.code.Operand.TheVariants.{Top, Number}
use Rattle.flow_code.specs.declared.code.Then.TheVariants.{Push, Drop}
use Rattle.flow_code.specs.declared.code.Into.{Into}
use Rattle.flow_code.specs.declared.code.Action.{Action}
use Rattle.flow_code.specs.declared.code.Action.TheVariants.{Look, Row}
use Rattle.flow_code.specs.declared.code.Code.{Code}
use Rattle.flow_code.specs.Preparing.{op, prepared, paired_at, taken, taken_both}
use Rattle.flow_code.specs.Sizes.{operand_of, with_one, with_two, size, size_of_all, size_of_element}
use Rattle.flow_code.specs.Expressions.{code, args_code, element_code, rows_of_object}
use Rattle.flow_code.proofs.Lengths.{element_size, args_size}
use Rattle.flow_laws.specs.Machines.{Control}
use Rattle.flow_laws.specs.Acting.{finished}
use Rattle.flow_laws.specs.inside.Simulating.{HasCode, control_at, meaning, paying}
use Rattle.flow_laws.proofs.Operations.{Gives, code_parts, bind_behind, bind_alike, standing, Comes, op_comes, comes_on, comes_then, paying_alike, paying_behind}
use Rattle.flow_laws.proofs.Operands.{Eval, NodeOf, goes_to, Values, Takes, operand_comes}
use Rattle.flow_laws.proofs.Answering.{look_takes, row_takes}
use Rattle.flow_laws.proofs.Nodes.{Noded, both_comes}
use Rattle.flow_laws.proofs.Invoking.{ArgsOf, InArgs, listed_drop, counted}

-- two parts and what comes after them
behind_two : {E T A B C D : Type 0} (r : Res E T A) (m : A → T → Res E T B) (f : A → B → T → Res E T C)
    (g : C → T → Res E T D)
    → bind (bind r (λ v t. bind (m v t) (λ w q. f v w q))) g ≡ bind r (λ v t. bind (m v t) (λ w q. bind (f v w q) g))
behind_two r m f g =
    bind_behind r (λ v t. bind (m v t) (λ w q. f v w q)) g
    ∙ bind_alike r (λ v t. bind (bind (m v t) (λ w q. f v w q)) g) (λ v t. bind (m v t) (λ w q. bind (f v w q) g))
    (λ v t. bind_behind (m v t) (f v) g)

-- more than two indexes name no cell
too_many : (n c m : ℕ) (js : List (ℤ × IntType)) → length js ≡ suc (suc (suc m)) → cell_among n c js ≡ None
too_many n c m [] e = cc
too_many n c m (i ∷ []) e = absurd (omega (arith, e))
too_many n c m (i ∷ (j ∷ [])) e = absurd (omega (arith, e))
too_many n c m (i ∷ (j ∷ (l ∷ js))) e = refl

module _ (p : Program) (c : Code) (S : Type 0) (after : Event → List Cell → S → S) (n : ℕ) where
  -- the cell of an object by its number, if there is one
  abbrev KeyOf : Spot → ℕ → Option ℕ → State S → Res End (State S) Key
  KeyOf spot o x t = run.key_of p S (seen_by after) spot o x t

  -- the cell that the values of indexes name
  abbrev Among : Spot → ℕ → List (ℤ × IntType) → State S → Res End (State S) Key
  Among spot o js t = KeyOf spot o (cell_among (size_of_object p o) (columns_of_object p o) js) t

  -- what indexes do, with the cell that their values name
  abbrev pub ElementOf : Around → Spot → ℕ → Exps → State S → Res End (State S) Key
  ElementOf at spot o is u = bind (ArgsOf p c S after n at is u) (λ js t. Among spot o js t)

  -- an action does this with the cell of an element, whose number among its object's cells it takes
  abbrev pub Finds : Spot → ℕ → (Operand → Action) → (Key → Control → State S → Res End (State S) Control) → Type 0
  Finds spot o f G = Takes p c S after n f (λ v κ t. bind (KeyOf spot o (index_below (size_of_object p o) v) t)
      (λ key u. G key κ u))

  -- a cell's number that was found is found again
  found_again : {B : Type 0} (spot : Spot) (o : ℕ) (x : Option ℕ) (f : Key → State S → Res End (State S) B)
      (t : State S) → ((k : ℕ) → x ≡ Some k → k < size_of_object p o)
      → bind (bind (KeyOf spot 0 x t) (λ i u. Go (pos i.index) u))
      (λ v u. bind (KeyOf spot o (index_below (size_of_object p o) v) u) f) ≡ bind (KeyOf spot o x t) f
  found_again spot o None f t h = refl
  found_again spot o (Some k) f t h = ap (λ b. bind (KeyOf spot o (cond b (Some k) None) t) f)
      (lt-ltb k (size_of_object p o) (h k refl))

  pub gives_behind : {A B : Type 0} (P : A → Type 0) (r : Res End (State S) B) (g : State S → Res End (State S) A)
      → ((u : State S) → Gives P (g u)) → Gives P (bind r (λ _ u. g u))
  gives_behind P (Go b u) g h = h u
  gives_behind P (Stop e u) g h = tt

  module _ (o : ℕ) (f : Operand → Action) (G : Key → Control → State S → Res End (State S) Control) (at : Around)
      (spot : Spot) (finds : Finds spot o f G) where
    -- where the code of an element ends
    abbrev Found : Exps → ℕ → ℕ → Control → State S → Type 0
    Found is i k κ s = Comes p c S after (standing κ i s) (paying p c S after k
        (λ u. bind (ElementOf at spot o is u) (λ key w. G key (control_at κ (i + size_of_element is)) w)) s)

    one_found : (a : Exp) → Values p c S after n a → (i k : ℕ) (κ : Control) (s : State S)
        → HasCode c i (taken (element_code p at i k spot o (MoreExp a NoExp)) f) → s.steps ≤ n
        → Found (MoreExp a NoExp) i k κ s
    one_found a ih i k κ s h below =
        let F = λ (key : Key) (w : State S). G key (control_at κ (i + with_one (operand_of a) (size a))) w in
        let index = λ (u : State S). Eval p c S after n at Used a u in
        let K = λ (js : List (ℤ × IntType)) (t : State S). Among spot o js t in
        subst (Comes p c S after (standing κ i s))
        (paying_alike p c S after k (λ u. bind (index u) (λ v t. bind (K ((v, type_of a) ∷ []) t) F))
        (λ u. bind (ElementOf at spot o (MoreExp a NoExp) u) F) s
        (λ u. sym (ap (λ r. bind r F) (one_index (index u) (type_of a) K)
        ∙ bind_behind (index u) (λ v t. K ((v, type_of a) ∷ []) t) F)))
        (operand_comes p c S after n a ih f (λ v κ t. bind (KeyOf spot o (index_below (size_of_object p o) v) t)
        (λ key u. G key κ u)) finds at i k κ s h below)

    two_found : (a b : Exp) → Values p c S after n a → Values p c S after n b → (i k : ℕ) (κ : Control) (s : State S)
        → HasCode c i (taken (element_code p at i k spot o (MoreExp a (MoreExp b NoExp))) f) → s.steps ≤ n
        → Found (MoreExp a (MoreExp b NoExp)) i k κ s
    two_found a b iha ihb i k κ s h below =
        let rows = rows_of_object p o in
        let columns = columns_of_object p o in
        let z = with_two (operand_of a) (operand_of b) (size a) (size b) in
        let J = i + (z + 1) in
        let F = λ (key : Key) (w : State S). G key (control_at κ J) w in
        let one = λ (u : State S). Eval p c S after n at Used a u in
        let two = λ (v : ℤ) (t : State S). Eval p c S after n at Used b t in
        let cell_at = λ (v w : ℤ) (q : State S). KeyOf spot 0
        (in_row columns (index_below rows v) (index_below columns w)) q in
        let number = λ (v w : ℤ) (q : State S). bind (cell_at v w q) (λ i u. Go (pos i.index) u) in
        let numbered = λ (u : State S). bind (one u) (λ v t. bind (two v t) (λ w q. number v w q)) in
        let to = λ (x : ℤ) (u : State S). control_at (record κ { stack = x ∷ κ.stack }) (i + z) in
        let last = λ (x : ℤ) (u : State S). bind (KeyOf spot o (index_below (size_of_object p o) x) u) F in
        let K = λ (js : List (ℤ × IntType)) (t : State S). Among spot o js t in
        let both = paired_at i (prepared (operand_of a) k (code p at i k Used a Push)) (operand_of b)
        (λ j l. code p at j l Used b Push) in
        let first = taken_both both (λ y z. Row rows columns y z spot) in
        let whole = element_size p at i k spot o (MoreExp a (MoreExp b NoExp)) f in
        let sized : length first ≡ z = omega (arith, whole, length-append first (op 0 (f Top) ∷ [])) in
        let parts = code_parts c i z first (op 0 (f Top) ∷ []) sized h in
        let j : suc (i + z) ≡ J = omega arith in
        let r = paying p c S after k numbered s in
        let reached : Comes p c S after (standing κ i s) (bind r (λ x u. Go (to x u) u)) =
        subst (Comes p c S after (standing κ i s))
        (paying_alike p c S after k (λ u. bind (one u) (λ v t. bind (two v t)
        (λ w q. bind (cell_at v w q) (λ i u. Go (to (pos i.index) u) u))))
        (λ u. bind (numbered u) (λ x u. Go (to x u) u)) s
        (λ u. sym (behind_two (one u) two number (λ x u. Go (to x u) u)
        ∙ bind_alike (one u) (λ v t. bind (two v t) (λ w q. bind (number v w q) (λ x u. Go (to x u) u)))
        (λ v t. bind (two v t) (λ w q. bind (cell_at v w q) (λ i u. Go (to (pos i.index) u) u)))
        (λ v t. bind_alike (two v t) (λ w q. bind (number v w q) (λ x u. Go (to x u) u))
        (λ w q. bind (cell_at v w q) (λ i u. Go (to (pos i.index) u) u))
        (λ w q. bind_behind (cell_at v w q) (λ i u. Go (pos i.index) u) (λ x u. Go (to x u) u)))))
        ∙ sym (paying_behind p c S after k numbered (λ x u. Go (to x u) u) s))
        (both_comes p c S after n a b iha ihb (λ y z. Row rows columns y z spot)
        (λ v w κ t. bind (cell_at v w t) (λ i u. Go (record κ { stack = pos i.index ∷ κ.stack }) u))
        (row_takes p c S after n rows columns spot) at i k κ s parts.0 below) in
        let done = comes_then p c S after (standing κ i s) r to (λ x u. u) last reached
        (λ x u d. subst (Comes p c S after (standing (record κ { stack = x ∷ κ.stack }) (i + z) u))
        (finds Top (control_at (record κ { stack = x ∷ κ.stack }) (suc (i + z))) u
        ∙ ap (λ l. bind (KeyOf spot o (index_below (size_of_object p o) x) u)
        (λ key w. G key (control_at κ l) w)) j)
        (op_comes p c S after (i + z) (op 0 (f Top)) (record κ { stack = x ∷ κ.stack }) u parts.1.0)) in
        subst (Comes p c S after (standing κ i s))
        (paying_behind p c S after k numbered last s
        ∙ paying_alike p c S after k (λ u. bind (numbered u) last)
        (λ u. bind (ElementOf at spot o (MoreExp a (MoreExp b NoExp)) u) F) s
        (λ u. behind_two (one u) two number last
        ∙ bind_alike (one u) (λ v t. bind (two v t) (λ w q. bind (number v w q) last))
        (λ v t. bind (two v t) (λ w q. bind (K ((v, type_of a) ∷ ((w, type_of b) ∷ [])) q) F))
        (λ v t. bind_alike (two v t) (λ w q. bind (number v w q) last)
        (λ w q. bind (K ((v, type_of a) ∷ ((w, type_of b) ∷ [])) q) F)
        (λ w q. found_again spot o (in_row columns (index_below rows v) (index_below columns w)) F q
        (among_is (size_of_object p o) columns ((v, type_of a) ∷ ((w, type_of b) ∷ [])))))
        ∙ sym (ap (λ r. bind r F) (two_indexes (one u) (λ t. two (pos 0) t) (type_of a) (type_of b) K)
        ∙ behind_two (one u) two (λ v w q. K ((v, type_of a) ∷ ((w, type_of b) ∷ [])) q) F)))
        done

    none_found : (i k : ℕ) (κ : Control) (s : State S) → HasCode c i (taken (element_code p at i k spot o NoExp) f)
        → Found NoExp i k κ s
    none_found i k κ s h =
        let F = λ (key : Key) (w : State S). G key (control_at κ (i + 1)) w in
        subst (Comes p c S after (standing κ i s))
        (paying_alike p c S after k _ (λ u. bind (ElementOf at spot o NoExp u) F) s
        (λ u. finds (Number (negsuc 0)) (control_at κ (suc i)) u))
        (op_comes p c S after i (op k (f (Number (negsuc 0)))) κ s h.0)

    many_found : (a b d : Exp) (es : Exps) → InArgs p c S after n (MoreExp a (MoreExp b (MoreExp d es)))
        → (i k : ℕ) (κ : Control) (s : State S)
        → HasCode c i (taken (element_code p at i k spot o (MoreExp a (MoreExp b (MoreExp d es)))) f) → s.steps ≤ n
        → Found (MoreExp a (MoreExp b (MoreExp d es))) i k κ s
    many_found a b d es ih i k κ s h below =
        let is = MoreExp a (MoreExp b (MoreExp d es)) in
        let z = size_of_all is in
        let J = i + (z + 1) in
        let F = λ (key : Key) (w : State S). G key (control_at κ J) w in
        let K = λ (js : List (ℤ × IntType)) (t : State S). Among spot o js t in
        let indexes = λ (u : State S). ArgsOf p c S after n at is u in
        let parts = code_parts c i z (args_code p at i k Drop is) (op 0 (f (Number (negsuc 0))) ∷ [])
        (args_size p at i k Drop is) h in
        let j : suc (i + z) ≡ J = omega arith in
        subst (Comes p c S after (standing κ i s))
        (paying_behind p c S after k indexes (λ js t. bind (K js t) F) s
        ∙ paying_alike p c S after k (λ u. bind (indexes u) (λ js t. bind (K js t) F))
        (λ u. bind (ElementOf at spot o is u) F) s (λ u. sym (bind_behind (indexes u) K F)))
        (comes_on p c S after (λ (js : List (ℤ × IntType)). length js ≡ _) (standing κ i s)
        (paying p c S after k indexes s) (λ js u. control_at κ (i + z)) (λ js u. u) (λ js t. bind (K js t) F)
        (gives_behind (λ (js : List (ℤ × IntType)). length js ≡ _)
        (ticks p (meaning p c S after) AStatement k s) indexes (λ u. counted p c S after n at is u))
        (listed_drop p c S after n is ih at i k κ s parts.0 below)
        (λ js u q l. subst (Comes p c S after (standing κ (i + z) u))
        (finds (Number (negsuc 0)) (control_at κ (suc (i + z))) u
        ∙ sym (ap (λ x. bind (KeyOf spot o x u) F) (too_many (size_of_object p o) (columns_of_object p o) _ js q)))
        (op_comes p c S after (i + z) (op 0 (f (Number (negsuc 0)))) κ u parts.1.0)))

    -- the indexes of an element, and the operation that takes its cell's number
    pub element_found : (is : Exps) → InArgs p c S after n is → (i k : ℕ) (κ : Control) (s : State S)
        → HasCode c i (taken (element_code p at i k spot o is) f) → s.steps ≤ n → Found is i k κ s
    element_found NoExp ih i k κ s h below = none_found i k κ s h
    element_found (MoreExp a NoExp) ih i k κ s h below = one_found a ih.0 i k κ s h below
    element_found (MoreExp a (MoreExp b NoExp)) ih i k κ s h below = two_found a b ih.0 ih.1.0 i k κ s h below
    element_found (MoreExp a (MoreExp b (MoreExp d es))) ih i k κ s h below = many_found a b d es ih i k κ s h below

  -- the value of an element
  pub index_goes : (ty : Option IntType) (o : ℕ) (is : Exps) → InArgs p c S after n is → (into : Into)
      → Noded p c S after n ty (Index o is) into
  index_goes ty o is ih into at i k want spot κ s h below =
      let F = goes_to p c S after n κ (i + size_of_element is) into in
      let indexes = λ (u : State S). ArgsOf p c S after n at is u in
      let K = λ (js : List (ℤ × IntType)) (t : State S). Among spot o js t in
      let look : Key → State S → Res End (State S) ℤ = λ l w. Go (read l w.cells) w in
      subst (Comes p c S after (standing κ i s))
      (paying_alike p c S after k (λ u. bind (ElementOf at spot o is u) (λ l w. F (read l w.cells) w))
      (λ u. bind (NodeOf p c S after n at want spot ty (Index o is) u) F) s
      (λ u. bind_behind (indexes u) K (λ l w. F (read l w.cells) w)
      ∙ sym (bind_behind (indexes u) (λ js t. bind (K js t) look) F
      ∙ bind_alike (indexes u) (λ js t. bind (bind (K js t) look) F)
      (λ js t. bind (K js t) (λ l w. F (read l w.cells) w)) (λ js t. bind_behind (K js t) look F))))
      (element_found o (λ y. Look o (size_of_object p o) y spot into)
      (λ l κ w. finished c S after (read l w.cells) (read l w.cells) into κ w) at spot
      (look_takes p c S after n o (size_of_object p o) spot into) is ih i k κ s h below)
