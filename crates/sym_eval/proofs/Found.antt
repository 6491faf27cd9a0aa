-- Targets that were found, and elements of arrays.
use Rattle.std.proofs.Common.{◌≡◌, ℕ, ◌+◌, ◌≤◌, ◌<◌, ◌^◌, Bool, ℤ, List, length, refl, sym, ◌∙◌, ap, ap₂, subst, arith, Option, Some, IsTrue}
use Rattle.c_core.specs.Tree.{Program, Exp, Expr, Node, Var, Index, Exps, NoExp, MoreExp}
use Rattle.c_core.specs.Parts.{type_of as type_if}
use Rattle.c_core.specs.Typing.{is_target, is_typed}
use Rattle.c_core.specs.declared.number.IntType.{IntType}
use Rattle.c_core.specs.declared.number.Spot.{Spot}
use Rattle.c_meaning.specs.Acts.{Res, Go, Stop, bind}
use Rattle.c_meaning.specs.Cells.{Key, read}
use Rattle.c_meaning.specs.Eval.{store, evals}
use Rattle.c_meaning.specs.Fitting.{calls_in}
use Rattle.c_meaning.specs.Havoc.{Stopped}
use Rattle.sym_meaning.specs.Mode.{JudgedState, Mode}
use Rattle.sym_meaning.specs.Judged.{judged, key_of}
use Rattle.c_meaning.specs.Meaning.{Used}
use Rattle.c_meaning.specs.Objects.{type_of, type_or_int, type_of_object, size_of_object, columns_of_object}
use Rattle.c_meaning.specs.Run.{index_below, in_row, cell_among}
use Rattle.c_meaning.proofs.Indexes.{one_index, two_indexes}
use Rattle.circuits.specs.declared.net.Bit.{Bit}
use Rattle.circuits.specs.declared.net.NetNode.{NetNode}
use Rattle.circuits.specs.Numbers.{typed, AreTyped, Reads}
use Rattle.sym_state.specs.declared.state.Sym.{Sym}
use Rattle.sym_state.specs.declared.state.Around.{Around}
use Rattle.sym_state.specs.Places.{key}
use Rattle.sym_state.specs.Standing.{stand, IsState}
use Rattle.sym_state.specs.Following.{Deed, Follows}
use Rattle.sym_state.proofs.Nets.{unchanged, longer_by, typed_added, are_typed_added}
use Rattle.sym_state.proofs.Composed.{follows_then, follows_as, turned_follows}
use Rattle.sym_values.specs.Valuing.{where_of, Gives}
use Rattle.sym_elements.specs.Elements.{key_at, Finds, found_cost, found_row_cost, read_cost, written_cost, index_in as index_cell, row_in as row_cell}
use Rattle.sym_elements.specs.Placing.{rows_of}
use Rattle.sym_elements.specs.declared.placing.Places.{Places}
use Rattle.sym_elements.proofs.Kept.{places_follow, key_follows}
use Rattle.sym_elements.proofs.Costs.{found_and_written, found_row_and_written}
use Rattle.sym_weight.specs.Table.{conversion, element, read as read_weight, read_node, written, written_node}
use Rattle.sym_exprs.specs.Evaluating.{weight_of, bits_of, evaluated, Ready, Values}
use Rattle.sym_exprs.specs.Targeting.{looked_at, stored_at, weight_of_target, bits_of_target, Targets, TargetReady}
use Rattle.sym_exprs.proofs.Costs.{conversion_costs}
use Rattle.sym_exprs.proofs.Typed.{has_one, index_type, first_index_parts, second_index_parts, target_type, object_of as object_meant}
use Rattle.sym_exprs.proofs.Forms.{value_as, value_in, as_values}
use Rattle.sym_eval.specs.Targets.{object_of, keys_of, IsMeant, node_of, IsTarget, finding, finding_by, finding_in, reading, storing, Found}
use Rattle.sym_eval.specs.declared.targets.Target.{Target}
use Rattle.sym_eval.specs.declared.targets.Target.TheVariants.{Scalar, Element}

looks_then : {A : Type 0} (r : Res Stopped JudgedState A) (f : A → JudgedState → Res Stopped JudgedState Key) (g : Key → JudgedState → Res Stopped JudgedState ℤ) → bind (bind r f) g ≡ bind r (λ z l. bind (f z l) g)
looks_then (Go z l) f g = refl
looks_then (Stop e l) f g = refl

module _ (p : Program) where
  -- ---- what a target costs is within the weights
  found_within : (o : ℕ) (is : Exps) → finding_by p o is + written_cost p o ≤ element p o is
  found_within o NoExp = omega arith
  found_within o (MoreExp i NoExp) = omega (arith, found_and_written p (type_of i) o)
  found_within o (MoreExp i (MoreExp j NoExp)) = omega (arith, found_row_and_written p (type_of i) (type_of j) o)
  found_within o (MoreExp i (MoreExp j (MoreExp k is))) = omega arith

  -- an element weighs more than its target
  pub element_weighs : (o : ℕ) (is : Exps) → 0 < element p o is
  element_weighs o NoExp = omega arith
  element_weighs o (MoreExp i NoExp) = omega arith
  element_weighs o (MoreExp i (MoreExp j is)) = omega arith

  looked_within : (o : ℕ) (is : Exps) → finding_by p o is + read_cost p o ≤ element p o is
  looked_within o is = omega (arith, found_within o is)

  pub spent_target : (a : Exp) → finding p a ≤ written p a
  spent_target (Expr spot ty (Index o is)) = omega (arith, found_within o is)
  spent_target (Expr spot ty n) = omega arith

  read_within : (node : Node) (t : Target) → IsMeant node t → finding_in p node + reading p t ≤ read_node p node
  read_within node (Scalar o) e = subst (λ k. finding_in p k + 0 ≤ read_node p k) (sym e) (omega arith)
  read_within node (Element o places) m = subst (λ k. finding_in p k + read_cost p o ≤ read_node p k) (sym m.1) (looked_within o m.0)

  pub spent_look : (a : Exp) (t : Target) → IsMeant (node_of a) t → finding p a + reading p t ≤ read_weight p a
  spent_look (Expr spot ty node) t m = read_within node t m

  stored_within : (from : IntType) (node : Node) (t : Target) → IsMeant node t → finding_in p node + storing p from t ≤ conversion p.model from (type_of_object p (object_of t)) + written_node p node
  stored_within from node (Scalar o) e =
      subst (λ k. finding_in p k + storing p from (Scalar o) ≤ conversion p.model from (type_of_object p o) + written_node p k) (sym e) (omega (arith, conversion_costs p.model from (type_of_object p o)))
  stored_within from node (Element o places) m =
      subst (λ k. finding_in p k + storing p from (Element o places) ≤ conversion p.model from (type_of_object p o) + written_node p k) (sym m.1) (omega (arith, conversion_costs p.model from (type_of_object p o), found_within o m.0))

  updated_within : (from : IntType) (node : Node) (t : Target) → IsMeant node t → finding_in p node + (reading p t + storing p from t) ≤ conversion p.model from (type_of_object p (object_of t)) + (read_node p node + written_node p node)
  updated_within from node (Scalar o) e =
      subst (λ k. finding_in p k + (0 + storing p from (Scalar o)) ≤ conversion p.model from (type_of_object p o) + (read_node p k + written_node p k)) (sym e) (omega (arith, conversion_costs p.model from (type_of_object p o)))
  updated_within from node (Element o places) m =
      subst (λ k. finding_in p k + (read_cost p o + storing p from (Element o places)) ≤ conversion p.model from (type_of_object p o) + (read_node p k + written_node p k)) (sym m.1)
      (omega (arith, conversion_costs p.model from (type_of_object p o), found_within o m.0))

  -- ---- the object of a target is of its type
  same_object : (spot : Spot) (ty : Option IntType) (node : Node) (t : Target) → IsMeant node t → object_meant (Expr spot ty node) ≡ object_of t
  same_object spot ty node (Scalar o) e = ap (λ k. object_meant (Expr spot ty k)) e
  same_object spot ty node (Element o places) m = ap (λ k. object_meant (Expr spot ty k)) m.1

  pub object_type : (a : Exp) (t : Target) → IsMeant (node_of a) t → IsTrue (is_target a) → IsTrue (is_typed p a) → type_of a ≡ type_of_object p (object_of t)
  object_type (Expr spot ty node) t m h k = sym (ap type_or_int (target_type p (Expr spot ty node) h k)) ∙ ap (type_of_object p) (same_object spot ty node t m)

  pub replace_cost : (a b : Exp) (t : Target) (tb : IntType) → tb ≡ type_of b → IsMeant (node_of a) t → IsTrue (is_target a) → IsTrue (is_typed p a) → finding p a + storing p tb t ≤ conversion p.model (type_of b) (type_of a) + written p a
  replace_cost (Expr spot ty node) b t tb eb m h k =
      let q : conversion p.model tb (type_of_object p (object_of t)) ≡ conversion p.model (type_of b) (type_of (Expr spot ty node)) = ap₂ (λ x y. conversion p.model x y) eb (sym (object_type (Expr spot ty node) t m h k)) in
      omega (arith, stored_within tb node t m, q)

  pub update_cost : (a : Exp) (t : Target) (tc c : IntType) → tc ≡ c → IsMeant (node_of a) t → IsTrue (is_target a) → IsTrue (is_typed p a)
      → finding p a + (reading p t + storing p tc t) ≤ conversion p.model c (type_of a) + (read_weight p a + written p a)
  update_cost (Expr spot ty node) t tc c ec m h k =
      let q : conversion p.model tc (type_of_object p (object_of t)) ≡ conversion p.model c (type_of (Expr spot ty node)) = ap₂ (λ x y. conversion p.model x y) ec (sym (object_type (Expr spot ty node) t m h k)) in
      omega (arith, updated_within tc node t m, q)

module _ (p : Program) (W : Mode) where
  -- ---- a target stays what it is while other parts are done
  pub target_kept : {A : Type 0} {j k : ℕ} {s m : Sym} {S : (ℕ → Bool) → A → Type 0} {deed : Deed A} (t : Target) → IsTarget p s t → Follows W.duties p j k s m S deed → IsTarget p m t
  target_kept (Scalar o) h f = tt
  target_kept (Element o places) h f = places_follow p o places h f

  pub keys_kept : {A : Type 0} {j k : ℕ} {s m : Sym} {S : (ℕ → Bool) → A → Type 0} {deed : Deed A} (t : Target) → IsTarget p s t → Follows W.duties p j k s m S deed → (v : ℕ → Bool) → keys_of t m.net v ≡ keys_of t s.net v
  keys_kept (Scalar o) h f v = refl
  keys_kept (Element o places) h f v = key_follows p o places h f v

  pub kept_twice : {A B : Type 0} {i j k l : ℕ} {a b c : Sym} {S : (ℕ → Bool) → A → Type 0} {T : (ℕ → Bool) → B → Type 0} {one : Deed A} {two : Deed B} (t : Target) → IsTarget p a t → Follows W.duties p i j a b S one → Follows W.duties p k l b c T two
      → IsTarget p c t × ((v : ℕ → Bool) → keys_of t c.net v ≡ keys_of t a.net v)
  kept_twice t h x y = let h1 = target_kept t h x in (target_kept t h1 y, λ v. keys_kept t h1 y v ∙ keys_kept t h x v)

  pub kept_thrice : {A B C : Type 0} {i j k l o q : ℕ} {a b c d : Sym} {S : (ℕ → Bool) → A → Type 0} {T : (ℕ → Bool) → B → Type 0} {U : (ℕ → Bool) → C → Type 0} {one : Deed A} {two : Deed B} {three : Deed C} (t : Target)
      → IsTarget p a t → Follows W.duties p i j a b S one → Follows W.duties p k l b c T two → Follows W.duties p o q c d U three → IsTarget p d t × ((v : ℕ → Bool) → keys_of t d.net v ≡ keys_of t a.net v)
  kept_thrice t h x y z = let r = kept_twice t h x y in (target_kept t r.0 z, λ v. keys_kept t r.0 z v ∙ r.1 v)

  -- a store into the cell that was meant before
  pub stored_before : {w : ℕ} {y m : Sym} {rs : List Bit} (t : Target) (net : List NetNode) (from to : IntType) (ys : List Bit) → ((v : ℕ → Bool) → keys_of t y.net v ≡ keys_of t net v)
      → Gives p W w 0 y m (Some to) rs (stored_at p W (keys_of t y.net) from to ys y) → Gives p W w 0 y m (Some to) rs (stored_at p W (keys_of t net) from to ys y)
  stored_before {y = y} t net from to ys same x = record {
    bits_in = x.bits_in;
    follows = follows_as p W.duties x.follows (λ v z e. e) (λ v l. ap (λ k. store p (judged p W) k from to (typed p.model from v y.net ys) l) (same v)) (omega arith) (omega arith);
  }

  -- ---- reading and writing a scalar object
  pub look_scalar : (s : Sym) (o : ℕ) (t : IntType) (xs : List Bit) → IsState p s → Reads p.model t s.net xs (λ v. read (key o 0) (stand p v s).cells) → Gives p W 0 0 s s (Some t) xs (looked_at p W (λ v. key o 0))
  look_scalar s o t xs h r = record {
    bits_in = r.bits_in;
    follows = turned_follows p W.duties (λ v z. z) (record { fits = h; added = unchanged 0 s.net; level = refl; result = refl; is = λ v. refl }) (λ v. refl) (λ v d. refl) (λ v here rest. (here, refl, sym (r.is v)));
  }

module _ (p : Program) (W : Mode) (n : ℕ) (at : Around) where
  -- ---- an element: its indexes, and then its places
  module _ (spot : Spot) (ty : Option IntType) (o : ℕ) (is : Exps) where
    abbrev at_indexes : Exp
    at_indexes = Expr spot ty (Index o is)

    -- it is read where it is found
    pub element_ready : {s : Sym} → Ready p W n at s at_indexes → TargetReady p W n at (finding p at_indexes) s at_indexes
    element_ready h = record { fits = h.fits; target = refl; types = h.types; duty = h.duty; room = omega (arith, looked_within p o is, h.room) }

    element_typed : (t : IntType) → t ≡ type_or_int ty → IsTrue (is_typed p at_indexes) → t ≡ type_of_object p o
    element_typed t e h = e ∙ ap type_or_int (sym (index_type p spot ty o is h))

    pub element_type : (t : IntType) (cell : Target) → t ≡ type_or_int ty → IsTrue (is_typed p at_indexes) → IsMeant (Index o is) cell → t ≡ type_of_object p (object_of cell)
    element_type t cell e h m = e ∙ object_type p at_indexes cell m refl h

    pub element_room : {s x : Sym} {cell : Target} → Ready p W n at s at_indexes → Found p W n at at_indexes s x cell → length x.net + reading p cell < 2 ^ 28
    element_room {cell = cell} h f = omega (arith, spent_look p at_indexes cell f.meant, (longer_by f.targets.follows.added).1, h.room)

    pub element_values : {s x m : Sym} {cell : Target} {rs : List Bit} (t : IntType) → t ≡ type_or_int ty → Ready p W n at s at_indexes → Found p W n at at_indexes s x cell
        → Gives p W (reading p cell) 0 x m (Some t) rs (looked_at p W (keys_of cell x.net)) → Values p W n at Used at_indexes s m rs
    element_values {s} {x} {m} {cell} {rs} t e h f g =
        as_values p W n at at_indexes (ap Some e ∙ ap (λ z. Some (type_or_int z)) (sym (index_type p spot ty o is h.types)) ∙ index_type p spot ty o is h.types)
        record {
          bits_in = g.bits_in;
          follows = follows_as p W.duties
              (follows_then p W.duties (weight_of p W n at_indexes) (bits_of p W n at_indexes) (λ v k l. looked_at p W (λ w. k) v l) f.targets.follows g.follows (λ v k q l. ap (λ k. looked_at p W (λ w. k) v l) q)
              (omega (arith, spent_look p at_indexes cell f.meant)) (omega arith))
              (λ v z q. q) (λ v l. looks_then (all_of v l) (λ js. key_of o (cell_among (size_of_object p o) (columns_of_object p o) js)) (λ k. looked_at p W (λ w. k) v)) (omega arith) (omega arith);
        }
      where
        all_of : (ℕ → Bool) → JudgedState → Res Stopped JudgedState (List (ℤ × IntType))
        all_of v l = evals p (judged p W) (calls_in p (judged p W) n) (where_of at) is l

  -- ---- an element of one dimension
  module _ (spot : Spot) (ty : Option IntType) (o : ℕ) (i : Exp) where
    abbrev at_one : Exp
    at_one = Expr spot ty (Index o (MoreExp i NoExp))

    pub index_ready : {s : Sym} → TargetReady p W n at (finding p at_one) s at_one → Ready p W n at s i
    index_ready h = record { fits = h.fits; types = (first_index_parts p spot ty o i NoExp h.types).1; duty = h.duty; room = omega (arith, h.room) }

    -- its bits
    pub index_in : {s x : Sym} {xs : List Bit} (ti : IntType) → ti ≡ type_of i → IsTrue (is_typed p at_one) → Values p W n at Used i s x xs → AreTyped p.model ti x.net xs
    index_in ti e h gi = rw e (value_in p W n at i (type_of i) (has_one i (first_index_parts p spot ty o i NoExp h).0) gi)

    pub index_room : {s x : Sym} {xs : List Bit} (ti : IntType) → ti ≡ type_of i → TargetReady p W n at (finding p at_one) s at_one → Values p W n at Used i s x xs → length x.net + found_cost p ti o < 2 ^ 28
    index_room ti e h gi = omega (arith, ap (λ t. found_cost p t o) e, (longer_by gi.follows.added).1, h.room)

    pub index_found : {s x y : Sym} {xs : List Bit} (ti : IntType) (places : Places) → ti ≡ type_of i → IsTrue (is_typed p at_one) → Values p W n at Used i s x xs → Finds p W o (found_cost p ti o) (index_cell p o ti xs x) x y places
        → Found p W n at at_one s y (Element o places)
    index_found {s} {x} {y} {xs} ti places e h gi gf =
        let xi = value_as p W n at i (type_of i) (has_one i (first_index_parts p spot ty o i NoExp h).0) gi in
        let xf = subst (λ t. Finds p W o (found_cost p t o) (index_cell p o t xs x) x y places) e gf in
        record {
          meant = (MoreExp i NoExp, refl);
          is = gf.places_of;
          targets = record {
            follows = follows_as p W.duties
                (follows_then p W.duties (weight_of_target p W n at_one + found_cost p (type_of i) o) (bits_of_target p W n at_one) (λ v z l. key_of o (index_below (size_of_object p o) z) l) xi.follows xf.follows
                (λ v z f l. ap (λ k. key_of o (index_below (size_of_object p o) k) l) f) (omega arith) (omega arith))
                (λ v k f. f)
                (λ v l. sym (one_index (evaluated p W n at Used i v l) (type_of i) (λ js. key_of o (cell_among (size_of_object p o) (columns_of_object p o) js)))) (omega arith) (omega arith);
          };
        }

  -- ---- an element of two dimensions
  module _ (spot : Spot) (ty : Option IntType) (o : ℕ) (i j : Exp) where
    abbrev at_two : Exp
    at_two = Expr spot ty (Index o (MoreExp i (MoreExp j NoExp)))

    row_has : IsTrue (is_typed p at_two) → type_if i ≡ Some (type_of i)
    row_has h = has_one i (first_index_parts p spot ty o i (MoreExp j NoExp) h).0

    column_has : IsTrue (is_typed p at_two) → type_if j ≡ Some (type_of j)
    column_has h = has_one j (second_index_parts p spot ty o i j NoExp h).0

    pub row_ready : {s : Sym} → TargetReady p W n at (finding p at_two) s at_two → Ready p W n at s i
    row_ready h = record { fits = h.fits; types = (first_index_parts p spot ty o i (MoreExp j NoExp) h.types).1; duty = h.duty; room = omega (arith, h.room) }

    pub column_ready : {s x : Sym} {xs : List Bit} → TargetReady p W n at (finding p at_two) s at_two → Values p W n at Used i s x xs → Ready p W n at x j
    column_ready h gi = record { fits = gi.follows.fits; types = (second_index_parts p spot ty o i j NoExp h.types).1; duty = h.duty; room = omega (arith, (longer_by gi.follows.added).1, h.room) }

    -- the bits of both
    pub row_in : {s x y : Sym} {xs ys : List Bit} (ti : IntType) → ti ≡ type_of i → IsTrue (is_typed p at_two) → Values p W n at Used i s x xs → Values p W n at Used j x y ys → AreTyped p.model ti y.net xs
    row_in ti e h gi gj = rw e (are_typed_added gj.follows.added (value_in p W n at i (type_of i) (row_has h) gi))

    pub column_in : {x y : Sym} {ys : List Bit} (tj : IntType) → tj ≡ type_of j → IsTrue (is_typed p at_two) → Values p W n at Used j x y ys → AreTyped p.model tj y.net ys
    column_in tj e h gj = rw e (value_in p W n at j (type_of j) (column_has h) gj)

    pub row_room : {s x y : Sym} {xs ys : List Bit} (ti tj : IntType) → ti ≡ type_of i → tj ≡ type_of j → TargetReady p W n at (finding p at_two) s at_two → Values p W n at Used i s x xs → Values p W n at Used j x y ys → length y.net + found_row_cost p ti tj o < 2 ^ 28
    row_room ti tj ei ej h gi gj = omega (arith, ap₂ (λ t u. found_row_cost p t u o) ei ej, (longer_by gi.follows.added).1, (longer_by gj.follows.added).1, h.room)

    pub row_found : {s x y z : Sym} {xs ys : List Bit} (ti tj : IntType) (places : Places) → ti ≡ type_of i → tj ≡ type_of j → IsTrue (is_typed p at_two) → Values p W n at Used i s x xs → Values p W n at Used j x y ys
        → Finds p W o (found_row_cost p ti tj o) (row_cell p o ti xs tj ys y) y z places → Found p W n at at_two s z (Element o places)
    row_found {s} {x} {y} {z} {xs} {ys} ti tj places ei ej h gi gj gf =
        let a = type_of i in
        let b = type_of j in
        let c = columns_of_object p o in
        let xi = value_as p W n at i a (row_has h) gi in
        let xj = value_as p W n at j b (column_has h) gj in
        let xf = subst (λ t. Finds p W o (found_row_cost p a t o) (row_cell p o a xs t ys y) y z places) ej (subst (λ t. Finds p W o (found_row_cost p t tj o) (row_cell p o t xs tj ys y) y z places) ei gf) in
        let cell : ℤ → ℤ → Option ℕ = λ u w. in_row c (index_below (rows_of p o) u) (index_below c w) in
        let behind : Follows W.duties p (weight_of p W n j + found_row_cost p a b o) (bits_of p W n j) x z (λ v k. k ≡ key_at o v z.net places.bits)
        (λ v l. bind (evaluated p W n at Used j v l) (λ w. key_of o (cell (typed p.model a v x.net xs) w))) =
        follows_then p W.duties (weight_of p W n j + found_row_cost p a b o) (bits_of p W n j) (λ v w. key_of o (cell (typed p.model a v x.net xs) w)) xj.follows xf.follows
        (λ v w f l. ap₂ (λ r u. key_of o (cell r u) l) (sym (typed_added gj.follows.added p.model a v xs xi.bits_in)) f) (omega arith) (omega arith) in
        record {
          meant = (MoreExp i (MoreExp j NoExp), refl);
          is = gf.places_of;
          targets = record {
            follows = follows_as p W.duties
                (follows_then p W.duties (weight_of_target p W n at_two + found_row_cost p a b o) (bits_of_target p W n at_two) (λ v u l. bind (evaluated p W n at Used j v l) (λ w. key_of o (cell u w))) xi.follows behind
                (λ v u f l. ap (λ r. bind (evaluated p W n at Used j v l) (λ w. key_of o (cell r w))) f) (omega arith) (omega arith))
                (λ v k f. f)
                (λ v l. sym (two_indexes (evaluated p W n at Used i v l) (evaluated p W n at Used j v) a b (λ js. key_of o (cell_among (size_of_object p o) c js)))) (omega arith) (omega arith);
          };
        }

  -- ---- what a target is
  pub found_scalar : (s : Sym) (spot : Spot) (ty : Option IntType) (node : Node) (o : ℕ) → node ≡ Var o → IsState p s → Found p W n at (Expr spot ty node) s s (Scalar o)
  found_scalar s spot ty node o e h = record {
    meant = e;
    is = tt;
    targets = subst (λ k. Targets p W n at (finding_in p k) (Expr spot ty k) (λ v. key o 0) s s) (sym e) (record {
      follows = turned_follows p W.duties (λ v z. z) (record { fits = h; added = unchanged _ s.net; level = refl; result = refl; is = λ v. refl }) (λ v. refl) (λ v d. refl) (λ v here rest. (here, refl, refl));
    });
  }
