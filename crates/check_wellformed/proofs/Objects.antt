-- Each object fits, and all together have at most so many cells.
use Rattle.std.proofs.Common.{◌≡◌, ℕ, zero, suc, ◌+◌, ◌*◌, ◌%◌, ◌≤◌, Bool, true, false, cond, ◌&&◌, ℤ, pos, negsuc, List, [], ◌∷◌, ◌++◌, refl, subst, Option, Some, None, nat_le, arith}
use Rattle.std.proofs.lemmas.Bool.{false≢true, eq-eqb}
use Rattle.std.proofs.lemmas.Bool.Decides.{nat_tests}
use Rattle.std.proofs.Math.Nat.{mul-mod_left}
use Rattle.std.proofs.lemmas.List.Sums.{sum_by_push}
use Rattle.std.specs.List.{list_all}
use Rattle.c_core.specs.Program.{shape_fits, object_fits, most_declared_cells}
use Rattle.c_core.specs.declared.number.DataModel.{DataModel}
use Rattle.c_core.specs.declared.tree.Object.{Object}
use Rattle.c_parser.specs.Tree as raw
use Rattle.check_rules.specs.Names.{Entry}
use Rattle.check_rules.specs.Constants.{constant}
use Rattle.check_rules.specs.Typed.{typed}
use Rattle.check_rules.specs.Scopes.{seen, as_size, cells_or_one, cells_of, columns_of, dims_of, most_cells, object_of}
use Rattle.check_rules.specs.Parts.{Part, Expression, Declaring, Naming, Initializing, Returning, Leaving, Labelling, bodies_of, ArmLabelling, CaseConstant}
use Rattle.check_rules.specs.Codes.{cells_of_all, passes_limit}
use Rattle.check_wellformed.proofs.Lists.{AllOf, both, append-nil, append-assoc}
use Rattle.check_wellformed.proofs.Fair.{IsFair}
use Rattle.check_wellformed.proofs.Threads.{declared, AreBehind}

bound_holds : (b c : Bool) (n : ℕ) → nat_le 1 n ≡ b → nat_le 1 (cells_or_one (cond (b && c) (Some n) None)) ≡ true
bound_holds true true n e = e
bound_holds true false n e = refl
bound_holds false c n e = refl

a_cell : (v : Option ℤ) → nat_le 1 (cells_or_one (as_size v)) ≡ true
a_cell None = refl
a_cell (Some (pos n)) = bound_holds (nat_le 1 n) (nat_le n most_cells) n refl
a_cell (Some (negsuc n)) = refl

some_cells : (a b : ℕ) → nat_le 1 a ≡ true → nat_le 1 b ≡ true → nat_le 1 (a * b) ≡ true
some_cells zero b h k = absurd (false≢true h)
some_cells (suc n) zero h k = absurd (false≢true k)
some_cells (suc n) (suc l) h k = grind (arith, nat_tests)

-- `a` rows of `b` columns
whole_rows : (a b : ℕ) → nat_le 1 a ≡ true → nat_le 1 b ≡ true → shape_fits 2 (a * b) b ≡ true
whole_rows a b h k = both (some_cells a b h k) (both k (eq-eqb (a * b % b) 0 (mul-mod_left a b)))

module _ (m : DataModel) (bodies : List (List ℕ)) where
  shape_is : (es : List Entry) (sizes : List raw.Exp) → shape_fits (dims_of sizes) (cells_of m bodies es sizes) (columns_of m bodies es sizes) ≡ true
  shape_is es [] = refl
  shape_is es (e ∷ []) = both (a_cell (constant m (typed m bodies es e))) refl
  shape_is es (e ∷ f ∷ more) = whole_rows _ _ (a_cell (constant m (typed m bodies es e))) (a_cell (constant m (typed m bodies es f)))

  pub declared_fit : (ps : List Part) → list_all object_fits (declared m bodies ps) ≡ true
  declared_fit [] = refl
  declared_fit (Declaring fixed s d ∷ ps) = both (shape_is (seen s) d.sizes) (declared_fit ps)
  declared_fit (Expression es' r e ∷ ps) = declared_fit ps
  declared_fit (Naming s e p ∷ ps) = declared_fit ps
  declared_fit (Initializing fixed s e ∷ ps) = declared_fit ps
  declared_fit (Returning result p given ∷ ps) = declared_fit ps
  declared_fit (Leaving may p ∷ ps) = declared_fit ps
  declared_fit (Labelling before w p ∷ ps) = declared_fit ps
  declared_fit (ArmLabelling before l p ∷ ps) = declared_fit ps
  declared_fit (CaseConstant es e ∷ ps) = declared_fit ps

within_limit : (before cells : ℕ) → before ≤ most_declared_cells → passes_limit before cells ≡ false → before + cells ≤ most_declared_cells
within_limit before cells h p = grind (arith, nat_tests)

module _ (m : DataModel) (items : List raw.Item) where
  pub one_more : (os : List Object) (o : Object) → cells_of_all os ≤ most_declared_cells → passes_limit (cells_of_all os) o.cells ≡ false → cells_of_all (os ++ o ∷ []) ≤ most_declared_cells
  one_more os o h p = rw (sum_by_push (λ (x : Object). x.cells) os o) (within_limit (cells_of_all os) o.cells h p)

  pub cells_below : (os : List Object) (ps : List Part) → AllOf (IsFair m items) ps → AreBehind m (bodies_of items) os ps → cells_of_all os ≤ most_declared_cells → cells_of_all (os ++ declared m (bodies_of items) ps) ≤ most_declared_cells
  cells_below os [] f h k = rw (append-nil os) k
  cells_below os (Declaring fixed s d ∷ ps) f h k =
      let o = object_of m (bodies_of items) fixed (seen s) d in
      let p : passes_limit (cells_of_all os) o.cells ≡ false = subst (λ l. passes_limit (cells_of_all l) o.cells ≡ false) h.0 f.0.fits in
      subst (λ l. cells_of_all l ≤ most_declared_cells) (append-assoc os (o ∷ []) (declared m (bodies_of items) ps))
      (cells_below (os ++ o ∷ []) ps f.1 h.1 (one_more os o k p))
  cells_below os (Expression es' r e ∷ ps) f h k = cells_below os ps f.1 (subst (λ l. AreBehind m (bodies_of items) l ps) (append-nil os) h.1) k
  cells_below os (Naming s e p ∷ ps) f h k = cells_below os ps f.1 (subst (λ l. AreBehind m (bodies_of items) l ps) (append-nil os) h.1) k
  cells_below os (Initializing fixed s e ∷ ps) f h k = cells_below os ps f.1 (subst (λ l. AreBehind m (bodies_of items) l ps) (append-nil os) h.1) k
  cells_below os (Returning result p given ∷ ps) f h k = cells_below os ps f.1 (subst (λ l. AreBehind m (bodies_of items) l ps) (append-nil os) h.1) k
  cells_below os (Leaving may p ∷ ps) f h k = cells_below os ps f.1 (subst (λ l. AreBehind m (bodies_of items) l ps) (append-nil os) h.1) k
  cells_below os (Labelling before w p ∷ ps) f h k = cells_below os ps f.1 (subst (λ l. AreBehind m (bodies_of items) l ps) (append-nil os) h.1) k
  cells_below os (ArmLabelling before l p ∷ ps) f h k = cells_below os ps f.1 (subst (λ l. AreBehind m (bodies_of items) l ps) (append-nil os) h.1) k
  cells_below os (CaseConstant es e ∷ ps) f h k = cells_below os ps f.1 (subst (λ l. AreBehind m (bodies_of items) l ps) (append-nil os) h.1) k
