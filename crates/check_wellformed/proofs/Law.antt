-- The program of a source that isn't refused meets every part of a program's invariant.
use Rattle.std.proofs.Common.{◌≡◌, ◌≤◌, ℕ, true, cond, nat_eq, List, [], ◌∷◌, ◌++◌, length, sym, ap, ◌∙◌, subst, Some, None, append-nil, arith, nat_le}
use Rattle.std.proofs.lemmas.Bool.{le-leb}
use Rattle.std.specs.List.{slice_get, list_all, range_with_len}
use Rattle.c_core.specs.Tree as t
use Rattle.c_core.specs.Parts.{objects_of}
use Rattle.c_core.specs.Scope.{times_in, owned_by, is_fixed, is_object}
use Rattle.c_core.specs.TextOrder.{rises, spots_of_objects}
use Rattle.c_core.proofs.TextOrderLaws.{rises-part}
use Rattle.c_core.specs.Program.{IsProgram, object_fits, most_declared_cells}
use Rattle.c_core.specs.declared.number.DataModel.{DataModel}
use Rattle.c_core.specs.declared.number.Property.{Property}
use Rattle.c_core.specs.declared.tree.Object.{Object}
use Rattle.c_parser.specs.Tree as raw
use Rattle.c_parser.specs.Formed.{constant_fits, assignment_fits, IsFormed}
use Rattle.check_rules.specs.Names.{Entry}
use Rattle.check_rules.specs.Scopes.{seen, object_of, after_items, outermost}
use Rattle.check_rules.specs.Parts.{Part, Expression, Declaring, Naming, Initializing, Returning, Leaving, Labelling, ArmLabelling, CaseConstant, parts_of_source, bodies_of}
use Rattle.check_rules.specs.Codes.{is_among, closed_names, cells_of_all}
use Rattle.check_rules.specs.First.{IsUnrefused, wrong_main}
use Rattle.check_rules.specs.Checked.{starts_of, program_of}
use Rattle.check_wellformed.proofs.Lists.{AllOf, append-assoc, slice_get-behind}
use Rattle.check_wellformed.proofs.Fair.{IsFair, all_fair}
use Rattle.check_wellformed.proofs.Threads.{declared, AreBehind, Leads, items_lead}
use Rattle.check_wellformed.proofs.Objects.{declared_fit, cells_below}
use Rattle.check_wellformed.proofs.Spots.{functions_part}
use Rattle.check_wellformed.proofs.ObjectSpots.{objects_part}
use Rattle.check_wellformed.proofs.Passing.{Passes, items_pass}
use Rattle.check_wellformed.proofs.Entries.{AreAgreed, items_agree}
use Rattle.check_wellformed.proofs.Known.{Knows, IsPlaced, AreAmong, items_keep}
use Rattle.check_wellformed.proofs.Good.{IsGood, IsCalled}
use Rattle.check_wellformed.proofs.TypedStatements.{functions_are}
use Rattle.check_wellformed.proofs.ReachedStatements.{functions_reach}
use Rattle.check_wellformed.proofs.OwnedNames.{loose, owned_are}
use Rattle.check_wellformed.proofs.OwnedLaws.{each_owned, each_known, functions_right}
use Rattle.check_wellformed.proofs.Starts.{starts_are, starts_rise, distinct}
use Rattle.check_wellformed.proofs.Functions.{found, main_is}
use Rattle.check_wellformed.proofs.Placed.{functions_nest, functions_jump}

-- what parts declare is at its place among all objects
module _ (objects : List Object) (entries : List Entry) (hidden : List (List ℕ)) (m : DataModel) (bodies : List (List ℕ)) where
  placed_at : (os : List Object) (o : Object) (more : List Object) (n : ℕ) → length os ≡ n → objects ≡ os ++ (o ∷ more) → slice_get objects n ≡ Some o
  placed_at os o more n e h = rw h (subst (λ k. slice_get (os ++ (o ∷ more)) k ≡ Some o) e (slice_get-behind os o more))

  pub placed_all : (os : List Object) (ps : List Part) → AreBehind m bodies os ps → objects ≡ os ++ declared m bodies ps → AllOf (IsPlaced objects entries hidden m bodies) ps
  placed_all os [] h e = tt
  placed_all os (Declaring fixed s d ∷ ps) h e =
      let o = object_of m bodies fixed (seen s) d in (
        placed_at os o (declared m bodies ps) (length s.objects) (ap length (sym h.0)) e,
        placed_all (os ++ o ∷ []) ps h.1 (e ∙ sym (append-assoc os (o ∷ []) (declared m bodies ps))),
      )
  placed_all os (Expression es' r v ∷ ps) h e = (tt, placed_all os ps (subst (λ l. AreBehind m bodies l ps) (append-nil os) h.1) e)
  placed_all os (Naming s v p ∷ ps) h e = (tt, placed_all os ps (subst (λ l. AreBehind m bodies l ps) (append-nil os) h.1) e)
  placed_all os (Initializing fixed s v ∷ ps) h e = (tt, placed_all os ps (subst (λ l. AreBehind m bodies l ps) (append-nil os) h.1) e)
  placed_all os (Returning result p given ∷ ps) h e = (tt, placed_all os ps (subst (λ l. AreBehind m bodies l ps) (append-nil os) h.1) e)
  placed_all os (Leaving may p ∷ ps) h e = (tt, placed_all os ps (subst (λ l. AreBehind m bodies l ps) (append-nil os) h.1) e)
  placed_all os (Labelling before w p ∷ ps) h e = (tt, placed_all os ps (subst (λ l. AreBehind m bodies l ps) (append-nil os) h.1) e)
  placed_all os (ArmLabelling before l p ∷ ps) h e = (tt, placed_all os ps (subst (λ l. AreBehind m bodies l ps) (append-nil os) h.1) e)
  placed_all os (CaseConstant es v ∷ ps) h e = (tt, placed_all os ps (subst (λ l. AreBehind m bodies l ps) (append-nil os) h.1) e)

module _ (p : t.Program) (items : List raw.Item) (entries : List Entry) where
  all_good : (ps : List Part) → AllOf (IsFair p.model items) ps → AllOf (Knows p.objects entries (closed_names items)) ps → AllOf (IsPlaced p.objects entries (closed_names items) p.model (bodies_of items)) ps → AllOf (Passes constant_fits) ps → AllOf (Passes assignment_fits) ps → AllOf (IsGood p items entries) ps
  all_good [] f k l c a = tt
  all_good (part ∷ ps) f k l c a =
      (record { fair = f.0; knows = k.0; placed = l.0; character = c.0; assignment = a.0 }, all_good ps f.1 k.1 l.1 c.1 a.1)

none_agree : AreAgreed []
none_agree a b c d = absurd (omega (arith, c.1))

few_cells : (n : ℕ) → n ≤ most_declared_cells → nat_le n most_declared_cells ≡ true
few_cells n h = le-leb n most_declared_cells h

module _ (m : DataModel) (property : Property) (items : List raw.Item) (unrefused : IsUnrefused m items) (main : wrong_main items ≡ None) (formed : IsFormed items) where
  abbrev p : t.Program
  p = program_of m property items

  abbrev entries : List Entry
  entries = (after_items m (bodies_of items) outermost items).inner

  leads : Leads m (bodies_of items) [] p.objects (parts_of_source m items)
  leads = items_lead m (bodies_of items) outermost items

  fair : AllOf (IsFair m items) (parts_of_source m items)
  fair = all_fair m items unrefused

  placed : AllOf (IsPlaced p.objects entries (closed_names items) m (bodies_of items)) (parts_of_source m items)
  placed = placed_all p.objects entries (closed_names items) m (bodies_of items) [] (parts_of_source m items) leads.behind leads.are

  known : AllOf (Knows p.objects entries (closed_names items)) (parts_of_source m items)
  known =
      let among : AreAmong p.objects entries (closed_names items) m (bodies_of items) outermost items = record { its_entries = λ e c. c; its_hidden = λ n h. h } in
      ((items_keep p.objects entries (closed_names items) m (bodies_of items) outermost items among).keeps tt placed).0

  good : AllOf (IsGood p items entries) (parts_of_source m items)
  good =
      all_good p items entries (parts_of_source m items) fair known placed (items_pass constant_fits m (bodies_of items) outermost items formed.constants)
      (items_pass assignment_fits m (bodies_of items) outermost items formed.assignments)

  agreed : AreAgreed entries
  agreed = items_agree m items (bodies_of items) outermost items fair none_agree

  called : (f : List ℕ) → is_among (bodies_of items) f ≡ true → IsCalled p items entries f
  called f a =
      let r = found m (bodies_of items) outermost items f a in
      record { function = r.function; at = r.at; types = r.types; stands = r.stands; many = r.many; defined = r.defined }

  -- the objects are those that parts declare
  of_objects : (P : List Object → Type 0) → P (declared m (bodies_of items) (parts_of_source m items)) → P p.objects
  of_objects P h = subst P (sym leads.are) h

  owned_so : owned_by p.functions ≡ objects_of (loose 0 p.objects)
  owned_so = owned_are m (bodies_of items) outermost items ∙ ap (λ l. objects_of (loose 0 l)) (sym leads.are)

  pub checked_program : IsProgram (program_of m property items)
  checked_program =
      let right = functions_right p items entries outermost items good in
      record {
        objects = of_objects (λ l. list_all object_fits l ≡ true) (declared_fit m (bodies_of items) (parts_of_source m items));
        cells = few_cells (cells_of_all p.objects) (of_objects (λ l. cells_of_all l ≤ most_declared_cells) (cells_below m items [] (parts_of_source m items) fair leads.behind (omega arith)));
        numbered = of_objects (λ l. rises (spots_of_objects l) ≡ true) (rises-part _ _ (objects_part m (bodies_of items) outermost items) formed.in_order);
        named = right.named;
        starts = starts_are p items entries outermost items (omega arith) good;
        started_once = distinct 0 _ (starts_of m (bodies_of items) outermost items) (starts_rise m (bodies_of items) outermost items);
        main = main_is m (bodies_of items) outermost items main;
        params = right.params;
        types = functions_are p items entries agreed called outermost items good;
        known = subst (λ l. list_all (is_object p) l ≡ true) (sym owned_so) (each_known p.objects);
        owned = subst (λ l. list_all (λ o. nat_eq (times_in o l) (cond (is_fixed p o) 0 1)) (range_with_len 0 (length p.objects)) ≡ true) (sym owned_so) (each_owned p.objects);
        reach = functions_reach p items entries outermost items tt good;
        blocks = functions_nest m (bodies_of items) outermost items formed.nested;
        jumps = functions_jump m items outermost items fair;
        in_order = rises-part _ _ (functions_part m (bodies_of items) outermost items) formed.in_order;
      }
