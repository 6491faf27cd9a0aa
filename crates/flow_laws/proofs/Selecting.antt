-- How the value of a `switch` chooses one of its arms: its address stands in a table.
use Rattle.std.proofs.Common.{◌≡◌, ℕ, suc, ◌+◌, ℤ, Bool, true, false, ◌||◌, cond, List, [], ◌∷◌, Option, Some, None, refl, sym, ap, ap₂, ◌∙◌}
use Rattle.std.specs.BTreeMap.{insert_entry}
use Rattle.std.specs.List.{list_any}
use Rattle.std.specs.Option.{unwrap_or}
use Rattle.std.specs.Ordering.{int_cmp, int_eq, is_eq, match_ordering}
use Rattle.std.specs.declared.cmp.Ordering.{Ordering}
use Rattle.std.specs.declared.cmp.Ordering.TheVariants.{Less, Equal, Greater}
use Rattle.std.proofs.lemmas.Bool.Decides.{Decides-int_eq}
use Rattle.std.proofs.lemmas.Map.Lookups.{exact_signed}
use Rattle.c_core.specs.Tree.{Program, Stms, NoStm, MoreStm, MoreCase}
use Rattle.c_core.specs.Typing.{is_default, labels_in}
use Rattle.c_core.specs.declared.number.Spot.{Spot}
use Rattle.c_core.specs.declared.tree.Label.{Label}
use Rattle.c_core.specs.declared.tree.Label.TheVariants.{Case, Default}
use Rattle.c_meaning.specs.declared.run.Event.{Event}
use Rattle.c_meaning.specs.declared.run.Event.TheVariants.{Branch as Branched}
use Rattle.c_meaning.specs.declared.run.Way.{Way}
use Rattle.c_meaning.specs.declared.run.Way.TheVariants.{Case as ByCase, Default as ByDefault}
use Rattle.c_meaning.specs.Acts.{Go}
use Rattle.c_meaning.specs.Cells.{Cell}
use Rattle.c_meaning.specs.Run.{State, Told, first_label, is_case, arm_for, way_for}
use Rattle.c_meaning.specs.Watching.{seen_by}
use Rattle.flow_code.specs.declared.code.Action.TheVariants.{Select}
use Rattle.flow_code.specs.declared.code.Code.{Code}
use Rattle.flow_code.specs.declared.sizes.Depth.{Depth}
use Rattle.flow_code.specs.Sizes.{size_of_statement}
use Rattle.flow_code.specs.Statements.{arm_at, with_cases, selection_code}
use Rattle.flow_code.specs.Tables.{address_in, address_or, added}
use Rattle.flow_laws.specs.Machines.{Control, Machine}
use Rattle.flow_laws.specs.Acting.{acted, sent, way_by}
use Rattle.flow_laws.specs.Stepping.{Reaches}
use Rattle.flow_laws.specs.inside.Simulating.{HasCode, control_at}
use Rattle.flow_laws.proofs.Operations.{standing}
use Rattle.flow_laws.proofs.Standing.{op_goes}

nested : {A : Type 0} (b : Bool) (x y z : A) → cond b x z ≡ cond b x (cond b y z)
nested true x y z = refl
nested false x y z = refl

swapped : {A : Type 0} (a b : Bool) (x y z : A) → (a ≡ true → b ≡ true → ⊥) → cond a x (cond b y z) ≡ cond b y (cond a x z)
swapped true true x y z h = absurd (h refl refl)
swapped true false x y z h = refl
swapped false true x y z h = refl
swapped false false x y z h = refl

never : (b : Bool) → b ≡ true → b ≡ false → ⊥
never true h g = cc
never false h g = cc

-- an entry that is put into a table stands for its own number alone
module _ (v x : ℤ) (to : ℕ) where
  not_both : (k : ℤ) → int_cmp v k ≡ Greater → int_eq x k ≡ true → int_eq x v ≡ true → ⊥
  not_both k h a b =
      never (int_eq v k) ((Decides-int_eq v k).1 (sym ((Decides-int_eq x v).0 b) ∙ (Decides-int_eq x k).0 a)) (ap is_eq h)

  put_by : (o : Ordering) (e : ℤ × ℕ) (es : List (ℤ × ℕ)) → int_cmp v e.0 ≡ o
      → address_in (insert_entry int_cmp es v to) x ≡ cond (int_eq x v) (Some to) (address_in es x)
      → address_in (match_ordering o ((v, to) ∷ e ∷ es) ((e.0, to) ∷ es) (e ∷ insert_entry int_cmp es v to)) x
      ≡ cond (int_eq x v) (Some to) (address_in (e ∷ es) x)
  put_by Less e es h rest = refl
  put_by Equal e es h rest =
      nested (int_eq x e.0) (Some to) (Some e.1) (address_in es x)
      ∙ ap (λ k. cond (int_eq x k) (Some to) (address_in (e ∷ es) x)) (sym (exact_signed v e.0 h))
  put_by Greater e es h rest =
      ap (λ o. cond (int_eq x e.0) (Some e.1) o) rest
      ∙ swapped (int_eq x e.0) (int_eq x v) (Some e.1) (Some to) (address_in es x) (not_both e.0 h)

  put : (es : List (ℤ × ℕ))
      → address_in (insert_entry int_cmp es v to) x ≡ cond (int_eq x v) (Some to) (address_in es x)
  put [] = refl
  put (e ∷ es) = put_by (int_cmp v e.0) e es refl (put es)

-- the first of two addresses, if there is one
abbrev first_of : Option ℕ → Option ℕ → Option ℕ
first_of None y = y
first_of (Some n) y = Some n

alone : (o : Option ℕ) → o ≡ first_of o None
alone None = refl
alone (Some n) = refl

kept : (o : Option ℕ) (to : ℕ) → Some (unwrap_or o to) ≡ first_of o (Some to)
kept None to = refl
kept (Some n) to = refl

module _ (x : ℤ) where
  -- an address that is added comes after those that are there
  added_by : (b : Bool) (t : List (ℤ × ℕ)) (v : ℤ) (to : ℕ) (m : Option ℕ) → int_eq x v ≡ b
      → first_of (cond b (Some (address_or t to v)) (address_in t x)) m
      ≡ first_of (address_in t x) (cond b (Some to) m)
  added_by true t v to m e =
      kept (address_in t v) to ∙ ap (λ z. first_of (address_in t z) (Some to)) (sym ((Decides-int_eq x v).0 e))
  added_by false t v to m e = refl

  added_is : (t : List (ℤ × ℕ)) (v : ℤ) (to : ℕ) (m : Option ℕ)
      → first_of (address_in (added t v to) x) m ≡ first_of (address_in t x) (cond (int_eq x v) (Some to) m)
  added_is t v to m =
      ap (λ o. first_of o m) (put v x (address_or t to v) t) ∙ added_by (int_eq x v) t v to m refl

  -- where the first constant among these labels that equals the number leads
  abbrev case_at : Depth → ℕ → Stms → Option ℕ
  case_at d to b =
      cond (list_any (is_case x) (labels_in b)) (Some (arm_at d to (first_label (is_case x) (labels_in b)) b)) None

  case_more : (d : Depth) (to : ℕ) (spot : Spot) (l : Label) (b : Stms) (e t : Bool) (n : ℕ)
      → cond e (Some to) (cond t (Some (arm_at d to n b)) None)
      ≡ cond (e || t) (Some (arm_at d to (cond e 0 (suc n)) (MoreCase spot l b))) None
  case_more d to spot l b true t n = refl
  case_more d to spot l b false t n = refl

  -- the table has the address of the first constant that equals the number
  cases_are : (t : List (ℤ × ℕ)) (d : Depth) (to : ℕ) (b : Stms)
      → address_in (with_cases t d to b) x ≡ first_of (address_in t x) (case_at d to b)
  cases_are t d to NoStm = alone (address_in t x)
  cases_are t d to (MoreStm s b) = cases_are t d (to + size_of_statement d s) b
  cases_are t d to (MoreCase spot (Case v) b) =
      cases_are (added t v to) d to b ∙ added_is t v to (case_at d to b)
      ∙ ap (λ o. first_of (address_in t x) o) (case_more d to spot (Case v) b (int_eq x v) (list_any (is_case x) (labels_in b))
      (first_label (is_case x) (labels_in b)))
  cases_are t d to (MoreCase spot Default b) = cases_are t d to b

  chosen_by : (t : Bool) (m n : ℕ) → unwrap_or (cond t (Some m) None) n ≡ cond t m n
  chosen_by true m n = refl
  chosen_by false m n = refl

  one_arm : (t : Bool) (d : Depth) (to m n : ℕ) (b : Stms)
      → cond t (arm_at d to m b) (arm_at d to n b) ≡ arm_at d to (cond t m n) b
  one_arm true d to m n b = refl
  one_arm false d to m n b = refl

  way_is : (t : Bool) (m : ℕ) → way_by (cond t (Some m) None) x ≡ cond t (ByCase x) ByDefault
  way_is true m = refl
  way_is false m = refl

  -- the number's address in the table, or that of the `default`, is where its arm begins
  pub chosen_arm : (d : Depth) (to : ℕ) (b : Stms)
      → address_or (with_cases [] d to b) (arm_at d to (first_label is_default (labels_in b)) b) x
      ≡ arm_at d to (arm_for x (labels_in b)) b
  chosen_arm d to b =
      let t = list_any (is_case x) (labels_in b) in
      let m = first_label (is_case x) (labels_in b) in
      let n = first_label is_default (labels_in b) in
      ap (λ o. unwrap_or o (arm_at d to n b)) (cases_are [] d to b)
      ∙ chosen_by t (arm_at d to m b) (arm_at d to n b) ∙ one_arm t d to m n b

  pub chosen_way : (d : Depth) (to : ℕ) (b : Stms)
      → way_by (address_in (with_cases [] d to b) x) x ≡ way_for x (labels_in b)
  chosen_way d to b =
      ap (λ o. way_by o x) (cases_are [] d to b)
      ∙ way_is (list_any (is_case x) (labels_in b)) (arm_at d to (first_label (is_case x) (labels_in b)) b)

module _ (p : Program) (c : Code) (S : Type 0) (after : Event → List Cell → S → S) (at : Spot) (x : ℤ) (k : Control)
    (s : State S) where
  -- the way through the `switch` is reported
  abbrev pub reported : Way → State S
  reported way = record s { seen = seen_by after (Told (Branched at way) s.cells) s.seen }

  -- the value is still on the stack
  abbrev pub holding : ℕ → Machine S
  holding i = standing (record k { stack = x ∷ k.stack }) i s

  -- the value leads to its arm, and the way is reported
  pub selects : (d : Depth) (i to : ℕ) (b : Stms) → HasCode c i (selection_code d at to b)
      → Reaches c S after (holding i) (standing k (arm_at d to (arm_for x (labels_in b)) b)
      (reported (way_for x (labels_in b))))
  selects d i to b h =
      let l = record k { stack = x ∷ k.stack } in
      let cases = with_cases [] d to b in
      let other = arm_at d to (first_label is_default (labels_in b)) b in
      let acts : acted c S after (Select at cases other) (control_at l (suc i)) s
      ≡ Go (control_at k (arm_at d to (arm_for x (labels_in b)) b)) (reported (way_for x (labels_in b))) =
      ap₂ (λ w n. sent c S after at w n (control_at l (suc i)) s) (chosen_way x d to b) (chosen_arm x d to b) in
      op_goes c S after p i l (control_at k (arm_at d to (arm_for x (labels_in b)) b)) s
      (reported (way_for x (labels_in b))) (Select at cases other) h.0 acts
