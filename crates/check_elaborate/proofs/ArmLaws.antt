-- The arms of a `switch`, one after another.
use Rattle.std.proofs.Common.{◌≡◌, ◌<◌, ◌+◌, ◌++◌, ℕ, List, [], ◌∷◌, length, drop, get_or, map, append_assoc, Option, refl, ap, sym, ◌∙◌}
use Rattle.std.proofs.lemmas.List.{drop_more}
use Rattle.c_core.specs.Tree as t
use Rattle.c_core.specs.View.{joined, arm_view, stmts_view, switch_view}
use Rattle.c_core.specs.declared.number.DataModel.{DataModel}
use Rattle.c_core.specs.declared.number.IntType.{IntType}
use Rattle.c_core.specs.declared.number.Spot.{Spot}
use Rattle.c_core.specs.declared.tree.Arm.{Arm}
use Rattle.c_core.specs.declared.tree.Stmt.{Stmt}
use Rattle.c_core.specs.declared.tree.Label.{Label as ArmLabel}
use Rattle.c_parser.specs.Tree as raw
use Rattle.c_parser.specs.Tree.{stms, arms}
use Rattle.c_parser.specs.SourceView.{label_view, stmt_view}
use Rattle.c_parser.specs.StatementParts.{raw_arm_view}
use Rattle.c_parser.specs.declared.tree.RawArm.{RawArm, out-RawArm}
use Rattle.check_rules.specs.Arms.{label_of}
use Rattle.check_rules.specs.Checked.{typed_arms, typed_label, typed_statement}
use Rattle.check_rules.specs.declared.within.Within.{Within}
use Rattle.check_rules.specs.Parts.{Part, Label, labels_of, labels_of_block, parts_of_arms, parts_of_statement}
use Rattle.check_rules.specs.Scopes.{Scope, seen, opened, after_arms}
use Rattle.check_elaborate.specs.Walks.{labelling}
use Rattle.check_elaborate.specs.InArms.{behind, after_in_arm, typed_in_arm, parts_in_arm}

pub next_arm : (all : List RawArm) (i : ℕ) (a : RawArm) → i < length all → a ≡ get_or all i a
    → arms (map raw_arm_view (drop i all)) ≡ raw.MoreCase (out-RawArm a).spot (label_view (out-RawArm a).label) (raw.joined (stms (map stmt_view (out-RawArm a).body)) (arms (map raw_arm_view (drop (i + 1) all))))
next_arm all i a h q = ap (λ (x : List RawArm). arms (map raw_arm_view x)) (drop_more all i a h ∙ ap (λ (x : RawArm). x ∷ drop (i + 1) all) (sym q))

-- ---- labels of statements

labels_joined : (b c : raw.Stms) → labels_of_block (raw.joined b c) ≡ labels_of_block b ++ labels_of_block c
labels_joined raw.NoStm c = refl
labels_joined (raw.MoreStm x b) c = ap (λ (y : List Label). labels_of x ++ y) (labels_joined b c) ∙ sym (append_assoc (labels_of x) (labels_of_block b) (labels_of_block c))
labels_joined (raw.MoreCase p l b) c = labels_joined b c

pub labels_from : (all : List RawArm) (i : ℕ) (a : RawArm) → i < length all → a ≡ get_or all i a
    → labels_of_block (arms (map raw_arm_view (drop i all))) ≡ labels_of_block (stms (map stmt_view (out-RawArm a).body)) ++ labels_of_block (arms (map raw_arm_view (drop (i + 1) all)))
labels_from all i a h q =
    ap labels_of_block (next_arm all i a h q) ∙ labels_joined (stms (map stmt_view (out-RawArm a).body)) (arms (map raw_arm_view (drop (i + 1) all)))

-- ---- the statements of an arm, and then others

module _ (m : DataModel) (bodies : List (List ℕ)) where
  pub after_joined : (s : Scope) (xs : List raw.Stm) (c : raw.Stms) → after_arms m bodies s (raw.joined (stms xs) c) ≡ after_arms m bodies (after_in_arm m bodies s xs) c
  after_joined s [] c = refl
  after_joined s (x ∷ xs) c = after_joined (behind m bodies s x) xs c

  pub typed_joined : (ty : IntType) (s : Scope) (xs : List raw.Stm) (c : raw.Stms)
      → typed_arms m bodies ty s (raw.joined (stms xs) c) ≡ joined (typed_in_arm m bodies s xs) (typed_arms m bodies ty (after_in_arm m bodies s xs) c)
  typed_joined ty s [] c = refl
  typed_joined ty s (x ∷ xs) c = ap (t.MoreStm (typed_statement m bodies (opened s) x)) (typed_joined ty (behind m bodies s x) xs c)

  pub parts_joined : (result : Option IntType) (within : Within) (ty : IntType) (before : List (Option ArmLabel)) (s : Scope) (xs : List raw.Stm) (c : raw.Stms)
      → parts_of_arms m bodies result within ty before s (raw.joined (stms xs) c) ≡ parts_in_arm m bodies result within s xs ++ parts_of_arms m bodies result within ty before (after_in_arm m bodies s xs) c
  parts_joined result within ty before s [] c = refl
  parts_joined result within ty before s (x ∷ xs) c =
      let own = parts_of_statement m bodies result within (opened s) x in
      ap (λ (y : List Part). own ++ y) (parts_joined result within ty before (behind m bodies s x) xs c)
      ∙ sym (append_assoc own (parts_in_arm m bodies result within (behind m bodies s x) xs) (parts_of_arms m bodies result within ty before (after_in_arm m bodies s (x ∷ xs)) c))

  pub arm_parts : (result : Option IntType) (within : Within) (ty : IntType) (before : List (Option ArmLabel)) (s : Scope) (spot : Spot) (l : raw.ArmLabel) (xs : List raw.Stm) (c : raw.Stms)
      → ((labelling before (label_of m bodies (seen s) ty l) spot (seen s) l ++ parts_in_arm m bodies result within s xs) ++ parts_of_arms m bodies result within ty (before ++ label_of m bodies (seen s) ty l ∷ []) (after_in_arm m bodies s xs) c)
      ≡ parts_of_arms m bodies result within ty before s (raw.MoreCase spot l (raw.joined (stms xs) c))
  arm_parts result within ty before s spot l xs c =
      let own = label_of m bodies (seen s) ty l in
      let more = before ++ own ∷ [] in
      append_assoc (labelling before own spot (seen s) l) (parts_in_arm m bodies result within s xs) (parts_of_arms m bodies result within ty more (after_in_arm m bodies s xs) c)
      ∙ ap (λ (y : List Part). labelling before own spot (seen s) l ++ y) (sym (parts_joined result within ty more s xs c))

  pub arm_typed-next : (ty : IntType) (s u : Scope) (spot : Spot) (label : ArmLabel) (l : raw.ArmLabel) (body : List Stmt) (xs : List raw.Stm) (c : raw.Stms) (new : t.Stms)
      → new ≡ t.MoreCase spot label (joined (stmts_view body) (typed_arms m bodies ty u c)) → label ≡ typed_label m bodies (seen s) ty l
      → stmts_view body ≡ typed_in_arm m bodies s xs → u ≡ after_in_arm m bodies s xs
      → new ≡ typed_arms m bodies ty s (raw.MoreCase spot l (raw.joined (stms xs) c))
  arm_typed-next ty s u spot label l body xs c new e f g h =
      let own = typed_label m bodies (seen s) ty l in
      e ∙ ap (λ (y : ArmLabel). t.MoreCase spot y (joined (stmts_view body) (typed_arms m bodies ty u c))) f
      ∙ ap (λ (y : t.Stms). t.MoreCase spot own (joined y (typed_arms m bodies ty u c))) g
      ∙ ap (λ (y : Scope). t.MoreCase spot own (joined (typed_in_arm m bodies s xs) (typed_arms m bodies ty y c))) h
      ∙ ap (t.MoreCase spot own) (sym (typed_joined ty s xs c))

-- ---- typed arms

-- these arms, and then others
abbrev pub arms_before : List Arm → t.Stms → t.Stms
arms_before [] rest = rest
arms_before (a ∷ all) rest = arm_view a (arms_before all rest)

pub arms_before-none : (all : List Arm) → arms_before all t.NoStm ≡ switch_view all
arms_before-none [] = refl
arms_before-none (a ∷ all) = ap (arm_view a) (arms_before-none all)

pub arms_before-one_more : (all : List Arm) (a : Arm) (rest : t.Stms) → arms_before (all ++ a ∷ []) rest ≡ arms_before all (arm_view a rest)
arms_before-one_more [] a rest = refl
arms_before-one_more (x ∷ all) a rest = ap (arm_view x) (arms_before-one_more all a rest)
