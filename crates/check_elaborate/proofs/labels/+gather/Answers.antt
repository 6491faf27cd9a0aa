use Rattle.std.proofs.Common.{◌≡◌, ◌++◌, ◌+◌, ◌∷◌, [], OnOk, List, ℕ, map, drop, refl, ap, sym, subst, ◌∙◌}
use Rattle.std.proofs.lemmas.List.{append_assoc, append-nil, drop_all}
use Rattle.std.specs.Prelude.{Option}
use Rattle.std.specs.declared.boxed.Box.{Box}
use Rattle.std.specs.declared.alloc.Global.{Global}
use Rattle.c_core.specs.declared.number.Spot.{Spot}
use Rattle.c_parser.specs.declared.tree.RawExpr.{RawExpr}
use Rattle.c_parser.specs.declared.tree.RawForm.TheVariants as form
use Rattle.c_parser.specs.Tree as raw
use Rattle.c_parser.specs.Tree.{stms, arms}
use Rattle.c_parser.specs.SourceView.{form_view, stmt_view, else_if}
use Rattle.c_parser.specs.declared.tree.RawForm.{RawForm}
use Rattle.c_parser.specs.declared.tree.RawStmt.{RawStmt}
use Rattle.c_parser.proofs.SourceViews.{view_of_block, view_of_switch}
use Rattle.check_rules.specs.Parts.{Label, labels_of, labels_in, labels_of_else, labels_of_block}
use Rattle.check_elaborate.specs.Walks.{label, labels_seen}
use Rattle.c_parser.specs.StatementParts.{raw_arm_view}
use Rattle.c_parser.specs.declared.tree.RawArm.{RawArm, out-RawArm}
use Rattle.check_elaborate.proofs.ArmLaws.{labels_from}
use Rattle.check_elaborate.proofs.BlockLaws.{next_statement, raw_view_of_if}
use Rattle.check_elaborate.proofs.labels.+gather.Goals as goal

none_in : (old : List Label) (p : Spot) (f g : RawForm) → f ≡ g → labels_in p (form_view g) ≡ [] → old ≡ old ++ labels_in p (form_view f)
none_in old p f g e h = sym (append-nil old) ∙ ap (λ (x : List Label). old ++ x) (sym h) ∙ ap (λ (x : RawForm). old ++ labels_in p (form_view x)) (sym e)

pub gather-returns-in-Block : goal.gather-returns-in-Block
gather-returns-in-Block t c =
    let p = c.args.s.now.spot in
    let old = labels_seen c.args.all.now.items in
    subst (λ (x : List Label). OnOk c.gather_block.result (labels_seen c.gather_block.new.all.items ≡ old ++ x))
    (ap (λ (xs : List RawStmt). labels_of_block (stms (map stmt_view xs))) c.as_slice.ensures
    ∙ sym (ap (labels_in p) (view_of_block c.in-Block.ss)) ∙ sym (ap (λ (f : RawForm). labels_in p (form_view f)) c.in-Block.is))
    c.gather_block.ensures

labels_of_if : (p : Spot) (f : RawForm) {e : RawExpr} (a : Box RawStmt Global) (b : Option (Box RawStmt Global)) → f ≡ form.If e a b
    → labels_in p (form_view f) ≡ labels_of (stmt_view a.value) ++ labels_of_else (else_if b)
labels_of_if p f {e} a b h = ap (λ (x : RawForm). labels_in p (form_view x)) h ∙ ap (labels_in p) (raw_view_of_if e a b)

pub gather-returns-in_ok-gather_else-in-If : goal.gather-returns-in_ok-gather_else-in-If
gather-returns-in_ok-gather_else-in-If t c =
    let old = labels_seen c.args.all.now.items in
    let yes = labels_of (stmt_view c.in-If.yes.value) in
    let no = labels_of_else (else_if c.in-If.no) in
    c.in_ok-gather_else-in-If.ensures
    ∙ ap (λ (x : List Label). x ++ no) (c.in_ok-gather-in-If.ensures ∙ ap (λ (s : RawStmt). old ++ labels_of (stmt_view s)) c.deref.ensures)
    ∙ append_assoc old yes no
    ∙ ap (λ (x : List Label). old ++ x) (sym (labels_of_if c.args.s.now.spot c.args.s.now.form c.in-If.yes c.in-If.no c.in-If.is))

pub gather_labelled-returns : goal.gather_labelled-returns
gather_labelled-returns t c =
    let of = labels_of (stmt_view c.args.of.now) in
    c.in_ok-gather.ensures ∙ ap (λ (x : List Label). x ++ of) c.in_ok-add.ensures ∙ append_assoc (labels_seen c.args.all.now.items) (label c.args.name.now c.args.spot ∷ []) of

pub gather_block-loop-s-preserved : goal.gather_block-loop-s-preserved
gather_block-loop-s-preserved t c =
    let x = stmt_view c.s-item.result in
    let rest = labels_of_block (stms (map stmt_view (drop (c.loop-s.s-index + 1) c.args.ss.now))) in
    let so_far = labels_seen c.loop-s.all.items in
    let next = next_statement c.args.ss.now c.loop-s.s-index c.s-item.result c.loop-s-test.true c.s-item.is in
    ap (λ (y : List Label). y ++ rest) c.in_ok-gather.ensures ∙ append_assoc so_far (labels_of x) rest
    ∙ sym (ap (λ (y : raw.Stms). so_far ++ labels_of_block y) next) ∙ c.loop-s.invariant

pub gather_block-returns : goal.gather_block-returns
gather_block-returns t c =
    let so_far = labels_seen c.loop-s.all.items in
    sym (append-nil so_far)
    ∙ ap (λ (xs : List RawStmt). so_far ++ labels_of_block (stms (map stmt_view xs))) (sym (drop_all c.loop-s.s-index c.args.ss.now c.loop-s-test.false))
    ∙ c.loop-s.invariant

pub gather-returns-in-Switch : goal.gather-returns-in-Switch
gather-returns-in-Switch t c =
    let p = c.args.s.now.spot in
    let old = labels_seen c.args.all.now.items in
    subst (λ (x : List Label). OnOk c.gather_arms.result (labels_seen c.gather_arms.new.all.items ≡ old ++ x))
    (ap (λ (xs : List RawArm). labels_of_block (arms (map raw_arm_view xs))) c.as_slice-in-Switch.ensures
    ∙ sym (ap (labels_in p) (view_of_switch c.in-Switch.test c.in-Switch.arms)) ∙ sym (ap (λ (f : RawForm). labels_in p (form_view f)) c.in-Switch.is))
    c.gather_arms.ensures

pub gather_arms-loop-arm-preserved : goal.gather_arms-loop-arm-preserved
gather_arms-loop-arm-preserved t c =
    let body = labels_of_block (stms (map stmt_view (out-RawArm c.arm-item.result).body)) in
    let rest = labels_of_block (arms (map raw_arm_view (drop (c.loop-arm.arm-index + 1) c.args.arms.now))) in
    let so_far = labels_seen c.loop-arm.all.items in
    ap (λ (y : List Label). y ++ rest) (c.in_ok-gather_block.ensures ∙ ap (λ (xs : List RawStmt). so_far ++ labels_of_block (stms (map stmt_view xs))) c.as_slice.ensures)
    ∙ append_assoc so_far body rest
    ∙ ap (λ (y : List Label). so_far ++ y) (sym (labels_from c.args.arms.now c.loop-arm.arm-index c.arm-item.result c.loop-arm-test.true c.arm-item.is))
    ∙ c.loop-arm.invariant

pub gather_arms-returns : goal.gather_arms-returns
gather_arms-returns t c =
    let so_far = labels_seen c.loop-arm.all.items in
    sym (append-nil so_far)
    ∙ ap (λ (xs : List RawArm). so_far ++ labels_of_block (arms (map raw_arm_view xs))) (sym (drop_all c.loop-arm.arm-index c.args.arms.now c.loop-arm-test.false))
    ∙ c.loop-arm.invariant

-- ---- forms that have no statement in them

pub gather-returns-in-Empty : goal.gather-returns-in-Empty
gather-returns-in-Empty t c = none_in (labels_seen c.args.all.now.items) c.args.s.now.spot c.args.s.now.form _ c.in-Empty.is refl

pub gather-returns-in-Expr : goal.gather-returns-in-Expr
gather-returns-in-Expr t c = none_in (labels_seen c.args.all.now.items) c.args.s.now.spot c.args.s.now.form _ c.in-Expr.is refl

pub gather-returns-in-Declare : goal.gather-returns-in-Declare
gather-returns-in-Declare t c = none_in (labels_seen c.args.all.now.items) c.args.s.now.spot c.args.s.now.form _ c.in-Declare.is refl

pub gather-returns-in-Break : goal.gather-returns-in-Break
gather-returns-in-Break t c = none_in (labels_seen c.args.all.now.items) c.args.s.now.spot c.args.s.now.form _ c.in-Break.is refl

pub gather-returns-in-Continue : goal.gather-returns-in-Continue
gather-returns-in-Continue t c = none_in (labels_seen c.args.all.now.items) c.args.s.now.spot c.args.s.now.form _ c.in-Continue.is refl

pub gather-returns-in-Return : goal.gather-returns-in-Return
gather-returns-in-Return t c = none_in (labels_seen c.args.all.now.items) c.args.s.now.spot c.args.s.now.form _ c.in-Return.is refl
