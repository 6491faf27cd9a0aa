use Rattle.std.proofs.Common.{◌≡◌, ◌+◌, ap, sym, ◌∙◌, drop, ◌++◌, ◌∷◌, []}
use Rattle.c_core.specs.Places.{places_of_block, places_of_form, places_of_statement, places_in, place}
use Rattle.c_core.specs.Tree.{Block, Switch}
use Rattle.c_core.specs.View.{expr_view, stmts_view, switch_view, form_view, stmt_view}
use Rattle.c_core.specs.declared.place.PlaceKind.TheVariants.{Branch}
use Rattle.c_core.specs.declared.tree.Arm.{out-Arm}
use Rattle.c_core.proofs.ArmLaws.{item_first}
use Rattle.c_core.proofs.View.{view_of_block, view_of_switch}
use Rattle.way_places.specs.Seeking.{best_of}
use Rattle.way_places.proofs.ArmLaws.{places_from}
use Rattle.way_places.proofs.SeekingLaws.{best_of_both}
use Rattle.way_places.proofs.place.Location.+statement.Goals as goal

pub block-loop-s-preserved : goal.block-loop-s-preserved
block-loop-s-preserved t c =
    ap (λ b. best_of c.args.self.now.kind c.args.self.now.line c.args.self.now.column b (places_of_block (stmts_view (drop (c.loop-s.s-index + 1) c.args.body.now)))) c.statement-nearest.ensures
    ∙ sym (best_of_both c.args.self.now.kind c.args.self.now.line c.args.self.now.column c.loop-s.nearest (places_of_statement (stmt_view c.s-item.result)) (places_of_block (stmts_view (drop (c.loop-s.s-index + 1) c.args.body.now))))
    ∙ sym (ap (λ xs. best_of c.args.self.now.kind c.args.self.now.line c.args.self.now.column c.loop-s.nearest (places_of_block (stmts_view xs))) (item_first c.args.body.now c.loop-s.s-index c.s-item.result c.loop-s-test.true c.s-item.is))
    ∙ c.loop-s.invariant

pub form-returns-in-Block : goal.form-returns-in-Block
form-returns-in-Block t c =
    let e : form_view c.args.form.now ≡ Block (stmts_view c.in-Block.body) = ap form_view c.in-Block.is ∙ view_of_block c.in-Block.body in
    c.block.ensures
    ∙ ap (λ ss. best_of c.args.self.now.kind c.args.self.now.line c.args.self.now.column c.args.best (places_of_block (stmts_view ss))) c.as_slice-in-Block.ensures
    ∙ sym (ap (λ f. best_of c.args.self.now.kind c.args.self.now.line c.args.self.now.column c.args.best (places_of_form c.args.at f)) e)

pub arms-loop-arm-preserved : goal.arms-loop-arm-preserved
arms-loop-arm-preserved t c =
    let rest = places_of_block (switch_view (drop (c.loop-arm.arm-index + 1) c.args.arms.now)) in
    let body = places_of_block (stmts_view (out-Arm c.arm-item.result).body) in
    ap (λ b. best_of c.args.self.now.kind c.args.self.now.line c.args.self.now.column b rest) (c.block-nearest.ensures ∙ ap (λ ss. best_of c.args.self.now.kind c.args.self.now.line c.args.self.now.column c.loop-arm.nearest (places_of_block (stmts_view ss))) c.as_slice.ensures)
    ∙ sym (best_of_both c.args.self.now.kind c.args.self.now.line c.args.self.now.column c.loop-arm.nearest body rest)
    ∙ sym (ap (λ xs. best_of c.args.self.now.kind c.args.self.now.line c.args.self.now.column c.loop-arm.nearest xs) (places_from c.args.arms.now c.loop-arm.arm-index c.arm-item.result c.loop-arm-test.true c.arm-item.is))
    ∙ c.loop-arm.invariant

pub form-returns-in-Switch : goal.form-returns-in-Switch
form-returns-in-Switch t c =
    let e : form_view c.args.form.now ≡ Switch (expr_view c.in-Switch.test) (switch_view c.in-Switch.arms) = ap form_view c.in-Switch.is ∙ view_of_switch c.in-Switch.test c.in-Switch.arms in
    let own = place Branch c.args.at ∷ [] in
    let test = places_in (expr_view c.in-Switch.test) in
    let arms = places_of_block (switch_view c.in-Switch.arms) in
    c.arms.ensures
    ∙ ap (λ ss. best_of c.args.self.now.kind c.args.self.now.line c.args.self.now.column c.expression-best-in-Switch.result (places_of_block (switch_view ss))) c.as_slice-in-Switch.ensures
    ∙ ap (λ b. best_of c.args.self.now.kind c.args.self.now.line c.args.self.now.column b arms) (c.expression-best-in-Switch.ensures ∙ ap (λ b. best_of c.args.self.now.kind c.args.self.now.line c.args.self.now.column b test) c.own-best-in-Switch.ensures)
    ∙ sym (best_of_both c.args.self.now.kind c.args.self.now.line c.args.self.now.column c.args.best (own ++ test) arms ∙ ap (λ b. best_of c.args.self.now.kind c.args.self.now.line c.args.self.now.column b arms) (best_of_both c.args.self.now.kind c.args.self.now.line c.args.self.now.column c.args.best own test))
    ∙ sym (ap (λ f. best_of c.args.self.now.kind c.args.self.now.line c.args.self.now.column c.args.best (places_of_form c.args.at f)) e)
