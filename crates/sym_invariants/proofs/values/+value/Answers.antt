use mir.Val.{SFits}
use mir.Syntax.{w128}
use Rattle.std.proofs.lemmas.Int.{to_z-of_z}
use Rattle.std.proofs.Common.{rules, ◌≡◌, ◌∙◌, refl, sym, ap, subst, arith, None}
use Rattle.c_core.specs.Tree.{Expr, Const, Var, Index, Unary, Cast, Step, Binary, Logic, Choose, Comma, Assign, Call, NoExp, MoreExp}
use Rattle.c_core.specs.View.{program_view, expr_view, exprs_view, node_view}
use Rattle.c_core.proofs.View.{view_of_index, view_of_call}
use Rattle.c_meaning.specs.Value.{value_of}
use Rattle.c_meaning.proofs.Valued.{step_gives, assign_gives, call_gives}
use Rattle.sym_invariants.specs.Valued.{weight_of, Ready, SeesExpression}
use Rattle.sym_invariants.proofs.Forms.{element_first, const_fits, const_sees, scalar_typed, var_sees, none_sees, unary_first, unary_side, unary_step, cast_first, cast_side, cast_step, void_step, binary_first, binary_next, binary_sides, binary_defined, binary_step, logic_first, logic_next, logic_sides, logic_defined, logic_step, comma_first, comma_next, comma_defined, comma_room, comma_step, choice_first, choice_yes, choice_no, yes_in, yes_fits, no_in, no_fits, chosen_sides, choice_step, element_side, element_step, row_next, row_sides, row_defined, row_step}
use Rattle.sym_invariants.proofs.values.+value.Goals as goal

pub value_bits-element-requires : goal.value_bits-element-requires
value_bits-element-requires t c =
    let e : node_view c.args.e.now.node ≡ Index c.in-Index.object (exprs_view c.as_slice.result.now) =
    ap node_view c.in-Index.is ∙ view_of_index c.in-Index.object c.in-Index.at ∙ ap (λ es. Index c.in-Index.object (exprs_view es)) (sym c.as_slice.ensures) in
    (omega (arith, c.decreases, ap (λ k. weight_of (program_view c.args.program.now) (Expr c.args.e.now.spot c.args.e.now.ty k)) e), subst (λ k. Ready (program_view c.args.program.now) c.args.sym.now (Expr c.args.e.now.spot c.args.e.now.ty k)) e c.requires)

pub value_bits-returns-in_ok-r-in-Index : goal.value_bits-returns-in_ok-r-in-Index
value_bits-returns-in_ok-r-in-Index t c =
    let e : node_view c.args.e.now.node ≡ Index c.in-Index.object (exprs_view c.as_slice.result.now) =
    ap node_view c.in-Index.is ∙ view_of_index c.in-Index.object c.in-Index.at ∙ ap (λ es. Index c.in-Index.object (exprs_view es)) (sym c.as_slice.ensures) in
    subst (λ k. SeesExpression (program_view c.args.program.now) (Expr c.args.e.now.spot c.args.e.now.ty k) c.args.sym.now c.element.new.sym c.in_ok-r-in-Index.r.bits.bits c.in_ok-r-in-Index.r.defined) (sym e) c.in_ok-r-in-Index.ensures

pub value_bits-unary-requires : goal.value_bits-unary-requires
value_bits-unary-requires t c =
    let e : node_view c.args.e.now.node ≡ Unary c.in-Unary.op (expr_view c.deref.result.now) = rw (c.in-Unary.is, c.deref.ensures) refl in
    (omega (arith, c.decreases, ap (λ k. weight_of (program_view c.args.program.now) (Expr c.args.e.now.spot c.args.e.now.ty k)) e), subst (λ k. Ready (program_view c.args.program.now) c.args.sym.now (Expr c.args.e.now.spot c.args.e.now.ty k)) e c.requires)

pub value_bits-returns-in_ok-r-in-Unary : goal.value_bits-returns-in_ok-r-in-Unary
value_bits-returns-in_ok-r-in-Unary t c =
    let e : node_view c.args.e.now.node ≡ Unary c.in-Unary.op (expr_view c.deref.result.now) = rw (c.in-Unary.is, c.deref.ensures) refl in
    subst (λ k. SeesExpression (program_view c.args.program.now) (Expr c.args.e.now.spot c.args.e.now.ty k) c.args.sym.now c.unary.new.sym c.in_ok-r-in-Unary.r.bits.bits c.in_ok-r-in-Unary.r.defined) (sym e) c.in_ok-r-in-Unary.ensures

pub value_bits-cast-requires : goal.value_bits-cast-requires
value_bits-cast-requires t c =
    let e : node_view c.args.e.now.node ≡ Cast (expr_view c.deref-in-Cast.result.now) = rw (c.in-Cast.is, c.deref-in-Cast.ensures) refl in
    (omega (arith, c.decreases, ap (λ k. weight_of (program_view c.args.program.now) (Expr c.args.e.now.spot c.args.e.now.ty k)) e), subst (λ k. Ready (program_view c.args.program.now) c.args.sym.now (Expr c.args.e.now.spot c.args.e.now.ty k)) e c.requires)

pub value_bits-returns-in_ok-r-in-Cast : goal.value_bits-returns-in_ok-r-in-Cast
value_bits-returns-in_ok-r-in-Cast t c =
    let e : node_view c.args.e.now.node ≡ Cast (expr_view c.deref-in-Cast.result.now) = rw (c.in-Cast.is, c.deref-in-Cast.ensures) refl in
    subst (λ k. SeesExpression (program_view c.args.program.now) (Expr c.args.e.now.spot c.args.e.now.ty k) c.args.sym.now c.cast.new.sym c.in_ok-r-in-Cast.r.bits.bits c.in_ok-r-in-Cast.r.defined) (sym e) c.in_ok-r-in-Cast.ensures

pub value_bits-binary-requires : goal.value_bits-binary-requires
value_bits-binary-requires t c =
    let e : node_view c.args.e.now.node ≡ Binary c.in-Binary.op (expr_view c.deref-in-Binary.result.now) (expr_view c.deref-in-Binary-2.result.now) = rw (c.in-Binary.is, c.deref-in-Binary.ensures, c.deref-in-Binary-2.ensures) refl in
    (omega (arith, c.decreases, ap (λ k. weight_of (program_view c.args.program.now) (Expr c.args.e.now.spot c.args.e.now.ty k)) e), subst (λ k. Ready (program_view c.args.program.now) c.args.sym.now (Expr c.args.e.now.spot c.args.e.now.ty k)) e c.requires)

pub value_bits-returns-in_ok-r-in-Binary : goal.value_bits-returns-in_ok-r-in-Binary
value_bits-returns-in_ok-r-in-Binary t c =
    let e : node_view c.args.e.now.node ≡ Binary c.in-Binary.op (expr_view c.deref-in-Binary.result.now) (expr_view c.deref-in-Binary-2.result.now) = rw (c.in-Binary.is, c.deref-in-Binary.ensures, c.deref-in-Binary-2.ensures) refl in
    subst (λ k. SeesExpression (program_view c.args.program.now) (Expr c.args.e.now.spot c.args.e.now.ty k) c.args.sym.now c.binary.new.sym c.in_ok-r-in-Binary.r.bits.bits c.in_ok-r-in-Binary.r.defined) (sym e) c.in_ok-r-in-Binary.ensures

pub value_bits-logic-requires : goal.value_bits-logic-requires
value_bits-logic-requires t c =
    let e : node_view c.args.e.now.node ≡ Logic c.in-Logic.both (expr_view c.deref-in-Logic.result.now) (expr_view c.deref-in-Logic-2.result.now) = rw (c.in-Logic.is, c.deref-in-Logic.ensures, c.deref-in-Logic-2.ensures) refl in
    (omega (arith, c.decreases, ap (λ k. weight_of (program_view c.args.program.now) (Expr c.args.e.now.spot c.args.e.now.ty k)) e), subst (λ k. Ready (program_view c.args.program.now) c.args.sym.now (Expr c.args.e.now.spot c.args.e.now.ty k)) e c.requires)

pub value_bits-returns-in_ok-r-in-Logic : goal.value_bits-returns-in_ok-r-in-Logic
value_bits-returns-in_ok-r-in-Logic t c =
    let e : node_view c.args.e.now.node ≡ Logic c.in-Logic.both (expr_view c.deref-in-Logic.result.now) (expr_view c.deref-in-Logic-2.result.now) = rw (c.in-Logic.is, c.deref-in-Logic.ensures, c.deref-in-Logic-2.ensures) refl in
    subst (λ k. SeesExpression (program_view c.args.program.now) (Expr c.args.e.now.spot c.args.e.now.ty k) c.args.sym.now c.logic.new.sym c.in_ok-r-in-Logic.r.bits.bits c.in_ok-r-in-Logic.r.defined) (sym e) c.in_ok-r-in-Logic.ensures

pub value_bits-choice-requires : goal.value_bits-choice-requires
value_bits-choice-requires t c =
    let e : node_view c.args.e.now.node ≡ Choose c.in-Choose.mark (expr_view c.deref-in-Choose.result.now) (expr_view c.deref-in-Choose-2.result.now) (expr_view c.deref-in-Choose-3.result.now) = rw (c.in-Choose.is, c.deref-in-Choose.ensures, c.deref-in-Choose-2.ensures, c.deref-in-Choose-3.ensures) refl in
    (omega (arith, c.decreases, ap (λ k. weight_of (program_view c.args.program.now) (Expr c.args.e.now.spot c.args.e.now.ty k)) e), subst (λ k. Ready (program_view c.args.program.now) c.args.sym.now (Expr c.args.e.now.spot c.args.e.now.ty k)) e c.requires)

pub value_bits-returns-in_ok-r-in-Choose : goal.value_bits-returns-in_ok-r-in-Choose
value_bits-returns-in_ok-r-in-Choose t c =
    let e : node_view c.args.e.now.node ≡ Choose c.in-Choose.mark (expr_view c.deref-in-Choose.result.now) (expr_view c.deref-in-Choose-2.result.now) (expr_view c.deref-in-Choose-3.result.now) = rw (c.in-Choose.is, c.deref-in-Choose.ensures, c.deref-in-Choose-2.ensures, c.deref-in-Choose-3.ensures) refl in
    subst (λ k. SeesExpression (program_view c.args.program.now) (Expr c.args.e.now.spot c.args.e.now.ty k) c.args.sym.now c.choice.new.sym c.in_ok-r-in-Choose.r.bits.bits c.in_ok-r-in-Choose.r.defined) (sym e) c.in_ok-r-in-Choose.ensures

pub value_bits-comma-requires : goal.value_bits-comma-requires
value_bits-comma-requires t c =
    let e : node_view c.args.e.now.node ≡ Comma (expr_view c.deref-in-Comma.result.now) (expr_view c.deref-in-Comma-2.result.now) = rw (c.in-Comma.is, c.deref-in-Comma.ensures, c.deref-in-Comma-2.ensures) refl in
    (omega (arith, c.decreases, ap (λ k. weight_of (program_view c.args.program.now) (Expr c.args.e.now.spot c.args.e.now.ty k)) e), subst (λ k. Ready (program_view c.args.program.now) c.args.sym.now (Expr c.args.e.now.spot c.args.e.now.ty k)) e c.requires)

pub value_bits-returns-in_ok-r-in-Comma : goal.value_bits-returns-in_ok-r-in-Comma
value_bits-returns-in_ok-r-in-Comma t c =
    let e : node_view c.args.e.now.node ≡ Comma (expr_view c.deref-in-Comma.result.now) (expr_view c.deref-in-Comma-2.result.now) = rw (c.in-Comma.is, c.deref-in-Comma.ensures, c.deref-in-Comma-2.ensures) refl in
    subst (λ k. SeesExpression (program_view c.args.program.now) (Expr c.args.e.now.spot c.args.e.now.ty k) c.args.sym.now c.comma.new.sym c.in_ok-r-in-Comma.r.bits.bits c.in_ok-r-in-Comma.r.defined) (sym e) c.in_ok-r-in-Comma.ensures

pub value_bits-constant-requires : goal.value_bits-constant-requires
value_bits-constant-requires t c =
    let e : node_view c.args.e.now.node ≡ Const c.in-Const.value = rw c.in-Const.is refl in
    let z : SFits w128 c.in-Const.value = search rules in
    rw (to_z-of_z w128 c.in-Const.value z)
    (const_fits (program_view c.args.program.now) c.args.sym.now c.args.e.now.spot c.args.e.now.ty c.in-Const.value c.type_of.result c.type_of.ensures (subst (λ k. Ready (program_view c.args.program.now) c.args.sym.now (Expr c.args.e.now.spot c.args.e.now.ty k)) e c.requires))

pub value_bits-returns-in_ok-r-in-Const : goal.value_bits-returns-in_ok-r-in-Const
value_bits-returns-in_ok-r-in-Const t c =
    let e : node_view c.args.e.now.node ≡ Const c.in-Const.value = rw c.in-Const.is refl in
    let z : SFits w128 c.in-Const.value = search rules in
    let k = rw (to_z-of_z w128 c.in-Const.value z) at c.in_ok-r-in-Const.ensures in
    subst (λ k. SeesExpression (program_view c.args.program.now) (Expr c.args.e.now.spot c.args.e.now.ty k) c.args.sym.now c.args.sym.now c.in_ok-r-in-Const.r.bits.bits c.in_ok-r-in-Const.r.defined) (sym e)
    (const_sees (program_view c.args.program.now) c.args.sym.now c.in_ok-r-in-Const.r.bits.bits c.in_ok-r-in-Const.r.defined c.args.e.now.spot c.args.e.now.ty c.in-Const.value c.type_of.result c.type_of.ensures (subst (λ k. Ready (program_view c.args.program.now) c.args.sym.now (Expr c.args.e.now.spot c.args.e.now.ty k)) e c.requires) k)

pub value_bits-cell-requires-clause-typed : goal.value_bits-cell-requires-clause-typed
value_bits-cell-requires-clause-typed t c =
    let e : node_view c.args.e.now.node ≡ Var c.in-Var.object = rw c.in-Var.is refl in
    scalar_typed (program_view c.args.program.now) c.args.sym.now c.args.e.now.spot c.args.e.now.ty c.in-Var.object c.type_of-in-Var.result c.type_of-in-Var.ensures (subst (λ k. Ready (program_view c.args.program.now) c.args.sym.now (Expr c.args.e.now.spot c.args.e.now.ty k)) e c.requires)

pub value_bits-returns-in_ok-r-in-Var : goal.value_bits-returns-in_ok-r-in-Var
value_bits-returns-in_ok-r-in-Var t c =
    let e : node_view c.args.e.now.node ≡ Var c.in-Var.object = rw c.in-Var.is refl in
    subst (λ k. SeesExpression (program_view c.args.program.now) (Expr c.args.e.now.spot c.args.e.now.ty k) c.args.sym.now c.args.sym.now c.in_ok-r-in-Var.r.bits.bits c.in_ok-r-in-Var.r.defined) (sym e)
    (var_sees (program_view c.args.program.now) c.args.sym.now c.in_ok-r-in-Var.r.bits.bits c.in_ok-r-in-Var.r.defined c.args.e.now.spot c.args.e.now.ty c.in-Var.object c.type_of-in-Var.result c.type_of-in-Var.ensures (subst (λ k. Ready (program_view c.args.program.now) c.args.sym.now (Expr c.args.e.now.spot c.args.e.now.ty k)) e c.requires) c.in_ok-r-in-Var.ensures)

pub value_bits-returns-in_ok-r-in-Step : goal.value_bits-returns-in_ok-r-in-Step
value_bits-returns-in_ok-r-in-Step t c =
    let e : node_view c.args.e.now.node ≡ Step c.in-Step.op (expr_view c.in-Step.target.value) = rw c.in-Step.is refl in
    none_sees (program_view c.args.program.now) c.args.sym.now c.in_ok-r-in-Step.r.bits.bits c.in_ok-r-in-Step.r.defined c.args.e.now.spot c.args.e.now.ty (node_view c.args.e.now.node) c.type_of-in-Step.result c.type_of-in-Step.ensures c.requires.fits
    (λ cs. subst (λ k. value_of (program_view c.args.program.now) (Expr c.args.e.now.spot c.args.e.now.ty k) cs ≡ None) (sym e) (step_gives (program_view c.args.program.now) c.args.e.now.spot c.args.e.now.ty cs c.in-Step.op (expr_view c.in-Step.target.value))) c.in_ok-r-in-Step.ensures

pub value_bits-returns-in_ok-r-in-Assign : goal.value_bits-returns-in_ok-r-in-Assign
value_bits-returns-in_ok-r-in-Assign t c =
    let e : node_view c.args.e.now.node ≡ Assign c.in-Assign.op (expr_view c.in-Assign.target.value) (expr_view c.in-Assign.from.value) = rw c.in-Assign.is refl in
    none_sees (program_view c.args.program.now) c.args.sym.now c.in_ok-r-in-Assign.r.bits.bits c.in_ok-r-in-Assign.r.defined c.args.e.now.spot c.args.e.now.ty (node_view c.args.e.now.node) c.type_of-in-Assign.result c.type_of-in-Assign.ensures c.requires.fits
    (λ cs. subst (λ k. value_of (program_view c.args.program.now) (Expr c.args.e.now.spot c.args.e.now.ty k) cs ≡ None) (sym e) (assign_gives (program_view c.args.program.now) c.args.e.now.spot c.args.e.now.ty cs c.in-Assign.op (expr_view c.in-Assign.target.value) (expr_view c.in-Assign.from.value))) c.in_ok-r-in-Assign.ensures

pub value_bits-returns-in_ok-r-in-Call : goal.value_bits-returns-in_ok-r-in-Call
value_bits-returns-in_ok-r-in-Call t c =
    let e : node_view c.args.e.now.node ≡ Call c.in-Call.callee (exprs_view c.in-Call.args) c.in-Call.close = ap node_view c.in-Call.is ∙ view_of_call c.in-Call.callee c.in-Call.args c.in-Call.close in
    none_sees (program_view c.args.program.now) c.args.sym.now c.in_ok-r-in-Call.r.bits.bits c.in_ok-r-in-Call.r.defined c.args.e.now.spot c.args.e.now.ty (node_view c.args.e.now.node) c.type_of-in-Call.result c.type_of-in-Call.ensures c.requires.fits
    (λ cs. subst (λ k. value_of (program_view c.args.program.now) (Expr c.args.e.now.spot c.args.e.now.ty k) cs ≡ None) (sym e) (call_gives (program_view c.args.program.now) c.args.e.now.spot c.args.e.now.ty cs c.in-Call.callee (exprs_view c.in-Call.args) c.in-Call.close)) c.in_ok-r-in-Call.ensures

pub unary-value_bits-requires : goal.unary-value_bits-requires
unary-value_bits-requires t c = (omega (arith, c.decreases), unary_first (program_view c.args.program.now) c.args.spot c.args.ty c.args.op (expr_view c.args.of.now) c.requires)

pub unary-operated_one-requires-clause-x_in : goal.unary-operated_one-requires-clause-x_in
unary-operated_one-requires-clause-x_in t c = (unary_side (program_view c.args.program.now) c.args.spot c.args.ty c.args.op (expr_view c.args.of.now) c.type_of.result c.type_of.ensures c.requires c.in_ok-x.ensures).0

pub unary-operated_one-requires-clause-room : goal.unary-operated_one-requires-clause-room
unary-operated_one-requires-clause-room t c = (unary_side (program_view c.args.program.now) c.args.spot c.args.ty c.args.op (expr_view c.args.of.now) c.type_of.result c.type_of.ensures c.requires c.in_ok-x.ensures).1

pub unary-returns : goal.unary-returns
unary-returns t c = unary_step (program_view c.args.program.now) c.args.spot c.args.ty c.args.op (expr_view c.args.of.now) c.type_of.result c.type_of.ensures c.requires c.in_ok-x.ensures c.in_ok-r.ensures

pub cast-value_bits-requires : goal.cast-value_bits-requires
cast-value_bits-requires t c = (omega (arith, c.decreases), cast_first (program_view c.args.program.now) c.args.spot c.args.ty (expr_view c.args.of.now) c.requires)

pub cast-converted-requires-clause-x_in : goal.cast-converted-requires-clause-x_in
cast-converted-requires-clause-x_in t c = cast_side (program_view c.args.program.now) c.args.spot c.args.ty (expr_view c.args.of.now) c.in-Some.to c.type_of.result c.in-Some.is c.type_of.ensures c.requires c.in_ok-x.ensures

pub cast-returns-in_ok-r-in-Some : goal.cast-returns-in_ok-r-in-Some
cast-returns-in_ok-r-in-Some t c = cast_step (program_view c.args.program.now) c.args.spot c.args.ty (expr_view c.args.of.now) c.in-Some.to c.type_of.result c.in-Some.is c.type_of.ensures c.requires c.in_ok-x.ensures c.in_ok-r-in-Some.ensures

pub cast-returns-in-None : goal.cast-returns-in-None
cast-returns-in-None t c = void_step (program_view c.args.program.now) c.args.spot c.args.ty (expr_view c.args.of.now) c.in-None.is c.in_ok-x.ensures

pub binary-value_bits-requires : goal.binary-value_bits-requires
binary-value_bits-requires t c = (omega (arith, c.decreases), binary_first (program_view c.args.program.now) c.args.spot c.args.ty c.args.op (expr_view c.args.left.now) (expr_view c.args.right.now) c.requires)

pub binary-value_bits-requires-2 : goal.binary-value_bits-requires-2
binary-value_bits-requires-2 t c = (omega (arith, c.decreases), binary_next (program_view c.args.program.now) c.args.spot c.args.ty c.args.op (expr_view c.args.left.now) (expr_view c.args.right.now) c.requires c.in_ok-x.ensures)

pub binary-operated-requires-clause-x_in : goal.binary-operated-requires-clause-x_in
binary-operated-requires-clause-x_in t c = (binary_sides (program_view c.args.program.now) c.args.spot c.args.ty c.args.op (expr_view c.args.left.now) (expr_view c.args.right.now) c.type_of.result c.type_of-2.result c.type_of.ensures c.type_of-2.ensures c.requires c.in_ok-x.ensures c.in_ok-y.ensures).0

pub binary-operated-requires-clause-x_defined : goal.binary-operated-requires-clause-x_defined
binary-operated-requires-clause-x_defined t c = binary_defined (program_view c.args.program.now) c.args.spot c.args.ty c.args.op (expr_view c.args.left.now) (expr_view c.args.right.now) c.requires c.in_ok-x.ensures c.in_ok-y.ensures

pub binary-operated-requires-clause-y_in : goal.binary-operated-requires-clause-y_in
binary-operated-requires-clause-y_in t c = (binary_sides (program_view c.args.program.now) c.args.spot c.args.ty c.args.op (expr_view c.args.left.now) (expr_view c.args.right.now) c.type_of.result c.type_of-2.result c.type_of.ensures c.type_of-2.ensures c.requires c.in_ok-x.ensures c.in_ok-y.ensures).1

pub binary-operated-requires-clause-room : goal.binary-operated-requires-clause-room
binary-operated-requires-clause-room t c = (binary_sides (program_view c.args.program.now) c.args.spot c.args.ty c.args.op (expr_view c.args.left.now) (expr_view c.args.right.now) c.type_of.result c.type_of-2.result c.type_of.ensures c.type_of-2.ensures c.requires c.in_ok-x.ensures c.in_ok-y.ensures).2

pub binary-returns : goal.binary-returns
binary-returns t c = binary_step (program_view c.args.program.now) c.args.spot c.args.ty c.args.op (expr_view c.args.left.now) (expr_view c.args.right.now) c.type_of.result c.type_of-2.result c.type_of.ensures c.type_of-2.ensures c.requires c.in_ok-x.ensures c.in_ok-y.ensures c.in_ok-r.ensures

pub logic-value_bits-requires : goal.logic-value_bits-requires
logic-value_bits-requires t c = (omega (arith, c.decreases), logic_first (program_view c.args.program.now) c.args.spot c.args.ty c.args.both (expr_view c.args.left.now) (expr_view c.args.right.now) c.requires)

pub logic-value_bits-requires-2 : goal.logic-value_bits-requires-2
logic-value_bits-requires-2 t c = (omega (arith, c.decreases), logic_next (program_view c.args.program.now) c.args.spot c.args.ty c.args.both (expr_view c.args.left.now) (expr_view c.args.right.now) c.requires c.in_ok-x.ensures)

pub logic-decided-requires-clause-x_in : goal.logic-decided-requires-clause-x_in
logic-decided-requires-clause-x_in t c = (logic_sides (program_view c.args.program.now) c.args.spot c.args.ty c.args.both (expr_view c.args.left.now) (expr_view c.args.right.now) c.type_of.result c.type_of-2.result c.type_of.ensures c.type_of-2.ensures c.requires c.in_ok-x.ensures c.in_ok-y.ensures).0

pub logic-decided-requires-clause-x_defined : goal.logic-decided-requires-clause-x_defined
logic-decided-requires-clause-x_defined t c = logic_defined (program_view c.args.program.now) c.args.spot c.args.ty c.args.both (expr_view c.args.left.now) (expr_view c.args.right.now) c.requires c.in_ok-x.ensures c.in_ok-y.ensures

pub logic-decided-requires-clause-y_in : goal.logic-decided-requires-clause-y_in
logic-decided-requires-clause-y_in t c = (logic_sides (program_view c.args.program.now) c.args.spot c.args.ty c.args.both (expr_view c.args.left.now) (expr_view c.args.right.now) c.type_of.result c.type_of-2.result c.type_of.ensures c.type_of-2.ensures c.requires c.in_ok-x.ensures c.in_ok-y.ensures).1

pub logic-decided-requires-clause-room : goal.logic-decided-requires-clause-room
logic-decided-requires-clause-room t c = (logic_sides (program_view c.args.program.now) c.args.spot c.args.ty c.args.both (expr_view c.args.left.now) (expr_view c.args.right.now) c.type_of.result c.type_of-2.result c.type_of.ensures c.type_of-2.ensures c.requires c.in_ok-x.ensures c.in_ok-y.ensures).2

pub logic-returns : goal.logic-returns
logic-returns t c = logic_step (program_view c.args.program.now) c.args.spot c.args.ty c.args.both (expr_view c.args.left.now) (expr_view c.args.right.now) c.type_of.result c.type_of-2.result c.type_of.ensures c.type_of-2.ensures c.requires c.in_ok-x.ensures c.in_ok-y.ensures c.in_ok-r.ensures

pub comma-value_bits-requires : goal.comma-value_bits-requires
comma-value_bits-requires t c = (omega (arith, c.decreases), comma_first (program_view c.args.program.now) c.args.spot c.args.ty (expr_view c.args.first.now) (expr_view c.args.last.now) c.requires)

pub comma-value_bits-requires-2 : goal.comma-value_bits-requires-2
comma-value_bits-requires-2 t c = (omega (arith, c.decreases), comma_next (program_view c.args.program.now) c.args.spot c.args.ty (expr_view c.args.first.now) (expr_view c.args.last.now) c.requires c.in_ok-x.ensures)

pub comma-second-requires-clause-x_defined : goal.comma-second-requires-clause-x_defined
comma-second-requires-clause-x_defined t c = comma_defined (program_view c.args.program.now) c.args.spot c.args.ty (expr_view c.args.first.now) (expr_view c.args.last.now) c.in_ok-x.ensures c.in_ok-y.ensures

pub comma-second-requires-clause-room : goal.comma-second-requires-clause-room
comma-second-requires-clause-room t c = comma_room (program_view c.args.program.now) c.args.spot c.args.ty (expr_view c.args.first.now) (expr_view c.args.last.now) c.requires c.in_ok-x.ensures c.in_ok-y.ensures

pub comma-returns : goal.comma-returns
comma-returns t c = comma_step (program_view c.args.program.now) c.args.spot c.args.ty (expr_view c.args.first.now) (expr_view c.args.last.now) c.requires c.in_ok-x.ensures c.in_ok-y.ensures c.in_ok-r.ensures

pub choice-value_bits-requires : goal.choice-value_bits-requires
choice-value_bits-requires t c = (omega (arith, c.decreases), choice_first (program_view c.args.program.now) c.args.spot c.args.mark c.args.ty (expr_view c.args.condition.now) (expr_view c.args.yes.now) (expr_view c.args.no.now) c.requires)

pub choice-value_bits-requires-2 : goal.choice-value_bits-requires-2
choice-value_bits-requires-2 t c = (omega (arith, c.decreases), choice_yes (program_view c.args.program.now) c.args.spot c.args.mark c.args.ty (expr_view c.args.condition.now) (expr_view c.args.yes.now) (expr_view c.args.no.now) c.requires c.in_ok-e.ensures)

pub choice-value_bits-requires-3 : goal.choice-value_bits-requires-3
choice-value_bits-requires-3 t c = (omega (arith, c.decreases), choice_no (program_view c.args.program.now) c.args.spot c.args.mark c.args.ty (expr_view c.args.condition.now) (expr_view c.args.yes.now) (expr_view c.args.no.now) c.requires c.in_ok-e.ensures c.in_ok-x.ensures)

pub choice-as_type-requires-clause-x_in : goal.choice-as_type-requires-clause-x_in
choice-as_type-requires-clause-x_in t c = (yes_in (program_view c.args.program.now) c.args.spot c.args.mark c.args.ty (expr_view c.args.condition.now) (expr_view c.args.yes.now) (expr_view c.args.no.now) c.requires c.in_ok-e.ensures c.in_ok-x.ensures c.in_ok-y.ensures c.type_of.result c.type_of.ensures).0

pub choice-as_type-requires-clause-room : goal.choice-as_type-requires-clause-room
choice-as_type-requires-clause-room t c = (yes_in (program_view c.args.program.now) c.args.spot c.args.mark c.args.ty (expr_view c.args.condition.now) (expr_view c.args.yes.now) (expr_view c.args.no.now) c.requires c.in_ok-e.ensures c.in_ok-x.ensures c.in_ok-y.ensures c.type_of.result c.type_of.ensures).1

pub choice-as_type-requires-2-clause-x_in : goal.choice-as_type-requires-2-clause-x_in
choice-as_type-requires-2-clause-x_in t c = (no_in (program_view c.args.program.now) c.args.spot c.args.mark c.args.ty (expr_view c.args.condition.now) (expr_view c.args.yes.now) (expr_view c.args.no.now) c.requires c.in_ok-e.ensures c.in_ok-x.ensures c.in_ok-y.ensures c.type_of.result c.type_of.ensures c.in_ok-u.ensures c.type_of-2.result c.type_of-2.ensures).0

pub choice-as_type-requires-2-clause-room : goal.choice-as_type-requires-2-clause-room
choice-as_type-requires-2-clause-room t c = (no_in (program_view c.args.program.now) c.args.spot c.args.mark c.args.ty (expr_view c.args.condition.now) (expr_view c.args.yes.now) (expr_view c.args.no.now) c.requires c.in_ok-e.ensures c.in_ok-x.ensures c.in_ok-y.ensures c.type_of.result c.type_of.ensures c.in_ok-u.ensures c.type_of-2.result c.type_of-2.ensures).1

pub choice-as_type-requires-2-clause-fits : goal.choice-as_type-requires-2-clause-fits
choice-as_type-requires-2-clause-fits t c = yes_fits (program_view c.args.program.now) c.args.spot c.args.mark c.args.ty (expr_view c.args.condition.now) (expr_view c.args.yes.now) (expr_view c.args.no.now) c.requires c.in_ok-e.ensures c.in_ok-x.ensures c.in_ok-y.ensures c.type_of.result c.type_of.ensures c.in_ok-u.ensures

pub choice-chosen-requires-clause-fits : goal.choice-chosen-requires-clause-fits
choice-chosen-requires-clause-fits t c = no_fits (program_view c.args.program.now) c.args.spot c.args.mark c.args.ty (expr_view c.args.condition.now) (expr_view c.args.yes.now) (expr_view c.args.no.now) c.requires c.in_ok-e.ensures c.in_ok-x.ensures c.in_ok-y.ensures c.type_of.result c.type_of.ensures c.in_ok-u.ensures c.type_of-2.result c.type_of-3.result c.type_of-2.ensures c.type_of-3.ensures c.in_ok-w.ensures

pub choice-chosen-requires-clause-e_in : goal.choice-chosen-requires-clause-e_in
choice-chosen-requires-clause-e_in t c = (chosen_sides (program_view c.args.program.now) c.args.spot c.args.mark c.args.ty (expr_view c.args.condition.now) (expr_view c.args.yes.now) (expr_view c.args.no.now) c.requires c.in_ok-e.ensures c.in_ok-x.ensures c.in_ok-y.ensures c.type_of.result c.type_of.ensures c.in_ok-u.ensures c.type_of-2.result c.type_of-3.result c.type_of-2.ensures c.type_of-3.ensures c.in_ok-w.ensures).0

pub choice-chosen-requires-clause-e_defined : goal.choice-chosen-requires-clause-e_defined
choice-chosen-requires-clause-e_defined t c = (chosen_sides (program_view c.args.program.now) c.args.spot c.args.mark c.args.ty (expr_view c.args.condition.now) (expr_view c.args.yes.now) (expr_view c.args.no.now) c.requires c.in_ok-e.ensures c.in_ok-x.ensures c.in_ok-y.ensures c.type_of.result c.type_of.ensures c.in_ok-u.ensures c.type_of-2.result c.type_of-3.result c.type_of-2.ensures c.type_of-3.ensures c.in_ok-w.ensures).1

pub choice-chosen-requires-clause-x_in : goal.choice-chosen-requires-clause-x_in
choice-chosen-requires-clause-x_in t c = (chosen_sides (program_view c.args.program.now) c.args.spot c.args.mark c.args.ty (expr_view c.args.condition.now) (expr_view c.args.yes.now) (expr_view c.args.no.now) c.requires c.in_ok-e.ensures c.in_ok-x.ensures c.in_ok-y.ensures c.type_of.result c.type_of.ensures c.in_ok-u.ensures c.type_of-2.result c.type_of-3.result c.type_of-2.ensures c.type_of-3.ensures c.in_ok-w.ensures).2

pub choice-chosen-requires-clause-x_defined : goal.choice-chosen-requires-clause-x_defined
choice-chosen-requires-clause-x_defined t c = (chosen_sides (program_view c.args.program.now) c.args.spot c.args.mark c.args.ty (expr_view c.args.condition.now) (expr_view c.args.yes.now) (expr_view c.args.no.now) c.requires c.in_ok-e.ensures c.in_ok-x.ensures c.in_ok-y.ensures c.type_of.result c.type_of.ensures c.in_ok-u.ensures c.type_of-2.result c.type_of-3.result c.type_of-2.ensures c.type_of-3.ensures c.in_ok-w.ensures).3

pub choice-chosen-requires-clause-y_in : goal.choice-chosen-requires-clause-y_in
choice-chosen-requires-clause-y_in t c = (chosen_sides (program_view c.args.program.now) c.args.spot c.args.mark c.args.ty (expr_view c.args.condition.now) (expr_view c.args.yes.now) (expr_view c.args.no.now) c.requires c.in_ok-e.ensures c.in_ok-x.ensures c.in_ok-y.ensures c.type_of.result c.type_of.ensures c.in_ok-u.ensures c.type_of-2.result c.type_of-3.result c.type_of-2.ensures c.type_of-3.ensures c.in_ok-w.ensures).4

pub choice-chosen-requires-clause-y_defined : goal.choice-chosen-requires-clause-y_defined
choice-chosen-requires-clause-y_defined t c = (chosen_sides (program_view c.args.program.now) c.args.spot c.args.mark c.args.ty (expr_view c.args.condition.now) (expr_view c.args.yes.now) (expr_view c.args.no.now) c.requires c.in_ok-e.ensures c.in_ok-x.ensures c.in_ok-y.ensures c.type_of.result c.type_of.ensures c.in_ok-u.ensures c.type_of-2.result c.type_of-3.result c.type_of-2.ensures c.type_of-3.ensures c.in_ok-w.ensures).5

pub choice-chosen-requires-clause-room : goal.choice-chosen-requires-clause-room
choice-chosen-requires-clause-room t c = (chosen_sides (program_view c.args.program.now) c.args.spot c.args.mark c.args.ty (expr_view c.args.condition.now) (expr_view c.args.yes.now) (expr_view c.args.no.now) c.requires c.in_ok-e.ensures c.in_ok-x.ensures c.in_ok-y.ensures c.type_of.result c.type_of.ensures c.in_ok-u.ensures c.type_of-2.result c.type_of-3.result c.type_of-2.ensures c.type_of-3.ensures c.in_ok-w.ensures).6

pub choice-returns : goal.choice-returns
choice-returns t c = choice_step (program_view c.args.program.now) c.args.spot c.args.mark c.args.ty (expr_view c.args.condition.now) (expr_view c.args.yes.now) (expr_view c.args.no.now) c.requires c.in_ok-e.ensures c.in_ok-x.ensures c.in_ok-y.ensures c.type_of.result c.type_of.ensures c.in_ok-u.ensures c.type_of-2.result c.type_of-3.result c.type_of-2.ensures c.type_of-3.ensures c.in_ok-w.ensures c.in_ok-r.ensures

pub indexed-value_bits-requires : goal.indexed-value_bits-requires
indexed-value_bits-requires t c = (omega (arith, c.decreases), element_first (program_view c.args.program.now) c.args.spot c.args.ty c.args.object (expr_view c.args.index.now) NoExp c.requires)

pub indexed-element_at-requires-clause-index_in : goal.indexed-element_at-requires-clause-index_in
indexed-element_at-requires-clause-index_in t c = (element_side (program_view c.args.program.now) c.args.spot c.args.ty c.args.object (expr_view c.args.index.now) c.type_of.result c.type_of.ensures c.requires c.in_ok-x.ensures).0

pub indexed-element_at-requires-clause-index_defined : goal.indexed-element_at-requires-clause-index_defined
indexed-element_at-requires-clause-index_defined t c = (element_side (program_view c.args.program.now) c.args.spot c.args.ty c.args.object (expr_view c.args.index.now) c.type_of.result c.type_of.ensures c.requires c.in_ok-x.ensures).1

pub indexed-element_at-requires-clause-room : goal.indexed-element_at-requires-clause-room
indexed-element_at-requires-clause-room t c = (element_side (program_view c.args.program.now) c.args.spot c.args.ty c.args.object (expr_view c.args.index.now) c.type_of.result c.type_of.ensures c.requires c.in_ok-x.ensures).2

pub indexed-returns : goal.indexed-returns
indexed-returns t c = element_step (program_view c.args.program.now) c.args.spot c.args.ty c.args.object (expr_view c.args.index.now) c.type_of.result c.type_of.ensures c.requires c.in_ok-x.ensures c.in_ok-r.ensures

pub indexed_twice-value_bits-requires : goal.indexed_twice-value_bits-requires
indexed_twice-value_bits-requires t c = (omega (arith, c.decreases), element_first (program_view c.args.program.now) c.args.spot c.args.ty c.args.object (expr_view c.args.row.now) (MoreExp (expr_view c.args.column.now) NoExp) c.requires)

pub indexed_twice-value_bits-requires-2 : goal.indexed_twice-value_bits-requires-2
indexed_twice-value_bits-requires-2 t c = (omega (arith, c.decreases), row_next (program_view c.args.program.now) c.args.spot c.args.ty c.args.object (expr_view c.args.row.now) (expr_view c.args.column.now) c.requires c.in_ok-x.ensures)

pub indexed_twice-element_in_row-requires-clause-row_in : goal.indexed_twice-element_in_row-requires-clause-row_in
indexed_twice-element_in_row-requires-clause-row_in t c = (row_sides (program_view c.args.program.now) c.args.spot c.args.ty c.args.object (expr_view c.args.row.now) (expr_view c.args.column.now) c.type_of.result c.type_of-2.result c.type_of.ensures c.type_of-2.ensures c.requires c.in_ok-x.ensures c.in_ok-y.ensures).0

pub indexed_twice-element_in_row-requires-clause-row_defined : goal.indexed_twice-element_in_row-requires-clause-row_defined
indexed_twice-element_in_row-requires-clause-row_defined t c = row_defined (program_view c.args.program.now) c.args.spot c.args.ty c.args.object (expr_view c.args.row.now) (expr_view c.args.column.now) c.requires c.in_ok-x.ensures c.in_ok-y.ensures

pub indexed_twice-element_in_row-requires-clause-column_in : goal.indexed_twice-element_in_row-requires-clause-column_in
indexed_twice-element_in_row-requires-clause-column_in t c = (row_sides (program_view c.args.program.now) c.args.spot c.args.ty c.args.object (expr_view c.args.row.now) (expr_view c.args.column.now) c.type_of.result c.type_of-2.result c.type_of.ensures c.type_of-2.ensures c.requires c.in_ok-x.ensures c.in_ok-y.ensures).1

pub indexed_twice-element_in_row-requires-clause-column_defined : goal.indexed_twice-element_in_row-requires-clause-column_defined
indexed_twice-element_in_row-requires-clause-column_defined t c = c.in_ok-y.ensures.seen.defined.inside

pub indexed_twice-element_in_row-requires-clause-room : goal.indexed_twice-element_in_row-requires-clause-room
indexed_twice-element_in_row-requires-clause-room t c = (row_sides (program_view c.args.program.now) c.args.spot c.args.ty c.args.object (expr_view c.args.row.now) (expr_view c.args.column.now) c.type_of.result c.type_of-2.result c.type_of.ensures c.type_of-2.ensures c.requires c.in_ok-x.ensures c.in_ok-y.ensures).2

pub indexed_twice-returns : goal.indexed_twice-returns
indexed_twice-returns t c = row_step (program_view c.args.program.now) c.args.spot c.args.ty c.args.object (expr_view c.args.row.now) (expr_view c.args.column.now) c.type_of.result c.type_of-2.result c.type_of.ensures c.type_of-2.ensures c.requires c.in_ok-x.ensures c.in_ok-y.ensures c.in_ok-r.ensures
