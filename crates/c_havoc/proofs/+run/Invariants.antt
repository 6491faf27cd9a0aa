use Rattle.std.proofs.Common.{◌≡◌, ◌+◌, ◌*◌, [], drop, suc}
use Rattle.c_core.specs.View.{program_view, expr_view, exprs_view, rows_view, expr_view_if, stmt_view, stmts_view, switch_view, form_view, first_view, init_view, names_view}
use Rattle.run_state.specs.Interpreting.{where_of, pairs_of, else_part}
use Rattle.c_calls.specs.Loops.{loop_of}
use Rattle.c_meaning.specs.Placing.{placed_view}
use Rattle.havoc_state.specs.Havocking.{left_of, evaluated_all, listed, sequenced, declaring, initialised_by, initialised_rows}
use Rattle.c_meaning.specs.Objects.{columns_of_object}
use Rattle.c_havoc.proofs.Sizes.{level, size, size_of_exps, size_if, size_of_rows, size_of_init, size_of_names, size_of_first, size_of_stm, size_of_form, size_of_else, size_of_stms, size_of_loop}
use Rattle.c_havoc.proofs.+run.Given as goal

-- the depth of calls that is left, then the size of the tree; between functions over one tree, a rank
abbrev pub decreases-expressions::eval : goal.decreases-expressions::eval
decreases-expressions::eval l = level (program_view l.program.now) (suc l.depth) + 32 * (size (expr_view l.e.now)) + 0

abbrev pub decreases-expressions::binary : goal.decreases-expressions::binary
decreases-expressions::binary l = level (program_view l.program.now) (suc l.depth) + 32 * (size (expr_view l.left.now) + size (expr_view l.right.now)) + 1

abbrev pub decreases-expressions::target : goal.decreases-expressions::target
decreases-expressions::target l = level (program_view l.program.now) (suc l.depth) + 32 * (size (expr_view l.e.now)) + 0

abbrev pub decreases-expressions::element_at : goal.decreases-expressions::element_at
decreases-expressions::element_at l = level (program_view l.program.now) (suc l.depth) + 32 * (size_of_exps (exprs_view l.indexes.now)) + 2

abbrev pub decreases-expressions::evaluate_all : goal.decreases-expressions::evaluate_all
decreases-expressions::evaluate_all l = level (program_view l.program.now) (suc l.depth) + 32 * (size_of_exps (exprs_view l.es.now)) + 1

abbrev pub decreases-expressions::index : goal.decreases-expressions::index
decreases-expressions::index l = level (program_view l.program.now) (suc l.depth) + 32 * (size_of_exps (exprs_view l.indexes.now)) + 3

abbrev pub decreases-expressions::unary : goal.decreases-expressions::unary
decreases-expressions::unary l = level (program_view l.program.now) (suc l.depth) + 32 * (size (expr_view l.of.now)) + 1

abbrev pub decreases-expressions::cast_to : goal.decreases-expressions::cast_to
decreases-expressions::cast_to l = level (program_view l.program.now) (suc l.depth) + 32 * (size (expr_view l.of.now)) + 1

abbrev pub decreases-expressions::cast : goal.decreases-expressions::cast
decreases-expressions::cast l = level (program_view l.program.now) (suc l.depth) + 32 * (size (expr_view l.of.now)) + 2

abbrev pub decreases-expressions::comma : goal.decreases-expressions::comma
decreases-expressions::comma l = level (program_view l.program.now) (suc l.depth) + 32 * (size (expr_view l.first.now) + size (expr_view l.last.now)) + 1

abbrev pub decreases-expressions::tested : goal.decreases-expressions::tested
decreases-expressions::tested l = level (program_view l.program.now) (suc l.depth) + 32 * (size (expr_view l.e.now)) + 1

abbrev pub decreases-expressions::and : goal.decreases-expressions::and
decreases-expressions::and l = level (program_view l.program.now) (suc l.depth) + 32 * (size (expr_view l.left.now) + size (expr_view l.right.now)) + 2

abbrev pub decreases-expressions::or : goal.decreases-expressions::or
decreases-expressions::or l = level (program_view l.program.now) (suc l.depth) + 32 * (size (expr_view l.left.now) + size (expr_view l.right.now)) + 2

abbrev pub decreases-expressions::logic : goal.decreases-expressions::logic
decreases-expressions::logic l = level (program_view l.program.now) (suc l.depth) + 32 * (size (expr_view l.left.now) + size (expr_view l.right.now)) + 3

abbrev pub decreases-expressions::assign : goal.decreases-expressions::assign
decreases-expressions::assign l = level (program_view l.program.now) (suc l.depth) + 32 * (size (expr_view l.to.now) + size (expr_view l.from.now)) + 2

abbrev pub decreases-expressions::update : goal.decreases-expressions::update
decreases-expressions::update l = level (program_view l.program.now) (suc l.depth) + 32 * (size (expr_view l.to.now) + size (expr_view l.from.now)) + 1

abbrev pub decreases-expressions::replace : goal.decreases-expressions::replace
decreases-expressions::replace l = level (program_view l.program.now) (suc l.depth) + 32 * (size (expr_view l.to.now) + size (expr_view l.from.now)) + 1

abbrev pub decreases-expressions::step : goal.decreases-expressions::step
decreases-expressions::step l = level (program_view l.program.now) (suc l.depth) + 32 * (size (expr_view l.to.now)) + 1

abbrev pub decreases-expressions::converted : goal.decreases-expressions::converted
decreases-expressions::converted l = level (program_view l.program.now) (suc l.depth) + 32 * (size (expr_view l.e.now)) + 1

abbrev pub decreases-expressions::choose : goal.decreases-expressions::choose
decreases-expressions::choose l = level (program_view l.program.now) (suc l.depth) + 32 * (size (expr_view l.test.now) + size (expr_view l.yes.now) + size (expr_view l.no.now)) + 2

abbrev pub decreases-expressions::arguments : goal.decreases-expressions::arguments
decreases-expressions::arguments l = level (program_view l.program.now) (suc l.depth) + 32 * (size_of_exps (exprs_view l.args.now)) + 1

abbrev pub decreases-expressions::call : goal.decreases-expressions::call
decreases-expressions::call l = level (program_view l.program.now) (suc l.depth) + 32 * (size_of_exps (exprs_view l.args.now)) + 8

abbrev pub decreases-expressions::called : goal.decreases-expressions::called
decreases-expressions::called l = level (program_view l.program.now) (suc l.depth) + 7

abbrev pub decreases-full_expressions::full : goal.decreases-full_expressions::full
decreases-full_expressions::full l = level (program_view l.program.now) (suc l.depth) + 32 * (size (expr_view l.e.now)) + 1

abbrev pub decreases-full_expressions::decide : goal.decreases-full_expressions::decide
decreases-full_expressions::decide l = level (program_view l.program.now) (suc l.depth) + 32 * (size (expr_view l.test.now)) + 2

abbrev pub decreases-full_expressions::only : goal.decreases-full_expressions::only
decreases-full_expressions::only l = level (program_view l.program.now) (suc l.depth) + 32 * (size (expr_view l.e.now)) + 2

abbrev pub decreases-full_expressions::give : goal.decreases-full_expressions::give
decreases-full_expressions::give l = level (program_view l.program.now) (suc l.depth) + 32 * (size_if (expr_view_if l.e.now)) + 2

abbrev pub decreases-full_expressions::for_goes_on : goal.decreases-full_expressions::for_goes_on
decreases-full_expressions::for_goes_on l = level (program_view l.program.now) (suc l.depth) + 32 * (size_if (expr_view_if l.test.now)) + 3

abbrev pub decreases-full_expressions::test_turn : goal.decreases-full_expressions::test_turn
decreases-full_expressions::test_turn l = level (program_view l.program.now) (suc l.depth) + 32 * (size (expr_view l.test.now)) + 3

abbrev pub decreases-full_expressions::step_on : goal.decreases-full_expressions::step_on
decreases-full_expressions::step_on l = level (program_view l.program.now) (suc l.depth) + 32 * (size_if (expr_view_if l.step.now)) + 3

abbrev pub decreases-declarations::initial_value : goal.decreases-declarations::initial_value
decreases-declarations::initial_value l = level (program_view l.program.now) (suc l.depth) + 32 * (size (expr_view l.e.now)) + 2

abbrev pub decreases-declarations::initial_values : goal.decreases-declarations::initial_values
decreases-declarations::initial_values l = level (program_view l.program.now) (suc l.depth) + 32 * (size_of_exps (exprs_view l.es.now)) + 3

abbrev pub decreases-declarations::initial_rows : goal.decreases-declarations::initial_rows
decreases-declarations::initial_rows l = level (program_view l.program.now) (suc l.depth) + 32 * (size_of_rows (rows_view l.rows.now)) + 4

abbrev pub decreases-declarations::initial : goal.decreases-declarations::initial
decreases-declarations::initial l = level (program_view l.program.now) (suc l.depth) + 32 * (size_of_init (init_view l.init.now)) + 5

abbrev pub decreases-declarations::introduce : goal.decreases-declarations::introduce
decreases-declarations::introduce l = level (program_view l.program.now) (suc l.depth) + 32 * (size_of_init (init_view l.name.now.init)) + 6

abbrev pub decreases-declarations::declare : goal.decreases-declarations::declare
decreases-declarations::declare l = level (program_view l.program.now) (suc l.depth) + 32 * (size_of_names (names_view l.names.now)) + 7

abbrev pub decreases-declarations::begin : goal.decreases-declarations::begin
decreases-declarations::begin l = level (program_view l.program.now) (suc l.depth) + 32 * (size_of_first (first_view l.first.now)) + 8

abbrev pub decreases-statements::exec : goal.decreases-statements::exec
decreases-statements::exec l = level (program_view l.program.now) (suc l.depth) + 32 * (size_of_stm (stmt_view l.s.now)) + 0

abbrev pub decreases-statements::sequence : goal.decreases-statements::sequence
decreases-statements::sequence l = level (program_view l.program.now) (suc l.depth) + 32 * (size_of_stms (stmts_view l.body.now)) + 10

abbrev pub decreases-statements::block : goal.decreases-statements::block
decreases-statements::block l = level (program_view l.program.now) (suc l.depth) + 32 * (size_of_stms (stmts_view l.body.now)) + 11

abbrev pub decreases-statements::arm : goal.decreases-statements::arm
decreases-statements::arm l = level (program_view l.program.now) (suc l.depth) + 32 * (size_of_stm (stmt_view l.s.now)) + 10

abbrev pub decreases-statements::otherwise : goal.decreases-statements::otherwise
decreases-statements::otherwise l = level (program_view l.program.now) (suc l.depth) + 32 * (size_of_else (else_part l.no.now)) + 11

abbrev pub decreases-statements::sequence_arms : goal.decreases-statements::sequence_arms
decreases-statements::sequence_arms l = level (program_view l.program.now) (suc l.depth) + 32 * (size_of_stms (switch_view l.arms.now)) + 11

abbrev pub decreases-statements::scope_arms : goal.decreases-statements::scope_arms
decreases-statements::scope_arms l = level (program_view l.program.now) (suc l.depth) + 32 * (size_of_stms (switch_view l.arms.now)) + 12

abbrev pub decreases-statements::hold_arms : goal.decreases-statements::hold_arms
decreases-statements::hold_arms l = level (program_view l.program.now) (suc l.depth) + 32 * (size_of_stms (switch_view l.arms.now)) + 13

abbrev pub decreases-statements::arms_from : goal.decreases-statements::arms_from
decreases-statements::arms_from l = level (program_view l.program.now) (suc l.depth) + 32 * (size_of_stms (switch_view l.arms.now)) + 14

abbrev pub decreases-statements::switch : goal.decreases-statements::switch
decreases-statements::switch l = level (program_view l.program.now) (suc l.depth) + 32 * (size (expr_view l.test.now) + size_of_stms (switch_view l.arms.now)) + 15

abbrev pub decreases-statements::choose : goal.decreases-statements::choose
decreases-statements::choose l = level (program_view l.program.now) (suc l.depth) + 32 * (size (expr_view l.test.now) + size_of_stm (stmt_view l.yes.now) + size_of_else (else_part l.no.now)) + 12

abbrev pub decreases-statements::form : goal.decreases-statements::form
decreases-statements::form l = level (program_view l.program.now) (suc l.depth) + 32 * (size_of_form (form_view l.f.now)) + 21

abbrev pub decreases-statements::loop_body : goal.decreases-statements::loop_body
decreases-statements::loop_body l = level (program_view l.program.now) (suc l.depth) + 32 * (size_of_stm (stmt_view l.body.now)) + 11

abbrev pub decreases-statements::while_turn : goal.decreases-statements::while_turn
decreases-statements::while_turn l = level (program_view l.program.now) (suc l.depth) + 32 * (size (expr_view l.test.now) + size_of_stm (stmt_view l.body.now)) + 12

abbrev pub decreases-statements::do_turn : goal.decreases-statements::do_turn
decreases-statements::do_turn l = level (program_view l.program.now) (suc l.depth) + 32 * (size_of_stm (stmt_view l.body.now) + size (expr_view l.test.now)) + 12

abbrev pub decreases-statements::for_body : goal.decreases-statements::for_body
decreases-statements::for_body l = level (program_view l.program.now) (suc l.depth) + 32 * (size_if (expr_view_if l.step.now) + size_of_stm (stmt_view l.body.now)) + 12

abbrev pub decreases-statements::for_turn : goal.decreases-statements::for_turn
decreases-statements::for_turn l = level (program_view l.program.now) (suc l.depth) + 32 * (size_if (expr_view_if l.test.now) + size_if (expr_view_if l.step.now) + size_of_stm (stmt_view l.body.now)) + 13

abbrev pub decreases-statements::turn : goal.decreases-statements::turn
decreases-statements::turn l = level (program_view l.program.now) (suc l.depth) + 32 * (size_of_loop (loop_of (form_view l.f.now))) + 14

abbrev pub decreases-statements::turn_once : goal.decreases-statements::turn_once
decreases-statements::turn_once l = level (program_view l.program.now) (suc l.depth) + 32 * (size_of_loop (loop_of (form_view l.f.now))) + 15

abbrev pub decreases-statements::loop_scope : goal.decreases-statements::loop_scope
decreases-statements::loop_scope l = level (program_view l.program.now) (suc l.depth) + 32 * (size_of_loop (loop_of (form_view l.f.now))) + 16

abbrev pub decreases-statements::for_parts : goal.decreases-statements::for_parts
decreases-statements::for_parts l = level (program_view l.program.now) (suc l.depth) + 32 * (size_of_first (first_view l.first.now) + size_of_loop (loop_of (form_view l.f.now))) + 17

abbrev pub decreases-statements::for_scope : goal.decreases-statements::for_scope
decreases-statements::for_scope l = level (program_view l.program.now) (suc l.depth) + 32 * (size_of_first (first_view l.first.now) + size_of_loop (loop_of (form_view l.f.now))) + 18

abbrev pub decreases-calls::body : goal.decreases-calls::body
decreases-calls::body l = level (program_view l.program.now) (suc l.depth) + 32 * (size_of_stm (stmt_view l.function.now.body)) + 1

abbrev pub decreases-calls::body_within : goal.decreases-calls::body_within
decreases-calls::body_within l = level (program_view l.program.now) l.depth + 32 * (size_of_stm (stmt_view l.function.now.body)) + 2

abbrev pub decreases-calls::enter : goal.decreases-calls::enter
decreases-calls::enter l = level (program_view l.program.now) l.depth + 32 * (size_of_stm (stmt_view l.function.now.body)) + 3

abbrev pub decreases-calls::scope : goal.decreases-calls::scope
decreases-calls::scope l = level (program_view l.program.now) l.depth + 32 * (size_of_stm (stmt_view l.function.now.body)) + 4

abbrev pub decreases-calls::run_call : goal.decreases-calls::run_call
decreases-calls::run_call l = level (program_view l.program.now) l.depth + 32 * (size_of_stm (stmt_view l.function.now.body)) + 5

abbrev pub decreases-calls::call_number : goal.decreases-calls::call_number
decreases-calls::call_number l = level (program_view l.program.now) (suc l.depth) + 6

-- what is left does what the whole does
abbrev pub invariant-expressions::arguments-loop-arg : goal.invariant-expressions::arguments-loop-arg
invariant-expressions::arguments-loop-arg l =
    listed (program_view l.program) (placed_view l.invariants) l.depth (where_of l.at) (pairs_of l.values) (exprs_view (drop l.arg-index l.args)) (left_of l.machine)
    ≡ listed (program_view l.program) (placed_view l.invariants) l.depth (where_of l.at) [] (exprs_view l.args) (left_of l.initial.machine)

abbrev pub invariant-statements::sequence-loop-s : goal.invariant-statements::sequence-loop-s
invariant-statements::sequence-loop-s l =
    sequenced (program_view l.program) (placed_view l.invariants) l.depth l.wanted (stmts_view (drop l.s-index l.body)) (left_of l.machine)
    ≡ sequenced (program_view l.program) (placed_view l.invariants) l.depth l.wanted (stmts_view l.body) (left_of l.initial.machine)

abbrev pub invariant-expressions::evaluate_all-loop-e : goal.invariant-expressions::evaluate_all-loop-e
invariant-expressions::evaluate_all-loop-e l =
    evaluated_all (program_view l.program) (placed_view l.invariants) l.depth (where_of l.at) (exprs_view (drop l.e-index l.es)) (left_of l.machine)
    ≡ evaluated_all (program_view l.program) (placed_view l.invariants) l.depth (where_of l.at) (exprs_view l.es) (left_of l.initial.machine)

abbrev pub invariant-statements::sequence_arms-loop-arm : goal.invariant-statements::sequence_arms-loop-arm
invariant-statements::sequence_arms-loop-arm l =
    sequenced (program_view l.program) (placed_view l.invariants) l.depth l.wanted (switch_view (drop l.arm-index l.arms)) (left_of l.machine)
    ≡ sequenced (program_view l.program) (placed_view l.invariants) l.depth l.wanted (switch_view l.arms) (left_of l.initial.machine)

abbrev pub invariant-declarations::declare-loop-name : goal.invariant-declarations::declare-loop-name
invariant-declarations::declare-loop-name l =
    declaring (program_view l.program) (placed_view l.invariants) l.depth l.at (names_view (drop l.name-index l.names)) (left_of l.machine)
    ≡ declaring (program_view l.program) (placed_view l.invariants) l.depth l.at (names_view l.names) (left_of l.initial.machine)

abbrev pub invariant-declarations::initial_values-loop-index : goal.invariant-declarations::initial_values-loop-index
invariant-declarations::initial_values-loop-index l =
    initialised_by (program_view l.program) (placed_view l.invariants) l.depth l.at l.object (l.first + l.index) (exprs_view (drop l.index l.es)) (left_of l.machine)
    ≡ initialised_by (program_view l.program) (placed_view l.invariants) l.depth l.at l.object l.first (exprs_view l.es) (left_of l.initial.machine)

abbrev pub invariant-declarations::initial_rows-loop-index : goal.invariant-declarations::initial_rows-loop-index
invariant-declarations::initial_rows-loop-index l =
    initialised_rows (program_view l.program) (placed_view l.invariants) l.depth l.at l.object (l.index * columns_of_object (program_view l.program) l.object) (rows_view (drop l.index l.rows)) (left_of l.machine)
    ≡ initialised_rows (program_view l.program) (placed_view l.invariants) l.depth l.at l.object 0 (rows_view l.rows) (left_of l.initial.machine)
