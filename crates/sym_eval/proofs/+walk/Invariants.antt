use Rattle.std.proofs.Common.{◌+◌, ◌*◌, None, Some, slice_get, take}
use Rattle.c_core.specs.Tree.{Expr, Index, Unary, Cast, Step, Binary, Logic, Choose, Comma, Assign, Call, MoreExp, NoExp, MoreName, NoName, Do, Block, If, Return, Switch}
use Rattle.c_core.specs.View.{expr_view, exprs_view, expr_view_if, first_view, form_view, init_view, names_view, rows_view, stmt_view, stmts_view, switch_view}
use Rattle.c_core.specs.declared.tree.Callee.TheVariants.{Exit, Defined}
use Rattle.sym_exprs.specs.Evaluating.{weight_of as expression_weight}
use Rattle.sym_exprs.specs.Targeting.{weight_of_target}
use Rattle.sym_walk.specs.Walking.{program_of, mode_of}
use Rattle.sym_weight.specs.Views.{else_of}
use Rattle.sym_eval.specs.Doing.{weight_of_initials, InitialsDo, weight_of_rows, RowsDo, weight_of_initial, weight_of_names, NamesDo, weight_of_first, weight_of, weight_of_form, weight_of_else, weight_of_block, BlockDoes, weight_of_control}
use Rattle.c_calls.specs.Loops.{loop_of}
use Rattle.c_meaning.specs.Meaning.{WhileLoop, DoLoop, ForLoop}
use Rattle.sym_eval.specs.Control.{weight_of_test, weight_of_step}
use Rattle.sym_eval.specs.Looping.{weight_of_turn, weight_of_turns, weight_of_loop}
use Rattle.sym_scale.specs.Cost.{function_body, nodes_in, nodes}
use Rattle.sym_weight.specs.Table.{params_of}
use Rattle.sym_eval.specs.Calling.{weight_of_all, set_cost, AllValues}
use Rattle.sym_exprs.specs.Evaluating as evaluating
use Rattle.sym_eval.specs.Switching.{ArmsDo}
use Rattle.sym_eval.proofs.+walk.Given as goal

-- each part weighs less than the whole
abbrev pub decreases-expressions::eval : goal.decreases-expressions::eval
decreases-expressions::eval l = 4 * expression_weight (program_of l.walk.now) (mode_of l.walk.now) l.depth (expr_view l.e.now) + 2

abbrev pub decreases-expressions::eval_where : goal.decreases-expressions::eval_where
decreases-expressions::eval_where l = 4 * expression_weight (program_of l.walk.now) (mode_of l.walk.now) l.depth (expr_view l.e.now) + 3

abbrev pub decreases-expressions::element : goal.decreases-expressions::element
decreases-expressions::element l = 4 * expression_weight (program_of l.walk.now) (mode_of l.walk.now) l.depth (Expr l.e.now.spot l.e.now.ty (Index l.object (exprs_view l.indexes.now))) + 1

abbrev pub decreases-expressions::unary : goal.decreases-expressions::unary
decreases-expressions::unary l = 4 * expression_weight (program_of l.walk.now) (mode_of l.walk.now) l.depth (Expr l.e.now.spot l.e.now.ty (Unary l.op (expr_view l.of.now))) + 1

abbrev pub decreases-expressions::cast : goal.decreases-expressions::cast
decreases-expressions::cast l = 4 * expression_weight (program_of l.walk.now) (mode_of l.walk.now) l.depth (Expr l.e.now.spot l.e.now.ty (Cast (expr_view l.of.now))) + 1

abbrev pub decreases-expressions::binary : goal.decreases-expressions::binary
decreases-expressions::binary l = 4 * expression_weight (program_of l.walk.now) (mode_of l.walk.now) l.depth (Expr l.e.now.spot l.e.now.ty (Binary l.op (expr_view l.left.now) (expr_view l.right.now))) + 1

abbrev pub decreases-expressions::comma : goal.decreases-expressions::comma
decreases-expressions::comma l = 4 * expression_weight (program_of l.walk.now) (mode_of l.walk.now) l.depth (Expr l.e.now.spot l.e.now.ty (Comma (expr_view l.first.now) (expr_view l.last.now))) + 1

abbrev pub decreases-expressions::logic : goal.decreases-expressions::logic
decreases-expressions::logic l = 4 * expression_weight (program_of l.walk.now) (mode_of l.walk.now) l.depth (Expr l.e.now.spot l.e.now.ty (Logic l.both (expr_view l.left.now) (expr_view l.right.now))) + 1

abbrev pub decreases-expressions::conditional : goal.decreases-expressions::conditional
decreases-expressions::conditional l = 4 * expression_weight (program_of l.walk.now) (mode_of l.walk.now) l.depth (Expr l.e.now.spot l.e.now.ty (Choose l.mark (expr_view l.condition.now) (expr_view l.yes.now) (expr_view l.no.now))) + 1

abbrev pub decreases-expressions::pick : goal.decreases-expressions::pick
decreases-expressions::pick l = 4 * expression_weight (program_of l.walk.now) (mode_of l.walk.now) l.depth (Expr l.spot (Some l.to) (Choose l.mark (expr_view l.condition.now) (expr_view l.yes.now) (expr_view l.no.now))) + 0

abbrev pub decreases-expressions::void_arms : goal.decreases-expressions::void_arms
decreases-expressions::void_arms l = 4 * expression_weight (program_of l.walk.now) (mode_of l.walk.now) l.depth (Expr l.spot None (Choose l.mark (expr_view l.condition.now) (expr_view l.yes.now) (expr_view l.no.now))) + 0

abbrev pub decreases-expressions::call : goal.decreases-expressions::call
decreases-expressions::call l = 4 * expression_weight (program_of l.walk.now) (mode_of l.walk.now) l.depth (Expr l.e.now.spot l.e.now.ty (Call l.callee (exprs_view l.args.now) l.close)) + 1

abbrev pub decreases-expressions::exit : goal.decreases-expressions::exit
decreases-expressions::exit l = 4 * expression_weight (program_of l.walk.now) (mode_of l.walk.now) l.depth (Expr l.e.now.spot l.e.now.ty (Call Exit (exprs_view l.args.now) l.close)) + 0

-- a target weighs less than its assignment or step, and its indexes less
abbrev pub decreases-assignments::target : goal.decreases-assignments::target
decreases-assignments::target l = 4 * weight_of_target (program_of l.walk.now) (mode_of l.walk.now) l.depth (expr_view l.e.now) + 2

abbrev pub decreases-assignments::indexed : goal.decreases-assignments::indexed
decreases-assignments::indexed l = 4 * weight_of_target (program_of l.walk.now) (mode_of l.walk.now) l.depth (Expr l.e.now.spot l.e.now.ty (Index l.object (exprs_view l.indexes.now))) + 1

abbrev pub decreases-assignments::at_index : goal.decreases-assignments::at_index
decreases-assignments::at_index l = 4 * weight_of_target (program_of l.walk.now) (mode_of l.walk.now) l.depth (Expr l.e.now.spot l.e.now.ty (Index l.object (MoreExp (expr_view l.index.now) NoExp))) + 0

abbrev pub decreases-assignments::at_row : goal.decreases-assignments::at_row
decreases-assignments::at_row l = 4 * weight_of_target (program_of l.walk.now) (mode_of l.walk.now) l.depth (Expr l.e.now.spot l.e.now.ty (Index l.object (MoreExp (expr_view l.row.now) (MoreExp (expr_view l.column.now) NoExp)))) + 0

abbrev pub decreases-assignments::assign : goal.decreases-assignments::assign
decreases-assignments::assign l = 4 * expression_weight (program_of l.walk.now) (mode_of l.walk.now) l.depth (Expr l.e.now.spot l.e.now.ty (Assign l.op (expr_view l.to.now) (expr_view l.from.now))) + 1

abbrev pub decreases-assignments::replace : goal.decreases-assignments::replace
decreases-assignments::replace l = 4 * expression_weight (program_of l.walk.now) (mode_of l.walk.now) l.depth (Expr l.e.now.spot l.e.now.ty (Assign None (expr_view l.to.now) (expr_view l.from.now))) + 0

abbrev pub decreases-assignments::update : goal.decreases-assignments::update
decreases-assignments::update l = 4 * expression_weight (program_of l.walk.now) (mode_of l.walk.now) l.depth (Expr l.e.now.spot l.e.now.ty (Assign (Some l.op) (expr_view l.to.now) (expr_view l.from.now))) + 0

abbrev pub decreases-assignments::step : goal.decreases-assignments::step
decreases-assignments::step l = 4 * expression_weight (program_of l.walk.now) (mode_of l.walk.now) l.depth (Expr l.e.now.spot l.e.now.ty (Step l.op (expr_view l.to.now))) + 1

-- each part weighs no more than the whole; between functions over one tree, a rank
abbrev pub decreases-statements::statement : goal.decreases-statements::statement
decreases-statements::statement l = 4 * weight_of (program_of l.walk.now) (mode_of l.walk.now) l.depth l.gives (stmt_view l.s.now) + 0

abbrev pub decreases-statements::arm : goal.decreases-statements::arm
decreases-statements::arm l = 4 * weight_of (program_of l.walk.now) (mode_of l.walk.now) l.depth l.gives (stmt_view l.s.now) + 1

abbrev pub decreases-statements::otherwise : goal.decreases-statements::otherwise
decreases-statements::otherwise l = 4 * weight_of_else (program_of l.walk.now) (mode_of l.walk.now) l.depth l.gives (else_of l.no.now) + 2

abbrev pub decreases-statements::execs : goal.decreases-statements::execs
decreases-statements::execs l = 4 * weight_of_block (program_of l.walk.now) (mode_of l.walk.now) l.depth l.gives (stmts_view l.body.now) + 1

abbrev pub decreases-statements::block : goal.decreases-statements::block
decreases-statements::block l = 4 * weight_of_form (program_of l.walk.now) (mode_of l.walk.now) l.depth l.gives l.at (Block (stmts_view l.body.now)) + 12

abbrev pub decreases-statements::choose : goal.decreases-statements::choose
decreases-statements::choose l = 4 * weight_of_form (program_of l.walk.now) (mode_of l.walk.now) l.depth l.gives l.at (If (expr_view l.test.now) (stmt_view l.yes.now) (else_of l.no.now)) + 12

abbrev pub decreases-statements::form : goal.decreases-statements::form
decreases-statements::form l = 4 * weight_of_form (program_of l.walk.now) (mode_of l.walk.now) l.depth l.gives l.at (form_view l.f.now) + 20

-- the statements before the index are done
abbrev pub invariant-statements::execs-loop-s : goal.invariant-statements::execs-loop-s
invariant-statements::execs-loop-s l = BlockDoes (program_of l.walk) (mode_of l.walk) l.depth l.gives (stmts_view (take l.s-index l.body)) l.initial.sym l.sym

abbrev pub decreases-declarations::initial_value : goal.decreases-declarations::initial_value
decreases-declarations::initial_value l = 4 * weight_of_initials (program_of l.walk.now) (mode_of l.walk.now) l.depth l.object (MoreExp (expr_view l.e.now) NoExp) + 4

abbrev pub decreases-declarations::initial_values : goal.decreases-declarations::initial_values
decreases-declarations::initial_values l = 4 * weight_of_initials (program_of l.walk.now) (mode_of l.walk.now) l.depth l.object (exprs_view l.es.now) + 5

abbrev pub decreases-declarations::initial_rows : goal.decreases-declarations::initial_rows
decreases-declarations::initial_rows l = 4 * weight_of_rows (program_of l.walk.now) (mode_of l.walk.now) l.depth l.object (rows_view l.rows.now) + 6

abbrev pub decreases-declarations::initial : goal.decreases-declarations::initial
decreases-declarations::initial l = 4 * weight_of_initial (program_of l.walk.now) (mode_of l.walk.now) l.depth l.object (init_view l.init.now) + 7

abbrev pub decreases-declarations::introduce : goal.decreases-declarations::introduce
decreases-declarations::introduce l = 4 * weight_of_names (program_of l.walk.now) (mode_of l.walk.now) l.depth (MoreName l.name.now.spot l.name.now.object (init_view l.name.now.init) NoName) + 8

abbrev pub decreases-declarations::declare_names : goal.decreases-declarations::declare_names
decreases-declarations::declare_names l = 4 * weight_of_names (program_of l.walk.now) (mode_of l.walk.now) l.depth (names_view l.names.now) + 9

abbrev pub decreases-declarations::first : goal.decreases-declarations::first
decreases-declarations::first l = 4 * weight_of_first (program_of l.walk.now) (mode_of l.walk.now) l.depth (first_view l.start.now) + 10

abbrev pub decreases-statements::only : goal.decreases-statements::only
decreases-statements::only l = 4 * weight_of_form (program_of l.walk.now) (mode_of l.walk.now) l.depth l.gives l.at (Do (expr_view l.e.now)) + 12

abbrev pub decreases-statements::give_as : goal.decreases-statements::give_as
decreases-statements::give_as l = 4 * weight_of_form (program_of l.walk.now) (mode_of l.walk.now) l.depth (Some l.to) l.at (Return (Some (expr_view l.e.now))) + 10

abbrev pub decreases-statements::give_value : goal.decreases-statements::give_value
decreases-statements::give_value l = 4 * weight_of_form (program_of l.walk.now) (mode_of l.walk.now) l.depth l.gives l.at (Return (Some (expr_view l.e.now))) + 11

abbrev pub decreases-statements::give_back : goal.decreases-statements::give_back
decreases-statements::give_back l = 4 * weight_of_form (program_of l.walk.now) (mode_of l.walk.now) l.depth l.gives l.at (Return (expr_view_if l.e.now)) + 12

-- the values before the index are stored
abbrev pub invariant-declarations::initial_values-loop-index : goal.invariant-declarations::initial_values-loop-index
invariant-declarations::initial_values-loop-index l = InitialsDo (program_of l.walk) (mode_of l.walk) l.depth l.at l.object l.first (exprs_view (take l.index l.es)) l.initial.sym l.sym

-- the rows before the index are stored
abbrev pub invariant-declarations::initial_rows-loop-index : goal.invariant-declarations::initial_rows-loop-index
invariant-declarations::initial_rows-loop-index l = RowsDo (program_of l.walk) (mode_of l.walk) l.depth l.at l.object (rows_view (take l.index l.rows)) l.initial.sym l.sym

-- the names before the index are declared
abbrev pub invariant-declarations::declare_names-loop-name : goal.invariant-declarations::declare_names-loop-name
invariant-declarations::declare_names-loop-name l = NamesDo (program_of l.walk) (mode_of l.walk) l.depth l.at (names_view (take l.name-index l.names)) l.initial.sym l.sym

abbrev pub decreases-control::full : goal.decreases-control::full
decreases-control::full l = 4 * evaluating.weight_of (program_of l.walk.now) (mode_of l.walk.now) l.depth (expr_view l.e.now) + 3

abbrev pub decreases-control::decided : goal.decreases-control::decided
decreases-control::decided l = 4 * weight_of_control (program_of l.walk.now) (mode_of l.walk.now) l.depth l.at (expr_view l.e.now) + 4

abbrev pub decreases-control::test_turn : goal.decreases-control::test_turn
decreases-control::test_turn l = 4 * weight_of_control (program_of l.walk.now) (mode_of l.walk.now) l.depth l.at (expr_view l.e.now) + 5

abbrev pub decreases-control::test_turn_if : goal.decreases-control::test_turn_if
decreases-control::test_turn_if l = 4 * weight_of_test (program_of l.walk.now) (mode_of l.walk.now) l.depth l.at (expr_view_if l.e.now) + 6

abbrev pub decreases-control::step_on : goal.decreases-control::step_on
decreases-control::step_on l = 4 * weight_of_step (program_of l.walk.now) (mode_of l.walk.now) l.depth (expr_view_if l.e.now) + 4

abbrev pub decreases-loops::loop_body : goal.decreases-loops::loop_body
decreases-loops::loop_body l = 4 * weight_of (program_of l.walk.now) (mode_of l.walk.now) l.depth l.gives (stmt_view l.body.now) + 1

abbrev pub decreases-loops::while_turn : goal.decreases-loops::while_turn
decreases-loops::while_turn l = 4 * weight_of_turn (program_of l.walk.now) (mode_of l.walk.now) l.depth l.gives l.at (Some (WhileLoop (expr_view l.test.now) (stmt_view l.body.now))) + 7

abbrev pub decreases-loops::do_turn : goal.decreases-loops::do_turn
decreases-loops::do_turn l = 4 * weight_of_turn (program_of l.walk.now) (mode_of l.walk.now) l.depth l.gives l.at (Some (DoLoop (stmt_view l.body.now) (expr_view l.test.now))) + 7

abbrev pub decreases-loops::for_turn : goal.decreases-loops::for_turn
decreases-loops::for_turn l = 4 * weight_of_turn (program_of l.walk.now) (mode_of l.walk.now) l.depth l.gives l.at (Some (ForLoop (expr_view_if l.test.now) (expr_view_if l.step.now) (stmt_view l.body.now))) + 7

abbrev pub decreases-loops::turn : goal.decreases-loops::turn
decreases-loops::turn l = 4 * weight_of_turn (program_of l.walk.now) (mode_of l.walk.now) l.depth l.gives l.at (loop_of (form_view l.f.now)) + 8

abbrev pub decreases-loops::one_turn : goal.decreases-loops::one_turn
decreases-loops::one_turn l = 4 * weight_of_loop (program_of l.walk.now) (mode_of l.walk.now) l.depth l.gives l.at (loop_of (form_view l.f.now)) + 11

abbrev pub decreases-loops::last_test : goal.decreases-loops::last_test
decreases-loops::last_test l = 4 * weight_of_turns (program_of l.walk.now) (mode_of l.walk.now) l.depth l.gives 0 l.at (loop_of (form_view l.f.now)) + 9

abbrev pub decreases-loops::turns : goal.decreases-loops::turns
decreases-loops::turns l = 4 * weight_of_turns (program_of l.walk.now) (mode_of l.walk.now) l.depth l.gives l.left l.at (loop_of (form_view l.f.now)) + (l.left + 10)

abbrev pub decreases-loops::all_turns : goal.decreases-loops::all_turns
decreases-loops::all_turns l = 4 * weight_of_loop (program_of l.walk.now) (mode_of l.walk.now) l.depth l.gives l.at (loop_of (form_view l.f.now)) + 11

abbrev pub decreases-loops::loop_scope : goal.decreases-loops::loop_scope
decreases-loops::loop_scope l = 4 * weight_of_loop (program_of l.walk.now) (mode_of l.walk.now) l.depth l.gives l.at (loop_of (form_view l.f.now)) + 12

abbrev pub decreases-loops::for_scope : goal.decreases-loops::for_scope
decreases-loops::for_scope l =
    4 * (weight_of_first (program_of l.walk.now) (mode_of l.walk.now) l.depth (first_view l.start.now) + weight_of_loop (program_of l.walk.now) (mode_of l.walk.now) l.depth l.gives l.at (loop_of (form_view l.f.now))) + 13

abbrev pub decreases-loops::one_loop : goal.decreases-loops::one_loop
decreases-loops::one_loop l = 4 * weight_of_form (program_of l.walk.now) (mode_of l.walk.now) l.depth l.gives l.at (form_view l.f.now) + 14

abbrev pub decreases-calls::evals : goal.decreases-calls::evals
decreases-calls::evals l = 4 * weight_of_all (program_of l.walk.now) (mode_of l.walk.now) l.depth (exprs_view l.args.now) + 3

abbrev pub decreases-calls::call_defined : goal.decreases-calls::call_defined
decreases-calls::call_defined l = 4 * expression_weight (program_of l.walk.now) (mode_of l.walk.now) l.depth (Expr l.spot l.ty (Call (Defined l.function) (exprs_view l.args.now) l.close)) + 0

abbrev pub decreases-calls::call_found : goal.decreases-calls::call_found
decreases-calls::call_found l =
    4 * nodes_in (program_of l.walk.now) (mode_of l.walk.now).scale l.depth (set_cost (program_of l.walk.now) (params_of (slice_get (program_of l.walk.now).functions l.function)) l.arguments.now) l.function + 3

abbrev pub decreases-calls::run_function : goal.decreases-calls::run_function
decreases-calls::run_function l =
    4 * function_body (program_of l.walk.now) (nodes (program_of l.walk.now) (mode_of l.walk.now).scale l.depth) l.function.now.result (stmt_view l.function.now.body) + 2

-- the arguments so far have their values
abbrev pub invariant-calls::evals-loop-e : goal.invariant-calls::evals-loop-e
invariant-calls::evals-loop-e l = AllValues (program_of l.walk) (mode_of l.walk) l.depth l.at (exprs_view (take l.e-index l.args)) l.initial.sym l.sym l.arguments.items

abbrev pub decreases-switches::chosen : goal.decreases-switches::chosen
decreases-switches::chosen l = 4 * evaluating.weight_of (program_of l.walk.now) (mode_of l.walk.now) l.depth (expr_view l.test.now) + 4

abbrev pub decreases-switches::one_arm : goal.decreases-switches::one_arm
decreases-switches::one_arm l = 4 * weight_of_block (program_of l.walk.now) (mode_of l.walk.now) l.depth l.gives (stmts_view l.body.now) + 2

abbrev pub decreases-switches::walk_arms : goal.decreases-switches::walk_arms
decreases-switches::walk_arms l = 4 * weight_of_block (program_of l.walk.now) (mode_of l.walk.now) l.depth l.gives (switch_view l.arms.now) + 3

abbrev pub decreases-switches::switch : goal.decreases-switches::switch
decreases-switches::switch l = 4 * weight_of_form (program_of l.walk.now) (mode_of l.walk.now) l.depth l.gives l.at (Switch (expr_view l.test.now) (switch_view l.arms.now)) + 12

-- the arms before the index are done
abbrev pub invariant-switches::walk_arms-loop-index : goal.invariant-switches::walk_arms-loop-index
invariant-switches::walk_arms-loop-index l = ArmsDo (program_of l.walk) (mode_of l.walk) l.depth l.gives (take l.index l.bits) (take l.index l.arms) l.initial.sym l.sym
