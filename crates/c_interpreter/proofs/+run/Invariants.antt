use Rattle.std.proofs.Common.{◌≤◌, ◌+◌, ◌*◌, [], drop, ℕ, ◌<◌}
use Rattle.c_core.specs.View.{program_view, exprs_view, rows_view, stmts_view, switch_view, form_view, names_view}
use Rattle.c_meaning.specs.Objects.{columns_of_object}
use Rattle.run_state.specs.Interpreting.{state_of, where_of, pairs_of, listed, evaluated_all, sequenced, loop_in, rounds, all_rounds, declaring, initialised_by, initialised_rows}
use Rattle.run_state.proofs.Giving.{Behind}
use Rattle.c_interpreter.proofs.+run.Given as goal

-- each part takes its step before it does its own parts
abbrev pub decreases-expressions::eval : goal.decreases-expressions::eval
decreases-expressions::eval g l = 32 * l.machine.now.steps + 0

abbrev pub decreases-expressions::binary : goal.decreases-expressions::binary
decreases-expressions::binary g l = 32 * l.machine.now.steps + 1

abbrev pub decreases-expressions::node : goal.decreases-expressions::node
decreases-expressions::node g l = 32 * l.machine.now.steps + 8

abbrev pub decreases-expressions::target : goal.decreases-expressions::target
decreases-expressions::target g l = 32 * l.machine.now.steps + 0

abbrev pub decreases-expressions::place : goal.decreases-expressions::place
decreases-expressions::place g l = 32 * l.machine.now.steps + 3

abbrev pub decreases-expressions::element_at : goal.decreases-expressions::element_at
decreases-expressions::element_at g l = 32 * l.machine.now.steps + 2

abbrev pub decreases-expressions::evaluate_all : goal.decreases-expressions::evaluate_all
decreases-expressions::evaluate_all g l = 32 * l.machine.now.steps + 1

abbrev pub decreases-expressions::index : goal.decreases-expressions::index
decreases-expressions::index g l = 32 * l.machine.now.steps + 3

abbrev pub decreases-expressions::unary : goal.decreases-expressions::unary
decreases-expressions::unary g l = 32 * l.machine.now.steps + 1

abbrev pub decreases-expressions::cast_to : goal.decreases-expressions::cast_to
decreases-expressions::cast_to g l = 32 * l.machine.now.steps + 1

abbrev pub decreases-expressions::cast : goal.decreases-expressions::cast
decreases-expressions::cast g l = 32 * l.machine.now.steps + 2

abbrev pub decreases-expressions::comma : goal.decreases-expressions::comma
decreases-expressions::comma g l = 32 * l.machine.now.steps + 1

abbrev pub decreases-expressions::tested : goal.decreases-expressions::tested
decreases-expressions::tested g l = 32 * l.machine.now.steps + 1

abbrev pub decreases-expressions::and : goal.decreases-expressions::and
decreases-expressions::and g l = 32 * l.machine.now.steps + 2

abbrev pub decreases-expressions::or : goal.decreases-expressions::or
decreases-expressions::or g l = 32 * l.machine.now.steps + 2

abbrev pub decreases-expressions::assign : goal.decreases-expressions::assign
decreases-expressions::assign g l = 32 * l.machine.now.steps + 2

abbrev pub decreases-expressions::update : goal.decreases-expressions::update
decreases-expressions::update g l = 32 * l.machine.now.steps + 1

abbrev pub decreases-expressions::step : goal.decreases-expressions::step
decreases-expressions::step g l = 32 * l.machine.now.steps + 1

abbrev pub decreases-expressions::converted : goal.decreases-expressions::converted
decreases-expressions::converted g l = 32 * l.machine.now.steps + 1

abbrev pub decreases-expressions::choose : goal.decreases-expressions::choose
decreases-expressions::choose g l = 32 * l.machine.now.steps + 2

abbrev pub decreases-expressions::replace : goal.decreases-expressions::replace
decreases-expressions::replace g l = 32 * l.machine.now.steps + 1

abbrev pub decreases-expressions::logic : goal.decreases-expressions::logic
decreases-expressions::logic g l = 32 * l.machine.now.steps + 3

abbrev pub decreases-expressions::arguments : goal.decreases-expressions::arguments
decreases-expressions::arguments g l = 32 * l.machine.now.steps + 1

abbrev pub decreases-expressions::call : goal.decreases-expressions::call
decreases-expressions::call g l = 32 * l.machine.now.steps + 7

-- what is left does what the whole does
abbrev pub invariant-expressions::arguments-loop-arg : goal.invariant-expressions::arguments-loop-arg
invariant-expressions::arguments-loop-arg g l = record {
  spends : l.machine.steps ≤ l.initial.machine.steps;
  value : Behind (listed (program_view l.program) g.W.Watcher.Seen g.W.Watcher.after l.depth (where_of l.at) (pairs_of l.values) (exprs_view (drop l.arg-index l.args)) (state_of l.machine (g.W.Watcher.seen l.watcher)))
      (listed (program_view l.program) g.W.Watcher.Seen g.W.Watcher.after l.depth (where_of l.at) [] (exprs_view l.args) (state_of l.initial.machine (g.W.Watcher.seen l.initial.watcher)));
}

-- what is left does what the whole does
abbrev pub invariant-expressions::evaluate_all-loop-e : goal.invariant-expressions::evaluate_all-loop-e
invariant-expressions::evaluate_all-loop-e g l = record {
  spends : l.machine.steps ≤ l.initial.machine.steps;
  value : Behind (evaluated_all (program_view l.program) g.W.Watcher.Seen g.W.Watcher.after l.depth (where_of l.at) (exprs_view (drop l.e-index l.es)) (state_of l.machine (g.W.Watcher.seen l.watcher)))
      (evaluated_all (program_view l.program) g.W.Watcher.Seen g.W.Watcher.after l.depth (where_of l.at) (exprs_view l.es) (state_of l.initial.machine (g.W.Watcher.seen l.initial.watcher)));
}

-- a statement takes its step before it does its parts
abbrev pub decreases-statements::exec : goal.decreases-statements::exec
decreases-statements::exec g l = 32 * l.machine.now.steps + 0

abbrev pub decreases-statements::sequence : goal.decreases-statements::sequence
decreases-statements::sequence g l = 32 * l.machine.now.steps + 10

abbrev pub decreases-statements::arm : goal.decreases-statements::arm
decreases-statements::arm g l = 32 * l.machine.now.steps + 10

abbrev pub decreases-statements::otherwise : goal.decreases-statements::otherwise
decreases-statements::otherwise g l = 32 * l.machine.now.steps + 11

abbrev pub decreases-statements::block : goal.decreases-statements::block
decreases-statements::block g l = 32 * l.machine.now.steps + 11

abbrev pub decreases-statements::sequence_arms : goal.decreases-statements::sequence_arms
decreases-statements::sequence_arms g l = 32 * l.machine.now.steps + 11

abbrev pub decreases-statements::scope_arms : goal.decreases-statements::scope_arms
decreases-statements::scope_arms g l = 32 * l.machine.now.steps + 12

abbrev pub decreases-statements::hold_arms : goal.decreases-statements::hold_arms
decreases-statements::hold_arms g l = 32 * l.machine.now.steps + 13

abbrev pub decreases-statements::arms_from : goal.decreases-statements::arms_from
decreases-statements::arms_from g l = 32 * l.machine.now.steps + 14

abbrev pub decreases-statements::switch : goal.decreases-statements::switch
decreases-statements::switch g l = 32 * l.machine.now.steps + 15

abbrev pub decreases-statements::choose : goal.decreases-statements::choose
decreases-statements::choose g l = 32 * l.machine.now.steps + 12

abbrev pub decreases-statements::form : goal.decreases-statements::form
decreases-statements::form g l = 32 * l.machine.now.steps + 21

abbrev pub decreases-statements::loop_body : goal.decreases-statements::loop_body
decreases-statements::loop_body g l = 32 * l.machine.now.steps + 11

abbrev pub decreases-statements::while_turn : goal.decreases-statements::while_turn
decreases-statements::while_turn g l = 32 * l.machine.now.steps + 12

abbrev pub decreases-statements::do_turn : goal.decreases-statements::do_turn
decreases-statements::do_turn g l = 32 * l.machine.now.steps + 12

abbrev pub decreases-statements::for_body : goal.decreases-statements::for_body
decreases-statements::for_body g l = 32 * l.machine.now.steps + 12

abbrev pub decreases-statements::for_turn : goal.decreases-statements::for_turn
decreases-statements::for_turn g l = 32 * l.machine.now.steps + 13

abbrev pub decreases-statements::turn : goal.decreases-statements::turn
decreases-statements::turn g l = 32 * l.machine.now.steps + 14

abbrev pub decreases-statements::turns : goal.decreases-statements::turns
decreases-statements::turns g l = 32 * l.machine.now.steps + 15

abbrev pub decreases-statements::loop_scope : goal.decreases-statements::loop_scope
decreases-statements::loop_scope g l = 32 * l.machine.now.steps + 16

abbrev pub decreases-statements::for_parts : goal.decreases-statements::for_parts
decreases-statements::for_parts g l = 32 * l.machine.now.steps + 17

abbrev pub decreases-statements::for_scope : goal.decreases-statements::for_scope
decreases-statements::for_scope g l = 32 * l.machine.now.steps + 18

-- what is left does what the whole does
abbrev pub invariant-statements::sequence-loop-s : goal.invariant-statements::sequence-loop-s
invariant-statements::sequence-loop-s g l = record {
  spends : l.machine.steps ≤ l.initial.machine.steps;
  value : Behind (sequenced (program_view l.program) g.W.Watcher.Seen g.W.Watcher.after l.depth l.wanted (stmts_view (drop l.s-index l.body)) (state_of l.machine (g.W.Watcher.seen l.watcher)))
      (sequenced (program_view l.program) g.W.Watcher.Seen g.W.Watcher.after l.depth l.wanted (stmts_view l.body) (state_of l.initial.machine (g.W.Watcher.seen l.initial.watcher)));
}

-- what is left does what the whole does
abbrev pub invariant-statements::sequence_arms-loop-arm : goal.invariant-statements::sequence_arms-loop-arm
invariant-statements::sequence_arms-loop-arm g l = record {
  spends : l.machine.steps ≤ l.initial.machine.steps;
  value : Behind (sequenced (program_view l.program) g.W.Watcher.Seen g.W.Watcher.after l.depth l.wanted (switch_view (drop l.arm-index l.arms)) (state_of l.machine (g.W.Watcher.seen l.watcher)))
      (sequenced (program_view l.program) g.W.Watcher.Seen g.W.Watcher.after l.depth l.wanted (switch_view l.arms) (state_of l.initial.machine (g.W.Watcher.seen l.initial.watcher)));
}

abbrev pub decreases-statements::turns-turns : goal.decreases-statements::turns-turns
decreases-statements::turns-turns g l = l.machine.steps

-- some number of turns, more than there are steps left, does what the whole does
abbrev pub invariant-statements::turns-turns : goal.invariant-statements::turns-turns
invariant-statements::turns-turns g l = record {
  spends : l.machine.steps ≤ l.initial.machine.steps;
  value : (k : ℕ) × (l.machine.steps < k)
      × Behind (rounds (program_view l.program) g.W.Watcher.Seen g.W.Watcher.after k l.depth l.wanted l.at (loop_in (form_view l.f)) (state_of l.machine (g.W.Watcher.seen l.watcher)))
      (all_rounds (program_view l.program) g.W.Watcher.Seen g.W.Watcher.after l.depth l.wanted l.at (loop_in (form_view l.f)) (state_of l.initial.machine (g.W.Watcher.seen l.initial.watcher)));
}

-- what is left does what the whole does
abbrev pub invariant-declarations::declare-loop-name : goal.invariant-declarations::declare-loop-name
invariant-declarations::declare-loop-name g l = record {
  spends : l.machine.steps ≤ l.initial.machine.steps;
  value : Behind (declaring (program_view l.program) g.W.Watcher.Seen g.W.Watcher.after l.depth l.at (names_view (drop l.name-index l.names)) (state_of l.machine (g.W.Watcher.seen l.watcher)))
      (declaring (program_view l.program) g.W.Watcher.Seen g.W.Watcher.after l.depth l.at (names_view l.names) (state_of l.initial.machine (g.W.Watcher.seen l.initial.watcher)));
}

-- what is left does what the whole does
abbrev pub invariant-declarations::initial_values-loop-index : goal.invariant-declarations::initial_values-loop-index
invariant-declarations::initial_values-loop-index g l = record {
  spends : l.machine.steps ≤ l.initial.machine.steps;
  value : Behind (initialised_by (program_view l.program) g.W.Watcher.Seen g.W.Watcher.after l.depth l.at l.object (l.first + l.index) (exprs_view (drop l.index l.es)) (state_of l.machine (g.W.Watcher.seen l.watcher)))
      (initialised_by (program_view l.program) g.W.Watcher.Seen g.W.Watcher.after l.depth l.at l.object l.first (exprs_view l.es) (state_of l.initial.machine (g.W.Watcher.seen l.initial.watcher)));
}

-- what is left does what the whole does
abbrev pub invariant-declarations::initial_rows-loop-index : goal.invariant-declarations::initial_rows-loop-index
invariant-declarations::initial_rows-loop-index g l = record {
  spends : l.machine.steps ≤ l.initial.machine.steps;
  value : Behind (initialised_rows (program_view l.program) g.W.Watcher.Seen g.W.Watcher.after l.depth l.at l.object (l.index * columns_of_object (program_view l.program) l.object) (rows_view (drop l.index l.rows)) (state_of l.machine (g.W.Watcher.seen l.watcher)))
      (initialised_rows (program_view l.program) g.W.Watcher.Seen g.W.Watcher.after l.depth l.at l.object 0 (rows_view l.rows) (state_of l.initial.machine (g.W.Watcher.seen l.initial.watcher)));
}

abbrev pub decreases-full_expressions::full : goal.decreases-full_expressions::full
decreases-full_expressions::full g l = 32 * l.machine.now.steps + 1

abbrev pub decreases-full_expressions::decide : goal.decreases-full_expressions::decide
decreases-full_expressions::decide g l = 32 * l.machine.now.steps + 2

abbrev pub decreases-full_expressions::only : goal.decreases-full_expressions::only
decreases-full_expressions::only g l = 32 * l.machine.now.steps + 2

abbrev pub decreases-full_expressions::give : goal.decreases-full_expressions::give
decreases-full_expressions::give g l = 32 * l.machine.now.steps + 2

abbrev pub decreases-full_expressions::for_goes_on : goal.decreases-full_expressions::for_goes_on
decreases-full_expressions::for_goes_on g l = 32 * l.machine.now.steps + 3

abbrev pub decreases-full_expressions::test_turn : goal.decreases-full_expressions::test_turn
decreases-full_expressions::test_turn g l = 32 * l.machine.now.steps + 3

abbrev pub decreases-full_expressions::step_on : goal.decreases-full_expressions::step_on
decreases-full_expressions::step_on g l = 32 * l.machine.now.steps + 3

abbrev pub decreases-declarations::initial_value : goal.decreases-declarations::initial_value
decreases-declarations::initial_value g l = 32 * l.machine.now.steps + 2

abbrev pub decreases-declarations::initial_values : goal.decreases-declarations::initial_values
decreases-declarations::initial_values g l = 32 * l.machine.now.steps + 3

abbrev pub decreases-declarations::initial_rows : goal.decreases-declarations::initial_rows
decreases-declarations::initial_rows g l = 32 * l.machine.now.steps + 4

abbrev pub decreases-declarations::initial : goal.decreases-declarations::initial
decreases-declarations::initial g l = 32 * l.machine.now.steps + 5

abbrev pub decreases-declarations::introduce : goal.decreases-declarations::introduce
decreases-declarations::introduce g l = 32 * l.machine.now.steps + 6

abbrev pub decreases-declarations::declare : goal.decreases-declarations::declare
decreases-declarations::declare g l = 32 * l.machine.now.steps + 7

abbrev pub decreases-declarations::begin : goal.decreases-declarations::begin
decreases-declarations::begin g l = 32 * l.machine.now.steps + 8

abbrev pub decreases-calls::body : goal.decreases-calls::body
decreases-calls::body g l = 32 * l.machine.now.steps + 0

abbrev pub decreases-calls::enter : goal.decreases-calls::enter
decreases-calls::enter g l = 32 * l.machine.now.steps + 2

abbrev pub decreases-calls::run_call : goal.decreases-calls::run_call
decreases-calls::run_call g l = 32 * l.machine.now.steps + 3

abbrev pub decreases-calls::call_found : goal.decreases-calls::call_found
decreases-calls::call_found g l = 32 * l.machine.now.steps + 4

abbrev pub decreases-calls::call_number : goal.decreases-calls::call_number
decreases-calls::call_number g l = 32 * l.machine.now.steps + 5

abbrev pub decreases-calls::body_within : goal.decreases-calls::body_within
decreases-calls::body_within g l = 32 * l.machine.now.steps + 1

abbrev pub decreases-expressions::called : goal.decreases-expressions::called
decreases-expressions::called g l = 32 * l.machine.now.steps + 6
