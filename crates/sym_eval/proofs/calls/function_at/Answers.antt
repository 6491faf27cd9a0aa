use Rattle.std.proofs.Common.{sym, arith}
use Rattle.run_state.proofs.Starting.{function_at, no_function_at}
use Rattle.sym_eval.proofs.calls.function_at.Goals as goal

pub returns-in-Some : goal.returns-in-Some
returns-in-Some c = (omega arith, function_at c.args.program.now.functions c.args.function c.in-Some.found.now (sym c.in-Some.ensures.item))

pub returns-in-None : goal.returns-in-None
returns-in-None c = λ _. no_function_at c.args.program.now.functions c.args.function (sym c.in-None.ensures.item)
