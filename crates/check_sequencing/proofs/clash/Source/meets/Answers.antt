use Rattle.std.proofs.Common.{IfOk, sym, subst}
use Rattle.check_sequencing.specs.Effects.{Meets}
use Rattle.check_sequencing.specs.Deciding.{Tells, bodies_of, objects_of}
use Rattle.check_sequencing.proofs.clash.Source.meets.Goals as goal

pub returns-in-Reads-clause-told : goal.returns-in-Reads-clause-told
returns-in-Reads-clause-told c =
    subst (λ e. IfOk c.has_changed.result (λ b. Tells b (Meets (bodies_of c.args.self.now) (objects_of c.args.self.now) c.args.before.now e))) (sym c.in-Reads.is) c.has_changed.ensures.told

pub returns-in-Changes-clause-told : goal.returns-in-Changes-clause-told
returns-in-Changes-clause-told c =
    subst (λ e. IfOk c.has_touched.result (λ b. Tells b (Meets (bodies_of c.args.self.now) (objects_of c.args.self.now) c.args.before.now e))) (sym c.in-Changes.is) c.has_touched.ensures.told

pub returns-in-Calls-clause-told : goal.returns-in-Calls-clause-told
returns-in-Calls-clause-told c =
    subst (λ e. IfOk c.meets_new_call.result (λ b. Tells b (Meets (bodies_of c.args.self.now) (objects_of c.args.self.now) c.args.before.now e))) (sym c.in-Calls.is) c.meets_new_call.ensures.told
