use Rattle.std.proofs.Common.{◌≡◌, ℕ, ◌+◌, sym, ◌∙◌, subst, arith, length, Option, List}
use Rattle.clauses.specs.declared.log.Chain.{Chain}
use Rattle.clauses.specs.Log.{given}
use Rattle.sat_newness.specs.Clauses.{clauses_of}
use Rattle.sat_core.specs.Found.{IsSearched, IsComplete}
use Rattle.sat_core.specs.Learned.{IsLearned}
use Rattle.sat_core.specs.Answers.{IsRefuted}
use Rattle.sat_core.proofs.Models.{model_of}
use Rattle.sat_core.proofs.Logged.{log_refutes, log_spent}
use Rattle.sat_core.proofs.Learns.{first_numbers, solving_first, solving_more}
use Rattle.sat_core.proofs.plain.solve_plainly.Goals as goal

pub loop-init : goal.loop-init
loop-init c = solving_first c.args.cnf.now.variables c.args.cnf.now.clauses c.new-chains.result c.in_ok-trail.trail.values.items c.in_ok-trail.trail.entries.items (first_numbers c.args.cnf.now.variables c.args.cnf.now.clauses c.args.cnf.now.within c.are_clauses.ensures) c.new-chains.ensures c.in_ok-trail.ensures.values c.in_ok-trail.ensures.entries

pub returns-in-None : goal.returns-in-None
returns-in-None c =
    let F = clauses_of c.args.cnf.now.clauses c.loop.chains in
    let values = c.search.new.trail.values.items in
    let t = c.search.new.trail.entries.items in
    let s = c.in_ok-search.ensures in
    let k : IsComplete F (length values) t = subst (λ (o : Option ℕ). IsSearched F (length values) t o) c.in-None.is s.found in
    model_of c.args.cnf.now.clauses (given c.loop.chains) c.args.cnf.now.variables values t s.state k (s.size ∙ c.loop.invariant.sized) c.in_ok-values-in-None.values c.in_ok-values-in-None.ensures

pub returns-then-branch : goal.returns-then-branch
returns-then-branch c =
    let s = c.in_ok-search.ensures in
    let l = c.in_ok-learn-in-Some.ensures.learned in
    let sized : length c.search.new.trail.values.items ≡ c.args.cnf.now.variables + 1 = s.size ∙ c.loop.invariant.sized in
    let learned : IsLearned c.args.cnf.now.clauses (c.args.cnf.now.variables + 1) (clauses_of c.args.cnf.now.clauses c.loop.chains) l.chain = subst (λ (n : ℕ). IsLearned c.args.cnf.now.clauses n (clauses_of c.args.cnf.now.clauses c.loop.chains) l.chain) sized l.learned in
    subst (λ (cs : List Chain). IsRefuted c.args.cnf.now.clauses c.args.budget cs) (sym l.more)
    (log_refutes c.args.cnf.now.clauses (c.args.cnf.now.variables + 1) c.args.budget c.loop.chains l.chain c.loop.invariant.log learned (l.ends c.if-branch.true) (omega (arith, c.loop.invariant.counted, c.loop-test.true)))

pub loop-preserved : goal.loop-preserved
loop-preserved c =
    let s = c.in_ok-search.ensures in
    let l = c.in_ok-learn-in-Some.ensures in
    let sized : length c.search.new.trail.values.items ≡ c.args.cnf.now.variables + 1 = s.size ∙ c.loop.invariant.sized in
    solving_more c.args.cnf.now.clauses c.args.cnf.now.variables c.loop.counter (length c.search.new.trail.values.items) c.loop.chains c.learn.new.chains _ c.learn.new.trail.values.items c.learn.new.trail.entries.items c.loop.trail.values.items c.loop.trail.entries.items c.loop.invariant sized l.learned c.if-branch.false l.state (c.learn.ensures.size ∙ sized)

pub returns : goal.returns
returns c = log_spent c.args.cnf.now.clauses c.args.cnf.now.variables c.args.budget c.loop.chains c.loop.invariant.log (omega (arith, c.loop.invariant.counted, c.loop-test.false, c.loop.auto))
