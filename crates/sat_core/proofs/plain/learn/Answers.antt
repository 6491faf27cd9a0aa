use Rattle.std.proofs.Common.{◌≡◌, ◌+◌, ◌++◌, ◌∷◌, [], sym, ◌∙◌, ap, subst, refl, arith, length, List, Bool, ℤ}
use Rattle.std.proofs.lemmas.Option.{slice_get_within}
use Rattle.clauses.specs.Log.{given}
use Rattle.clauses.specs.declared.log.Chain.{Chain}
use Rattle.clauses.specs.declared.log.Resolve.{Resolve}
use Rattle.sat_newness.specs.Clauses.{clauses_of}
use Rattle.sat_core.specs.Values.{IsState}
use Rattle.sat_core.specs.Derived.{AreFlagged, IsAnalyzed}
use Rattle.sat_newness.proofs.Logs.{clauses_more}
use Rattle.sat_core.proofs.Scans.{clauses_many}
use Rattle.sat_core.proofs.Learns.{is_clause, learned_state, learned_of, has_learned}
use Rattle.sat_core.proofs.plain.learn.Goals as goal

pub last_but_one-requires-clause-positive : goal.last_but_one-requires-clause-positive
last_but_one-requires-clause-positive c = λ y i.
    let seen : c.deref.result.now ≡ c.in_ok-derived.derived.seen.items = c.deref.ensures.value in
    let f : AreFlagged c.in_ok-derived.derived.seen.items c.in_ok-numbers.numbers (length c.in_ok-derived.derived.seen.items) = subst (λ (s : List Bool). AreFlagged s c.in_ok-numbers.numbers (length s)) seen c.in_ok-numbers.ensures in
    let g = f.from y i in
    (g.0, c.in_ok-derived.ensures.small g.0 g.2, g.3)

pub cancel_until-requires-clause-bounded : goal.cancel_until-requires-clause-bounded
cancel_until-requires-clause-bounded c = λ n e i. (c.requires.state.trail.each n e i).within

pub cancel_until-requires-clause-once : goal.cancel_until-requires-clause-once
cancel_until-requires-clause-once c = λ n e i. (c.requires.state.trail.each n e i).first

pub overflow_cast-conflict : goal.overflow_cast-conflict
overflow_cast-conflict c =
    let F = clauses_of c.args.given.now c.args.chains.now in
    omega (arith, slice_get_within F c.args.conflict c.requires.conflict.clause c.requires.conflict.named, clauses_many c.args.given.now c.args.chains.now, c.requires.few, c.requires.few_more)

pub overflow_add-conflict : goal.overflow_add-conflict
overflow_add-conflict c =
    let F = clauses_of c.args.given.now c.args.chains.now in
    omega (arith, slice_get_within F c.args.conflict c.requires.conflict.clause c.requires.conflict.named, clauses_many c.args.given.now c.args.chains.now, c.requires.few, c.requires.few_more)

pub from_numbers-requires : goal.from_numbers-requires
from_numbers-requires c =
    let F = clauses_of c.args.given.now c.args.chains.now in
    let s = c.in_ok-derived.derived.seen.items in
    let seen : c.deref.result.now ≡ s = c.deref.ensures.value in
    let f : AreFlagged s c.in_ok-numbers.numbers (length s) = subst (λ (x : List Bool). AreFlagged x c.in_ok-numbers.numbers (length x)) seen c.in_ok-numbers.ensures in
    is_clause F (length c.args.trail.now.values.items) c.args.trail.now.entries.items c.requires.state.trail c.args.conflict c.in_ok-derived.derived.steps.items s c.in_ok-numbers.numbers (length s) c.in_ok-derived.ensures f

pub returns-clause-state : goal.returns-clause-state
returns-clause-state c =
    let F = clauses_of c.args.given.now c.args.chains.now in
    let s = c.in_ok-derived.derived.seen.items in
    let numbers = c.in_ok-numbers.numbers in
    let seen : c.deref.result.now ≡ s = c.deref.ensures.value in
    let f : AreFlagged s numbers (length s) = subst (λ (x : List Bool). AreFlagged x numbers (length x)) seen c.in_ok-numbers.ensures in
    let chain : Chain = record { start = c.args.conflict + 1; steps = c.from_vec.result; gives = c.from_numbers.result } in
    let gives : c.from_numbers.result ≡ numbers = c.from_numbers.ensures in
    let more : clauses_of c.args.given.now c.push.new.self ≡ F ++ numbers ∷ [] = ap (clauses_of c.args.given.now) c.in_ok-push.ensures.ok ∙ clauses_more c.args.given.now c.args.chains.now chain ∙ ap (λ g. F ++ g ∷ []) gives in
    subst (λ (cs : List (List ℤ)). IsState cs c.cancel_until.new.self.values.items c.cancel_until.new.self.entries.items) (sym more)
    (learned_state F c.args.trail.now.values.items c.cancel_until.new.self.values.items c.args.trail.now.entries.items c.cancel_until.new.self.entries.items c.requires.state c.args.conflict c.in_ok-derived.derived.steps.items s numbers (length s) c.backjump-kept.result c.last_but_one.result
    c.in_ok-derived.ensures f c.backjump-kept.ensures c.last_but_one.ensures c.cancel_until.ensures.entries c.cancel_until.ensures.told c.cancel_until.ensures.size)

pub returns-clause-learned : goal.returns-clause-learned
returns-clause-learned c =
    let F = clauses_of c.args.given.now c.args.chains.now in
    let size = length c.args.trail.now.values.items in
    let t = c.args.trail.now.entries.items in
    let s = c.in_ok-derived.derived.seen.items in
    let numbers = c.in_ok-numbers.numbers in
    let seen : c.deref.result.now ≡ s = c.deref.ensures.value in
    let f : AreFlagged s numbers (length s) = subst (λ (x : List Bool). AreFlagged x numbers (length x)) seen c.in_ok-numbers.ensures in
    let chain : Chain = record { start = c.args.conflict + 1; steps = c.from_vec.result; gives = c.from_numbers.result } in
    let gives : c.from_numbers.result ≡ numbers = c.from_numbers.ensures in
    let steps : c.from_vec.result ≡ c.in_ok-derived.derived.steps.items = c.from_vec.ensures in
    let a : IsAnalyzed F size t c.args.conflict 0 c.from_vec.result s = subst (λ (ss : List Resolve). IsAnalyzed F size t c.args.conflict 0 ss s) (sym steps) c.in_ok-derived.ensures in
    let g : AreFlagged s c.from_numbers.result (length s) = subst (λ (l : List ℤ). AreFlagged s l (length s)) (sym gives) f in
    has_learned c.args.given.now size c.args.chains.now c.push.new.self chain c.len-empty.result c.in_ok-push.ensures.ok (c.len-empty.ensures ∙ ap length (sym gives))
    (learned_of c.args.given.now (given c.args.chains.now) size t c.requires.state.trail chain c.args.conflict s refl a g)
