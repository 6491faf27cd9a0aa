use Rattle.std.proofs.Common.{rules, ◌∙◌, [], suc, length, sym, subst, ap, arith}
use Rattle.std.specs.List.{All}
use Rattle.c_core.specs.View.{program_view}
use Rattle.c_meaning.specs.Duties.{Duties}
use Rattle.c_meaning.specs.Placing.{placed_view}
use Rattle.sym_duties.specs.Promise.{StandsFor}
use Rattle.sym_meaning.specs.Obliging.{obliging}
use Rattle.sym_eval.specs.Whole.{IsLight, IsWhole}
use Rattle.sym_eval.proofs.Wholly.{as_many, light_enough, are_made}
use Rattle.sym_eval.proofs.programs.made.Goals as goal

pub whole-requires-clause-duties : goal.whole-requires-clause-duties
whole-requires-clause-duties c =
    let p = program_view c.args.program.now in
    c.in_ok-count.ensures ∙ c.len.ensures ∙ ap length c.in_ok-list.ensures ∙ ap (λ xs. length (Duties p (placed_view xs))) (sym c.as_slice.ensures)

pub whole-requires-clause-light : goal.whole-requires-clause-light
whole-requires-clause-light c =
    let p = program_view c.args.program.now in
    let I = placed_view c.args.invariants.now in
    let deep = c.in_ok-depth.ensures ∙ c.len-2.ensures ∙ sym (as_many c.args.program.now.functions) in
    subst (λ n. IsLight p (obliging p (placed_view c.as_slice.result.now)) n) (sym deep)
    (subst (λ xs. IsLight p (obliging p (placed_view xs)) (length p.functions)) (sym c.as_slice.ensures) (light_enough p I (c.obligations_cost_their_weight.ensures p I (suc (length p.functions))) c.requires.light))

pub returns : goal.returns
returns c =
    let p = program_view c.args.program.now in
    let I = placed_view c.args.invariants.now in
    let deep = c.in_ok-depth.ensures ∙ c.len-2.ensures ∙ sym (as_many c.args.program.now.functions) in
    let whole = subst (λ n. IsWhole p (obliging p I) n [] c.in_ok-sym.sym) deep (subst (λ xs. IsWhole p (obliging p (placed_view xs)) c.in_ok-depth.depth [] c.in_ok-sym.sym) c.as_slice.ensures c.in_ok-sym.ensures) in
    let stand = subst (All (StandsFor p)) c.as_slice-3.ensures.value c.in_ok-test_sites.ensures in
    are_made p I c.in_ok-sym.sym _ _ _ (λ w. c.havoc_runs_are_judged.ensures p I (suc (length p.functions)) w []) (c.obligations_cost_their_weight.ensures p I (suc (length p.functions))) whole c.requires.light
    (omega (arith, c.in_ok-count.ensures, ap length c.in_ok-list.ensures)) (search rules) (search rules) (search rules) stand
