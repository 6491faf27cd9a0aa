use Rattle.std.proofs.Common.{rules, ◌≡◌, ◌+◌, ◌∷◌, [], Some, length, ap, ◌∙◌, subst, arith}
use Rattle.std.specs.Prelude.{vec_len}
use Rattle.std.specs.Option.{option_map}
use Rattle.std.proofs.lemmas.List.{length-append, length-map}
use Rattle.std.proofs.lemmas.Option.{slice_get-map}
use Rattle.c_core.specs.TreeView.{function_view, functions_view}
use Rattle.c_core.specs.View.{program_view}
use Rattle.sym_weight.specs.Reached.{is_wanted}
use Rattle.sym_weight.specs.Sum.{function_of}
use Rattle.sym_weight.specs.Tally.{IsTallied, placed_of, tallies_of, tally_view, tallies_view, tallying}
use Rattle.sym_weight.proofs.Listing.{all_tallied, tallied_on}
use Rattle.sym_weight.proofs.Viewed.{function_at, functions_counted}
use Rattle.sym_weight.proofs.functions.tallies_of.Goals as goal

pub loop-f-preserved : goal.loop-f-preserved
loop-f-preserved c =
    let p = program_view c.args.weigher.program.now in
    let P = placed_of c.args.weigher in
    let fs = c.args.functions.now in
    let n = c.loop-f.f-index in
    let f = c.f-item.result in
    let w = function_of p tallying P (Some (function_view f)) in
    let long : vec_len c.loop-f.all ≡ length c.loop-f.all.items = search rules in
    let heads : c.is_wanted.result ≡ is_wanted c.args.marks.now n = c.is_wanted.ensures ∙ ap (is_wanted c.args.marks.now) (c.len.ensures ∙ long ∙ c.loop-f.invariant.count) in
    let told : IsTallied (is_wanted c.args.marks.now n) (tally_view c.in_ok-tally.tally) w =
    subst (λ b. IsTallied b (tally_view c.in_ok-tally.tally) w) (c.with_heads-counting.ensures.heads ∙ heads)
    (subst (λ P. IsTallied c.with_heads-counting.result.heads (tally_view c.in_ok-tally.tally) (function_of p tallying P (Some (function_view f)))) c.with_heads-counting.ensures.places
    (subst (λ p. IsTallied c.with_heads-counting.result.heads (tally_view c.in_ok-tally.tally) (function_of p tallying (placed_of c.with_heads-counting.result) (Some (function_view f)))) c.with_heads-counting.ensures.program
    c.in_ok-tally.ensures)) in
    record {
      count = ap length c.in_ok-push.ensures.items ∙ length-append c.loop-f.all.items (c.in_ok-tally.tally ∷ []) ∙ ap (λ k. k + 1) c.loop-f.invariant.count;
      tallied = tallied_on (is_wanted c.args.marks.now) (tallies_of p P (functions_view fs)) c.loop-f.all.items c.push.new.self.items c.in_ok-tally.tally w n
          c.loop-f.invariant.count c.in_ok-push.ensures.items
          (slice_get-map (λ g. function_of p tallying P (Some g)) (functions_view fs) n ∙ ap (option_map (λ g. function_of p tallying P (Some g))) (function_at fs n f c.loop-f-test.true c.f-item.is))
          told c.loop-f.invariant.tallied;
    }

pub returns-clause-tallied : goal.returns-clause-tallied
returns-clause-tallied c =
    let p = program_view c.args.weigher.program.now in
    let P = placed_of c.args.weigher in
    let fs = c.args.functions.now in
    all_tallied (is_wanted c.args.marks.now) (tallies_view c.loop-f.all.items) (tallies_of p P (functions_view fs)) (length fs)
    (length-map c.loop-f.all.items tally_view ∙ c.loop-f.invariant.count ∙ omega arith)
    (length-map (functions_view fs) (λ g. function_of p tallying P (Some g)) ∙ functions_counted fs)
    (λ i l. c.loop-f.invariant.tallied i (omega arith))
