use Rattle.std.proofs.Common.{◌≡◌, ◌+◌, ◌||◌, ◌∷◌, ◌∙◌, suc, drop, drop-cons, ap, sym, arith, map, length}
use Rattle.c_parser.specs.SourceView.{item_view}
use Rattle.check_rules.specs.Parts.{bodies_of}
use Rattle.check_rules.specs.Codes.{closed_names, is_among}
use Rattle.check_scope.specs.Bodies.{body_in, body_with, first_body, has_name, or_first}
use Rattle.check_scope.proofs.BodyLaws.{first_on, closed_on, count_on}
use Rattle.check_scope.proofs.functions.Functions.of.Goals as goal

pub loop-item-preserved : goal.loop-item-preserved
loop-item-preserved c =
    let items = c.args.items.now in
    let i = c.loop-item.item-index in
    let item = item_view c.item-item.result in
    let rest = map item_view (drop (suc i) items) in
    let d = ap (map item_view) (drop-cons items i c.item-item.result c.loop-item-test.true ∙ ap (λ x. x ∷ drop (suc i) items) (sym c.item-item.is)) in
    let e : i + 1 ≡ suc i = omega arith in
    rw e (record {
      found = λ w. ap (λ o. or_first o (first_body c.add_item.new.count rest w)) (c.in_ok-add_item.ensures.bodies w)
          ∙ ap (λ n. or_first (body_with c.loop-item.count item w (body_in c.loop-item.bodies w)) (first_body n rest w)) c.in_ok-add_item.ensures.count
          ∙ sym (first_on (body_in c.loop-item.bodies w) c.loop-item.count item rest w)
          ∙ ap (λ l. or_first (body_in c.loop-item.bodies w) (first_body c.loop-item.count l w)) (sym d) ∙ c.loop-item.invariant.found w;
      shut = λ w. ap (λ b. b || is_among (closed_names rest) w) (c.in_ok-add_item.ensures.closed w)
          ∙ sym (closed_on (has_name c.loop-item.closed w) item rest w)
          ∙ ap (λ l. has_name c.loop-item.closed w || is_among (closed_names l) w) (sym d) ∙ c.loop-item.invariant.shut w;
      counted = ap (λ n. n + length (bodies_of rest)) c.in_ok-add_item.ensures.count
          ∙ sym (count_on c.loop-item.count item rest) ∙ ap (λ l. c.loop-item.count + length (bodies_of l)) (sym d) ∙ c.loop-item.invariant.counted;
    })
