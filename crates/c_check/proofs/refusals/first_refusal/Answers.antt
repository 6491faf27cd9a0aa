use Rattle.std.proofs.Common.{arith, length, map, ap, sym, subst, ◌∙◌}
use Rattle.c_core.specs.View.{functions_view}
use Rattle.check_unsequenced.specs.Bodies.{kept_views}
use Rattle.check_unsequenced.specs.Unordered.{ArePlaces}
use Rattle.c_check.specs.Finding.{IsFirstOf, orders_noted}
use Rattle.c_check.proofs.OrderLaws.{first_found}
use Rattle.c_check.proofs.refusals.first_refusal.Goals as goal

pub returns : goal.returns
returns c = λ m items h.
    let w = c.args.walked.now in
    let spots = c.in_ok-spots.spots.items in
    let found : ArePlaces m items c.as_slice.result.now spots = c.in_ok-spots.ensures m items (record {
      objects = c.as_slice.ensures ∙ h.objects;
      few = omega (arith, c.len.ensures, ap length c.as_slice.ensures);
      functions = ap functions_view c.as_slice-2.ensures ∙ h.functions;
      kept = ap (map kept_views) c.as_slice-3.ensures ∙ h.kept;
      outside = ap kept_views c.as_slice-4.ensures ∙ h.outside;
    }) in
    subst (IsFirstOf m items) (sym (c.with_orders.ensures ∙ ap (orders_noted w.best) c.as_slice-5.ensures.value))
    (first_found m items c.as_slice.result.now spots found w.best h.best)
