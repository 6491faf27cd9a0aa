use Rattle.std.proofs.Common.{arith, ◌∙◌, ap, length, length-drop, ◌≡◌, ◌≤◌, ◌+◌, drop, subst, Some, IfSome}
use Rattle.std.specs.String.{string_bytes}
use Rattle.std.proofs.lemmas.List.{drop-drop}
use Rattle.yaml_scalars.proofs.Quotes.{quoted_on}
use Rattle.yaml_scalars.proofs.quoted.push_quoted.Goals as goal

pub loop-left-preserved : goal.loop-left-preserved
loop-left-preserved c =
    let i = c.loop-left.invariant in
    let left = c.loop-left.left in
    let at = c.loop-left.at in
    let more = c.in-Some.more in
    let room : more + 1 ≤ length left = subst (λ o. IfSome o (λ more. more + 1 ≤ length left)) c.in-Some.is c.in_ok-push_step.ensures.within in
    let size : length left ≡ length (drop at c.args.text.now) = ap length i.place in
    record {
      place = c.from_place-left.ensures.value ∙ ap (drop (1 + more)) i.place ∙ drop-drop (1 + more) at c.args.text.now;
      within = omega (arith, room, size, i.within, length-drop at c.args.text.now);
      same = quoted_on c.args.is_double c.args.text.now left at more (string_bytes c.loop-left.out) (string_bytes c.push_step.new.out) i.place (omega (arith, room))
          (c.in_ok-push_step.ensures.value ∙ ap (λ o. Some (o, string_bytes c.push_step.new.out)) c.in-Some.is) ∙ i.same;
    }
