use Rattle.std.proofs.Common.{arith, ap, sym, ◌∙◌, ◌∷◌, ◌+◌, ◌≡◌, suc, drop, drop-cons, add-one}
use Rattle.std.specs.Str.{chars}
use Rattle.yaml_lines.proofs.Texts.{room_first, room_next}
use Rattle.yaml_lines.proofs.characters.is_small.Goals as goal

pub loop-line-init : goal.loop-line-init
loop-line-init c = record {
  some = omega (arith, c.most_characters-room.ensures.small);
  rest = room_first c.args.column (chars c.args.text.now) c.args.lines.now c.most_characters-room.result c.most_characters-room.ensures.few c.most_characters-room.ensures.small;
}

pub loop-line-preserved : goal.loop-line-preserved
loop-line-preserved c =
    let lines = c.args.lines.now in
    let i = c.loop-line.line-index in
    let l = c.line-item.result in
    let here : drop i lines ≡ l ∷ drop (i + 1) lines =
    drop-cons lines i l c.loop-line-test.true ∙ ap (λ x. x ∷ drop (suc i) lines) (sym c.line-item.is) ∙ ap (λ k. l ∷ drop k lines) (sym (add-one i)) in
    record {
      some = omega arith;
      rest = room_next c.args.column l (drop i lines) (drop (i + 1) lines) (chars c.slice.result.now) c.most_characters-most.result c.loop-line.room _ here c.slice.ensures c.most_characters-most.ensures.few (omega arith) c.loop-line.invariant.rest;
    }
