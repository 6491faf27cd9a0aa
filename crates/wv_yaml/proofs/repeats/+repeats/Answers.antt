use Rattle.std.proofs.Common.{◌≡◌, ◌||◌, [], ap, sym, ◌∙◌, subst, Bool, Some, true, false}
use Rattle.yaml_scalars.specs.Gives.{Gives}
use Rattle.wv_yaml.specs.Repeats.{repeats, repeats_after, values_repeat, items_repeat}
use Rattle.std.proofs.lemmas.Option.{same_Some}
use Rattle.wv_yaml.proofs.RepeatSteps.{text_repeats, list_repeats, map_repeats}
use Rattle.wv_yaml.proofs.repeats.+repeats.Goals as goal

pub does_repeat-returns-in-Text : goal.does_repeat-returns-in-Text
does_repeat-returns-in-Text t c = ap Some (ap repeats c.in-Text.is ∙ text_repeats c.in-Text.field-0)

pub does_repeat-returns-in-List : goal.does_repeat-returns-in-List
does_repeat-returns-in-List t c =
    let P : Bool → Type 0 = λ b. Gives (λ (x : Bool). x) c.do_items_repeat.result (Some b) in
    subst P (ap items_repeat c.as_slice.ensures ∙ sym (ap repeats c.in-List.is ∙ list_repeats c.in-List.items)) c.do_items_repeat.ensures

pub does_repeat-returns-then-branch : goal.does_repeat-returns-then-branch
does_repeat-returns-then-branch t c =
    let keys : repeats_after [] c.as_slice-in-Map.result.now ≡ true = same_Some _ _ c.in_ok-do_keys_repeat-in-Map.ensures ∙ c.if-branch.true in
    ap Some (ap repeats c.in-Map.is ∙ map_repeats c.in-Map.pairs) ∙ ap (λ ps. Some (repeats_after [] ps || values_repeat c.in-Map.pairs)) (sym c.as_slice-in-Map.ensures)
    ∙ ap (λ b. Some (b || values_repeat c.in-Map.pairs)) keys

pub does_repeat-returns-else-branch : goal.does_repeat-returns-else-branch
does_repeat-returns-else-branch t c =
    let P : Bool → Type 0 = λ b. Gives (λ (x : Bool). x) c.do_values_repeat.result (Some b) in
    let keys : repeats_after [] c.in-Map.pairs ≡ false = ap (repeats_after []) (sym c.as_slice-in-Map.ensures) ∙ (same_Some _ _ c.in_ok-do_keys_repeat-in-Map.ensures ∙ c.if-branch.false) in
    subst P (ap values_repeat c.as_slice-in-Map-2.ensures ∙ sym (ap repeats c.in-Map.is ∙ map_repeats c.in-Map.pairs ∙ ap (λ b. b || values_repeat c.in-Map.pairs) keys)) c.do_values_repeat.ensures
