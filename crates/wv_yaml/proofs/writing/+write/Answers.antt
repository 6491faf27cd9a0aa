use Rattle.std.proofs.Common.{rules, arith, ◌≡◌, ◌-◌, ℕ, suc, List, ◌++◌, sym, ap, ◌∙◌, subst, OnOk}
use Rattle.std.specs.List.{AllByRecursion}
use Rattle.std.specs.String.{string_bytes}
use Rattle.wv_yaml.specs.Canon.{Fits, PairFits, InUtf8, PairInUtf8, text_form}
use Rattle.wv_yaml.proofs.WriteSteps.{item_out, list_fits, map_fits, list_out, map_out, list_empty, map_empty, text_out, none_left, some_here}
use Rattle.wv_yaml.proofs.WriteUtf8.{list_utf8, map_utf8, none_of, on_ok, one_more}
use Rattle.wv_yaml.proofs.writing.+write.Goals as goal

pub write_items-loop-item-preserved : goal.write_items-loop-item-preserved
write_items-loop-item-preserved t c =
    record {
      text =
          item_out c.args.column c.loop-item.is_first c.args.items.now c.loop-item.item-index c.item-item.result (string_bytes c.loop-item.out) (string_bytes c.push_lead.new.out) (string_bytes c.push_str.new.self) (string_bytes c.write_value.new.out)
          c.loop-item-test.true c.item-item.is c.in_ok-push_lead.ensures c.in_ok-push_str.ensures.bytes c.in_ok-write_value.ensures.text ∙ c.loop-item.invariant.text;
      utf8 = one_more (λ u. InUtf8 u) c.args.items.now c.loop-item.item-index c.item-item.result c.loop-item-test.true c.item-item.is c.in_ok-write_value.ensures.utf8 c.loop-item.invariant.utf8;
    }

pub write_value-returns-then-len-eq0-clause-text : goal.write_value-returns-then-len-eq0-clause-text
write_value-returns-then-len-eq0-clause-text t c =
    c.in_ok-push_str-in-List.ensures.bytes ∙ ap (λ xs. string_bytes c.args.out.now ++ xs) (sym (list_empty c.args.column c.args.is_bare c.in-List.items c.args.tree.now c.in-List.is (none_left c.in-List.items c.len.result c.len.ensures c.if-len-eq0.true)))

pub write_value-returns-then-len-eq0-2-clause-text : goal.write_value-returns-then-len-eq0-2-clause-text
write_value-returns-then-len-eq0-2-clause-text t c =
    c.in_ok-push_str-in-Map.ensures.bytes ∙ ap (λ xs. string_bytes c.args.out.now ++ xs) (sym (map_empty c.args.column c.args.is_bare c.in-Map.pairs c.args.tree.now c.in-Map.is (none_left c.in-Map.pairs c.len-in-Map.result c.len-in-Map.ensures c.if-len-eq0-2.true)))

pub write_value-write_items-requires : goal.write_value-write_items-requires
write_value-write_items-requires t c =
    let w = list_fits c.in-List.items c.args.depth (subst (λ x. Fits c.args.depth x) c.in-List.is c.requires.fits) in
    let pos : c.args.depth ≡ suc w.0 = w.1 in
    let same : w.0 ≡ c.args.depth - 1 = omega arith in
    (search rules, (subst (λ e. AllByRecursion (λ u. Fits e u) c.as_slice.result.now) same (subst (λ xs. AllByRecursion (λ u. Fits w.0 u) xs) (sym c.as_slice.ensures) w.2), omega arith))

pub write_value-write_pairs-requires : goal.write_value-write_pairs-requires
write_value-write_pairs-requires t c =
    let w = map_fits c.in-Map.pairs c.args.depth (subst (λ x. Fits c.args.depth x) c.in-Map.is c.requires.fits) in
    let pos : c.args.depth ≡ suc w.0 = w.1 in
    let same : w.0 ≡ c.args.depth - 1 = omega arith in
    (search rules, (subst (λ e. AllByRecursion (λ u. PairFits e u) c.as_slice-in-Map.result.now) same (subst (λ xs. AllByRecursion (λ u. PairFits w.0 u) xs) (sym c.as_slice-in-Map.ensures) w.2), omega arith))

pub write_value-returns-in_ok-push_str-in-Text-clause-text : goal.write_value-returns-in_ok-push_str-in-Text-clause-text
write_value-returns-in_ok-push_str-in-Text-clause-text t c =
    text_out c.args.column c.args.is_bare c.in-Text.text c.args.tree.now (string_bytes c.args.out.now) (string_bytes c.push_text.new.out) (string_bytes c.push_str.new.self) c.in-Text.is
    (c.in_ok-push_text-in-Text.ensures.text ∙ ap (λ v. string_bytes c.args.out.now ++ text_form c.args.is_bare v) c.as_str.ensures) c.in_ok-push_str-in-Text.ensures.bytes

pub write_value-returns-else-len-eq0-clause-text : goal.write_value-returns-else-len-eq0-clause-text
write_value-returns-else-len-eq0-clause-text t c =
    let P : List ℕ → Type 0 = λ xs. OnOk c.write_items.result (string_bytes c.write_items.new.out ≡ string_bytes c.args.out.now ++ xs) in
    subst P (list_out c.args.column c.args.is_bare c.in-List.items c.as_slice.result.now c.args.tree.now c.as_slice.ensures c.in-List.is (some_here c.in-List.items c.len.result c.len.ensures c.if-len-eq0.false)) c.write_items.ensures.text

pub write_value-returns-else-len-eq0-2-clause-text : goal.write_value-returns-else-len-eq0-2-clause-text
write_value-returns-else-len-eq0-2-clause-text t c =
    let P : List ℕ → Type 0 = λ xs. OnOk c.write_pairs.result (string_bytes c.write_pairs.new.out ≡ string_bytes c.args.out.now ++ xs) in
    subst P (map_out c.args.column c.args.is_bare c.in-Map.pairs c.as_slice-in-Map.result.now c.args.tree.now c.as_slice-in-Map.ensures c.in-Map.is (some_here c.in-Map.pairs c.len-in-Map.result c.len-in-Map.ensures c.if-len-eq0-2.false)) c.write_pairs.ensures.text

pub write_value-returns-then-len-eq0-clause-utf8 : goal.write_value-returns-then-len-eq0-clause-utf8
write_value-returns-then-len-eq0-clause-utf8 t c =
    list_utf8 c.args.tree.now c.in-List.items c.in-List.is (none_of (λ u. InUtf8 u) c.in-List.items (none_left c.in-List.items c.len.result c.len.ensures c.if-len-eq0.true))

pub write_value-returns-then-len-eq0-2-clause-utf8 : goal.write_value-returns-then-len-eq0-2-clause-utf8
write_value-returns-then-len-eq0-2-clause-utf8 t c =
    map_utf8 c.args.tree.now c.in-Map.pairs c.in-Map.is (none_of (λ p. PairInUtf8 p) c.in-Map.pairs (none_left c.in-Map.pairs c.len-in-Map.result c.len-in-Map.ensures c.if-len-eq0-2.true))

pub write_value-returns-else-len-eq0-clause-utf8 : goal.write_value-returns-else-len-eq0-clause-utf8
write_value-returns-else-len-eq0-clause-utf8 t c =
    on_ok (AllByRecursion (λ u. InUtf8 u) c.as_slice.result.now) (InUtf8 c.args.tree.now) c.write_items.result
    (λ h. list_utf8 c.args.tree.now c.in-List.items c.in-List.is (subst (λ xs. AllByRecursion (λ u. InUtf8 u) xs) c.as_slice.ensures h)) c.write_items.ensures.utf8

pub write_value-returns-else-len-eq0-2-clause-utf8 : goal.write_value-returns-else-len-eq0-2-clause-utf8
write_value-returns-else-len-eq0-2-clause-utf8 t c =
    on_ok (AllByRecursion (λ p. PairInUtf8 p) c.as_slice-in-Map.result.now) (InUtf8 c.args.tree.now) c.write_pairs.result
    (λ h. map_utf8 c.args.tree.now c.in-Map.pairs c.in-Map.is (subst (λ ps. AllByRecursion (λ p. PairInUtf8 p) ps) c.as_slice-in-Map.ensures h)) c.write_pairs.ensures.utf8
